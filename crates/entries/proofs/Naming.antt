-- The letters that have a phrase: the invariants of `name_letters`' and `letters_named`'s loops, and what each way out of them and each turn makes of them.
use Prim.Native.Nat.{ℕ, ◌+◌, ◌%◌, ◌/◌, ◌<◌, ◌≤◌}
use mathlib.Core.List.{List, ◌∷◌}
use mathlib.Core.Bool.{Bool, true, false}
use mathlib.Core.Path.{◌≡◌, refl, sym, ◌∙◌, ap}
use native.Mathlib.Numerals.{add-one}
use native.Mathlib.Omega.{arith}
use lib.ListN.{length, get_or, drop, length-set, replicate, length-replicate, drop_of_length-le}
use lib.Seq.{drop-cons, get_or-set_same, get_or-set_other}
use borrow.Author.Tests.{eqb-true, eqb-false}
use Rattle.model.specs.Words.{when◌then◌else◌, ◌and◌, ◌or◌, ◌≡?◌}
use Rattle.model.specs.Bytes.{◌!◌}
use Rattle.model.proofs.Tests.{by_test, if_true, if_false, flag_on, flag_off}
use Rattle.seek.proofs.Letters.{or_none}
use Rattle.seek.proofs.Ordering.{none_flagged}
use Rattle.entries.specs.declared.row.Row.{Row}
use Rattle.entries.specs.Rows.{row_at, rows_in}
use Rattle.entries.specs.Rules.{marked, is_named, Named, all_named}
use Rattle.entries.proofs.RowsLeft.{left, left_all, left_next, left_over}

-- FLAGS

abbrev named : List Bool → ℕ → List Row → Bool
named flags letter rows = get_or flags letter false or is_named letter rows

or_true : (a : Bool) → (a or true) ≡ true
unfolding ◌or◌
or_true true = refl
or_true false = refl

marked_long : (flags : List Bool) (row : Row) → length (marked flags row) ≡ length flags
unfolding marked
marked_long flags row =
    by_test (row.kind ≡? 2)
    (λ k. ap length (if_true (row.kind ≡? 2) _ flags k) ∙ length-set flags (row.letter % 256) true)
    (λ k. ap length (if_false (row.kind ≡? 2) _ flags k))

named_turns : (flags : List Bool) (letter : ℕ) (row : Row) (rows : List Row) → letter < length flags → named flags letter (row ∷ rows) ≡ named (marked flags row) letter rows
unfolding is_named marked when◌then◌else◌ ◌and◌ ◌or◌
named_turns flags letter row rows long =
    by_test (row.kind ≡? 2)
    (λ k. by_test (row.letter % 256 ≡? letter)
    (λ h.
    let e = eqb-true (row.letter % 256) letter h in
    rw (k, h, e, get_or-set_same flags letter true false long) (or_true (get_or flags letter false)))
    (λ h.
    let e : letter ≡ row.letter % 256 → ⊥ = λ q. eqb-false (row.letter % 256) letter h (sym q) in
    rw (k, h, get_or-set_other flags (row.letter % 256) letter true false e) refl))
    (λ k. rw k refl)

pub record Marking (numbers : List ℕ) (count : ℕ) (flags : List Bool) (i : ℕ) : Type 0 where
  pub long : length flags ≡ 256
  pub same : (letter : ℕ) → letter < 256 → (get_or flags letter false or is_named letter (left numbers count i)) ≡ is_named letter (rows_in numbers)

module _ (numbers : List ℕ) (count : ℕ) where
  pub marking_starts : count ≡ length numbers / 4 → Marking numbers count (replicate 256 false) 0
  unfolding ◌or◌
  marking_starts counted =
      record {
        long = length-replicate 256 false;
        same = λ letter h. rw (none_flagged 256 letter) (ap (is_named letter) (left_all numbers count counted));
      }

  module _ (flags : List Bool) (i : ℕ) (r : Marking numbers count flags i) where
    pub marking_ends : count ≤ i → Named (rows_in numbers) flags
    unfolding is_named
    marking_ends past =
        record {
          flagged = λ letter h.
              or_none (get_or flags letter false) (get_or flags letter false) refl
              ∙ ap (λ (rows : List Row). named flags letter rows) (sym (left_over numbers count i past))
              ∙ r.same letter h;
        }

    pub marking_turns : (row : Row) (more : List Bool) → i < count → row ≡ row_at numbers i → more ≡ marked flags row → Marking numbers count more (i + 1)
    marking_turns row more here is e =
        record {
          long = ap length e ∙ marked_long flags row ∙ r.long;
          same = λ letter h.
              ap (λ (x : List Bool). named x letter (left numbers count (i + 1))) e
              ∙ sym (named_turns flags letter row (left numbers count (i + 1)) (omega (arith, r.long)))
              ∙ ap (λ (a : Row). named flags letter (a ∷ left numbers count (i + 1))) is
              ∙ ap (λ (rows : List Row). named flags letter rows) (sym (left_next numbers count i here))
              ∙ r.same letter h;
        }

pub ruleset marking = (marking_starts, marking_ends, marking_turns)

-- LETTERS

pub record Lettering (rows : List Row) (letters : List ℕ) (i : ℕ) : Type 0 where
  pub same : all_named rows (drop i letters) ≡ all_named rows letters

module _ (rows : List Row) (letters : List ℕ) where
  pub lettering_starts : Lettering rows letters 0
  lettering_starts = record { same = refl }

  module _ (i : ℕ) (r : Lettering rows letters i) where
    pub lettering_ends : length letters ≤ i → true ≡ all_named rows letters
    unfolding all_named
    lettering_ends past = ap (all_named rows) (sym (drop_of_length-le letters past)) ∙ r.same

    module _ (flags : List Bool) (here : i < length letters) (small : letters ! i < 256) (n : Named rows flags) where
      splits : (get_or flags (letters ! i) false and all_named rows (drop (i + 1) letters)) ≡ all_named rows letters
      unfolding all_named
      splits =
          ap (λ (b : Bool). b and all_named rows (drop (i + 1) letters)) (n.flagged (letters ! i) small)
          ∙ ap (λ (k : ℕ). is_named (letters ! i) rows and all_named rows (drop k letters)) (add-one i)
          ∙ ap (all_named rows) (sym (drop-cons letters i 0 here))
          ∙ r.same

      pub lettering_misses : get_or flags (letters ! i) false ≡ false → false ≡ all_named rows letters
      unfolding ◌and◌
      lettering_misses h = rw h at splits

      pub lettering_turns : get_or flags (letters ! i) false ≡ true → Lettering rows letters (i + 1)
      unfolding ◌and◌
      lettering_turns h = record { same = rw h at splits }

pub ruleset lettering = (lettering_starts, lettering_ends, lettering_misses, lettering_turns, flag_on, flag_off)
