-- The order list of a body of good form, which is the body's last entry: its letters end where the body ends, or at the comma there.
use Prim.Native.Nat.{ℕ, ◌+◌, ◌-◌, ◌≤◌}
use mathlib.Core.List.{List}
use mathlib.Core.Bool.{true, false, false≢true}
use mathlib.Core.Path.{◌≡◌, refl, sym, ◌∙◌, ap}
use native.Mathlib.Decide.{dec_lt}
use native.Mathlib.Nat.{add-zero}
use native.Mathlib.Omega.{arith}
use lib.ListN.{length, drop}
use borrow.Author.Tests.{le-ltb, leb-true, ltb-false, eq-eqb, ne_eqb, eqb-true}
use Rattle.model.specs.Words.{◌and◌, ◌<?◌, ◌≤?◌, ◌≡?◌, ◌up_to◌}
use Rattle.model.specs.Bytes.{◌!◌, number}
use Rattle.model.specs.Seek.{is_letter, letters_in_front, data_at, entry_at}
use Rattle.std.specs.Prelude.{Option, Some, None}
use Rattle.std.specs.Option.{IsSome}
use Rattle.model.specs.declared.Read.{Read}
use Rattle.model.specs.declared.SeekEntry.{SeekEntry}
use Rattle.model.specs.declared.SeekEntry.TheVariants.{Order}
use Rattle.model.proofs.Tests.{by_test, if_true, if_false, flag_on, and_left, and_right, not_on, not_off}
use Rattle.seek.specs.Next.{past_comma, next_at, may_end, is_known, KnownAt}
use Rattle.seek.proofs.Letters.{letter_least, letter_most, letter_among, letters_reach}

-- where an entry is known, one is read
pub known_read : (width : ℕ) (s : List ℕ) (at : ℕ) (found : Option (Read SeekEntry)) → found ≡ next_at width s at → KnownAt width s at → IsSome found
unfolding is_known
known_read width s at found is k = go found (ap (is_known (length s)) is ∙ k.known)
  where
    go : (found : Option (Read SeekEntry)) → is_known (length s) found ≡ true → IsSome found
    go (Some read) known = refl
    go None known = known

-- an entry that is known has its tag and colon, and an order list its letters behind them

module _ (width : ℕ) (s : List ℕ) (at : ℕ) (known : is_known (length s) (next_at width s at) ≡ true) where
  known_whole : entry_at width s at ≡ None → ⊥
  unfolding next_at past_comma is_known
  known_whole e = false≢true (ap (λ (read : Option (Read SeekEntry)). is_known (length s) (past_comma s read)) (sym e) ∙ known)

  pub known_room : at + 3 ≤ length s
  unfolding entry_at
  known_room = by_test (length s <? at + 3) (λ h. absurd (known_whole (if_true _ _ _ h))) (λ h. omega (arith, ltb-false (length s) (at + 3) h))

  known_colon : s ! (at + 2) ≡ 0x3A
  unfolding entry_at
  known_colon =
      by_test (s ! (at + 2) ≡? 0x3A) (λ h. eqb-true (s ! (at + 2)) 0x3A h)
      (λ h. absurd (known_whole (if_false _ _ _ (le-ltb (length s) (at + 3) known_room) ∙ if_true _ _ _ (not_on _ h))))

  abbrev letters : ℕ
  letters = letters_in_front (drop (at + 3) s)

  module _ (tagged : (number 2 s at ≡? 0x534C) ≡ true) where
    -- a phrase has another tag
    list_no_phrase : ((s ! at ≡? 0x50) and is_letter (s ! (at + 1))) ≡ false
    list_no_phrase =
        by_test ((s ! at ≡? 0x50) and is_letter (s ! (at + 1)))
        (λ h.
        let first = ap (λ (n : ℕ). s ! n) (add-zero at) ∙ eqb-true (s ! at) 0x50 (and_left _ _ h) in
        let second = letter_most (s ! (at + 1)) (and_right _ _ h) in
        absurd (omega (arith, eqb-true (number 2 s at) 0x534C tagged)))
        (λ h. h)

    list_is : entry_at width s at ≡ Some (Order letters up_to (at + 3 + letters))
    unfolding entry_at data_at
    list_is =
        let tag = eqb-true (number 2 s at) 0x534C tagged in
        if_false _ _ _ (le-ltb (length s) (at + 3) known_room)
        ∙ if_false _ _ _ (not_off _ (eq-eqb (s ! (at + 2)) 0x3A known_colon))
        ∙ if_false _ _ _ list_no_phrase
        ∙ if_false _ _ _ (ne_eqb (number 2 s at) 0x7374 (λ e. omega arith))
        ∙ if_false _ _ _ (ne_eqb (number 2 s at) 0x7370 (λ e. omega arith))
        ∙ if_true _ _ _ tagged

    -- the list ends where the body ends, or at a comma that is the last byte
    list_ends : {X : Type 0} → (at + 3 + letters ≡ length s → next_at width s at ≡ Some (Order letters up_to (length s)) → X)
        → (at + 3 + letters + 1 ≡ length s → s ! (at + 3 + letters) ≡ 0x2C → next_at width s at ≡ Some (Order letters up_to (length s)) → X) → X
    unfolding next_at past_comma is_known may_end
    list_ends at-end at-comma =
        let reach = letters_reach s (at + 3) known_room in
        let is = ap (past_comma s) list_is in
        by_test (length s ≤? at + 3 + letters)
        (λ h.
        let all : at + 3 + letters ≡ length s = omega (arith, leb-true (length s) (at + 3 + letters) h) in
        at-end all (is ∙ if_true _ _ _ h ∙ ap (λ (n : ℕ). Some (Order letters up_to n)) all))
        (λ h.
        by_test (s ! (at + 3 + letters) ≡? 0x2C)
        (λ g.
        let moved = is ∙ if_false _ _ _ h ∙ if_true _ _ _ g in
        let all = eqb-true (at + 3 + letters + 1) (length s) (sym (ap (is_known (length s)) moved) ∙ known) in
        at-comma all (eqb-true (s ! (at + 3 + letters)) 0x2C g) (moved ∙ ap (λ (n : ℕ). Some (Order letters up_to n)) all))
        (λ g. absurd (false≢true (sym (ap (is_known (length s)) (is ∙ if_false _ _ _ h ∙ if_false _ _ _ g)) ∙ known))))

    -- where it ends with the body, the body's last byte is its colon or a letter
    list_no_comma : at + 3 + letters ≡ length s → s ! (length s - 1) ≡ 0x2C → ⊥
    list_no_comma all comma =
        elim (dec_lt 0 letters) [
          | yes some ↦
              let there : at + 3 + (letters - 1) ≡ length s - 1 = omega arith in
              let least = letter_least (s ! (at + 3 + (letters - 1))) (letter_among s (at + 3) (letters - 1) (omega arith)) in
              let same = ap (λ (n : ℕ). s ! n) there in
              omega (arith, same)
          | no none ↦
              let there : at + 2 ≡ length s - 1 = omega arith in
              let same = ap (λ (n : ℕ). s ! n) there in
              omega (arith, same, known_colon)
        ]

    pub list_before_comma : s ! (length s - 1) ≡ 0x2C → at + 3 ≤ length s - 1
    list_before_comma comma = list_ends (λ all is. absurd (list_no_comma all comma)) (λ all g is. omega arith)

    pub list_to_comma : s ! (length s - 1) ≡ 0x2C → Some (Order (length s - 1 - (at + 3)) up_to (length s)) ≡ next_at width s at
    list_to_comma comma =
        list_ends (λ all is. absurd (list_no_comma all comma))
        (λ all g is. let many : length s - 1 - (at + 3) ≡ letters = omega arith in ap (λ (n : ℕ). Some (Order n up_to (length s))) many ∙ sym is)

    pub list_to_end : (s ! (length s - 1) ≡ 0x2C → ⊥) → Some (Order (length s - (at + 3)) up_to (length s)) ≡ next_at width s at
    list_to_end other =
        list_ends (λ all is. let many : length s - (at + 3) ≡ letters = omega arith in ap (λ (n : ℕ). Some (Order n up_to (length s))) many ∙ sym is)
        (λ all g is. let there : at + 3 + letters ≡ length s - 1 = omega arith in absurd (other (ap (λ (n : ℕ). s ! n) (sym there) ∙ g)))

pub ruleset lists = (known_read, list_before_comma, list_to_comma, list_to_end, flag_on)
