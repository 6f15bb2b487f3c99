-- A list of items checked and measured before the first store: what each item makes of `CheckedTo`, and the invariant of `check_from`'s loop.
use Prim.Native.Nat.{ℕ, ◌+◌, ◌*◌, ◌/◌, ◌<◌, ◌≤◌}
use mathlib.Core.Bool.{Bool, true, false, false≢true}
use mathlib.Core.List.{List, ◌++◌}
use mathlib.Core.Path.{◌≡◌, refl, sym, ◌∙◌, ap}
use lib.ListN.{length, length-append}
use native.Mathlib.Nat.{add-zero, zero-add, sub-zero}
use native.Mathlib.Omega.{arith}
use borrow.Author.Tests.{ne_eqb}
use Rattle.model.specs.Words.{when◌then◌else◌, ◌≡?◌, Checked, passed, ◌>>=◌, ◌>>◌, told_at, refused}
use Rattle.std.specs.Prelude.{Ok, Err}
use Rattle.model.specs.Bytes.{◌!◌}
use Rattle.model.specs.Duration.{duration_bytes}
use Rattle.model.specs.Item.{Item, Item.timed, Item.end_mark, is_fine}
use Rattle.model.specs.Plain.{item_bytes, bytes_of}
use Rattle.model.specs.Content.{Content, content_bytes, handy_phone}
use Rattle.model.specs.Writing.{item_given, items_from, items_given}
use Rattle.model.specs.declared.Refusal.{Refusal}
use Rattle.model.specs.declared.Voice.{Voice}
use Rattle.model.proofs.Tests.{if_false}
use Rattle.writing.specs.Parts.{checked, limited, given_size, given_bytes, size_answer, onto, CheckedTo}
use Rattle.writing.proofs.Durations.{some_bytes}
use Rattle.writing.proofs.Limits.{limited_small, limited_most, limited_adds}
use Rattle.writing.proofs.GivenItems.{given_length}
use Rattle.writing.proofs.Lengths.{passed_fine}
use Rattle.writing.proofs.Listed.{ahead, from, listed_next, listed_over}

-- BYTES BEFORE WHAT IS LEFT

onto_none : (o : Checked (List (Item Content))) → onto 0 o ≡ size_answer o
unfolding onto size_answer
onto_none (Ok items) = simp zero-add
onto_none (Err why) = refl

onto_limited : (taken : ℕ) (o : Checked (List (Item Content))) → onto (limited taken) o ≡ onto taken o
unfolding onto
onto_limited taken (Ok items) = ap (λ (n : ℕ). Ok n) (limited_adds taken (length (bytes_of handy_phone items)))
onto_limited taken (Err why) = refl

-- an item before what is left: one at fault, and one that is given
onto_faulty : (index taken number place : ℕ) (more : Checked (List (Item Content))) → onto taken (ahead index (refused number place) more) ≡ refused number index
unfolding onto ahead told_at ◌>>=◌
onto_faulty index taken number place more = refl

onto_item : (index taken : ℕ) (item : Item Content) (more : Checked (List (Item Content)))
    → onto taken (ahead index (Ok item) more) ≡ onto (taken + length (item_bytes handy_phone item)) more
unfolding onto ahead told_at ◌>>=◌ bytes_of
onto_item index taken item (Ok items) =
    let bytes = item_bytes handy_phone item in
    let rest = bytes_of handy_phone items in
    let e : taken + length (bytes ++ rest) ≡ taken + length bytes + length rest = omega (arith, length-append bytes rest) in
    ap (λ (n : ℕ). Ok (limited n)) e
onto_item index taken item (Err why) = refl

-- LENGTHS OF ITEMS

item_some : (item : Item Content) → 0 < length (item_bytes handy_phone item)
unfolding item_bytes
item_some (timed duration content) = omega (arith, length-append (duration_bytes duration) (content_bytes content), some_bytes duration)
item_some end_mark = omega arith

given_some : (one : Checked (Item Content)) → is_fine one ≡ true → length (given_bytes one) ≡ 0 → ⊥
unfolding given_bytes is_fine
given_some (Ok item) there none = let some = item_some item in omega arith
given_some (Err why) there none = false≢true there

-- a length over 0 is what the numbers say
pub length_sized : (voice : Voice) (source : List ℕ) (duration word n : ℕ) → n ≡ length (given_bytes (item_given voice source duration word)) → (n ≡ 0 → ⊥)
    → n ≡ given_size duration word
unfolding given_bytes is_fine
length_sized voice source duration word n is some = go (item_given voice source duration word) refl
  where
    go : (one : Checked (Item Content)) → item_given voice source duration word ≡ one → n ≡ given_size duration word
    go (Ok item) e = is ∙ given_length voice source duration word (ap is_fine e)
    go (Err why) e = absurd (some (is ∙ ap (λ (o : Checked (Item Content)). length (given_bytes o)) e))

-- CHECKED SO FAR

is_bytes : Checked ℕ → Bool
is_bytes (Ok size) = true
is_bytes (Err why) = false

fine_bytes : (o : Checked (List (Item Content))) → is_fine o ≡ true → is_bytes (size_answer o) ≡ true
unfolding is_fine size_answer is_bytes
fine_bytes (Ok items) h = refl
fine_bytes (Err why) h = absurd (false≢true h)

module _ (voice : Voice) (source numbers : List ℕ) where
  abbrev total : ℕ
  total = length numbers / 2

  abbrev left : ℕ → Checked (List (Item Content))
  left i = from voice source numbers total i i

  some_given : (total ≡ 0 → ⊥) → items_given voice source numbers ≡ items_from voice source total 0 numbers
  unfolding items_given
  some_given some = if_false (length numbers / 2 ≡? 0) _ _ (ne_eqb _ 0 some)

  pub checked_none : CheckedTo voice source numbers 0 0
  checked_none =
      let start : left 0 ≡ items_from voice source total 0 numbers = ap (λ (n : ℕ). items_from voice source n 0 numbers) (sub-zero total) in
      record { few = omega arith; same = ap (onto 0) start ∙ onto_none (items_from voice source total 0 numbers) }

  module _ (index taken : ℕ) (c : CheckedTo voice source numbers index taken) where
    pub checked_limited : CheckedTo voice source numbers index (limited taken)
    checked_limited = record { few = c.few; same = onto_limited taken (left index) ∙ c.same }

    checked_all : (total ≡ 0 → ⊥) → total ≤ index → Ok (limited taken) ≡ size_answer (items_given voice source numbers)
    unfolding onto bytes_of
    checked_all some past =
        ap (λ (n : ℕ). Ok (limited n)) (sym (add-zero taken)) ∙ ap (onto taken) (sym (listed_over voice source numbers total index past)) ∙ c.same
        ∙ ap size_answer (sym (some_given some))

    module _ (here : index < total) where
      abbrev one : Checked (Item Content)
      one = item_given voice source (numbers ! (2 * index)) (numbers ! (2 * index + 1))

      some_items : total ≡ 0 → ⊥
      some_items e = omega arith

      turned : (o : Checked (Item Content)) → one ≡ o → onto taken (ahead index o (from voice source numbers total index (index + 1))) ≡ size_answer (items_from voice source total 0 numbers)
      turned o e =
          ap (λ (o : Checked (Item Content)). onto taken (ahead index o (from voice source numbers total index (index + 1)))) (sym e)
          ∙ ap (onto taken) (sym (listed_next voice source numbers total index here))
          ∙ c.same

      module _ (n : ℕ) (is : n ≡ length (given_bytes (item_given voice source (numbers ! (2 * index)) (numbers ! (2 * index + 1))))) where
        pub checked_next : (n ≡ 0 → ⊥) → CheckedTo voice source numbers (index + 1) (taken + n)
        unfolding given_bytes
        checked_next some = go one refl
          where
            go : (o : Checked (Item Content)) → one ≡ o → CheckedTo voice source numbers (index + 1) (taken + n)
            go (Err why) e = absurd (some (is ∙ ap (λ (o : Checked (Item Content)). length (given_bytes o)) e))
            go (Ok item) e =
                let sized : n ≡ length (item_bytes handy_phone item) = is ∙ ap (λ (o : Checked (Item Content)). length (given_bytes o)) e in
                record {
                  few = omega arith;
                  same = ap (λ (k : ℕ). onto (taken + k) (left (index + 1))) sized ∙ sym (onto_item index taken item _) ∙ turned (Ok item) e;
                }

      pub checked_faulty : (why : Refusal) → Err why ≡ checked one → refused why.number index ≡ size_answer (items_given voice source numbers)
      unfolding ◌>>◌
      checked_faulty why said = go one refl said
        where
          go : (o : Checked (Item Content)) → one ≡ o → Err why ≡ checked o → refused why.number index ≡ size_answer (items_given voice source numbers)
          go (Ok item) e h = let z : ◌≡◌ {A = ℕ} 0 1 = cc in absurd (omega arith)
          go (Err found) e h =
              let same : why ≡ found = cc in
              ap (λ (w : Refusal). refused w.number index) same ∙ sym (onto_faulty index taken found.number found.place _) ∙ turned (Err found) e
              ∙ ap size_answer (sym (some_given some_items))

      -- where all items are given, each has a length
      pub checked_on : (n : ℕ) → n ≡ length (given_bytes one) → is_fine (items_given voice source numbers) ≡ true → n ≡ 0 → ⊥
      unfolding is_bytes given_bytes ◌>>◌
      checked_on n is all none = go one refl
        where
          go : (o : Checked (Item Content)) → one ≡ o → ⊥
          go (Ok item) e =
              let sized : n ≡ length (item_bytes handy_phone item) = is ∙ ap (λ (o : Checked (Item Content)). length (given_bytes o)) e in
              let some = item_some item in
              omega arith
          go (Err why) e =
              let told : Err why ≡ checked one = sym (ap (λ (o : Checked (Item Content)). checked o) e) in
              false≢true (ap is_bytes (checked_faulty why told) ∙ fine_bytes (items_given voice source numbers) all)

-- THE LOOP

pub record Checking (voice : Voice) (source numbers : List ℕ) (size i : ℕ) : Type 0 where
  pub small : size ≤ 65537
  pub to : CheckedTo voice source numbers i size

pub check_starts : (voice : Voice) (source numbers : List ℕ) (index taken size : ℕ) → CheckedTo voice source numbers index taken → size ≡ limited taken
    → Checking voice source numbers size index
check_starts voice source numbers index taken size c e =
    rw e (record { small = limited_most taken; to = checked_limited voice source numbers index taken c })

module _ (voice : Voice) (source numbers : List ℕ) (count : ℕ) (counted : count ≡ length numbers / 2) where
  pub check_none : count ≡ 0 → refused 11 0 ≡ size_answer (items_given voice source numbers)
  unfolding items_given size_answer when◌then◌else◌
  check_none h = let e : length numbers / 2 ≡ 0 = sym counted ∙ h in simp e

  module _ (some : count ≡ 0 → ⊥) (size i : ℕ) (r : Checking voice source numbers size i) where
    pub check_done : count ≤ i → Ok size ≡ size_answer (items_given voice source numbers)
    check_done h =
        ap (λ (n : ℕ). Ok n) (sym (limited_small size r.small)) ∙ checked_all voice source numbers i size r.to (λ e. some (counted ∙ e)) (omega arith)

    module _ (here : i < count) (said : Checked (Unit {0})) (is : said ≡ checked (item_given voice source (numbers ! (2 * i)) (numbers ! (2 * i + 1)))) where
      pub check_faulty : (why : Refusal) → said ≡ Err why → refused why.number i ≡ size_answer (items_given voice source numbers)
      check_faulty why e = checked_faulty voice source numbers i size r.to (omega arith) why (sym e ∙ is)

      pub check_goes_on : said ≡ passed → (more next : ℕ) → more ≡ given_size (numbers ! (2 * i)) (numbers ! (2 * i + 1)) → next ≡ limited (size + more)
          → Checking voice source numbers next (i + 1)
      check_goes_on e more next sized q =
          let there = passed_fine _ (sym e ∙ is) in
          let long : more ≡ length (given_bytes (item_given voice source (numbers ! (2 * i)) (numbers ! (2 * i + 1)))) = sized ∙ sym (given_length voice source _ _ there) in
          let bytes : more ≡ 0 → ⊥ = λ z. given_some _ there (sym long ∙ z) in
          rw q
          (record {
            small = limited_most (size + more);
            to = checked_limited voice source numbers (i + 1) (size + more) (checked_next voice source numbers i size r.to (omega arith) more long bytes);
          })

pub ruleset checks = (check_starts, check_none, check_done, check_faulty, check_goes_on)
