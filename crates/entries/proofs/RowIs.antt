-- A row and the entry that it gives: by its kind which entry, and with which numbers.
use Prim.Native.Nat.{ℕ, ◌%◌}
use mathlib.Core.List.{List}
use mathlib.Core.Bool.{Bool, true, false}
use mathlib.Core.Path.{◌≡◌, refl, sym, subst}
use lib.ListN.{length}
use native.Mathlib.Omega.{arith}
use borrow.Author.Tests.{eqb-true, ne_eqb}
use Rattle.model.specs.Words.{when◌then◌else◌, ◌≤?◌, ◌≡?◌, Checked, refused}
use Rattle.std.specs.Prelude.{Ok, Err}
use Rattle.model.specs.Seek.{Entry, Entry.start, Entry.stop, Entry.phrase, Entry.order, is_letter, letters_in_front, tag, rank}
use Rattle.model.specs.Item.{is_fine}
use Rattle.model.specs.SeekBytes.{largest_point, entry_given}
use Rattle.model.proofs.Tests.{if_all}
use Rattle.seek.proofs.Letters.{letter_most}
use Rattle.seek.proofs.Ordering.{slot, Known}
use Rattle.entries.specs.declared.row.Row.{Row}
use Rattle.entries.specs.Rows.{row_given, slot_of, tag_of}

abbrev pub RowIs : List ℕ → Row → Entry → Type 0
RowIs letters row (start value) = (row.kind ≡ 0) × (value ≡ row.from)
RowIs letters row (stop value) = (row.kind ≡ 1) × (value ≡ row.from)
RowIs letters row (phrase letter from to) = (row.kind ≡ 2) × (letter ≡ row.letter) × (from ≡ row.from) × (to ≡ row.to) × (is_letter letter ≡ true)
RowIs letters row (order others) = (row.kind ≡ 3) × (others ≡ letters)

-- an entry of the row, or 12
abbrev pub Given : List ℕ → Row → Checked Entry → Type 0
Given letters row (Ok entry) = RowIs letters row entry
Given letters row (Err why) = why.number ≡ 12

pub row_gives : (phrases : Bool) (letters : List ℕ) (row : Row) → Given letters row (row_given phrases letters row)
unfolding entry_given
row_gives phrases letters row =
    let Is = Given letters row in
    if_all Is _ _ _ (λ k. if_all Is _ _ _ (λ h. (eqb-true row.kind 0 k, refl)) (λ h. refl))
    (λ k. if_all Is _ _ _ (λ k. if_all Is _ _ _ (λ h. (eqb-true row.kind 1 k, refl)) (λ h. refl))
    (λ k. if_all Is _ _ _ (λ k. if_all Is _ _ _ (λ h. (eqb-true row.kind 2 k, refl, refl, refl, h)) (λ h. refl))
    (λ k. if_all Is _ _ _ (λ k. if_all Is _ _ _ (λ h. (eqb-true row.kind 3 k, refl)) (λ h. refl)) (λ k. refl))))

pub row_is : (phrases : Bool) (letters : List ℕ) (row : Row) (entry : Entry) → row_given phrases letters row ≡ Ok entry → RowIs letters row entry
row_is phrases letters row entry e = subst (Given letters row) e (row_gives phrases letters row)

module _ (letters : List ℕ) (row : Row) where
  pub row_known : (entry : Entry) → RowIs letters row entry → Known entry
  row_known (start value) is = tt
  row_known (stop value) is = tt
  row_known (phrase letter from to) is = is.4
  row_known (order others) is = tt

  pub row_rank : (entry : Entry) → RowIs letters row entry → rank entry ≡ row.kind
  unfolding rank
  row_rank (start value) is = sym is.0
  row_rank (stop value) is = sym is.0
  row_rank (phrase letter from to) is = sym is.0
  row_rank (order others) is = sym is.0

  pub letter_byte : (letter : ℕ) → is_letter letter ≡ true → letter ≡ row.letter → row.letter % 256 ≡ letter
  letter_byte letter h e = let m = letter_most letter h in omega arith

  pub row_slot : (entry : Entry) → RowIs letters row entry → slot entry ≡ slot_of row
  unfolding slot slot_of when◌then◌else◌
  row_slot (start value) is = rw is.0
  row_slot (stop value) is = rw is.0
  row_slot (phrase letter from to) is = rw (is.0, letter_byte letter is.4 is.1)
  row_slot (order others) is = rw is.0

  pub row_tag : (entry : Entry) → RowIs letters row entry → tag entry ≡ tag_of row
  unfolding tag tag_of when◌then◌else◌
  row_tag (start value) is = rw is.0
  row_tag (stop value) is = rw is.0
  row_tag (phrase letter from to) is = rw (is.0, letter_byte letter is.4 is.1)
  row_tag (order others) is = rw is.0

-- whether a row is an entry, by its kind
module _ (phrases : Bool) (letters : List ℕ) (row : Row) (z : Bool) where
  fine_if : (b : Bool) (entry : Entry) → z ≡ b → z ≡ is_fine (when b then Ok entry else refused 12 0)
  unfolding when◌then◌else◌ is_fine
  fine_if true entry e = e
  fine_if false entry e = e

  pub fits_start : row.kind ≡ 0 → z ≡ (row.from ≤? largest_point phrases) → z ≡ is_fine (row_given phrases letters row)
  unfolding entry_given when◌then◌else◌
  fits_start k e = simp k (fine_if _ _ e)

  pub fits_stop : row.kind ≡ 1 → z ≡ (row.from ≤? largest_point phrases) → z ≡ is_fine (row_given phrases letters row)
  unfolding entry_given when◌then◌else◌
  fits_stop k e = simp k (fine_if _ _ e)

  pub fits_phrase : row.kind ≡ 2 → z ≡ is_letter row.letter → z ≡ is_fine (row_given phrases letters row)
  unfolding entry_given when◌then◌else◌
  fits_phrase k e = simp k (fine_if _ _ e)

  pub fits_order : row.kind ≡ 3 → z ≡ (letters_in_front letters ≡? length letters) → z ≡ is_fine (row_given phrases letters row)
  unfolding entry_given when◌then◌else◌
  fits_order k e = simp k (fine_if _ _ e)

pub fits_none : (phrases : Bool) (letters : List ℕ) (row : Row) → (row.kind ≡ 0 → ⊥) → (row.kind ≡ 1 → ⊥) → (row.kind ≡ 2 → ⊥) → (row.kind ≡ 3 → ⊥)
    → false ≡ is_fine (row_given phrases letters row)
unfolding entry_given when◌then◌else◌ is_fine
fits_none phrases letters row not_start not-stop not-phrase not-order = simp ne_eqb

pub ruleset row_fits = (fits_start, fits_stop, fits_phrase, fits_order, fits_none)
