-- The size of a seek chunk, added up row by row: the invariant of `seek_size`'s loop, and what each turn and the end make of it.
use Prim.Native.Nat.{ℕ, suc, ◌+◌, ◌/◌, ◌<◌, ◌≤◌}
use mathlib.Core.List.{List, [], ◌++◌}
use mathlib.Core.Bool.{Bool, true, false}
use mathlib.Core.Path.{◌≡◌, sym, ◌∙◌, ap}
use lib.ListN.{length, length-append}
use native.Mathlib.Nat.{add-zero}
use native.Mathlib.Omega.{arith}
use borrow.Author.Tests.{ne_eqb}
use Rattle.model.specs.Words.{when◌then◌else◌}
use Rattle.model.specs.ChunkBytes.{number_bytes}
use Rattle.writing.specs.Parts.{limited}
use Rattle.writing.proofs.Limits.{limited_small, limited_most, limited_adds}
use Rattle.entries.specs.declared.row.Row.{Row}
use Rattle.entries.specs.Rows.{row_at, rows_in, data_of, row_bytes, rows_bytes, seek_size}
use Rattle.entries.proofs.RowsLeft.{left, left_all, left_next, left_over}

-- one row
module _ (phrases : Bool) (letters : List ℕ) (row : Row) where
  pub size_phrase : row.kind ≡ 2 → 12 ≡ length (row_bytes phrases letters row)
  unfolding row_bytes data_of number_bytes when◌then◌else◌
  size_phrase k = simp k

  pub size_order : (z : ℕ) → row.kind ≡ 3 → z ≡ 4 + length letters → z ≡ length (row_bytes phrases letters row)
  unfolding row_bytes data_of number_bytes when◌then◌else◌
  size_order z k e = let same : z ≡ suc (suc (suc (suc (length letters)))) = omega arith in simp k same

  module _ (not-phrase : row.kind ≡ 2 → ⊥) (not-order : row.kind ≡ 3 → ⊥) where
    pub size_position : phrases ≡ true → 5 ≡ length (row_bytes phrases letters row)
    unfolding row_bytes data_of number_bytes when◌then◌else◌
    size_position p = rw p (simp ne_eqb)

    pub size_address : phrases ≡ false → 8 ≡ length (row_bytes phrases letters row)
    unfolding row_bytes data_of number_bytes when◌then◌else◌
    size_address p = rw p (simp ne_eqb)

pub ruleset row_sizes = (size_phrase, size_order, size_position, size_address)

-- all of them
pub record Sizing (phrases : Bool) (letters numbers : List ℕ) (count size i : ℕ) : Type 0 where
  pub few : size ≤ 65537
  pub same : limited (size + length (rows_bytes phrases letters (left numbers count i))) ≡ limited (seek_size phrases letters (rows_in numbers))

module _ (phrases : Bool) (letters numbers : List ℕ) (count : ℕ) (counted : count ≡ length numbers / 4) where
  pub size_none : count ≡ 0 → 0 ≡ limited (seek_size phrases letters (rows_in numbers))
  unfolding seek_size
  size_none h =
      let none : [] ≡ rows_in numbers = sym (left_over numbers count 0 (omega arith)) ∙ left_all numbers count counted in
      sym (limited_small 0 (omega arith)) ∙ ap (λ (rows : List Row). limited (seek_size phrases letters rows)) none

  pub size_starts : (count ≡ 0 → ⊥) → Sizing phrases letters numbers count 7 0
  unfolding seek_size
  size_starts h =
      let some = left_next numbers count 0 (omega arith) in
      record {
        few = omega arith;
        same =
            ap (λ (rows : List Row). limited (7 + length (rows_bytes phrases letters rows))) some
            ∙ ap (λ (rows : List Row). limited (seek_size phrases letters rows)) (sym some ∙ left_all numbers count counted);
      }

  module _ (size i : ℕ) (r : Sizing phrases letters numbers count size i) where
    pub size_ends : count ≤ i → size ≡ limited (seek_size phrases letters (rows_in numbers))
    unfolding rows_bytes
    size_ends past =
        let all : limited (size + 0) ≡ size = ap limited (add-zero size) ∙ limited_small size r.few in
        sym all ∙ ap (λ (rows : List Row). limited (size + length (rows_bytes phrases letters rows))) (sym (left_over numbers count i past)) ∙ r.same

    pub size_goes_on : (row : Row) (more next : ℕ) → i < count → row ≡ row_at numbers i → more ≡ length (row_bytes phrases letters row) → next ≡ limited (size + more)
        → Sizing phrases letters numbers count next (i + 1)
    unfolding rows_bytes
    size_goes_on row more next here is sized e =
        let first = row_bytes phrases letters (row_at numbers i) in
        let rest = rows_bytes phrases letters (left numbers count (i + 1)) in
        let m : more ≡ length first = sized ∙ ap (λ (a : Row). length (row_bytes phrases letters a)) is in
        let sum : size + more + length rest ≡ size + length (first ++ rest) = omega (arith, length-append first rest) in
        record {
          few = rw e (limited_most (size + more));
          same =
              ap (λ (n : ℕ). limited (n + length rest)) e
              ∙ limited_adds (size + more) (length rest)
              ∙ ap limited sum
              ∙ ap (λ (rows : List Row). limited (size + length (rows_bytes phrases letters rows))) (sym (left_next numbers count i here))
              ∙ r.same;
        }

pub ruleset sizing = (size_none, size_starts, size_ends, size_goes_on)
