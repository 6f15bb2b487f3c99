-- Rows stored one after the other: the invariant of `write_rows`' loop, that what is still to be stored makes the whole, and what each turn and the end make of it.
use Prim.Native.Nat.{ℕ, ◌+◌, ◌/◌, ◌<◌, ◌≤◌}
use mathlib.Core.List.{List, [], ◌++◌}
use mathlib.Core.Bool.{Bool}
use mathlib.Core.Path.{◌≡◌, refl, sym, ◌∙◌, ap}
use lib.ListN.{length, length-append}
use lib.Seq.{sets}
use native.Mathlib.Omega.{arith}
use Rattle.model.proofs.Stores.{sets_append}
use Rattle.entries.specs.declared.row.Row.{Row}
use Rattle.entries.specs.Rows.{row_at, rows_in, row_bytes, rows_bytes}
use Rattle.entries.proofs.RowsLeft.{left, left_all, left_next, left_over}

-- the bytes of the rows that are left
abbrev bytes_left : Bool → List ℕ → List ℕ → ℕ → ℕ → List ℕ
bytes_left phrases letters numbers count i = rows_bytes phrases letters (left numbers count i)

pub record Filling (phrases : Bool) (letters numbers : List ℕ) (count start : ℕ) (l out : List ℕ) (at i : ℕ) : Type 0 where
  pub size : at + length (bytes_left phrases letters numbers count i) ≡ start + length (rows_bytes phrases letters (rows_in numbers))
  pub room : at + length (bytes_left phrases letters numbers count i) ≤ length out
  pub same : length out ≡ length l
  pub whole : sets out at (bytes_left phrases letters numbers count i) ≡ sets l start (rows_bytes phrases letters (rows_in numbers))

module _ (phrases : Bool) (letters numbers : List ℕ) (count : ℕ) (counted : count ≡ length numbers / 4) (start : ℕ) (l : List ℕ) where
  pub fill_starts : start + length (rows_bytes phrases letters (rows_in numbers)) ≤ length l → Filling phrases letters numbers count start l l start 0
  fill_starts room =
      let e : bytes_left phrases letters numbers count 0 ≡ rows_bytes phrases letters (rows_in numbers) = ap (rows_bytes phrases letters) (left_all numbers count counted) in
      record {
        size = ap (λ (b : List ℕ). start + length b) e;
        room = rw e room;
        same = refl;
        whole = ap (sets l start) e;
      }

  module _ (out : List ℕ) (at i : ℕ) (r : Filling phrases letters numbers count start l out at i) where
    module _ (past : count ≤ i) where
      none_left : bytes_left phrases letters numbers count i ≡ []
      unfolding rows_bytes
      none_left = ap (rows_bytes phrases letters) (left_over numbers count i past)

      pub filled_size : at ≡ start + length (rows_bytes phrases letters (rows_in numbers))
      filled_size = omega (arith, r.size, ap length none_left)

      pub filled : out ≡ sets l start (rows_bytes phrases letters (rows_in numbers))
      filled = ap (sets out at) (sym none_left) ∙ r.whole

    module _ (row : Row) (here : i < count) (is : row ≡ row_at numbers i) where
      splits : bytes_left phrases letters numbers count i ≡ row_bytes phrases letters row ++ bytes_left phrases letters numbers count (i + 1)
      unfolding rows_bytes
      splits =
          ap (rows_bytes phrases letters) (left_next numbers count i here)
          ∙ ap (λ (a : Row). row_bytes phrases letters a ++ bytes_left phrases letters numbers count (i + 1)) (sym is)

      both : length (bytes_left phrases letters numbers count i) ≡ length (row_bytes phrases letters row) + length (bytes_left phrases letters numbers count (i + 1))
      both = ap length splits ∙ length-append (row_bytes phrases letters row) (bytes_left phrases letters numbers count (i + 1))

      pub fill_room : at + length (row_bytes phrases letters row) ≤ length out
      fill_room = omega (arith, r.room, both)

      pub fill_more : (m : List ℕ) (next : ℕ) → next ≡ at + length (row_bytes phrases letters row) → m ≡ sets out at (row_bytes phrases letters row) → length m ≡ length out
          → Filling phrases letters numbers count start l m next (i + 1)
      fill_more m next n e k =
          let bytes = row_bytes phrases letters row in
          let more = bytes_left phrases letters numbers count (i + 1) in
          let stored : sets m next more ≡ sets out at (bytes_left phrases letters numbers count i) = rw (e, n, splits) (sets_append out at bytes more) in
          record {
            size = omega (arith, r.size, both);
            room = omega (arith, r.room, both);
            same = k ∙ r.same;
            whole = stored ∙ r.whole;
          }

pub ruleset fills = (fill_starts, fill_room, fill_more, filled_size, filled)
