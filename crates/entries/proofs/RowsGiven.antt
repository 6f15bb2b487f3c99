-- The entries that rows give, one after the other, and their form as it is checked row by row.
use Prim.Native.Nat.{ℕ, zero, suc, ◌+◌, ◌/◌}
use mathlib.Core.List.{List, [], ◌∷◌}
use mathlib.Core.Bool.{Bool, true, false}
use mathlib.Core.Path.{◌≡◌, refl, sym, ◌∙◌, ap}
use lib.ListN.{length, drop}
use Rattle.model.specs.Words.{Placed, placed_from, Checked, passed, ◌>>=◌, ◌>>◌, walk_of, in_turn, refused}
use Rattle.std.specs.Prelude.{Ok, Err}
use Rattle.model.specs.Bytes.{◌!◌}
use Rattle.model.specs.Item.{is_fine}
use Rattle.model.specs.Seek.{Entry, in_order}
use Rattle.model.specs.Track.{point_width}
use Rattle.model.specs.SeekBytes.{entry_bytes, entries_placed, entry_given, entries_from, entries_given}
use Rattle.entries.specs.declared.row.Row.{Row}
use Rattle.entries.specs.Rows.{row_at, rows_from, rows_in, row_given}

-- an entry and those behind it
unfoldable pub ahead : Checked Entry → Checked (List Entry) → Checked (List Entry)
ahead one more = do
  entry ← one
  entries ← more
  Ok (entry ∷ entries)

unfoldable pub rows_given : Bool → List ℕ → List Row → Checked (List Entry)
rows_given phrases letters [] = Ok []
rows_given phrases letters (row ∷ rows) = ahead (row_given phrases letters row) (rows_given phrases letters rows)

-- an entry and its comma
abbrev pub size_of : Bool → Entry → ℕ
size_of phrases entry = length (entry_bytes (point_width phrases) entry) + 1

-- whether the entries from a place on stand in order behind those before
unfoldable pub formed : Bool → ℕ → List (Placed Entry) → Checked (List Entry) → Bool
formed phrases place before (Ok entries) = is_fine (in_turn in_order before (walk_of (placed_from (size_of phrases) place entries)))
formed phrases place before (Err why) = false

module _ (phrases : Bool) (letters : List ℕ) where
  pub from_rows : (count : ℕ) (numbers : List ℕ) → entries_from phrases letters count numbers ≡ rows_given phrases letters (rows_from count numbers)
  unfolding entries_from rows_given rows_from row_at ahead
  from_rows zero numbers = refl
  from_rows (suc count) numbers = ap (ahead (entry_given phrases letters (numbers ! 0) (numbers ! 1) (numbers ! 2) (numbers ! 3))) (from_rows count (drop 4 numbers))

  form_of : (entries : Checked (List Entry))
      → is_fine (entries >>= λ all. in_turn in_order [] (walk_of (entries_placed (point_width phrases) all))) ≡ formed phrases 0 [] entries
  unfolding formed entries_placed is_fine ◌>>=◌
  form_of (Ok entries) = refl
  form_of (Err why) = refl

  pub given_formed : (numbers : List ℕ) → formed phrases 0 [] (rows_given phrases letters (rows_in numbers)) ≡ is_fine (entries_given phrases letters numbers)
  unfolding entries_given rows_in
  given_formed numbers =
      ap (formed phrases 0 []) (sym (from_rows (length numbers / 4) numbers)) ∙ sym (form_of (entries_from phrases letters (length numbers / 4) numbers))

module _ (phrases : Bool) (place : ℕ) (before : List (Placed Entry)) where
  pub formed_none : formed phrases place before (Ok []) ≡ true
  unfolding formed placed_from walk_of in_turn is_fine
  formed_none = refl

  pub formed_fault : (number at : ℕ) (more : Checked (List Entry)) → formed phrases place before (ahead (refused number at) more) ≡ false
  unfolding formed ahead ◌>>=◌
  formed_fault number at more = refl

  module _ (entry : Entry) where
    abbrev here : Placed Entry
    here = record { place = place; what = entry }

    pub formed_stops : (number at : ℕ) (more : Checked (List Entry)) → in_order before (record { place = place; what = entry }) ≡ refused number at
        → formed phrases place before (ahead (Ok entry) more) ≡ false
    unfolding formed ahead ◌>>=◌ placed_from walk_of in_turn is_fine ◌>>◌
    formed_stops number at (Ok entries) h = rw h refl
    formed_stops number at (Err why) h = refl

    still : (rest : Checked (List (Placed Entry))) → is_fine (rest >>= λ all. Ok (here ∷ all)) ≡ is_fine rest
    unfolding is_fine ◌>>=◌
    still (Ok all) = refl
    still (Err why) = refl

    pub formed_next : (more : Checked (List Entry)) → in_order before (record { place = place; what = entry }) ≡ passed
        → formed phrases place before (ahead (Ok entry) more) ≡ formed phrases (place + size_of phrases entry) (record { place = place; what = entry } ∷ before) more
    unfolding formed ahead ◌>>=◌ placed_from walk_of in_turn is_fine ◌>>◌
    formed_next (Ok entries) h = rw h (still (in_turn in_order (here ∷ before) (walk_of (placed_from (size_of phrases) (place + size_of phrases entry) entries))))
    formed_next (Err why) h = refl
