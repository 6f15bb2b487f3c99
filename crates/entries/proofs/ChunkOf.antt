-- The bytes of rows are those of the entries that they give, and so is the size of their chunk.
use Prim.Native.Nat.{ℕ}
use mathlib.Core.List.{List, [], ◌∷◌, ◌++◌}
use mathlib.Core.Bool.{Bool, true}
use mathlib.Core.Path.{◌≡◌, refl, ◌∙◌, ap, ap₂}
use lib.ListN.{length}
use native.Mathlib.Omega.{arith}
use Rattle.model.specs.Words.{when◌then◌else◌}
use Rattle.model.specs.Item.{is_fine, found}
use Rattle.model.specs.Seek.{Entry, Entry.start, Entry.stop, Entry.phrase, Entry.order}
use Rattle.model.specs.Track.{point_width}
use Rattle.model.specs.ChunkBytes.{number_bytes, chunk_bytes}
use Rattle.model.specs.SeekBytes.{data_bytes, entry_bytes, further_bytes, seek_bytes, entries_given}
use Rattle.model.specs.Arrangement.{seek_chunk}
use Rattle.entries.specs.declared.row.Row.{Row}
use Rattle.entries.specs.Rows.{rows_in, data_of, row_bytes, rows_bytes, seek_size, entries_in}
use Rattle.entries.proofs.RowIs.{RowIs, row_tag}
use Rattle.entries.proofs.GivenEntries.{RowsAre, given_entries}

module _ (phrases : Bool) (letters : List ℕ) where
  row_data : (row : Row) (entry : Entry) → RowIs letters row entry → data_of phrases letters row ≡ data_bytes (point_width phrases) entry
  unfolding data_of data_bytes when◌then◌else◌
  row_data row (start value) is = rw (is.0, is.1)
  row_data row (stop value) is = rw (is.0, is.1)
  row_data row (phrase letter from to) is = rw (is.0, is.2, is.3)
  row_data row (order others) is = rw (is.0, is.1)

  row_bytes_lem : (row : Row) (entry : Entry) → RowIs letters row entry → row_bytes phrases letters row ≡ 0x2C ∷ entry_bytes (point_width phrases) entry
  unfolding row_bytes entry_bytes number_bytes
  row_bytes_lem row entry is = rw (← row_tag letters row entry is, row_data row entry is)

  pub rows_bytes_lem : (rows : List Row) (entries : List Entry) → RowsAre letters rows entries → rows_bytes phrases letters rows ≡ further_bytes (point_width phrases) entries
  unfolding rows_bytes further_bytes
  rows_bytes_lem [] [] are = refl
  rows_bytes_lem [] (entry ∷ entries) are = absurd are
  rows_bytes_lem (row ∷ rows) [] are = absurd are
  rows_bytes_lem (row ∷ rows) (entry ∷ entries) are = ap₂ ◌++◌ (row_bytes_lem row entry are.0) (rows_bytes_lem rows entries are.1)

  pub chunk_size : (rows : List Row) (entries : List Entry) → RowsAre letters rows entries
      → length (seek_chunk (point_width phrases) entries) ≡ seek_size phrases letters rows
  unfolding seek_chunk seek_size chunk_bytes seek_bytes further_bytes number_bytes
  chunk_size [] [] are = refl
  chunk_size [] (entry ∷ entries) are = absurd are
  chunk_size (row ∷ rows) [] are = absurd are
  chunk_size (row ∷ rows) (entry ∷ entries) are = omega (arith, ap length (rows_bytes_lem (row ∷ rows) (entry ∷ entries) are))

  module _ (numbers : List ℕ) where
    pub given_chunk_size : is_fine (entries_given phrases letters numbers) ≡ true
        → length (seek_chunk (point_width phrases) (entries_in (found (entries_given phrases letters numbers)))) ≡ seek_size phrases letters (rows_in numbers)
    given_chunk_size h =
        let g = given_entries phrases letters numbers h in
        ap (λ (entries : List Entry). length (seek_chunk (point_width phrases) entries)) g.only ∙ chunk_size (rows_in numbers) g.entries g.are
