-- Rows of four numbers, as seek entries are given, and the bytes that a row makes.
use Rattle.std.specs.Prelude.{ℕ, zero, suc, ◌+◌, ◌*◌, ◌/◌, ◌%◌, List, [], ◌∷◌, ◌++◌, map, Bool, length, drop}
use Rattle.model.specs.Words.{when◌then◌else◌, ◌≡?◌, Placed, Checked}
use Rattle.model.specs.Bytes.{◌!◌}
use Rattle.model.specs.Seek.{Entry}
use Rattle.model.specs.Track.{point_width}
use Rattle.model.specs.ChunkBytes.{number_bytes}
use Rattle.model.specs.SeekBytes.{entry_given}
use Rattle.entries.specs.declared.row.Row.{Row}

unfoldable pub row_at : List ℕ → ℕ → Row
row_at numbers i =
    record {
      kind = numbers ! (4 * i);
      letter = numbers ! (4 * i + 1);
      from = numbers ! (4 * i + 2);
      to = numbers ! (4 * i + 3);
    }

unfoldable pub rows_from : ℕ → List ℕ → List Row
rows_from zero numbers = []
rows_from (suc count) numbers = row_at numbers 0 ∷ rows_from count (drop 4 numbers)

unfoldable pub rows_in : List ℕ → List Row
rows_in numbers = rows_from (length numbers / 4) numbers

abbrev pub row_given : Bool → List ℕ → Row → Checked Entry
row_given phrases letters row = entry_given phrases letters row.kind row.letter row.from row.to

-- a number of its own for each tag: a phrase's is its letter, which is none of the others' numbers
unfoldable pub slot_of : Row → ℕ
slot_of row = when row.kind ≡? 2 then row.letter % 256 else when row.kind ≡? 3 then 2 else row.kind % 2

unfoldable pub tag_of : Row → ℕ
tag_of row =
    when row.kind ≡? 0 then 0x7374 else
    when row.kind ≡? 1 then 0x7370 else
    when row.kind ≡? 2 then 0x5000 + row.letter % 256 else
    0x534C

-- the bytes of a row that is an entry, with a comma in front
unfoldable pub data_of : Bool → List ℕ → Row → List ℕ
data_of phrases letters row =
    when row.kind ≡? 2 then number_bytes 4 row.from ++ number_bytes 4 row.to else
    when row.kind ≡? 3 then letters else
    number_bytes (point_width phrases) row.from

unfoldable pub row_bytes : Bool → List ℕ → Row → List ℕ
row_bytes phrases letters row = (0x2C ∷ number_bytes 2 (tag_of row) ++ (0x3A ∷ [])) ++ data_of phrases letters row

unfoldable pub rows_bytes : Bool → List ℕ → List Row → List ℕ
rows_bytes phrases letters [] = []
rows_bytes phrases letters (row ∷ rows) = row_bytes phrases letters row ++ rows_bytes phrases letters rows

-- how many bytes the chunk takes: a header of eight, which stands for the first comma too
unfoldable pub seek_size : Bool → List ℕ → List Row → ℕ
seek_size phrases letters [] = 0
seek_size phrases letters (row ∷ rows) = 7 + length (rows_bytes phrases letters (row ∷ rows))

-- the entries that stand one behind the other
abbrev pub entries_in : List (Placed Entry) → List Entry
entries_in placed = map (λ entry. entry.what) placed
