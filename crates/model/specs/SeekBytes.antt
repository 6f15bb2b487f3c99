-- Paper, "Points, phrases and the order list", the other way round: entries as bytes. Ticket 3: entries as they are given to be written, four numbers
-- each.
use Rattle.std.specs.Prelude.{ℕ, zero, suc, ◌+◌, ◌/◌, List, [], ◌∷◌, ◌++◌, Bool, true, false, length, drop, Ok}
use Rattle.model.specs.Words.{when◌then◌else◌, ◌≤?◌, ◌≡?◌, Placed, placed_from, Checked, ◌>>=◌, walk_of, in_turn, refused}
use Rattle.model.specs.Bytes.{◌!◌}
use Rattle.model.specs.Seek.{Entry, Entry.start, Entry.stop, Entry.phrase, Entry.order, is_letter, tag, letters_in_front, in_order}
use Rattle.model.specs.Track.{point_width}
use Rattle.model.specs.ChunkBytes.{number_bytes}

-- two tag bytes, a colon, data
unfoldable pub data_bytes : ℕ → Entry → List ℕ
data_bytes width (start value) = number_bytes width value
data_bytes width (stop value) = number_bytes width value
data_bytes width (phrase letter from to) = number_bytes 4 from ++ number_bytes 4 to
data_bytes width (order letters) = letters

unfoldable pub entry_bytes : ℕ → Entry → List ℕ
entry_bytes width entry = number_bytes 2 (tag entry) ++ (0x3A ∷ data_bytes width entry)

-- a comma between entries, and none after the last
unfoldable pub further_bytes : ℕ → List Entry → List ℕ
further_bytes width [] = []
further_bytes width (entry ∷ entries) = (0x2C ∷ entry_bytes width entry) ++ further_bytes width entries

unfoldable pub seek_bytes : ℕ → List Entry → List ℕ
seek_bytes width [] = []
seek_bytes width (entry ∷ entries) = entry_bytes width entry ++ further_bytes width entries

-- where the entries stand: each behind the one before and its comma
unfoldable pub entries_placed : ℕ → List Entry → List (Placed Entry)
entries_placed width entries = placed_from (λ entry. length (entry_bytes width entry) + 1) 0 entries

-- An entry is given as four numbers: its kind (0 st, 1 sp, 2 phrase, 3 SL), a letter, two numbers; an SL's letters stand apart. What an entry does not use
-- is not looked at. 12: an unknown kind, a letter outside the set, a point that its width cannot hold.
abbrev pub largest_point : Bool → ℕ
largest_point true = 0xFF
largest_point false = 0xFFFFFFFF

unfoldable pub entry_given : Bool → List ℕ → ℕ → ℕ → ℕ → ℕ → Checked Entry
entry_given phrases letters kind letter from to =
    when kind ≡? 0 then (when from ≤? largest_point phrases then Ok (start from) else refused 12 0) else
    when kind ≡? 1 then (when from ≤? largest_point phrases then Ok (stop from) else refused 12 0) else
    when kind ≡? 2 then (when is_letter letter then Ok (phrase letter from to) else refused 12 0) else
    when kind ≡? 3 then (when letters_in_front letters ≡? length letters then Ok (order letters) else refused 12 0) else
    refused 12 0

unfoldable pub entries_from : Bool → List ℕ → ℕ → List ℕ → Checked (List Entry)
entries_from phrases letters zero numbers = Ok []
entries_from phrases letters (suc count) numbers = do
  entry ← entry_given phrases letters (numbers ! 0) (numbers ! 1) (numbers ! 2) (numbers ! 3)
  entries ← entries_from phrases letters count (drop 4 numbers)
  Ok (entry ∷ entries)

-- Order and repetition as in the reader: 12.
unfoldable pub entries_given : Bool → List ℕ → List ℕ → Checked (List (Placed Entry))
entries_given phrases letters numbers = do
  entries ← entries_from phrases letters (length numbers / 4) numbers
  in_turn in_order [] (walk_of (entries_placed (point_width phrases) entries))

-- The entries that were read, in that form: numbers that an entry does not use are 0, and an SL says how many letters it has.
unfoldable pub entry_numbers : Entry → List ℕ
entry_numbers (start value) = 0 ∷ 0 ∷ value ∷ 0 ∷ []
entry_numbers (stop value) = 1 ∷ 0 ∷ value ∷ 0 ∷ []
entry_numbers (phrase letter from to) = 2 ∷ letter ∷ from ∷ to ∷ []
entry_numbers (order letters) = 3 ∷ 0 ∷ length letters ∷ 0 ∷ []

unfoldable pub entries_numbers : List (Placed Entry) → List ℕ
entries_numbers [] = []
entries_numbers (entry ∷ entries) = entry_numbers entry.what ++ entries_numbers entries
