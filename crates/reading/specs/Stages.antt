-- What the functions of this crate speak of beside the definitions of the model: the checks of a file from one of them on, and how many
-- rows what they accept brings.
use Rattle.std.specs.Prelude.{ℕ, ◌+◌, ◌/◌, ◌≤◌, List, [], ◌∷◌, map, length, Option, None, Some, Ok, Err}
use Rattle.model.specs.Words.{when◌then◌else◌, ◌<?◌, ◌≡?◌, sum, Checked, passed, ◌>>=◌, ◌>>◌, refused}
use Rattle.model.specs.Bytes.{number}
use Rattle.model.specs.Chunk.{Chunk}
use Rattle.model.specs.Track.{has_one}
use Rattle.model.specs.File.{File, Top, Top.leaf, Top.readable, Row, opens_with_contents, parts_of, rows_of}
use Rattle.model.specs.declared.Wanted.TheVariants as wanted
use Rattle.model.specs.declared.FoundTrack.{FoundTrack}

-- the frame after its list: 5 and 7
unfoldable pub contents_hold : ℕ → List Chunk → Checked (List Chunk)
contents_hold end chunks = do
  when opens_with_contents chunks then passed else refused 5 8
  when has_one wanted.Track chunks then passed else refused 7 end
  Ok chunks

-- the chunk at a place, whose body has a size
abbrev pub placed : List ℕ → ℕ → ℕ → Chunk
placed s place size = record { id = number 4 s place; place = place; size = size }

-- a chunk of the top level brings its own row and those of its sub-chunks
unfoldable pub top_rows : Top → ℕ
top_rows top = 1 + length (parts_of top)

unfoldable pub tops_rows : List Top → ℕ
tops_rows tops = sum (map top_rows tops)

unfoldable pub top_answer : Checked Top → Checked ℕ
top_answer (Ok top) = Ok (top_rows top)
top_answer (Err why) = Err why

unfoldable pub tops_answer : Checked (List Top) → Checked ℕ
tops_answer (Ok tops) = Ok (tops_rows tops)
tops_answer (Err why) = Err why

-- a chunk of the top level brings no more rows than a file has bytes
abbrev pub Few : Checked ℕ → Type 0
Few (Ok count) = count ≤ 65537
Few (Err why) = Unit

-- and all of them together not so many that a count could not hold them
abbrev pub Countable : Checked ℕ → Type 0
Countable (Ok count) = count ≤ 4295032832
Countable (Err why) = Unit

unfoldable pub file_answer : Checked File → Checked ℕ
file_answer (Ok file) = Ok (length (rows_of file))
file_answer (Err why) = Err why

-- a row's four numbers
abbrev pub row_numbers : ℕ → ℕ → ℕ → ℕ → List ℕ
row_numbers id place size container = id ∷ place ∷ size ∷ container ∷ []

unfoldable pub parts_by : Checked Top → List Chunk
parts_by (Ok top) = parts_of top
parts_by (Err why) = []

unfoldable pub file_rows : Checked File → List Row
file_rows (Ok file) = rows_of file
file_rows (Err why) = []

-- 15, of a file whose rows go into a table of so many numbers
unfoldable pub with_room : ℕ → Checked File → Checked File
with_room room outcome = do
  file ← outcome
  when room / 4 <? length (rows_of file) then refused 15 0 else passed
  Ok file

-- the chunks of the top level of a file that is accepted
unfoldable pub tops_of : Checked File → List Top
tops_of (Ok file) = file.tops
tops_of (Err why) = []

-- the one whose row has a number, where the first has the row number k
unfoldable pub top_at : ℕ → ℕ → List Top → Option Top
top_at wanted k [] = None
top_at wanted k (top ∷ tops) =
    when wanted ≡? k then Some top else
    top_at wanted (k + top_rows top) tops

unfoldable pub found_top : Checked Top → Option Top
found_top (Ok top) = Some top
found_top (Err why) = None

-- the track of a row, which is none where the row names something else
unfoldable pub found_track : Option Top → Option FoundTrack
found_track None = None
found_track (Some (leaf chunk)) = None
found_track (Some (readable chunk one)) = Some (record { voice = one.voice; place = chunk.place; size = chunk.size })
