-- The stages of a write: which tracks there are (6, 7), what one comes to, what all of them do, and how many bytes that takes.
use Rattle.std.specs.Prelude.{ℕ, ◌+◌, List, [], ◌++◌, length, take, Ok, Err}
use Rattle.model.specs.Words.{when◌then◌else◌, ◌<?◌, ◌≡?◌, Checked, passed, ◌>>◌, refused}
use Rattle.model.specs.Bytes.{◌!◌, part, MMMD, CNTI, Mtsq}
use Rattle.model.specs.Item.{found}
use Rattle.model.specs.Track.{point_width}
use Rattle.model.specs.Writing.{items_given}
use Rattle.model.specs.SeekBytes.{entries_given}
use Rattle.model.specs.ChunkBytes.{number_bytes, chunk_bytes, with_check_code}
use Rattle.model.specs.Arrangement.{ScoreTrack, seek_chunk, track_bytes, tracks_bytes}
use Rattle.model.specs.Tables.{Given, given_in, once_from, tracks_from}
use Rattle.model.specs.Answer.{within_room}
use Rattle.model.specs.declared.Voice.TheVariants.{Score}
use Rattle.writing.specs.Parts.{limited, list_bytes}
use Rattle.entries.specs.Rows.{entries_in}

-- 6 and 7, and how many tracks there are
unfoldable pub how_many : List Given → Checked ℕ
how_many given = do
  once_from [] 0 given
  when length given ≡? 0 then refused 7 0 else Ok (length given)

-- one track and all tracks, as many bytes as they take
unfoldable pub track_answer : Checked ScoreTrack → Checked ℕ
track_answer (Ok track) = Ok (limited (length (track_bytes track)))
track_answer (Err why) = Err why

unfoldable pub tracks_answer : Checked (List ScoreTrack) → Checked ℕ
tracks_answer (Ok tracks) = Ok (limited (length (tracks_bytes tracks)))
tracks_answer (Err why) = Err why

-- the bytes of tracks that are given, none where one is refused
unfoldable pub track_given_bytes : Checked ScoreTrack → List ℕ
track_given_bytes (Ok track) = track_bytes track
track_given_bytes (Err why) = []

unfoldable pub tracks_given_bytes : Checked (List ScoreTrack) → List ℕ
tracks_given_bytes (Ok tracks) = tracks_bytes tracks
tracks_given_bytes (Err why) = []

-- a track's parts as they are lent: its number and fixed bytes in one stretch
abbrev pub given_of : List ℕ → List ℕ → List ℕ → List ℕ → List ℕ → Given
given_of head entries items letters source =
    record { number = head ! 0; fixed = part head 1 6; entries = entries; items = items; letters = letters; source = source }

-- the seek chunk of a track, and all that it holds, from the parts as they are lent
unfoldable pub seek_of : List ℕ → List ℕ → List ℕ → List ℕ
seek_of head entries letters = seek_chunk (point_width (head ! 2 ≡? 1)) (entries_in (found (entries_given (head ! 2 ≡? 1) letters entries)))

unfoldable pub inside_of : List ℕ → List ℕ → List ℕ → List ℕ → List ℕ → List ℕ
inside_of head entries items letters source = part head 1 6 ++ seek_of head entries letters ++ chunk_bytes Mtsq (list_bytes (items_given Score source items))

-- a file of contents bytes and tracks' bytes, with and without its check code
unfoldable pub bare_bytes : List ℕ → List ℕ → List ℕ
bare_bytes contents tracks = number_bytes 4 MMMD ++ number_bytes 4 (length (chunk_bytes CNTI contents ++ tracks) + 2) ++ (chunk_bytes CNTI contents ++ tracks)

unfoldable pub whole_bytes : List ℕ → List ℕ → List ℕ
whole_bytes contents tracks = with_check_code (bare_bytes contents tracks)

-- what is left of a write where all tracks can be written
unfoldable pub sized_of : List ℕ → List ℕ → ℕ → Checked (List ℕ)
sized_of numbers bytes room = do
  when 16 <? length (given_in numbers bytes) then refused 24 0 else passed
  within_room room (whole_bytes (take 5 bytes) (tracks_given_bytes (tracks_from 0 (given_in numbers bytes))))
