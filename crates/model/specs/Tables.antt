-- Ticket 3, a file to be written as it is given: two tables, of numbers and of bytes. The bytes begin with the five contents bytes. Then, track after track, the
-- numbers have four counts, the track's entries (four numbers each) and its items (two numbers each), and the bytes have its number, its six fixed bytes, the
-- letters of its order list and the source of its exclusives. The counts are those of entries, items, letters and source bytes; where one runs past its
-- table's end, it means what is left. A track is there where its four counts and seven bytes are.
use Rattle.std.specs.Prelude.{ℕ, zero, suc, ◌+◌, ◌*◌, List, [], ◌∷◌, map, length, take, drop, Ok}
use Rattle.model.specs.Words.{when◌then◌else◌, ◌and◌, ◌or◌, ◌<?◌, ◌≡?◌, any, Checked, passed, ◌>>=◌, ◌>>◌, told_at, refused}
use Rattle.model.specs.Bytes.{◌!◌, part}
use Rattle.model.specs.Track.{fixed_fits, points_of}
use Rattle.model.specs.Plain.{bytes_of}
use Rattle.model.specs.Content.{handy_phone}
use Rattle.model.specs.Writing.{items_given, items_placed}
use Rattle.model.specs.SeekBytes.{entries_given}
use Rattle.model.specs.Arrangement.{ScoreTrack, Arrangement, has_phrases}
use Rattle.model.specs.declared.Voice.TheVariants.{Score}

-- a track as it is given: numbers for its entries and its items, bytes for the rest
pub record Given : Type 0 where
  pub number : ℕ
  pub fixed : List ℕ
  pub entries : List ℕ
  pub items : List ℕ
  pub letters : List ℕ
  pub source : List ℕ

-- how many numbers and bytes the first track takes
unfoldable pub numbers_taken : List ℕ → ℕ
numbers_taken numbers = 4 + 4 * numbers ! 0 + 2 * numbers ! 1

unfoldable pub bytes_taken : List ℕ → ℕ
bytes_taken numbers = 7 + numbers ! 2 + numbers ! 3

unfoldable pub first_given : List ℕ → List ℕ → Given
first_given numbers bytes =
    record {
      number = bytes ! 0;
      fixed = part bytes 1 6;
      entries = part numbers 4 (4 * numbers ! 0);
      items = part numbers (4 + 4 * numbers ! 0) (2 * numbers ! 1);
      letters = part bytes 7 (numbers ! 2);
      source = part bytes (7 + numbers ! 2) (numbers ! 3);
    }

unfoldable pub given_from : ℕ → List ℕ → List ℕ → List Given
given_from zero numbers bytes = []
given_from (suc turns) numbers bytes =
    when (length numbers <? 4) or (length bytes <? 7) then [] else
    first_given numbers bytes ∷ given_from turns (drop (numbers_taken numbers) numbers) (drop (bytes_taken numbers) bytes)

-- every track takes a number at least
unfoldable pub given_in : List ℕ → List ℕ → List Given
given_in numbers bytes = given_from (length numbers) numbers (drop 5 bytes)

-- 6: a track's number that stood before, at the track
unfoldable pub once_from : List ℕ → ℕ → List Given → Checked (Unit {0})
once_from before index [] = passed
once_from before index (track ∷ tracks) =
    when any (λ earlier. earlier ≡? track.number) before then refused 6 index else
    once_from (track.number ∷ before) (index + 1) tracks

-- 8, for any other format type too
unfoldable pub fixed_given : List ℕ → Checked (Unit {0})
fixed_given fixed = when (fixed ! 0 ≡? 0) and fixed_fits Score fixed 0 then passed else refused 8 0

-- One track: 8; 11 and 21 to 23; 12; then 13 and 14 as in the reader, on the body that the items make.
unfoldable pub track_given : Given → Checked ScoreTrack
track_given given = do
  fixed_given given.fixed
  items ← items_given Score given.source given.items
  let phrases = has_phrases given.fixed
  entries ← entries_given phrases given.letters given.entries
  points_of phrases (items_placed items) (length (bytes_of handy_phone items)) entries
  Ok (record { number = given.number; fixed = given.fixed; entries = map (λ entry. entry.what) entries; items = items })

unfoldable pub tracks_from : ℕ → List Given → Checked (List ScoreTrack)
tracks_from index [] = Ok []
tracks_from index (given ∷ rest) = do
  track ← told_at index (track_given given)
  tracks ← tracks_from (index + 1) rest
  Ok (track ∷ tracks)

-- 6 over all tracks, 7 at 0, then track by track.
unfoldable pub arrangement_of : List ℕ → List ℕ → Checked Arrangement
arrangement_of numbers bytes = do
  once_from [] 0 (given_in numbers bytes)
  when length (given_in numbers bytes) ≡? 0 then refused 7 0 else passed
  tracks ← tracks_from 0 (given_in numbers bytes)
  Ok (record { contents = take 5 bytes; tracks = tracks })
