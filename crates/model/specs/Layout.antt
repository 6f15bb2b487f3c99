-- Ticket 3, what was read can be put in again: what an accepted file holds in the terms of an arrangement, the two tables that say the same, and the files that
-- are in the layout that is written.
use Rattle.std.specs.Prelude.{ℕ, ◌/◌, ◌%◌, List, [], ◌∷◌, ◌++◌, map, Bool, true, false, length}
use Rattle.model.specs.Words.{◌and◌, ◌≡?◌}
use Rattle.model.specs.Bytes.{part, CNTI, MTR, MspI, Mtsq}
use Rattle.model.specs.Chunk.{Chunk, body_place}
use Rattle.model.specs.Track.{Track, fixed_size, point_width}
use Rattle.model.specs.File.{Top, Top.leaf, Top.readable, File}
use Rattle.model.specs.Content.{contents_in}
use Rattle.model.specs.Writing.{items_numbers}
use Rattle.model.specs.SeekBytes.{seek_bytes, entries_numbers}
use Rattle.model.specs.Arrangement.{ScoreTrack, Arrangement}
use Rattle.model.specs.Answer.{letters_of}

-- WHAT A FILE HOLDS

unfoldable pub track_held : List ℕ → Chunk → Track → ScoreTrack
track_held s chunk track =
    record {
      number = chunk.id % 256;
      fixed = part s (body_place chunk) fixed_size;
      entries = map (λ entry. entry.what) track.entries;
      items = contents_in track.body track.items;
    }

unfoldable pub tracks_held : List ℕ → List Top → List ScoreTrack
tracks_held s [] = []
tracks_held s (leaf chunk ∷ tops) = tracks_held s tops
tracks_held s (readable chunk track ∷ tops) = track_held s chunk track ∷ tracks_held s tops

-- the contents chunk is the first, behind the file's own header
unfoldable pub held_in : List ℕ → File → Arrangement
held_in s file = record { contents = part s 16 5; tracks = tracks_held s file.tops }

-- THE TWO TABLES of what a file holds: each track's counts, entries and items as the two operations give them; its number, fixed bytes and letters, and its
-- sequence body as the source of its exclusives.

unfoldable pub numbers_held : List Top → List ℕ
numbers_held [] = []
numbers_held (leaf chunk ∷ tops) = numbers_held tops
numbers_held (readable chunk track ∷ tops) =
    (length track.entries ∷ length track.items ∷ length (letters_of track.entries) ∷ length track.body ∷ [])
    ++ entries_numbers track.entries ++ items_numbers track.items ++ numbers_held tops

unfoldable pub bytes_held : List ℕ → List Top → List ℕ
bytes_held s [] = []
bytes_held s (leaf chunk ∷ tops) = bytes_held s tops
bytes_held s (readable chunk track ∷ tops) =
    (chunk.id % 256 ∷ part s (body_place chunk) fixed_size) ++ letters_of track.entries ++ track.body ++ bytes_held s tops

-- THE LAYOUT: a contents chunk of five bytes, then nothing but score tracks of type 0x00, each with its seek chunk or none and then its sequence chunk; no seek
-- body ends in a comma, so each is as long as its entries and the commas between them.

unfoldable pub parts_laid : Track → List Chunk → Bool
parts_laid track [] = false
parts_laid track (sequence ∷ []) = sequence.id ≡? Mtsq
parts_laid track (seek ∷ sequence ∷ []) =
    (seek.id ≡? MspI) and (sequence.id ≡? Mtsq)
    and (seek.size ≡? length (seek_bytes (point_width track.phrases) (map (λ entry. entry.what) track.entries)))
parts_laid track (one ∷ two ∷ three ∷ more) = false

unfoldable pub tracks_laid : List Top → Bool
tracks_laid [] = true
tracks_laid (leaf chunk ∷ tops) = false
tracks_laid (readable chunk track ∷ tops) = (chunk.id / 256 ≡? MTR) and parts_laid track track.parts and tracks_laid tops

unfoldable pub tops_laid : List Top → Bool
tops_laid [] = false
tops_laid (leaf chunk ∷ tops) = (chunk.id ≡? CNTI) and (chunk.size ≡? 5) and tracks_laid tops
tops_laid (readable chunk track ∷ tops) = false

unfoldable pub is_laid : File → Bool
is_laid file = tops_laid file.tops
