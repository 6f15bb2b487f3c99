-- Ticket 3, a file to be written: what it holds, and its bytes. The file's own layout: the contents chunk of five bytes, then the score tracks, of each the seek
-- chunk, if there are entries, before the sequence chunk.
use Rattle.std.specs.Prelude.{ℕ, ◌+◌, ◌*◌, List, [], ◌∷◌, ◌++◌, Bool}
use Rattle.model.specs.Words.{◌≡?◌}
use Rattle.model.specs.Bytes.{◌!◌, CNTI, MTR, MspI, Mtsq}
use Rattle.model.specs.Item.{Item}
use Rattle.model.specs.Seek.{Entry}
use Rattle.model.specs.Track.{point_width}
use Rattle.model.specs.Plain.{bytes_of}
use Rattle.model.specs.Content.{Content, handy_phone}
use Rattle.model.specs.ChunkBytes.{chunk_bytes, file_with}
use Rattle.model.specs.SeekBytes.{seek_bytes}

-- A score track: its number, its six fixed bytes, its seek entries and its items.
pub record ScoreTrack : Type 0 where
  pub number : ℕ
  pub fixed : List ℕ
  pub entries : List Entry
  pub items : List (Item Content)

-- The five contents bytes, and the tracks.
pub record Arrangement : Type 0 where
  pub contents : List ℕ
  pub tracks : List ScoreTrack

-- the sequence type is the second of the fixed bytes
unfoldable pub has_phrases : List ℕ → Bool
has_phrases fixed = fixed ! 1 ≡? 1

unfoldable pub seek_chunk : ℕ → List Entry → List ℕ
seek_chunk width [] = []
seek_chunk width (entry ∷ entries) = chunk_bytes MspI (seek_bytes width (entry ∷ entries))

unfoldable pub track_bytes : ScoreTrack → List ℕ
track_bytes track =
    chunk_bytes (MTR * 256 + track.number)
    (track.fixed
    ++ seek_chunk (point_width (has_phrases track.fixed)) track.entries
    ++ chunk_bytes Mtsq (bytes_of handy_phone track.items))

unfoldable pub tracks_bytes : List ScoreTrack → List ℕ
tracks_bytes [] = []
tracks_bytes (track ∷ tracks) = track_bytes track ++ tracks_bytes tracks

unfoldable pub file_bytes : Arrangement → List ℕ
file_bytes arrangement = file_with (chunk_bytes CNTI arrangement.contents ++ tracks_bytes arrangement.tracks)
