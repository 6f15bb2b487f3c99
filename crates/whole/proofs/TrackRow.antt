-- A score track to be written, by its parts: six fixed bytes, the body of its seek chunk, if there is one, and its sequence body.
use Prim.Native.Nat.{ℕ, ◌+◌}
use mathlib.Core.Bool.{Bool}
use mathlib.Core.List.{List, [], ◌∷◌, ◌++◌, append-nil}
use Rattle.std.specs.Prelude.{Option, None, Some, Ok}
use mathlib.Core.Path.{◌≡◌, ap}
use Rattle.model.specs.Words.{Placed}
use Rattle.model.specs.Bytes.{◌!◌, MspI, Mtsq}
use Rattle.model.specs.Item.{Item}
use Rattle.model.specs.Seek.{Entry}
use Rattle.model.specs.Track.{Track, fixed_size, place_of_d, place_of_g, seek_in}
use Rattle.model.specs.ChunkBytes.{chunk_bytes}
use Rattle.model.specs.Arrangement.{has_phrases}
use Rattle.model.specs.declared.Event.{Event}
use Rattle.model.specs.declared.Voice.TheVariants.{Score}
use Rattle.whole.proofs.ChunkRow.{Bodied, bodied, row_bytes, chunks_from}

-- the bytes of the seek chunk
unfoldable pub seek_part : Option (List ℕ) → List ℕ
seek_part None = []
seek_part (Some seek) = chunk_bytes MspI seek

-- the sub-chunks in their order
unfoldable pub track_row : Option (List ℕ) → List ℕ → List Bodied
track_row None body = bodied Mtsq body ∷ []
track_row (Some seek) body = bodied MspI seek ∷ bodied Mtsq body ∷ []

pub track_row_bytes : (seek : Option (List ℕ)) (body : List ℕ) → row_bytes (track_row seek body) ≡ seek_part seek ++ chunk_bytes Mtsq body
unfolding row_bytes track_row seek_part
track_row_bytes None body = append-nil (chunk_bytes Mtsq body)
track_row_bytes (Some seek) body = ap (λ (l : List ℕ). chunk_bytes MspI seek ++ l) (append-nil (chunk_bytes Mtsq body))

-- the entries that a seek body says, none without one
abbrev pub SeekReads : Bool → List (Placed (Item Event)) → ℕ → Option (List ℕ) → List (Placed Entry) → Type 0
SeekReads phrases items size None entries = entries ≡ []
SeekReads phrases items size (Some seek) entries = seek_in phrases items size seek ≡ Ok entries

-- the track that is read where its header stands at a place
unfoldable pub track_from : ℕ → List ℕ → Option (List ℕ) → List ℕ → List (Placed (Item Event)) → List (Placed Entry) → Track
track_from header fixed seek body items entries =
    record {
      header = header;
      voice = Score;
      phrases = has_phrases fixed;
      base_d = fixed ! place_of_d Score;
      base_g = fixed ! place_of_g Score;
      parts = chunks_from (header + 8 + fixed_size) (track_row seek body);
      body = body;
      items = items;
      entries = entries;
    }
