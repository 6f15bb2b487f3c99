-- What the functions of this crate speak of beside the definitions of the model: chunks by their place and size alone, and the checks
-- of a track from one of them on. A track is refused by the first of these that refuses.
use Rattle.std.specs.Prelude.{ℕ, ◌+◌, ◌≤◌, List, length, Option, None, Some, Ok, Err}
use Rattle.model.specs.Words.{when◌then◌else◌, ◌≡?◌, Checked, passed, ◌>>=◌, ◌>>◌, counted_from, refused}
use Rattle.model.specs.Bytes.{◌!◌}
use Rattle.model.specs.Chunk.{Chunk, body_place, place_after, body_bytes, chunk_list}
use Rattle.model.specs.Item.{body_of}
use Rattle.model.specs.Track.{Track, fixed_size, is_allowed, part_id, part_named, required, has_waves, setup_holds, entries_of, place_of_d, place_of_g}
use Rattle.model.specs.declared.Voice.{Voice}
use Rattle.model.specs.declared.ListOf.TheVariants as list
use Rattle.model.specs.declared.Part.TheVariants as part
use Rattle.model.specs.declared.FoundChunk.{FoundChunk}

-- a chunk whose ID does not matter
abbrev pub bare : ℕ → ℕ → Chunk
bare place size = record { id = 0; place = place; size = size }

abbrev pub bare_of : Option FoundChunk → Option Chunk
bare_of (Some read) = Some (bare read.place read.size)
bare_of None = None

-- a chunk that was found lies within the file
abbrev pub Inside : List ℕ → Option FoundChunk → Type 0
Inside s (Some read) = read.place + 8 + read.size ≤ length s
Inside s None = Unit

-- a refusal whose place is within a file, or not far past it
abbrev pub Near : Checked (Unit {0}) → Type 0
Near (Ok tt) = Unit
Near (Err why) = why.place ≤ 200000

-- a refusal whose place was counted from a body's head
unfoldable pub moved : ℕ → Checked (Unit {0}) → Checked (Unit {0})
moved base (Ok tt) = Ok tt
moved base (Err why) = refused why.number (base + why.place)

unfoldable pub after_setup : List ℕ → Voice → Chunk → List Chunk → Chunk → Checked Track
after_setup s voice chunk parts sequence = do
  let body = body_bytes s sequence
  items ← counted_from (body_place sequence) (body_of voice body)
  let phrases = s ! (body_place chunk + 1) ≡? 1
  entries ← entries_of phrases items (length body) s (part_named (part_id part.Seek voice) parts)
  Ok
      (record {
        header = chunk.place;
        voice = voice;
        phrases = phrases;
        base_d = s ! (body_place chunk + place_of_d voice);
        base_g = s ! (body_place chunk + place_of_g voice);
        parts = parts;
        body = body;
        items = items;
        entries = entries;
      })

unfoldable pub after_parts : List ℕ → Voice → Chunk → List Chunk → Checked Track
after_parts s voice chunk parts = do
  sequence ← required chunk.place (part_named (part_id part.Sequence voice) parts)
  when has_waves voice parts then passed else refused 9 chunk.place
  setup_holds s (part_named (part_id part.Setup voice) parts)
  after_setup s voice chunk parts sequence

unfoldable pub parts_then : List ℕ → Voice → Chunk → Checked Track
parts_then s voice chunk = do
  parts ← chunk_list (is_allowed (list.Track voice)) s (body_place chunk + fixed_size) (place_after chunk)
  after_parts s voice chunk parts
