-- A written score track is read: a chunk whose body is six fixed bytes, a seek chunk or none, and a sequence chunk is the track with exactly these parts.
use Prim.Native.Nat.{ℕ, ◌+◌, ◌*◌, ◌/◌, ◌<◌}
use mathlib.Core.Bool.{Bool, true, false}
use mathlib.Core.List.{List, [], ◌++◌, append_assoc}
use Rattle.std.specs.Prelude.{Option, None, Some, Ok}
use mathlib.Core.Path.{◌≡◌, refl, sym, ◌∙◌, ap}
use lib.ListN.{length, drop, length-append, get_or-append}
use native.Mathlib.Nat.{add-zero}
use native.Mathlib.Omega.{arith}
use borrow.Author.Tests.{le-ltb, eq-eqb, ne_eqb}
use Rattle.model.specs.Words.{when◌then◌else◌, ◌or◌, ◌<?◌, ◌≡?◌, any, first, Placed, passed, ◌>>=◌, ◌>>◌, counted_from}
use Rattle.model.specs.Bytes.{◌!◌, MTR, MspI, Mtsu, Mtsq}
use Rattle.model.specs.Chunk.{Chunk, body_place, place_after, body_bytes, chunk_list}
use Rattle.model.specs.Item.{Item, body_of}
use Rattle.model.specs.Seek.{Entry}
use Rattle.model.specs.Track.{fixed_size, place_of_d, place_of_g, score_voice, voice_of, fixed_fits, fixed_holds}
use Rattle.model.specs.Track.{is_part, is_allowed, part_named, required, has_waves, setup_holds, seek_in, entries_of, track_of}
use Rattle.model.specs.File.{Top.readable, opened, top_of}
use Rattle.model.specs.ChunkBytes.{chunk_bytes}
use Rattle.model.specs.Arrangement.{has_phrases}
use Rattle.model.specs.declared.Event.{Event}
use Rattle.model.specs.declared.ListOf.TheVariants as list
use Rattle.model.specs.declared.Voice.TheVariants.{Score}
use Rattle.model.proofs.Parts.{part_at}
use Rattle.whole.proofs.Following.{follows_behind, part_follows}
use Rattle.whole.proofs.ChunkRow.{Bodied, row_bytes, chunks_from, RowNamed, RowAllowed, RowHeld}
use Rattle.whole.proofs.ChunksRead.{row_fits, row_held, chunks_read}
use Rattle.whole.proofs.TrackRow.{seek_part, track_row, track_row_bytes, SeekReads, track_from}

-- THE TRACK, where each of its checks passes
track_passes : (s : List ℕ) (chunk : Chunk) (parts : List Chunk) (sequence : Chunk) (phrases : Bool) (base_d base_g : ℕ) (body : List ℕ)
    (items : List (Placed (Item Event))) (entries : List (Placed Entry)) → fixed_holds Score s chunk ≡ passed
    → chunk_list (is_allowed (list.Track Score)) s (body_place chunk + fixed_size) (place_after chunk) ≡ Ok parts
    → part_named Mtsq parts ≡ Some sequence → part_named Mtsu parts ≡ None → body_bytes s sequence ≡ body → body_of Score body ≡ Ok items
    → (s ! (body_place chunk + 1) ≡? 1) ≡ phrases → s ! (body_place chunk + place_of_d Score) ≡ base_d → s ! (body_place chunk + place_of_g Score) ≡ base_g
    → entries_of phrases items (length body) s (part_named MspI parts) ≡ Ok entries
    → track_of s Score chunk
    ≡ Ok
    (record {
      header = chunk.place;
      voice = Score;
      phrases = phrases;
      base_d = base_d;
      base_g = base_g;
      parts = parts;
      body = body;
      items = items;
      entries = entries;
    })
unfolding track_of required has_waves setup_holds counted_from when◌then◌else◌ ◌>>◌ ◌>>=◌
track_passes s chunk parts sequence phrases base_d base_g body items entries fixed listed named setup same reads phrased d g sought =
    rw (fixed, listed, named, setup, same, reads, phrased, sought, d, g)

-- THE PARTS of its list: their IDs are those of a track, and each is found by its ID
row_named_lem : (seek : Option (List ℕ)) (body : List ℕ) → RowNamed (track_row seek body)
unfolding track_row
row_named_lem None body = (omega arith, tt)
row_named_lem (Some seek) body = (omega arith, (omega arith, tt))

row_allowed : (seek : Option (List ℕ)) (body : List ℕ) → RowAllowed (is_allowed (list.Track Score)) [] (track_row seek body)
unfolding track_row is_allowed is_part any ◌or◌
row_allowed None body = (refl, refl, tt)
row_allowed (Some seek) body = (refl, refl, (refl, refl, tt))

abbrev sequence_from : ℕ → Option (List ℕ) → List ℕ → Chunk
sequence_from at None body = record { id = Mtsq; place = at; size = length body }
sequence_from at (Some seek) body = record { id = Mtsq; place = at + 8 + length seek; size = length body }

sequence_found : (at : ℕ) (seek : Option (List ℕ)) (body : List ℕ) → part_named Mtsq (chunks_from at (track_row seek body)) ≡ Some (sequence_from at seek body)
unfolding part_named first when◌then◌else◌ chunks_from track_row
sequence_found at None body = refl
sequence_found at (Some seek) body = refl

setup_missing : (at : ℕ) (seek : Option (List ℕ)) (body : List ℕ) → part_named Mtsu (chunks_from at (track_row seek body)) ≡ None
unfolding part_named first when◌then◌else◌ chunks_from track_row
setup_missing at None body = refl
setup_missing at (Some seek) body = refl

sequence_held : (s : List ℕ) (at : ℕ) (seek : Option (List ℕ)) (body : List ℕ) → RowHeld s at (track_row seek body)
    → body_bytes s (sequence_from at seek body) ≡ body
unfolding track_row
sequence_held s at None body held = held.0
sequence_held s at (Some seek) body held = held.1.0

entries_said_lem : (s : List ℕ) (at : ℕ) (seek : Option (List ℕ)) (body : List ℕ) (phrases : Bool) (items : List (Placed (Item Event))) (size : ℕ)
    (entries : List (Placed Entry)) → RowHeld s at (track_row seek body) → SeekReads phrases items size seek entries
    → entries_of phrases items size s (part_named MspI (chunks_from at (track_row seek body))) ≡ Ok entries
unfolding part_named first when◌then◌else◌ chunks_from track_row entries_of counted_from
entries_said_lem s at None body phrases items size entries held said = ap Ok (sym said)
entries_said_lem s at (Some seek) body phrases items size entries held said =
    ap (λ (l : List ℕ). counted_from (at + 8) (seek_in phrases items size l)) held.0 ∙ ap (counted_from (at + 8)) said

-- THE TRACK CHUNK, by its parts
module _ (s : List ℕ) (chunk : Chunk) (number : ℕ) (fixed : List ℕ) (seek : Option (List ℕ)) (body : List ℕ) (named : chunk.id ≡ MTR * 256 + number)
    (below : number < 256) (held : body_bytes s chunk ≡ fixed ++ seek_part seek ++ chunk_bytes Mtsq body)
    (sized : chunk.size ≡ length (fixed ++ seek_part seek ++ chunk_bytes Mtsq body)) (small : chunk.size < 4294967296) (six : length fixed ≡ 6)
    (format : fixed ! 0 ≡ 0) (fits : fixed_fits Score fixed 0 ≡ true) where
  abbrev row : List Bodied
  row = track_row seek body

  split : fixed ++ seek_part seek ++ chunk_bytes Mtsq body ≡ fixed ++ row_bytes row
  split = append_assoc fixed (seek_part seek) (chunk_bytes Mtsq body) ∙ ap (λ (l : List ℕ). fixed ++ l) (sym (track_row_bytes seek body))

  long : chunk.size ≡ 6 + length (row_bytes row)
  long = sized ∙ ap length split ∙ length-append fixed (row_bytes row) ∙ omega arith

  -- the fixed bytes in the file
  fixed_at : (k : ℕ) → k < 6 → s ! (body_place chunk + k) ≡ fixed ! k
  fixed_at k h =
      sym (part_at s (body_place chunk) chunk.size k (omega (arith, long)))
      ∙ ap (λ (l : List ℕ). l ! k) (held ∙ split) ∙ get_or-append fixed (row_bytes row) 0 k (omega arith)

  first_fixed : s ! body_place chunk ≡ 0
  first_fixed = ap (λ (n : ℕ). s ! n) (sym (add-zero (body_place chunk))) ∙ fixed_at 0 (omega arith) ∙ format

  pub voice_read : voice_of s chunk ≡ Ok (Some Score)
  unfolding voice_of score_voice when◌then◌else◌ ◌or◌
  voice_read =
      let is_score : (chunk.id / 256 ≡? MTR) ≡ true = eq-eqb (chunk.id / 256) MTR (omega arith) in
      let some_body : (chunk.size ≡? 0) ≡ false = ne_eqb chunk.size 0 (λ z. omega (arith, long)) in
      rw (is_score, some_body, first_fixed)

  pub fixed_read : fixed_holds Score s chunk ≡ passed
  unfolding fixed_holds fixed_fits when◌then◌else◌
  fixed_read =
      let room : (chunk.size <? 6) ≡ false = le-ltb chunk.size 6 (omega (arith, long)) in
      rw (room, fixed_at 1 (omega arith), fixed_at 2 (omega arith), fixed_at 3 (omega arith), fits)

  row_follows : drop (body_place chunk + 6) s ≡ row_bytes row ++ drop (place_after chunk) s
  row_follows =
      ap (λ (n : ℕ). drop (body_place chunk + n) s) (sym six)
      ∙ follows_behind s (body_place chunk) fixed _
      (part_follows s (body_place chunk) chunk.size _ (held ∙ split) ∙ append_assoc fixed (row_bytes row) (drop (place_after chunk) s))

  pub parts_listed : chunk_list (is_allowed (list.Track Score)) s (body_place chunk + fixed_size) (place_after chunk)
      ≡ Ok (chunks_from (body_place chunk + fixed_size) row)
  parts_listed =
      chunks_read (is_allowed (list.Track Score)) s row (body_place chunk + 6) (place_after chunk) _ (row_fits row (row_named_lem seek body) (omega (arith, long)))
      (row_allowed seek body) row_follows (omega (arith, long))

  pub parts_held : RowHeld s (body_place chunk + fixed_size) row
  parts_held = row_held s row (body_place chunk + 6) _ row_follows

  module _ (items : List (Placed (Item Event))) (entries : List (Placed Entry)) (reads : body_of Score body ≡ Ok items)
      (said : SeekReads (has_phrases fixed) items (length body) seek entries) where
    pub track_reads : track_of s Score chunk ≡ Ok (track_from chunk.place fixed seek body items entries)
    unfolding track_from has_phrases
    track_reads =
        let at : ℕ = body_place chunk + 6 in
        track_passes s chunk (chunks_from at row) (sequence_from at seek body) (has_phrases fixed) (fixed ! 2) (fixed ! 3) body items entries
        fixed_read parts_listed (sequence_found at seek body) (setup_missing at seek body) (sequence_held s at seek body parts_held) reads
        (ap (λ (n : ℕ). n ≡? 1) (fixed_at 1 (omega arith))) (fixed_at 2 (omega arith)) (fixed_at 3 (omega arith))
        (entries_said_lem s at seek body (has_phrases fixed) items (length body) entries parts_held said)

    pub top_reads : top_of s chunk ≡ Ok (readable chunk (track_from chunk.place fixed seek body items entries))
    unfolding top_of opened ◌>>=◌
    top_reads = rw (voice_read, track_reads)
