-- Ticket 3: a score track that was read in the layout is written again with the bytes that it had.
use Prim.Native.Nat.{ℕ, ◌+◌, ◌*◌, ◌/◌, ◌%◌, ◌<◌, ◌≤◌}
use mathlib.Core.List.{List, [], ◌∷◌, ◌++◌, append_assoc}
use Rattle.std.specs.Prelude.{Option, None, Some}
use mathlib.Core.Path.{◌≡◌, refl, sym, ◌∙◌, ap, ap₂, subst}
use lib.ListN.{length, length-append, length-map}
use native.Mathlib.Omega.{arith}
use Rattle.model.specs.Bytes.{part, MTR, MspI, Mtsq}
use Rattle.model.specs.Chunk.{Chunk, body_place, body_bytes}
use Rattle.model.specs.Seek.{Entry}
use Rattle.model.specs.Track.{Track, fixed_size, point_width}
use Rattle.model.specs.Plain.{bytes_of}
use Rattle.model.specs.Content.{contents_in, handy_phone}
use Rattle.model.specs.ChunkBytes.{number_bytes, chunk_bytes}
use Rattle.model.specs.SeekBytes.{seek_bytes}
use Rattle.model.specs.Arrangement.{has_phrases, seek_chunk, track_bytes}
use Rattle.model.specs.Layout.{track_held}
use Rattle.model.specs.declared.Voice.TheVariants.{Score}
use Rattle.model.proofs.Parts.{part_short}
use Rattle.inverse.proofs.ReadWrites.{body_writes}
use Rattle.whole.proofs.Bounded.{AllBelow, part_below, behind_below, front_below}
use Rattle.entries.specs.Rows.{entries_in}
use Rattle.whole.proofs.SeekWrites.{seek_some, seek_writes}
use Rattle.whole.proofs.ChunksRead.{chunk_length}
use Rattle.whole.proofs.TrackRow.{seek_part}
use Rattle.whole.proofs.TrackWrites.{SeekLaid, TrackLaid}

-- the bytes of a chunk's body are bytes where the chunk's are
pub chunk_below : (id : ℕ) (body : List ℕ) → AllBelow 256 (chunk_bytes id body) → AllBelow 256 body
unfolding chunk_bytes
chunk_below id body small = behind_below 256 (number_bytes 4 id ++ number_bytes 4 (length body)) body small

-- the seek chunk of entries, where there are some
seek_chunk_lem : (width : ℕ) (entries : List Entry) → 0 < length entries → seek_chunk width entries ≡ chunk_bytes MspI (seek_bytes width entries)
unfolding seek_chunk
seek_chunk_lem width [] many = absurd (omega arith)
seek_chunk_lem width (entry ∷ entries) many = refl

seek_again : (track : Track) (seek : Option (List ℕ)) → AllBelow 256 (seek_part seek) → SeekLaid track seek
    → seek_chunk (point_width track.phrases) (entries_in track.entries) ≡ seek_part seek
unfolding seek_part seek_chunk
seek_again track None small laid = rw laid refl
seek_again track (Some seek) small laid =
    let width : ℕ = point_width track.phrases in
    let bytes = chunk_below MspI seek small in
    let many : 0 < length (entries_in track.entries) =
    omega (arith, seek_some width seek bytes track.entries laid.0, length-map track.entries (λ entry. entry.what)) in
    seek_chunk_lem width (entries_in track.entries) many
    ∙ ap (chunk_bytes MspI) (seek_writes width seek bytes track.entries laid.0 (sym laid.1))

module _ (s : List ℕ) (bytes : AllBelow 256 s) (chunk : Chunk) (track : Track) (laid : TrackLaid s chunk track) where
  abbrev fixed : List ℕ
  fixed = part s (body_place chunk) fixed_size

  held_below : AllBelow 256 (fixed ++ (seek_part laid.seek ++ chunk_bytes Mtsq track.body))
  held_below =
      subst (AllBelow 256) (laid.held ∙ append_assoc fixed (seek_part laid.seek) (chunk_bytes Mtsq track.body))
      (part_below 256 (body_place chunk) chunk.size s bytes)

  pub seek_part_below : AllBelow 256 (seek_part laid.seek)
  seek_part_below = front_below 256 (seek_part laid.seek) (chunk_bytes Mtsq track.body) (behind_below 256 fixed _ held_below)

  pub body_below : AllBelow 256 track.body
  body_below = chunk_below Mtsq track.body (behind_below 256 (seek_part laid.seek) _ (behind_below 256 fixed _ held_below))

  -- both are no longer than the file
  held_short : length fixed + (length (seek_part laid.seek) + (8 + length track.body)) ≤ length s
  held_short =
      omega (
        arith,
        part_short s (body_place chunk) chunk.size,
        ap length laid.held,
        length-append (fixed ++ seek_part laid.seek) (chunk_bytes Mtsq track.body),
        length-append fixed (seek_part laid.seek),
        chunk_length Mtsq track.body,
      )

  pub seek_part_short : length (seek_part laid.seek) ≤ length s
  seek_part_short = omega (arith, held_short)

  pub body_short : length track.body ≤ length s
  body_short = omega (arith, held_short)

  pub track_again : chunk.id / 256 ≡ MTR → track_bytes (track_held s chunk track) ≡ chunk_bytes chunk.id (body_bytes s chunk)
  unfolding track_bytes track_held
  track_again score =
      let id_is : MTR * 256 + chunk.id % 256 ≡ chunk.id = omega arith in
      let seek_is : seek_chunk (point_width (has_phrases fixed)) (entries_in track.entries) ≡ seek_part laid.seek =
      rw (← laid.phrased) (seek_again track laid.seek seek_part_below laid.laid) in
      let body_is : bytes_of handy_phone (contents_in track.body track.items) ≡ track.body =
      body_writes Score track.body body_below track.items laid.reads in
      ap₂ chunk_bytes id_is
      (ap₂ (λ (seek : List ℕ) (body : List ℕ). fixed ++ seek ++ chunk_bytes Mtsq body) seek_is body_is ∙ sym laid.held)
