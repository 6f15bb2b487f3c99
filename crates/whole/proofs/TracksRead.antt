-- Ticket 3: the tracks of an arrangement that is ready, where their chunks stand in a file, are read as exactly those tracks, in the layout.
use Prim.Native.Nat.{ℕ, ◌+◌, ◌*◌, ◌/◌, ◌%◌, ◌<◌}
use mathlib.Core.Bool.{true}
use mathlib.Core.List.{List, [], ◌∷◌, ◌++◌, append_assoc}
use mathlib.Core.Path.{◌≡◌, refl, sym, ◌∙◌, ap, ap₂}
use lib.ListN.{length, drop}
use native.Mathlib.Omega.{arith}
use borrow.Author.Tests.{eq-eqb}
use Rattle.model.specs.Words.{◌and◌, ◌≡?◌, Placed, ◌>>=◌, each}
use Rattle.std.specs.Prelude.{Ok}
use Rattle.model.specs.Bytes.{part, MTR, Mtsq}
use Rattle.model.specs.Chunk.{Chunk, body_place, body_bytes}
use Rattle.model.specs.Item.{Item}
use Rattle.model.specs.Seek.{Entry}
use Rattle.model.specs.Track.{Track, fixed_size, point_width}
use Rattle.model.specs.File.{Top, Top.readable, top_of}
use Rattle.model.specs.ChunkBytes.{chunk_bytes}
use Rattle.model.specs.SeekBytes.{seek_bytes}
use Rattle.model.specs.Arrangement.{ScoreTrack, has_phrases, seek_chunk, track_bytes, tracks_bytes}
use Rattle.model.specs.Layout.{track_held, tracks_held, parts_laid, tracks_laid}
use Rattle.model.specs.declared.Event.{Event}
use Rattle.model.proofs.Tests.{both_true}
use Rattle.entries.specs.Rows.{entries_in}
use Rattle.whole.proofs.Following.{follows_part, part_follows}
use Rattle.whole.proofs.ChunkRow.{Bodied, bodied, row_bytes, chunk_from, chunks_from, RowFits, RowHeld}
use Rattle.whole.proofs.TrackNumbers.{tracks_row}
use Rattle.whole.proofs.TrackRow.{seek_part, track_row, track_from}
use Rattle.whole.proofs.TrackReads.{top_reads}
use Rattle.whole.proofs.TrackGiven.{seek_body, seek_part_lem, sequence_of, seek_of_track, TrackReady}
use Rattle.whole.proofs.TracksGiven.{AllReady, number_of}

-- the body of a track's chunk
abbrev pub body_of_track : ScoreTrack → List ℕ
body_of_track track =
    track.fixed ++ seek_chunk (point_width (has_phrases track.fixed)) track.entries ++ chunk_bytes Mtsq (sequence_of track)

abbrev pub row_of_tracks : List ScoreTrack → List Bodied
row_of_tracks tracks = tracks_row number_of body_of_track tracks

pub row_of_tracks_lem : (tracks : List ScoreTrack) → row_bytes (row_of_tracks tracks) ≡ tracks_bytes tracks
unfolding row_bytes tracks_row tracks_bytes track_bytes
row_of_tracks_lem [] = refl
row_of_tracks_lem (track ∷ tracks) = ap (λ (l : List ℕ). chunk_bytes (MTR * 256 + track.number) (body_of_track track) ++ l) (row_of_tracks_lem tracks)

-- its sub-chunks are laid
parts_laid_lem : (header : ℕ) (fixed : List ℕ) (entries : List Entry) (body : List ℕ) (items : List (Placed (Item Event))) (placed : List (Placed Entry))
    → entries_in placed ≡ entries
    → parts_laid (track_from header fixed (seek_body (point_width (has_phrases fixed)) entries) body items placed)
    (chunks_from (header + 8 + fixed_size) (track_row (seek_body (point_width (has_phrases fixed)) entries) body))
    ≡ true
unfolding parts_laid track_from track_row chunks_from seek_body ◌and◌
parts_laid_lem header fixed [] body items placed same = refl
parts_laid_lem header fixed (entry ∷ entries) body items placed same =
    eq-eqb _ _ (ap (λ (l : List Entry). length (seek_bytes (point_width (has_phrases fixed)) l)) (sym same))

-- ONE TRACK
module _ (s : List ℕ) (at : ℕ) (track : ScoreTrack) (ready : TrackReady track) where
  abbrev chunk : Chunk
  chunk = chunk_from at (bodied (MTR * 256 + track.number) (body_of_track track))

  abbrev found : Track
  found = track_from at track.fixed (seek_of_track track) (sequence_of track) ready.items ready.entries

  by_parts : body_of_track track ≡ track.fixed ++ seek_part (seek_of_track track) ++ chunk_bytes Mtsq (sequence_of track)
  by_parts =
      ap (λ (l : List ℕ). track.fixed ++ l ++ chunk_bytes Mtsq (sequence_of track))
      (sym (seek_part_lem (point_width (has_phrases track.fixed)) track.entries))

  id_laid : ((MTR * 256 + track.number) / 256 ≡? MTR) ≡ true
  id_laid = let byte = ready.byte in let score : (MTR * 256 + track.number) / 256 ≡ MTR = omega arith in eq-eqb ((MTR * 256 + track.number) / 256) MTR score

  found_laid : parts_laid found found.parts ≡ true
  unfolding track_from
  found_laid = parts_laid_lem at track.fixed track.entries (sequence_of track) ready.items ready.entries ready.entries_are

  module _ (held : body_bytes s chunk ≡ body_of_track track) (small : length (body_of_track track) < 4294967296) where
    top_found : top_of s chunk ≡ Ok (readable chunk found)
    top_found =
        top_reads s chunk track.number track.fixed (seek_of_track track) (sequence_of track) refl ready.byte (held ∙ by_parts) (ap length by_parts)
        small ready.six ready.format ready.fits ready.items ready.entries ready.reads ready.said

    fixed_held : part s (body_place chunk) fixed_size ≡ track.fixed
    fixed_held =
        let seek : List ℕ = seek_chunk (point_width (has_phrases track.fixed)) track.entries in
        let behind : List ℕ = drop (body_place chunk + chunk.size) s in
        ap (part s (body_place chunk)) (sym ready.six)
        ∙ follows_part s (body_place chunk) track.fixed _
        (part_follows s (body_place chunk) chunk.size (body_of_track track) held
        ∙ ap (λ (l : List ℕ). l ++ behind) (append_assoc track.fixed seek (chunk_bytes Mtsq (sequence_of track)))
        ∙ append_assoc track.fixed _ behind)

    track_back : track_held s chunk found ≡ track
    unfolding track_held track_from
    track_back =
        let byte = ready.byte in
        let number : (MTR * 256 + track.number) % 256 ≡ track.number = omega arith in
        rw (number, fixed_held, ready.entries_are, ready.items_are) refl

-- ALL OF THEM
pub tracks_read : (s : List ℕ) (tracks : List ScoreTrack) (at : ℕ) → AllReady tracks → RowHeld s at (row_of_tracks tracks) → RowFits (row_of_tracks tracks)
    → (tops : List Top) × (each (top_of s) (chunks_from at (row_of_tracks tracks)) ≡ Ok tops) × (tracks_held s tops ≡ tracks) × (tracks_laid tops ≡ true)
unfolding tracks_row chunks_from each ◌>>=◌ tracks_held tracks_laid
tracks_read s [] at ready held fits = ([], refl, refl, refl)
tracks_read s (track ∷ tracks) at ready held fits =
    let first = top_found s at track ready.0 held.0 fits.1 in
    let more = tracks_read s tracks (at + 8 + length (body_of_track track)) ready.1 held.1 fits.2 in (
      readable (chunk s at track ready.0) (found s at track ready.0) ∷ more.0,
      rw (first, more.1),
      ap₂ (λ (t : ScoreTrack) (ts : List ScoreTrack). t ∷ ts) (track_back s at track ready.0 held.0 fits.1) more.2,
      both_true _ _ (id_laid s at track ready.0) (both_true _ _ (found_laid s at track ready.0) more.3),
    )
