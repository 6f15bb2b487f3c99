-- Ticket 3, "reading the result gives verdict yes and exactly what was put in": the bytes of an arrangement that was given without a fault are a file that
-- reads, holds that arrangement, has a right check code, and is in the layout.
use Prim.Native.Nat.{ℕ, ◌+◌, ◌-◌, ◌<◌}
use mathlib.Core.Bool.{true}
use mathlib.Core.List.{List, ◌∷◌, ◌++◌}
use mathlib.Core.Path.{◌≡◌, refl, sym, ◌∙◌, ap, subst}
use lib.ListN.{length, take}
use native.Mathlib.Omega.{arith}
use borrow.Author.Tests.{eq-eqb}
use Rattle.model.specs.Words.{when◌then◌else◌, ◌and◌, ◌≡?◌, ◌>>=◌, each}
use Rattle.std.specs.Prelude.{Ok}
use Rattle.model.specs.Bytes.{number, part, CNTI}
use Rattle.model.specs.CheckCode.{check_code}
use Rattle.model.specs.Chunk.{Chunk, chunk_at}
use Rattle.model.specs.Track.{voice_of}
use Rattle.model.specs.File.{Top, Top.leaf, File, frame_of, opened, top_of, contents_of}
use Rattle.model.specs.ChunkBytes.{chunk_bytes, file_with}
use Rattle.model.specs.Arrangement.{Arrangement, tracks_bytes, file_bytes}
use Rattle.model.specs.Tables.{arrangement_of}
use Rattle.model.specs.Layout.{tracks_held, held_in, tops_laid, is_laid}
use Rattle.model.proofs.Tests.{both_true}
use Rattle.whole.proofs.Bounded.{AllBelow}
use Rattle.whole.proofs.ChunkRow.{Bodied, bodied, row_bytes, chunk_from, chunks_from}
use Rattle.whole.proofs.ChunksRead.{row_fits}
use Rattle.whole.proofs.FrameReads.{file_length, file_holds, file_code, frame_reads}
use Rattle.whole.proofs.TrackNumbers.{tracks_row_allowed, tracks_row_named, tracks_row_tracked}
use Rattle.whole.proofs.TracksGiven.{number_of, Ready, arrangement_ready}
use Rattle.whole.proofs.TracksRead.{body_of_track, row_of_tracks, row_of_tracks_lem, tracks_read}

-- the contents chunk is a closed leaf
contents_leaf : (s : List ℕ) (at : ℕ) (contents : List ℕ) → top_of s (chunk_from at (bodied CNTI contents)) ≡ Ok (leaf (chunk_from at (bodied CNTI contents)))
unfolding top_of voice_of opened ◌>>=◌ when◌then◌else◌
contents_leaf s at contents = refl

-- a file, by its frame and what its chunks were opened as
contents_read : (s : List ℕ) (chunks : List Chunk) (tops : List Top) → frame_of s ≡ Ok chunks → each (top_of s) chunks ≡ Ok tops
    → contents_of s
    ≡ Ok
    (record {
      chunk = chunk_at s 0;
      tops = tops;
      code = check_code (take (length s - 2) s);
      matches = number 2 s (length s - 2) ≡? check_code (take (length s - 2) s);
    })
unfolding contents_of ◌>>=◌
contents_read s chunks tops framed opens = rw (framed, opens) refl

-- what is said of a file that was written
pub record ReadsBack (s : List ℕ) (arrangement : Arrangement) : Type 0 where
  pub file : File
  pub reads : contents_of s ≡ Ok file
  pub matches : file.matches ≡ true
  pub holds : held_in s file ≡ arrangement
  pub laid : is_laid file ≡ true

module _ (arrangement : Arrangement) (ready : Ready arrangement) where
  abbrev row : List Bodied
  row = bodied CNTI arrangement.contents ∷ row_of_tracks arrangement.tracks

  row_is : row_bytes row ≡ chunk_bytes CNTI arrangement.contents ++ tracks_bytes arrangement.tracks
  unfolding row_bytes
  row_is = ap (λ (l : List ℕ). chunk_bytes CNTI arrangement.contents ++ l) (row_of_tracks_lem arrangement.tracks)

  module _ (few : length (file_with (row_bytes row)) < 4294967296) where
    row_reads : ReadsBack (file_with (row_bytes row)) arrangement
    unfolding chunks_from each held_in tracks_held is_laid tops_laid ◌>>=◌ ◌and◌
    row_reads =
        let s : List ℕ = file_with (row_bytes row) in
        let long = file_length (row_bytes row) in
        let five = ready.five in
        let named = tracks_row_named number_of body_of_track arrangement.contents arrangement.tracks ready.once in
        let framed =
        frame_reads (bodied CNTI arrangement.contents) (row_of_tracks arrangement.tracks) refl (omega arith)
        (tracks_row_tracked number_of body_of_track arrangement.tracks ready.some ready.once) named
        (tracks_row_allowed number_of body_of_track arrangement.contents arrangement.tracks ready.once) (omega arith) in
        let held = file_holds row in
        let fits = row_fits row named (omega arith) in
        let all = tracks_read s arrangement.tracks (16 + length arrangement.contents) ready.ready held.1 fits.2 in
        let first : Top = leaf (chunk_from 8 (bodied CNTI arrangement.contents)) in
        let contents_is : part s 16 5 ≡ arrangement.contents = ap (part s 16) (sym five) ∙ held.0 in
        record {
          file =
              record {
                chunk = chunk_at s 0;
                tops = first ∷ all.0;
                code = check_code (take (length s - 2) s);
                matches = number 2 s (length s - 2) ≡? check_code (take (length s - 2) s);
              };
          reads = contents_read s (chunks_from 8 row) (first ∷ all.0) framed (rw (contents_leaf s 8 arrangement.contents, all.1) refl);
          matches = eq-eqb _ _ (file_code (row_bytes row));
          holds = rw (contents_is, all.2) refl;
          laid = both_true _ _ (eq-eqb (length arrangement.contents) 5 five) all.3;
        }

  pub ready_reads : length (file_bytes arrangement) < 4294967296 → ReadsBack (file_bytes arrangement) arrangement
  unfolding file_bytes
  ready_reads few =
      let same : file_with (row_bytes row) ≡ file_with (chunk_bytes CNTI arrangement.contents ++ tracks_bytes arrangement.tracks) = ap file_with row_is in
      subst (λ (s : List ℕ). ReadsBack s arrangement) same (row_reads (subst (λ (s : List ℕ). length s < 4294967296) (sym same) few))

pub written_reads : (numbers bytes : List ℕ) (arrangement : Arrangement) → AllBelow 4294967296 numbers → AllBelow 256 bytes
    → arrangement_of numbers bytes ≡ Ok arrangement → length (file_bytes arrangement) < 4294967296 → ReadsBack (file_bytes arrangement) arrangement
written_reads numbers bytes arrangement small below given few =
    ready_reads arrangement (arrangement_ready numbers bytes arrangement small below given) few
