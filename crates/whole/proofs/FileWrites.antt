-- Ticket 3, "writing what was read gives the same bytes": a file in the layout, with a right check code, is written again as it was.
use Prim.Native.Nat.{ℕ, ◌-◌}
use mathlib.Core.Bool.{true}
use mathlib.Core.List.{List, [], ◌∷◌, ◌++◌, map}
use mathlib.Core.Path.{◌≡◌, refl, sym, ◌∙◌, ap, ap₂}
use lib.ListN.{length, take}
use borrow.Author.Tests.{eqb-true}
use Rattle.model.specs.Words.{}
use Rattle.std.specs.Prelude.{Ok}
use Rattle.model.specs.Bytes.{number, part, CNTI}
use Rattle.model.specs.CheckCode.{check_code}
use Rattle.model.specs.Chunk.{body_bytes}
use Rattle.model.specs.File.{Top, Top.leaf, Top.readable, File, chunk_of, contents_of}
use Rattle.model.specs.ChunkBytes.{chunk_bytes, file_with}
use Rattle.model.specs.Arrangement.{tracks_bytes, file_bytes}
use Rattle.model.specs.Layout.{tracks_held, held_in, is_laid}
use Rattle.reading.proofs.Accepted.{contents_made}
use Rattle.whole.proofs.Bounded.{AllBelow}
use Rattle.whole.proofs.ChunkRow.{row_bytes, row_of}
use Rattle.whole.proofs.FrameWrites.{frame_writes}
use Rattle.whole.proofs.TrackHeld.{track_again}
use Rattle.whole.proofs.FileLaid.{TracksLaid, FileLaid, file_laid}

tracks_again : (s : List ℕ) (bytes : AllBelow 256 s) (tops : List Top) → TracksLaid s tops
    → tracks_bytes (tracks_held s tops) ≡ row_bytes (row_of s (map chunk_of tops))
unfolding tracks_bytes tracks_held row_bytes row_of chunk_of
tracks_again s bytes [] laid = refl
tracks_again s bytes (leaf chunk ∷ tops) laid = absurd laid
tracks_again s bytes (readable chunk track ∷ tops) laid =
    ap₂ (λ (l : List ℕ) (m : List ℕ). l ++ m) (track_again s bytes chunk track laid.1 laid.0) (tracks_again s bytes tops laid.2)

module _ (s : List ℕ) (bytes : AllBelow 256 s) (file : File) (reads : contents_of s ≡ Ok file) (ok : is_laid file ≡ true) (right : file.matches ≡ true) where
  -- all chunks of the file, by what it holds
  chunks_again : (laid : FileLaid s file)
      → chunk_bytes CNTI (part s 16 5) ++ tracks_bytes (tracks_held s file.tops) ≡ row_bytes (row_of s (laid.contents ∷ map chunk_of laid.tracks))
  unfolding row_bytes row_of tracks_held
  chunks_again laid =
      let first = laid.first in
      let five = laid.five in
      let id_is : CNTI ≡ laid.contents.id = sym laid.named in
      let body_is : part s 16 5 ≡ body_bytes s laid.contents = rw (first, five) refl in
      rw laid.tops
      (ap₂ (λ (l : List ℕ) (m : List ℕ). l ++ m) (ap₂ chunk_bytes id_is body_is) (tracks_again s bytes laid.tracks laid.laid))

  pub read_writes : file_bytes (held_in s file) ≡ s
  unfolding file_bytes held_in
  read_writes =
      let laid = file_laid s bytes file reads ok in
      let code : number 2 s (length s - 2) ≡ check_code (take (length s - 2) s) = eqb-true _ _ (sym (contents_made s file reads).matched ∙ right) in
      ap file_with (chunks_again laid) ∙ frame_writes s (laid.contents ∷ map chunk_of laid.tracks) bytes laid.framed code
