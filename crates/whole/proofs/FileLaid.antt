-- A file that was read in the layout, taken apart: the contents chunk of five bytes first, then score tracks, each made of its parts.
use Prim.Native.Nat.{ℕ, ◌+◌, ◌-◌, ◌/◌, ◌≤◌}
use mathlib.Core.Bool.{true, false≢true}
use mathlib.Core.List.{List, [], ◌∷◌, map}
use mathlib.Core.Path.{◌≡◌, refl, sym, ◌∙◌, ap, ap₂}
use lib.ListN.{length}
use native.Mathlib.Omega.{arith}
use borrow.Author.Tests.{eqb-true}
use Rattle.model.specs.Words.{◌≡?◌, each}
use Rattle.std.specs.Prelude.{Ok}
use Rattle.model.specs.Bytes.{CNTI, MTR}
use Rattle.model.specs.Chunk.{Chunk, chunk_step}
use Rattle.model.specs.File.{Top, Top.leaf, Top.readable, File, chunk_of, frame_of, top_of, contents_of}
use Rattle.model.specs.Layout.{parts_laid, tracks_laid, tops_laid, is_laid}
use Rattle.model.proofs.Tests.{and_left, and_right}
use Rattle.model.proofs.Walks.{Stand}
use Rattle.reading.proofs.Accepted.{contents_made, each_fine, each_none, opened_as}
use Rattle.whole.proofs.Bounded.{AllBelow}
use Rattle.whole.proofs.ChunksWrite.{met_here}
use Rattle.whole.proofs.TrackWrites.{TrackLaid, track_writes}

-- the tracks of the layout
abbrev pub TracksLaid : List ℕ → List Top → Type 0
TracksLaid s [] = Unit
TracksLaid s (leaf chunk ∷ tops) = ⊥
TracksLaid s (readable chunk track ∷ tops) = (chunk.id / 256 ≡ MTR) × TrackLaid s chunk track × TracksLaid s tops

pub record FileLaid (s : List ℕ) (file : File) : Type 0 where
  pub contents : Chunk
  pub tracks : List Top
  pub tops : file.tops ≡ leaf contents ∷ tracks
  pub framed : frame_of s ≡ Ok (contents ∷ map chunk_of tracks)
  pub named : contents.id ≡ CNTI
  pub five : contents.size ≡ 5
  pub first : contents.place ≡ 8
  pub laid : TracksLaid s tracks
  pub within : 21 ≤ length s

top_chunk : (s : List ℕ) (chunk : Chunk) (top : Top) → top_of s chunk ≡ Ok top → chunk_of top ≡ chunk
unfolding chunk_of
top_chunk s chunk (leaf one) e = (opened_as s chunk (leaf one) e).0
top_chunk s chunk (readable one track) e = (opened_as s chunk (readable one track) e).0

-- each chunk by what it was opened as
opened_each : (s : List ℕ) (chunk : Chunk) (chunks : List Chunk) (top : Top) (tops : List Top) → each (top_of s) (chunk ∷ chunks) ≡ Ok (top ∷ tops)
    → (top_of s chunk ≡ Ok top) × (each (top_of s) chunks ≡ Ok tops)
opened_each s chunk chunks top tops e =
    let f = each_fine (top_of s) chunk chunks (top ∷ tops) e in
    let first : f.0 ≡ top = let q = f.4 in cc in
    let rest : f.1 ≡ tops = let q = f.4 in cc in
    (f.2 ∙ ap Ok first, f.3 ∙ ap Ok rest)

module _ (s : List ℕ) (bytes : AllBelow 256 s) (end : ℕ) (inside : end ≤ length s) where
  tracks_apart : (chunks : List Chunk) (tops : List Top) (at : ℕ) → at ≤ end → Stand end (chunk_step s end) at chunks → each (top_of s) chunks ≡ Ok tops
      → tracks_laid tops ≡ true → (chunks ≡ map chunk_of tops) × TracksLaid s tops
  unfolding tracks_laid chunk_of
  tracks_apart [] [] at h st e ok = (refl, tt)
  tracks_apart [] (top ∷ tops) at h st e ok = let none = each_none (top_of s) (top ∷ tops) e in let z : ◌≡◌ {A = ℕ} 0 1 = cc in absurd (omega arith)
  tracks_apart (chunk ∷ chunks) [] at h st e ok =
      let f = each_fine (top_of s) chunk chunks [] e in let q = f.4 in let z : ◌≡◌ {A = ℕ} 0 1 = cc in absurd (omega arith)
  tracks_apart (chunk ∷ chunks) (leaf one ∷ tops) at h st e ok = absurd (false≢true ok)
  tracks_apart (chunk ∷ chunks) (readable one track ∷ tops) at h st e ok =
      let m = met_here s end at chunk st.0 h st.1 in
      let o = opened_each s chunk chunks (readable one track) tops e in
      let same : one ≡ chunk = top_chunk s chunk (readable one track) o.0 in
      let score = eqb-true (one.id / 256) MTR (and_left (one.id / 256 ≡? MTR) _ ok) in
      let others = and_right (one.id / 256 ≡? MTR) _ ok in
      let parts = and_left (parts_laid track track.parts) _ others in
      let opens : top_of s one ≡ Ok (readable one track) = ap (top_of s) same ∙ o.0 in
      let ends : one.place + 8 + one.size ≤ length s = omega (arith, ap (λ (c : Chunk). c.place) same, ap (λ (c : Chunk). c.size) same) in
      let rest = tracks_apart chunks tops st.0 m.3 st.2 o.1 (and_right (parts_laid track track.parts) _ others) in (
        ap₂ (λ (c : Chunk) (l : List Chunk). c ∷ l) (sym same) rest.0,
        (score, track_writes s one track bytes ends score parts opens, rest.1),
      )

module _ (s : List ℕ) (bytes : AllBelow 256 s) (file : File) (reads : contents_of s ≡ Ok file) where
  contents_first : (chunks : List Chunk) (tops : List Top) → file.tops ≡ tops → frame_of s ≡ Ok chunks → 10 ≤ length s
      → Stand (length s - 2) (chunk_step s (length s - 2)) 8 chunks → each (top_of s) chunks ≡ Ok tops → tops_laid tops ≡ true → FileLaid s file
  unfolding tops_laid chunk_of
  contents_first chunks [] is framed long st e ok = absurd (false≢true ok)
  contents_first chunks (readable one track ∷ tops) is framed long st e ok = absurd (false≢true ok)
  contents_first [] (leaf one ∷ tops) is framed long st e ok =
      let none = each_none (top_of s) (leaf one ∷ tops) e in let z : ◌≡◌ {A = ℕ} 0 1 = cc in absurd (omega arith)
  contents_first (chunk ∷ chunks) (leaf one ∷ tops) is framed long st e ok =
      let m = met_here s (length s - 2) 8 chunk st.0 (omega arith) st.1 in
      let o = opened_each s chunk chunks (leaf one) tops e in
      let same : one ≡ chunk = top_chunk s chunk (leaf one) o.0 in
      let named = eqb-true one.id CNTI (and_left (one.id ≡? CNTI) _ ok) in
      let others = and_right (one.id ≡? CNTI) _ ok in
      let five = eqb-true one.size 5 (and_left (one.size ≡? 5) _ others) in
      let place = ap (λ (c : Chunk). c.place) same in
      let size = ap (λ (c : Chunk). c.size) same in
      let rest = tracks_apart s bytes (length s - 2) (omega arith) chunks tops st.0 m.3 st.2 o.1 (and_right (one.size ≡? 5) _ others) in
      record {
        contents = one;
        tracks = tops;
        tops = is;
        framed = framed ∙ ap₂ (λ (c : Chunk) (l : List Chunk). Ok (c ∷ l)) (sym same) rest.0;
        named = named;
        five = five;
        first = omega arith;
        laid = rest.1;
        within = omega arith;
      }

  pub file_laid : is_laid file ≡ true → FileLaid s file
  unfolding is_laid
  file_laid ok =
      let made = contents_made s file reads in
      contents_first made.chunks file.tops refl made.framed made.long made.stand made.opens ok
