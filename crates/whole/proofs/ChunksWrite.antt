-- Chunks that are read are written: the row of a list's chunks, with their bodies as they stand, has the bytes of that list.
use Prim.Native.Nat.{ℕ, ◌+◌, ◌-◌, ◌≤◌, ◌<◌}
use mathlib.Core.Bool.{Bool}
use mathlib.Core.List.{List, [], ◌∷◌, ◌++◌}
use mathlib.Core.Path.{◌≡◌, refl, sym, ◌∙◌, ap, ap₂}
use lib.ListN.{length, take, drop}
use lib.Seq.{take-add, drop-drop}
use native.Mathlib.Omega.{arith}
use borrow.Author.Tests.{ltb-false}
use Rattle.model.specs.Words.{Step.met}
use Rattle.std.specs.Prelude.{Ok, Option, Some, None}
use Rattle.model.specs.Bytes.{◌!◌, number, part}
use Rattle.model.specs.Chunk.{Chunk, chunk_at, place_after, body_bytes, read_chunk, chunk_met, chunk_step, allowed_once, chunk_list}
use Rattle.model.specs.ChunkBytes.{number_bytes, chunk_bytes}
use Rattle.model.specs.declared.ReadChunk.{ReadChunk}
use Rattle.model.proofs.Parts.{part_length}
use Rattle.model.proofs.Tests.{if_all}
use Rattle.model.proofs.Walks.{Stand, stand_iff}
use Rattle.chunks.proofs.Lists.{chunk_goes}
use Rattle.entries.proofs.NumberBytes.{number_again}
use Rattle.whole.proofs.ChunkRow.{row_bytes, row_of}

-- THE CHUNK THAT IS MET at a place is the one whose header stands there, and it ends within the list.
abbrev Here : List ℕ → ℕ → ℕ → Option ReadChunk → Type 0
Here s end at (Some read) = (read.id ≡ number 4 s at) × (read.size ≡ number 4 s (at + 4)) × (read.next ≡ at + 8 + read.size) × (read.next ≤ end)
Here s end at None = Unit

read_here : (s : List ℕ) (end at : ℕ) → at ≤ end → Here s end at (read_chunk s end at)
unfolding read_chunk
read_here s end at h =
    if_all (Here s end at) _ _ _ (λ i. tt)
    (λ i. if_all (Here s end at) _ _ _ (λ j. tt)
    (λ j. (refl, refl, refl, omega (arith, ltb-false (end - at) 8 i, ltb-false (end - at - 8) (number 4 s (at + 4)) j))))

here_is : (s : List ℕ) (end at : ℕ) (r : Option ReadChunk) (chunk : Chunk) (next : ℕ) → Here s end at r → chunk_met at r ≡ met chunk next
    → (chunk ≡ chunk_at s at) × (chunk.place ≡ at) × (next ≡ place_after chunk) × (next ≤ end)
unfolding chunk_met chunk_at
here_is s end at (Some read) chunk next h e =
    let one : Chunk = record { id = read.id; place = at; size = read.size } in
    let same : one ≡ chunk = cc in
    let on : read.next ≡ next = cc in
    let size_is : read.size ≡ chunk.size = ap (λ (c : Chunk). c.size) same in
    let place_is : at ≡ chunk.place = ap (λ (c : Chunk). c.place) same in
    let header : one ≡ record { id = number 4 s at; place = at; size = number 4 s (at + 4) } = rw (h.0, h.1) in
    (sym same ∙ header, sym place_is, omega arith, omega arith)
here_is s end at None chunk next h e = let z : ◌≡◌ {A = ℕ} 0 1 = cc in absurd (omega arith)

pub met_here : (s : List ℕ) (end at : ℕ) (chunk : Chunk) (next : ℕ) → at ≤ end → chunk_step s end at ≡ met chunk next
    → (chunk ≡ chunk_at s at) × (chunk.place ≡ at) × (next ≡ place_after chunk) × (next ≤ end)
unfolding chunk_step
met_here s end at chunk next within e = here_is s end at (read_chunk s end at) chunk next (read_here s end at within) e

-- two parts, one behind the other
pub parts_joined : (s : List ℕ) (at m n : ℕ) → part s at (m + n) ≡ part s at m ++ part s (at + m) n
parts_joined s at m n = take-add m n (drop at s) ∙ ap (λ (l : List ℕ). part s at m ++ take n l) (drop-drop m at s)

module _ (s : List ℕ) (bytes : (k : ℕ) → s ! k < 256) where
  -- the bytes of the chunk whose header stands at a place are those up to its end
  chunk_again : (at : ℕ) → at + 8 + number 4 s (at + 4) ≤ length s
      → chunk_bytes (number 4 s at) (part s (at + 8) (number 4 s (at + 4))) ≡ part s at (8 + number 4 s (at + 4))
  unfolding chunk_bytes
  chunk_again at h =
      let size : ℕ = number 4 s (at + 4) in
      let long : length (part s (at + 8) size) ≡ size = part_length s (at + 8) size h in
      let id_is : number_bytes 4 (number 4 s at) ≡ part s at 4 = number_again s bytes at 4 (omega arith) in
      let size_is : number_bytes 4 (length (part s (at + 8) size)) ≡ part s (at + 4) 4 =
      ap (number_bytes 4) long ∙ number_again s bytes (at + 4) 4 (omega arith) in
      let header : number_bytes 4 (number 4 s at) ++ number_bytes 4 (length (part s (at + 8) size)) ≡ part s at 8 =
      ap₂ (λ (l : List ℕ) (m : List ℕ). l ++ m) id_is size_is ∙ sym (parts_joined s at 4 4) in
      ap (λ (l : List ℕ). l ++ part s (at + 8) size) header ∙ sym (parts_joined s at 8 size)

  pub chunk_writes : (chunk : Chunk) (at : ℕ) → chunk ≡ chunk_at s at → place_after chunk ≤ length s
      → chunk_bytes chunk.id (body_bytes s chunk) ≡ part s at (8 + chunk.size)
  unfolding chunk_at
  chunk_writes chunk at is h = rw is (chunk_again at (rw is at h))

  pub stand_writes : (chunks : List Chunk) (at end : ℕ) → at ≤ end → end ≤ length s → Stand end (chunk_step s end) at chunks
      → row_bytes (row_of s chunks) ≡ part s at (end - at)
  unfolding row_of row_bytes
  stand_writes [] at end h within st =
      let none : end - at ≡ 0 = omega arith in
      sym (ap (part s at) none)
  stand_writes (chunk ∷ chunks) at end h within st =
      let m = met_here s end at chunk st.0 h st.1 in
      let on : st.0 ≡ at + (8 + chunk.size) = omega arith in
      let sizes : 8 + chunk.size + (end - st.0) ≡ end - at = omega arith in
      ap₂ (λ (l : List ℕ) (k : List ℕ). l ++ k) (chunk_writes chunk at m.0 (omega arith))
      (stand_writes chunks st.0 end m.3 within st.2 ∙ ap (λ (n : ℕ). part s n (end - st.0)) on)
      ∙ sym (parts_joined s at (8 + chunk.size) (end - st.0))
      ∙ ap (part s at) sizes

-- THE CHUNKS OF A LIST, written, are the list
pub chunks_write : (allowed : ℕ → Bool) (s : List ℕ) (start end : ℕ) (chunks : List Chunk) → ((k : ℕ) → s ! k < 256) → start ≤ end → end ≤ length s
    → chunk_list allowed s start end ≡ Ok chunks → row_bytes (row_of s chunks) ≡ part s start (end - start)
unfolding chunk_list
chunks_write allowed s start end chunks bytes h within e =
    stand_writes s bytes chunks start end h within
    ((stand_iff 4 end (chunk_step s end) (allowed_once allowed) (λ at g. chunk_goes s end at g) start chunks h).0 e).0
