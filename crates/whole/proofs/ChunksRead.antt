-- Chunks that are written are read: where the bytes of a row stand from a place on, the chunks of that list are exactly those of the row.
use Prim.Native.Nat.{ℕ, ◌+◌, ◌-◌, ◌<◌, ◌≤◌}
use mathlib.Core.Bool.{Bool, true, false}
use mathlib.Core.List.{List, [], ◌∷◌, ◌++◌, append_assoc, map}
use mathlib.Core.Path.{◌≡◌, refl, sym, ◌∙◌, ap, subst}
use lib.ListN.{length, drop, length-append}
use native.Mathlib.Omega.{arith}
use borrow.Author.Tests.{le-ltb}
use Rattle.model.specs.Words.{when◌then◌else◌, ◌or◌, ◌≡?◌, any, passed, ◌>>◌, Step.met}
use Rattle.std.specs.Prelude.{Ok}
use Rattle.model.specs.Words.{Walk, Walk.over, Walk.broken, Walk.◌then◌, walk_to, walk_of, in_turn, unasked}
use Rattle.model.specs.Bytes.{number}
use Rattle.model.specs.Chunk.{Chunk, body_bytes, read_chunk, chunk_met, chunk_step, allowed_once, chunk_list}
use Rattle.model.specs.ChunkBytes.{number_bytes, chunk_bytes}
use Rattle.model.proofs.Outcomes.{bind_fine}
use Rattle.model.proofs.Walks.{Stand, Pass, unasked_pass, stand_iff}
use Rattle.chunks.proofs.Lists.{chunk_goes}
use Rattle.entries.proofs.NumberBytes.{number_bytes_length, number_back}
use Rattle.whole.proofs.Following.{follows_behind, follows_part}
use Rattle.whole.proofs.ChunkRow.{Bodied, row_bytes, chunk_from, chunks_from, RowNamed, RowFits, RowAllowed, RowHeld}

pub chunk_length : (id : ℕ) (body : List ℕ) → length (chunk_bytes id body) ≡ 8 + length body
unfolding chunk_bytes
chunk_length id body =
    simp length-append (omega (arith, number_bytes_length 4 id, number_bytes_length 4 (length body)))

-- ONE CHUNK, where its bytes stand
module _ (s : List ℕ) (at id : ℕ) (body rest : List ℕ) (e : drop at s ≡ chunk_bytes id body ++ rest) where
  with_id : drop at s ≡ number_bytes 4 id ++ (number_bytes 4 (length body) ++ (body ++ rest))
  unfolding chunk_bytes
  with_id = e ∙ simp append_assoc

  with_size : drop (at + 4) s ≡ number_bytes 4 (length body) ++ (body ++ rest)
  with_size =
      ap (λ (n : ℕ). drop (at + n) s) (sym (number_bytes_length 4 id))
      ∙ follows_behind s at (number_bytes 4 id) _ with_id

  pub body_follows : drop (at + 8) s ≡ body ++ rest
  body_follows =
      let p : at + 8 ≡ at + 4 + length (number_bytes 4 (length body)) = omega (arith, number_bytes_length 4 (length body)) in
      ap (λ (n : ℕ). drop n s) p ∙ follows_behind s (at + 4) (number_bytes 4 (length body)) _ with_size

  body_held : body_bytes s (record { id = id; place = at; size = length body }) ≡ body
  body_held = follows_part s (at + 8) body rest body_follows

  chunk_behind : drop (at + 8 + length body) s ≡ rest
  chunk_behind = follows_behind s (at + 8) body rest body_follows

  pub id_read : id < 4294967296 → number 4 s at ≡ id
  id_read small = number_back 4 id s at _ small with_id

  pub size_read : length body < 4294967296 → number 4 s (at + 4) ≡ length body
  size_read short = number_back 4 (length body) s (at + 4) _ short with_size

  module _ (end : ℕ) (small : id < 4294967296) (short : length body < 4294967296) (within : at + 8 + length body ≤ end) where
    chunk_met_lem : chunk_step s end at ≡ met (record { id = id; place = at; size = length body }) (at + 8 + length body)
    unfolding chunk_step chunk_met read_chunk when◌then◌else◌
    chunk_met_lem =
        let i = id_read small in
        let n = size_read short in
        let room : 8 ≤ end - at = omega arith in
        let fits : length body ≤ end - at - 8 = omega arith in
        simp (i, n, le-ltb)

-- A ROW OF CHUNKS

pub row_length : (one : Bodied) (more : List Bodied) → length (row_bytes (one ∷ more)) ≡ 8 + length one.body + length (row_bytes more)
unfolding row_bytes
row_length one more = length-append (chunk_bytes one.id one.body) (row_bytes more) ∙ omega (arith, chunk_length one.id one.body)

-- sizes fit where the bytes of all are few enough
pub row_fits : (row : List Bodied) → RowNamed row → length (row_bytes row) < 4294967296 → RowFits row
row_fits [] named few = tt
row_fits (one ∷ more) named few =
    let long = row_length one more in
    (named.0, omega arith, row_fits more named.1 (omega arith))

module _ (s : List ℕ) where
  row_behind : (at : ℕ) (one : Bodied) (more : List Bodied) (rest : List ℕ) → drop at s ≡ row_bytes (one ∷ more) ++ rest
      → drop at s ≡ chunk_bytes one.id one.body ++ (row_bytes more ++ rest)
  unfolding row_bytes
  row_behind at one more rest e = e ∙ append_assoc (chunk_bytes one.id one.body) (row_bytes more) rest

  -- the walk of the list meets the chunks of the row, each at its place
  pub row_stands : (row : List Bodied) (at end : ℕ) (rest : List ℕ) → RowFits row → drop at s ≡ row_bytes row ++ rest → at + length (row_bytes row) ≡ end
      → Stand end (chunk_step s end) at (chunks_from at row)
  unfolding chunks_from row_bytes
  row_stands [] at end rest fits e ends = omega arith
  row_stands (one ∷ more) at end rest fits e ends =
      let here = row_behind at one more rest e in
      let long = row_length one more in (
        at + 8 + length one.body,
        chunk_met_lem s at one.id one.body _ here end fits.0 fits.1 (omega arith),
        row_stands more (at + 8 + length one.body) end rest fits.2 (chunk_behind s at one.id one.body _ here) (omega arith),
      )

  -- and the bodies are those of the row
  pub row_held : (row : List Bodied) (at : ℕ) (rest : List ℕ) → drop at s ≡ row_bytes row ++ rest → RowHeld s at row
  row_held [] at rest e = tt
  row_held (one ∷ more) at rest e =
      let here = row_behind at one more rest e in
      (body_held s at one.id one.body _ here, row_held more (at + 8 + length one.body) rest (chunk_behind s at one.id one.body _ here))

-- what a walk meets of which nothing is asked is all of it
unasked_all : {A : Type 0} (walk : Walk A) (before all : List A) → in_turn unasked before walk ≡ Ok all → walk ≡ walk_of all
unfolding in_turn walk_of ◌>>◌
unasked_all {A} over before all e = let none : [] ≡ all = cc in subst (λ (l : List A). over ≡ walk_of l) none refl
unasked_all (broken number place) before all e = let z : ◌≡◌ {A = ℕ} 0 1 = cc in absurd (omega arith)
unasked_all {A} (a then rest) before all e =
    let found = bind_fine _ _ all e in
    let is : a ∷ found.0 ≡ all = let made = found.2 in cc in
    subst (λ (l : List A). a then rest ≡ walk_of l) is (ap (λ (w : Walk A). a then w) (unasked_all rest (a ∷ before) found.0 found.1))

pub row_walked : (s : List ℕ) (row : List Bodied) (start end : ℕ) (rest : List ℕ) → RowFits row → drop start s ≡ row_bytes row ++ rest
    → start + length (row_bytes row) ≡ end → walk_to 4 end (chunk_step s end) start ≡ walk_of (chunks_from start row)
row_walked s row start end rest fits e ends =
    unasked_all _ [] (chunks_from start row)
    ((stand_iff 4 end (chunk_step s end) unasked (λ at g. chunk_goes s end at g) start (chunks_from start row) (omega arith)).1
    (row_stands s row start end rest fits e ends, unasked_pass (chunks_from start row) []))

-- each of them passes the check of a list
any_mapped : (id : ℕ) (before : List Chunk) → any (λ earlier. earlier.id ≡? id) before ≡ any (λ earlier. earlier ≡? id) (map (λ chunk. chunk.id) before)
unfolding any
any_mapped id [] = refl
any_mapped id (chunk ∷ before) = ap (λ (b : Bool). (chunk.id ≡? id) or b) (any_mapped id before)

once : (allowed : ℕ → Bool) (before : List Chunk) (chunk : Chunk) → allowed chunk.id ≡ true → any (λ earlier. earlier.id ≡? chunk.id) before ≡ false
    → allowed_once allowed before chunk ≡ passed
unfolding allowed_once when◌then◌else◌
once allowed before chunk h g = rw (h, g)

row_pass : (allowed : ℕ → Bool) (row : List Bodied) (at : ℕ) (before : List Chunk) → RowAllowed allowed (map (λ chunk. chunk.id) before) row
    → Pass (allowed_once allowed) before (chunks_from at row)
unfolding chunks_from
row_pass allowed [] at before ok = tt
row_pass allowed (one ∷ more) at before ok =
    let first = once allowed before (chunk_from at one) ok.0 (any_mapped one.id before ∙ ok.1) in
    (first, row_pass allowed more (at + 8 + length one.body) (chunk_from at one ∷ before) ok.2)

pub chunks_read : (allowed : ℕ → Bool) (s : List ℕ) (row : List Bodied) (start end : ℕ) (rest : List ℕ) → RowFits row → RowAllowed allowed [] row
    → drop start s ≡ row_bytes row ++ rest → start + length (row_bytes row) ≡ end → chunk_list allowed s start end ≡ Ok (chunks_from start row)
unfolding chunk_list
chunks_read allowed s row start end rest fits ok e ends =
    (stand_iff 4 end (chunk_step s end) (allowed_once allowed) (λ at g. chunk_goes s end at g) start (chunks_from start row) (omega arith)).1
    (row_stands s row start end rest fits e ends, row_pass allowed row start [] ok)
