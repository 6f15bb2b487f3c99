-- A frame that is read is written: a file whose check code is right is the file that the row of its chunks makes.
use Prim.Native.Nat.{ℕ, ◌+◌, ◌-◌, ◌<◌}
use mathlib.Core.Bool.{not}
use mathlib.Core.List.{List, ◌++◌}
use mathlib.Core.Path.{◌≡◌, sym, ◌∙◌, ap, ap₂}
use lib.ListN.{length, take, drop, take-append-drop, length-drop}
use lib.Seq.{take_all}
use native.Mathlib.Omega.{arith}
use borrow.Author.Tests.{eqb-true, not-false}
use Rattle.model.specs.Words.{◌<?◌, ◌≡?◌, passed}
use Rattle.std.specs.Prelude.{Ok}
use Rattle.model.specs.Bytes.{◌!◌, number, part, MMMD}
use Rattle.model.specs.CheckCode.{check_code}
use Rattle.model.specs.Chunk.{Chunk, chunk_list}
use Rattle.model.specs.Track.{is_allowed}
use Rattle.model.specs.File.{frame_of}
use Rattle.model.specs.ChunkBytes.{number_bytes, with_check_code, file_with}
use Rattle.model.specs.declared.ListOf.TheVariants as list
use Rattle.model.proofs.Outcomes.{then_fine, bind_fine, not_refused, neither_second}
use Rattle.model.proofs.Parts.{part_length}
use Rattle.reading.proofs.Files.{long_enough}
use Rattle.reading.proofs.Accepted.{whole_size_lem}
use Rattle.entries.proofs.NumberBytes.{number_again}
use Rattle.whole.proofs.ChunkRow.{row_bytes, row_of}
use Rattle.whole.proofs.ChunksWrite.{parts_joined, chunks_write}

-- THE FILE'S OWN ID
frame_named : (s : List ℕ) (chunks : List Chunk) → frame_of s ≡ Ok chunks → number 4 s 0 ≡ MMMD
unfolding frame_of
frame_named s chunks e =
    let a = then_fine _ _ chunks e in
    eqb-true _ _ (not-false _ (neither_second (length s <? 10) (not (number 4 s 0 ≡? MMMD)) (not_refused _ 2 0 passed a.0)))

pub frame_list : (s : List ℕ) (chunks : List Chunk) → frame_of s ≡ Ok chunks → chunk_list (is_allowed list.File) s 8 (length s - 2) ≡ Ok chunks
unfolding frame_of
frame_list s chunks e =
    let a = then_fine _ _ chunks e in
    let b = then_fine _ _ chunks a.1 in
    let c = bind_fine _ _ chunks b.1 in
    let d = then_fine _ _ chunks c.2 in
    let f = then_fine _ _ chunks d.1 in
    c.1 ∙ f.1

module _ (s : List ℕ) (chunks : List Chunk) (bytes : (k : ℕ) → s ! k < 256) (framed : frame_of s ≡ Ok chunks) where
  pub chunks_written : row_bytes (row_of s chunks) ≡ part s 8 (length s - 10)
  chunks_written =
      let long = long_enough s chunks framed in
      let size : length s - 2 - 8 ≡ length s - 10 = omega arith in
      chunks_write (is_allowed list.File) s 8 (length s - 2) chunks bytes (omega arith) (omega arith) (frame_list s chunks framed) ∙ ap (part s 8) size

  -- all before the check code
  coded_written : number_bytes 4 MMMD ++ number_bytes 4 (length (row_bytes (row_of s chunks)) + 2) ++ row_bytes (row_of s chunks) ≡ take (length s - 2) s
  coded_written =
      let long = long_enough s chunks framed in
      let whole = whole_size_lem s chunks framed in
      let inner : length (row_bytes (row_of s chunks)) ≡ length s - 10 = ap length chunks_written ∙ part_length s 8 (length s - 10) (omega arith) in
      let size_is : length (row_bytes (row_of s chunks)) + 2 ≡ number 4 s 4 = omega arith in
      let ends : 8 + (length s - 10) ≡ length s - 2 = omega arith in
      ap₂ (λ (l : List ℕ) (m : List ℕ). l ++ m)
      (ap₂ (λ (l : List ℕ) (m : List ℕ). l ++ m)
      (ap (number_bytes 4) (sym (frame_named s chunks framed)) ∙ number_again s bytes 0 4 (omega arith))
      (ap (number_bytes 4) size_is ∙ number_again s bytes 4 4 (omega arith))
      ∙ sym (parts_joined s 0 4 4))
      chunks_written
      ∙ sym (parts_joined s 0 8 (length s - 10))
      ∙ ap (part s 0) ends

  pub frame_writes : number 2 s (length s - 2) ≡ check_code (take (length s - 2) s) → file_with (row_bytes (row_of s chunks)) ≡ s
  unfolding file_with with_check_code
  frame_writes right =
      let long = long_enough s chunks framed in
      let last : part s (length s - 2) 2 ≡ drop (length s - 2) s = take_all 2 (drop (length s - 2) s) (simp length-drop (omega arith)) in
      ap (λ (l : List ℕ). l ++ number_bytes 2 (check_code l)) coded_written
      ∙ ap (λ (l : List ℕ). take (length s - 2) s ++ l) (ap (number_bytes 2) (sym right) ∙ number_again s bytes (length s - 2) 2 (omega arith) ∙ last)
      ∙ take-append-drop (length s - 2) s
