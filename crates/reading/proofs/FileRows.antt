-- A file that passed its check: what its frame and its top level are, its rows stored, and the answer to a read of it.
use Prim.Native.Nat.{ℕ, ◌+◌, ◌-◌, ◌*◌, ◌≤◌}
use mathlib.Core.Path.{◌≡◌, sym, ◌∙◌, ap, ap₂}
use mathlib.Core.Bool.{Bool, true}
use mathlib.Core.List.{List, ◌∷◌, ◌++◌}
use lib.ListN.{length, take}
use lib.Seq.{sets}
use native.Mathlib.Omega.{arith}
use Rattle.model.specs.Words.{◌≡?◌, Checked, each}
use Rattle.std.specs.Prelude.{Ok}
use Rattle.model.specs.Bytes.{number}
use Rattle.model.specs.CheckCode.{check_code}
use Rattle.model.specs.Item.{is_fine, found}
use Rattle.model.specs.Chunk.{Chunk, chunk_at}
use Rattle.model.specs.File.{File, Top, Row, top_of, contents_of, row_in, rows_from, rows_of, numbers_of}
use Rattle.model.specs.Answer.{read_answer}
use Rattle.model.proofs.Outcomes.{fine_some}
use Rattle.chunks.specs.Kept.{chunks_in}
use Rattle.model.proofs.Stores.{sets_append}
use Rattle.reading.specs.Stages.{row_numbers, file_rows}
use Rattle.reading.proofs.Accepted.{Made, contents_made}

module _ (s : List ℕ) (ok : is_fine (contents_of s) ≡ true) where
  accepted : (file : File) × (contents_of s ≡ Ok file)
  accepted = fine_some (contents_of s) ok

  made : Made s accepted.0
  made = contents_made s accepted.0 accepted.1

  pub accepted_two : 2 ≤ length s
  accepted_two = omega (arith, made.long)

  pub accepted_four : 4 ≤ length s
  accepted_four = omega (arith, made.long)

  pub accepted_code : length s - 2 + 2 ≤ length s
  accepted_code = omega (arith, made.long)

  pub accepted_from : 8 ≤ length s - 2
  accepted_from = omega (arith, made.long)

  pub accepted_list : is_fine (chunks_in s 8 (length s - 2)) ≡ true
  unfolding is_fine
  accepted_list = ap is_fine made.listed

  accepted_tops : each (top_of s) (found (chunks_in s 8 (length s - 2))) ≡ Ok accepted.0.tops
  unfolding found
  accepted_tops = ap (λ (c : Checked (List Chunk)). each (top_of s) (found c)) made.listed ∙ made.opens

  pub accepted_all : is_fine (each (top_of s) (found (chunks_in s 8 (length s - 2)))) ≡ true
  unfolding is_fine
  accepted_all = ap is_fine accepted_tops

  -- its rows
  rows_are : file_rows (contents_of s) ≡ row_in 0 (chunk_at s 0) ∷ rows_from 1 (found (each (top_of s) (found (chunks_in s 8 (length s - 2)))))
  unfolding file_rows rows_of found
  rows_are =
      ap file_rows accepted.1 ∙ ap (λ (chunk : Chunk). row_in 0 chunk ∷ rows_from 1 accepted.0.tops) made.whole
      ∙ ap (λ (c : Checked (List Top)). row_in 0 (chunk_at s 0) ∷ rows_from 1 (found c)) (sym accepted_tops)

  module _ (l : List ℕ) (room : 4 * length (file_rows (contents_of s)) ≤ length l) where
    pub file_own_room : 4 ≤ length l
    file_own_room = omega (arith, ap length rows_are)

    pub file_room : (m : List ℕ) → length m ≡ length l
        → 4 * (1 + length (rows_from 1 (found (each (top_of s) (found (chunks_in s 8 (length s - 2))))))) ≤ length m
    file_room m kept = omega (arith, ap length rows_are)

  pub file_filled : (l m out : List ℕ) (id size : ℕ) → id ≡ number 4 s 0 → size ≡ number 4 s 4 → m ≡ sets l 0 (row_numbers id 0 size 0)
      → out ≡ sets m 4 (numbers_of (rows_from 1 (found (each (top_of s) (found (chunks_in s 8 (length s - 2)))))))
      → out ≡ sets l 0 (numbers_of (file_rows (contents_of s)))
  unfolding numbers_of row_in chunk_at
  file_filled l m out id size n z q p =
      p
      ∙ ap (λ (x : List ℕ). sets x 4 (numbers_of (rows_from 1 (found (each (top_of s) (found (chunks_in s 8 (length s - 2)))))))) q
      ∙ sets_append l 0 (row_numbers id 0 size 0) (numbers_of (rows_from 1 (found (each (top_of s) (found (chunks_in s 8 (length s - 2)))))))
      ∙ ap₂ (λ (x y : ℕ). sets l 0 (row_numbers x 0 y 0 ++ numbers_of (rows_from 1 (found (each (top_of s) (found (chunks_in s 8 (length s - 2)))))))) n z
      ∙ ap (λ (rows : List Row). sets l 0 (numbers_of rows)) (sym rows_are)

  -- the answer
  pub file_told : (count code held : ℕ) → count ≡ length (file_rows (contents_of s)) → code ≡ check_code (take (length s - 2) s) → held ≡ number 2 s (length s - 2)
      → Ok (record { count = count; code = code; matches = held ≡? code }) ≡ read_answer (contents_of s)
  unfolding read_answer file_rows
  file_told count code held n c h =
      let e = accepted.1 in
      let rows = length (file_rows (contents_of s)) in
      ap (λ (k : ℕ). (Ok (record { count = k; code = code; matches = held ≡? code }))) n
      ∙ ap₂ (λ (x y : ℕ). (Ok (record { count = rows; code = x; matches = y ≡? x }))) c h
      ∙ ap₂ (λ (x : ℕ) (b : Bool). (Ok (record { count = rows; code = x; matches = b }))) (sym made.coded) (sym made.matched)
      ∙ ap (λ (f : Checked File). (Ok (record { count = (length (file_rows f)); code = accepted.0.code; matches = accepted.0.matches }))) e
      ∙ ap read_answer (sym e)

pub ruleset file_rows_lem = (accepted_two, accepted_four, accepted_code, accepted_from, accepted_list, accepted_all, file_own_room, file_room, file_filled, file_told)
