-- The whole file: what the frame and the top level make of it, and how many rows it has.
use Prim.Native.Nat.{ℕ, ◌+◌, ◌-◌, ◌≤◌}
use mathlib.Core.Path.{◌≡◌, refl, sym, ◌∙◌, ap}
use mathlib.Core.Bool.{true, false≢true}
use mathlib.Core.List.{List, [], ◌∷◌, map}
use lib.ListN.{length, length-append, length-map}
use native.Mathlib.Omega.{arith}
use borrow.Author.Tests.{ltb-false}
use Rattle.model.specs.Words.{◌<?◌, sum, Checked, passed, ◌>>=◌, each, refused}
use Rattle.std.specs.Prelude.{Ok, Err}
use Rattle.model.specs.Item.{is_fine, found, check_answer}
use Rattle.model.specs.Chunk.{Chunk, chunk_list}
use Rattle.model.specs.Track.{is_allowed}
use Rattle.model.specs.File.{Top, frame_of, top_of, contents_of, row_in, parts_of, rows_from, rows_of}
use Rattle.model.specs.declared.Refusal.{Refusal}
use Rattle.model.specs.declared.ListOf.TheVariants as list
use Rattle.model.proofs.Outcomes.{then_fine, bind_fine, fine_some}
use Rattle.chunks.specs.Kept.{chunks_in}
use Rattle.chunks.proofs.Searches.{checked_chunks}
use Rattle.model.proofs.Answers.{answer_refused, answer_passed}
use Rattle.model.proofs.Tests.{by_test, if_true, first_true}
use Rattle.reading.specs.Stages.{top_rows, tops_rows, tops_answer, file_answer}

-- a frame that passes

module _ (s : List ℕ) (chunks : List Chunk) (e : frame_of s ≡ Ok chunks) where
  pub long_enough : 10 ≤ length s
  unfolding frame_of is_fine
  long_enough =
      by_test (length s <? 10)
      (λ h. let a = then_fine _ _ chunks e in absurd (false≢true (sym (ap is_fine (if_true _ (refused 2 0) passed (first_true (length s <? 10) _ h))) ∙ a.0)))
      (λ h. ltb-false (length s) 10 h)

  frame_list : chunk_list (is_allowed list.File) s 8 (length s - 2) ≡ Ok chunks
  unfolding frame_of
  frame_list =
      let a = then_fine _ _ chunks e in
      let b = then_fine _ _ chunks a.1 in
      let c = bind_fine _ _ chunks b.1 in
      let d = then_fine _ _ chunks c.2 in
      let f = then_fine _ _ chunks d.1 in
      c.1 ∙ f.1

  pub frame_chunks : chunks_in s 8 (length s - 2) ≡ Ok chunks
  frame_chunks = checked_chunks (is_allowed list.File) s 8 (length s - 2) chunks (let h = long_enough in omega arith) frame_list

-- how many rows there are

rows_many : (k : ℕ) (tops : List Top) → length (rows_from k tops) ≡ tops_rows tops
unfolding rows_from tops_rows top_rows sum
rows_many k [] = refl
rows_many k (top ∷ tops) =
    let a = length-append (map (row_in k) (parts_of top)) (rows_from (k + 1 + length (parts_of top)) tops) in
    let b = length-map (parts_of top) (row_in k) in
    let c = rows_many (k + 1 + length (parts_of top)) tops in
    omega arith

-- one row for the file itself, before those of its contents
abbrev more : Checked ℕ → Checked ℕ
more (Ok count) = Ok (1 + count)
more (Err why) = Err why

file_rows_lem : (s : List ℕ) (chunks : List Chunk) (c : Checked (List Top)) → frame_of s ≡ Ok chunks → each (top_of s) chunks ≡ c
    → more (tops_answer c) ≡ file_answer (contents_of s)
unfolding contents_of file_answer tops_answer rows_of ◌>>=◌
file_rows_lem s chunks (Ok tops) e t = sym (rw (e, t) (ap (λ (n : ℕ). (Ok n)) (let r = rows_many 1 tops in omega arith)))
file_rows_lem s chunks (Err why) e t = sym (rw (e, t))

module _ (s : List ℕ) (r : Checked (Unit {0})) (is : r ≡ check_answer (frame_of s)) where
  pub file_frame_refused : (why : Refusal) → r ≡ Err why → Err why ≡ file_answer (contents_of s)
  unfolding contents_of file_answer ◌>>=◌
  file_frame_refused why e = sym (rw (answer_refused _ why (sym is ∙ e)))

  module _ (passes : r ≡ Ok tt) where
    a_frame : (chunks : List Chunk) × (frame_of s ≡ Ok chunks)
    a_frame = fine_some (frame_of s) (answer_passed _ (sym is ∙ passes))

    file_long : 10 ≤ length s
    file_long = long_enough s a_frame.0 a_frame.1

    pub file_two : 2 ≤ length s
    file_two = let h = file_long in omega arith

    pub file_from : 8 ≤ length s - 2
    file_from = let h = file_long in omega arith

    pub file_fine : is_fine (chunks_in s 8 (length s - 2)) ≡ true
    unfolding is_fine
    file_fine = ap is_fine (frame_chunks s a_frame.0 a_frame.1)

    module _ (answer : Checked ℕ) (q : answer ≡ tops_answer (each (top_of s) (found (chunks_in s 8 (length s - 2))))) where
      told : more answer ≡ file_answer (contents_of s)
      unfolding found
      told =
          ap more (q ∙ ap (λ (c : Checked (List Chunk)). tops_answer (each (top_of s) (found c))) (frame_chunks s a_frame.0 a_frame.1))
          ∙ file_rows_lem s a_frame.0 (each (top_of s) a_frame.0) a_frame.1 refl

      pub file_refused : (why : Refusal) → answer ≡ Err why → Err why ≡ file_answer (contents_of s)
      file_refused why e = ap more (sym e) ∙ told

      pub file_counted : (count : ℕ) → answer ≡ Ok count → Ok (1 + count) ≡ file_answer (contents_of s)
      file_counted count e = ap more (sym e) ∙ told

pub ruleset files = (file_frame_refused, file_two, file_from, file_fine, file_refused, file_counted)
