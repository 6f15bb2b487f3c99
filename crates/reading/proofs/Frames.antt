-- The frame: its first chunk, its own size, and the stages of its check.
use Prim.Native.Nat.{ℕ, ◌+◌, ◌-◌, ◌<◌, ◌≤◌}
use mathlib.Core.Path.{◌≡◌, sym, ◌∙◌, ap}
use mathlib.Core.Bool.{Bool, true, false, not}
use mathlib.Core.List.{List}
use lib.ListN.{length}
use native.Mathlib.Omega.{arith}
use borrow.Author.Tests.{eq-eqb, ne_eqb}
use Rattle.model.specs.Words.{when◌then◌else◌, ◌and◌, ◌or◌, ◌<?◌, ◌≤?◌, ◌≡?◌, passed, ◌>>=◌, ◌>>◌, Checked, refused}
use Rattle.std.specs.Prelude.{Ok, Option, Some, None}
use Rattle.model.specs.Bytes.{number, MMMD, CNTI}
use Rattle.model.specs.Item.{is_fine, found, check_answer}
use Rattle.model.specs.Chunk.{Chunk, read_chunk, chunk_list}
use Rattle.model.specs.Track.{is_allowed}
use Rattle.model.specs.File.{opens_with_contents, frame_of}
use Rattle.model.specs.declared.ListOf.{ListOf}
use Rattle.model.specs.declared.ListOf.TheVariants as list
use Rattle.model.specs.declared.ReadChunk.{ReadChunk}
use Rattle.chunks.specs.Kept.{chunks_in}
use Rattle.model.proofs.Answers.{answer_passed}
use Rattle.model.proofs.Walks.{fine_found}
use Rattle.chunks.proofs.Searches.{Remaining, remain_starts, remain_none, remain_never, remain_ahead, remain_there, remain_first, checked_chunks}
use Rattle.reading.specs.Stages.{contents_hold}

-- the first chunk of the list that begins at 8

module _ (s : List ℕ) (end : ℕ) (from : 8 ≤ end) (inside : end ≤ length s) (ok : is_fine (chunks_in s 8 end) ≡ true) where
  starts : Remaining opens_with_contents s 8 end 8
  starts = remain_starts opens_with_contents s 8 end from inside ok

  pub opens_empty : end ≤ 8 → false ≡ opens_with_contents (found (chunks_in s 8 end))
  unfolding opens_with_contents
  opens_empty h = remain_none opens_with_contents s 8 end 8 starts h

  module _ (r : Option ReadChunk) (here : 8 < end) (is : r ≡ read_chunk s end 8) where
    pub opens_never : r ≡ None → false ≡ opens_with_contents (found (chunks_in s 8 end))
    opens_never e = absurd (remain_never opens_with_contents s 8 end 8 starts r here is e)

    module _ (read : ReadChunk) (e : r ≡ Some read) where
      pub opens_there : 8 + 4 ≤ length s
      opens_there = remain_there opens_with_contents s 8 end 8 starts r here is read e

      first_asked : (test : Bool) → (number 4 s 8 ≡? CNTI) ≡ test → (test and (5 ≤? read.size)) ≡ opens_with_contents (found (chunks_in s 8 end))
      unfolding opens_with_contents
      first_asked test h =
          let a = remain_ahead opens_with_contents s 8 end 8 starts r here is read e in
          let f = remain_first opens_with_contents s 8 end 8 starts r here is read e in
          ap (λ (b : Bool). b and (5 ≤? read.size)) (sym h ∙ ap (λ (n : ℕ). n ≡? CNTI) (sym a.0)) ∙ f.1

      module _ (hit : Bool) (p : hit ≡ (number 4 s 8 ≡? CNTI)) where
        pub opens_other : hit ≡ false → hit ≡ opens_with_contents (found (chunks_in s 8 end))
        unfolding ◌and◌
        opens_other h = h ∙ first_asked false (sym p ∙ h)

        pub opens_size : hit ≡ true → (5 ≤? read.size) ≡ opens_with_contents (found (chunks_in s 8 end))
        unfolding ◌and◌
        opens_size h = first_asked true (sym p ∙ h)

pub ruleset opening = (opens_empty, opens_never, opens_there, opens_other, opens_size)

-- the file's own size, as the code reads it

pub size_right : (r n l : ℕ) → r ≡ n → r + 8 ≡ l → (n + 8 ≡? l) ≡ true
size_right r n l e h = eq-eqb (n + 8) l (omega arith)

pub size_wrong : (r n l : ℕ) → r ≡ n → (r + 8 ≡ l → ⊥) → (n + 8 ≡? l) ≡ false
size_wrong r n l e h = ne_eqb (n + 8) l (λ q. h (omega arith))

pub ruleset sizes = (size_right, size_wrong)

-- a list that passed its check

module _ (l : ListOf) (s : List ℕ) (start end : ℕ) (r : Checked (Unit {0})) (from : start ≤ end) (is : r ≡ check_answer (chunk_list (is_allowed l) s start end)) (passes : r ≡ Ok tt) where
  same_chunks : chunks_in s start end ≡ chunk_list (is_allowed l) s start end
  same_chunks =
      let e = fine_found (chunk_list (is_allowed l) s start end) (answer_passed _ (sym is ∙ passes)) in
      checked_chunks (is_allowed l) s start end _ from e ∙ sym e

  pub list_fine : is_fine (chunks_in s start end) ≡ true
  list_fine = ap is_fine same_chunks ∙ answer_passed _ (sym is ∙ passes)

  pub list_found : found (chunks_in s start end) ≡ found (chunk_list (is_allowed l) s start end)
  list_found = ap found same_chunks

-- the stages of the frame
pub frame_stages : (s : List ℕ) (z : Checked (Unit {0})) → z
    ≡ check_answer
    ((when (length s <? 10) or not (number 4 s 0 ≡? MMMD) then refused 2 0 else passed)
    >> ((when number 4 s 4 + 8 ≡? length s then passed else refused 3 4)
    >> (chunk_list (is_allowed list.File) s 8 (length s - 2) >>= λ chunks. contents_hold (length s - 2) chunks)))
    → z ≡ check_answer (frame_of s)
unfolding frame_of contents_hold
frame_stages s z h = h

module _ (s : List ℕ) (r : Checked (Unit {0})) (some : 10 ≤ length s) (is : r ≡ check_answer (chunk_list (is_allowed list.File) s 8 (length s - 2))) (passes : r ≡ Ok tt) where
  pub frame_list_fine : is_fine (chunks_in s 8 (length s - 2)) ≡ true
  frame_list_fine = list_fine list.File s 8 (length s - 2) r (omega arith) is passes

  pub frame_contents : (z : Checked (Unit {0})) → z ≡ check_answer (contents_hold (length s - 2) (found (chunks_in s 8 (length s - 2))))
      → z ≡ check_answer (contents_hold (length s - 2) (found (chunk_list (is_allowed list.File) s 8 (length s - 2))))
  frame_contents z h =
      h ∙ ap (λ (chunks : List Chunk). check_answer (contents_hold (length s - 2) chunks)) (list_found list.File s 8 (length s - 2) r (omega arith) is passes)
