-- All chunks of the top level: the invariant of `check_tops`'s loop, and what each way out of it and each turn makes of it.
use Prim.Native.Nat.{ℕ, ◌+◌, ◌-◌, ◌*◌, ◌<◌, ◌≤◌}
use mathlib.Core.Path.{◌≡◌, refl, sym, ◌∙◌, ap, subst}
use mathlib.Core.Bool.{true}
use mathlib.Core.List.{List, [], ◌∷◌}
use lib.ListN.{length}
use native.Mathlib.Nat.{add-zero, zero-add}
use native.Mathlib.Omega.{arith}
use Rattle.model.specs.Words.{sum, Checked, ◌>>=◌, each}
use Rattle.std.specs.Prelude.{Ok, Err, Option, Some, None}
use Rattle.model.specs.Item.{is_fine, found}
use Rattle.model.specs.Chunk.{Chunk, read_chunk, chunk_step}
use Rattle.model.specs.File.{Top, top_of}
use Rattle.model.specs.declared.Refusal.{Refusal}
use Rattle.model.specs.declared.ReadChunk.{ReadChunk}
use Rattle.chunks.specs.Kept.{chunks_in}
use Rattle.model.proofs.Walks.{Stand}
use Rattle.chunks.proofs.Lists.{ChunkAhead, chunk_ahead}
use Rattle.chunks.proofs.Searches.{list_stands, none_left, never_cut, first_left}
use Rattle.reading.specs.Stages.{placed, top_rows, tops_rows, top_answer, tops_answer, Few}

-- the answer when so many rows are counted and the rest is checked
unfoldable pub onto : ℕ → Checked (List Top) → Checked ℕ
onto rows (Ok tops) = Ok (rows + tops_rows tops)
onto rows (Err why) = Err why

onto_none : (c : Checked (List Top)) → onto 0 c ≡ tops_answer c
unfolding onto tops_answer
onto_none (Ok tops) = simp zero-add
onto_none (Err why) = refl

onto_nil : (rows : ℕ) → onto rows (Ok []) ≡ Ok rows
unfolding onto tops_rows sum
onto_nil rows = simp add-zero

-- one chunk more

bound_refused : (c : Checked Top) (rest : Top → Checked (List Top)) (rows : ℕ) (why : Refusal) → top_answer c ≡ Err why
    → Err why ≡ onto rows (c >>= rest)
unfolding top_answer onto ◌>>=◌
bound_refused (Ok top) rest rows why e = let z : ◌≡◌ {A = ℕ} 0 1 = cc in absurd (omega arith)
bound_refused (Err w) rest rows why e = let same : ◌≡◌ {A = Refusal} why w = cc in ap (λ (x : Refusal). Err x) same

bound_rows : (c : Checked Top) (others : Checked (List Top)) (rows count : ℕ) → top_answer c ≡ Ok count
    → onto (rows + count) others ≡ onto rows (c >>= λ top. others >>= λ found. Ok (top ∷ found))
unfolding top_answer onto tops_rows sum ◌>>=◌
bound_rows (Ok top) (Ok tops) rows count e = let n : top_rows top ≡ count = cc in ap (λ (m : ℕ). Ok m) (omega arith)
bound_rows (Ok top) (Err why) rows count e = refl
bound_rows (Err why) others rows count e = let z : ◌≡◌ {A = ℕ} 0 1 = cc in absurd (omega arith)

module _ (s : List ℕ) (rows : ℕ) (chunk : Chunk) (rest : List Chunk) where
  onto_refused : (why : Refusal) → top_answer (top_of s chunk) ≡ Err why → Err why ≡ onto rows (each (top_of s) (chunk ∷ rest))
  unfolding each
  onto_refused why e = bound_refused (top_of s chunk) _ rows why e

  onto_rows : (count : ℕ) → top_answer (top_of s chunk) ≡ Ok count → onto (rows + count) (each (top_of s) rest) ≡ onto rows (each (top_of s) (chunk ∷ rest))
  unfolding each
  onto_rows count e = bound_rows (top_of s chunk) (each (top_of s) rest) rows count e

pub record Topping (s : List ℕ) (start end rows at : ℕ) : Type 0 where
  pub rest : List Chunk
  pub stand : Stand end (chunk_step s end) at rest
  pub within : at ≤ end
  pub inside : end ≤ length s
  pub small : length s ≤ 65536
  pub few : rows ≤ 65537 * at
  pub same : onto rows (each (top_of s) rest) ≡ tops_answer (each (top_of s) (found (chunks_in s start end)))

pub tops_start : (s : List ℕ) (start end : ℕ) → start ≤ end → end ≤ length s → length s ≤ 65536 → is_fine (chunks_in s start end) ≡ true → Topping s start end 0 start
tops_start s start end h inside small ok =
    record {
      rest = found (chunks_in s start end);
      stand = list_stands s start end h ok;
      within = h;
      inside = inside;
      small = small;
      few = omega arith;
      same = onto_none _;
    }

module _ (s : List ℕ) (start end rows at : ℕ) (t : Topping s start end rows at) where
  pub tops_countable : rows ≤ 4295032832
  tops_countable = omega (arith, t.few, t.within, t.inside, t.small)

  pub tops_end : end ≤ at → Ok rows ≡ tops_answer (each (top_of s) (found (chunks_in s start end)))
  unfolding each
  tops_end past =
      sym (onto_nil rows) ∙ ap (λ (chunks : List Chunk). onto rows (each (top_of s) chunks)) (sym (none_left s end at t.within t.rest t.stand past)) ∙ t.same

  module _ (r : Option ReadChunk) (here : at < end) (is : r ≡ read_chunk s end at) where
    pub tops_never : r ≡ None → Ok rows ≡ tops_answer (each (top_of s) (found (chunks_in s start end)))
    tops_never e = absurd (never_cut s end at t.within r is t.rest here t.stand e)

    module _ (read : ReadChunk) (e : r ≡ Some read) where
      ahead : ChunkAhead s end at (Some read)
      ahead = subst (ChunkAhead s end at) (sym is ∙ e) (chunk_ahead s end at t.within)

      pub tops_there : at + 8 + read.size ≤ length s
      tops_there = let a = ahead in omega (arith, t.inside)

      pub tops_near : end - read.next < end - at
      tops_near = let a = ahead in omega arith

      left : (rest : List Chunk) × (onto rows (each (top_of s) (placed s at read.size ∷ rest)) ≡ tops_answer (each (top_of s) (found (chunks_in s start end)))) × Stand end (chunk_step s end) read.next rest
      left =
          let l = first_left s end at t.within r is t.rest read here t.stand e in (
            l.0,
            ap (λ (n : ℕ). onto rows (each (top_of s) (record { id = n; place = at; size = read.size } ∷ l.0))) (sym ahead.0)
                ∙ ap (λ (chunks : List Chunk). onto rows (each (top_of s) chunks)) (sym l.1) ∙ t.same,
            l.2,
          )

      module _ (answer : Checked ℕ) (p : answer ≡ top_answer (top_of s (placed s at read.size))) where
        pub tops_refused : (why : Refusal) → answer ≡ Err why
            → Err why ≡ tops_answer (each (top_of s) (found (chunks_in s start end)))
        tops_refused why q = let l = left in onto_refused s rows (placed s at read.size) l.0 why (sym p ∙ q) ∙ l.1

        pub tops_turn : (count : ℕ) → answer ≡ Ok count → Few answer → Topping s start end (rows + count) read.next
        tops_turn count q few =
            let a = ahead in
            let l = left in
            let small : count ≤ 65537 = subst Few q few in
            record {
              rest = l.0;
              stand = l.2;
              within = a.2;
              inside = t.inside;
              small = t.small;
              few = omega (arith, t.few);
              same = onto_rows s rows (placed s at read.size) l.0 count (sym p ∙ q) ∙ l.1;
            }

pub ruleset topping = (tops_start, tops_end, tops_never, tops_there, tops_near, tops_refused, tops_turn)
