-- The rows of the top level: the invariant of `fill_tops`'s loop, that what is still to be stored makes the whole, and what each turn
-- and the end make of it.
use Prim.Native.Nat.{ℕ, ◌+◌, ◌-◌, ◌*◌, ◌<◌, ◌≤◌}
use mathlib.Core.Path.{◌≡◌, refl, sym, ◌∙◌, ap, subst}
use mathlib.Core.Bool.{true}
use mathlib.Core.List.{List, ◌∷◌, ◌++◌, map}
use lib.ListN.{length, length-append, length-map}
use lib.Seq.{sets}
use native.Mathlib.Omega.{arith}
use Rattle.model.specs.Words.{Checked, each}
use Rattle.std.specs.Prelude.{Ok, Option, Some, None}
use Rattle.model.specs.Item.{is_fine, found}
use Rattle.model.specs.Chunk.{Chunk, read_chunk, chunk_step}
use Rattle.model.specs.File.{Top, Top.leaf, Top.readable, Row, top_of, row_in, parts_of, chunk_of, rows_from, numbers_of}
use Rattle.model.specs.declared.ReadChunk.{ReadChunk}
use Rattle.chunks.specs.Kept.{chunks_in}
use Rattle.model.proofs.Walks.{Stand, fine_found}
use Rattle.model.proofs.Stores.{sets_append}
use Rattle.chunks.proofs.Lists.{ChunkAhead, chunk_ahead}
use Rattle.chunks.proofs.Searches.{list_stands, none_left, never_cut, first_left}
use Rattle.reading.specs.Stages.{placed, parts_by}
use Rattle.reading.proofs.Accepted.{each_fine, each_none, OpenedAs, opened_as}
use Rattle.reading.proofs.Filling.{numbers_append, numbers_many}
use Rattle.reading.proofs.TopRows.{top_few}

-- a chunk's own row and those of its sub-chunks, in front of the rows of the rest
abbrev rows_by : ℕ → Chunk → Checked Top → List Row
rows_by k chunk c = row_in 0 chunk ∷ map (row_in k) (parts_by c)

rows_first : (k : ℕ) (chunk : Chunk) (top : Top) (tops : List Top) → chunk_of top ≡ chunk
    → rows_from k (top ∷ tops) ≡ rows_by k chunk (Ok top) ++ rows_from (k + 1 + length (parts_by (Ok top))) tops
unfolding rows_from parts_by
rows_first k chunk top tops e =
    ap (λ (c : Chunk). row_in 0 c ∷ map (row_in k) (parts_of top) ++ rows_from (k + 1 + length (parts_of top)) tops) e

-- a chunk of the top level is the one that was checked
same_chunk : (s : List ℕ) (chunk : Chunk) (top : Top) → OpenedAs s chunk top → chunk_of top ≡ chunk
unfolding chunk_of
same_chunk s chunk (leaf one) o = o.0
same_chunk s chunk (readable one track) o = o.0

pub record Rowing (s : List ℕ) (end : ℕ) (l out : List ℕ) (row at : ℕ) : Type 0 where
  pub rest : List Chunk
  pub tops : List Top
  pub stand : Stand end (chunk_step s end) at rest
  pub all : each (top_of s) rest ≡ Ok tops
  pub within : at ≤ end
  pub inside : end ≤ length s
  pub small : length s ≤ 65536
  pub low : row ≤ at
  pub same : length out ≡ length l
  pub room : 4 * (row + length (rows_from row tops)) ≤ length out
  pub whole : sets out (4 * row) (numbers_of (rows_from row tops)) ≡ sets l 4 (numbers_of (rows_from 1 (found (each (top_of s) (found (chunks_in s 8 end))))))

pub row_starts : (s : List ℕ) (end : ℕ) (l : List ℕ) → 8 ≤ end → end ≤ length s → length s ≤ 65536 → is_fine (chunks_in s 8 end) ≡ true
    → is_fine (each (top_of s) (found (chunks_in s 8 end))) ≡ true
    → 4 * (1 + length (rows_from 1 (found (each (top_of s) (found (chunks_in s 8 end)))))) ≤ length l → Rowing s end l l 1 8
row_starts s end l h inside small ok all room =
    record {
      rest = found (chunks_in s 8 end);
      tops = found (each (top_of s) (found (chunks_in s 8 end)));
      stand = list_stands s 8 end h ok;
      all = fine_found _ all;
      within = h;
      inside = inside;
      small = small;
      low = omega arith;
      same = refl;
      room = room;
      whole = refl;
    }

module _ (s : List ℕ) (end : ℕ) (l out : List ℕ) (row at : ℕ) (f : Rowing s end l out row at) where
  pub row_ends : end ≤ at → out ≡ sets l 4 (numbers_of (rows_from 1 (found (each (top_of s) (found (chunks_in s 8 end))))))
  unfolding rows_from numbers_of
  row_ends past =
      let none = none_left s end at f.within f.rest f.stand past in
      let no_tops = each_none (top_of s) f.tops (ap (each (top_of s)) (sym none) ∙ f.all) in
      ap (λ (tops : List Top). sets out (4 * row) (numbers_of (rows_from row tops))) (sym no_tops) ∙ f.whole

  module _ (r : Option ReadChunk) (here : at < end) (is : r ≡ read_chunk s end at) where
    pub row_never : r ≡ None → out ≡ sets l 4 (numbers_of (rows_from 1 (found (each (top_of s) (found (chunks_in s 8 end))))))
    row_never e = absurd (never_cut s end at f.within r is f.rest here f.stand e)

    module _ (read : ReadChunk) (e : r ≡ Some read) where
      ahead : ChunkAhead s end at (Some read)
      ahead = subst (ChunkAhead s end at) (sym is ∙ e) (chunk_ahead s end at f.within)

      pub row_there : at + 8 + read.size ≤ length s
      row_there = let a = ahead in omega (arith, f.inside)

      pub row_low : row ≤ 65536
      row_low = omega (arith, f.low, f.within, f.inside, f.small)

      pub row_nears : end - read.next < end - at
      row_nears = let a = ahead in omega arith

      left : (rest : List Chunk) × (f.rest ≡ placed s at read.size ∷ rest) × Stand end (chunk_step s end) read.next rest
      left =
          let l = first_left s end at f.within r is f.rest read here f.stand e in
          (l.0, l.1 ∙ ap (λ (n : ℕ). record { id = n; place = at; size = read.size } ∷ l.0) ahead.0, l.2)

      abbrev First : Type 0
      First = (top : Top) × (others : List Top) × (top_of s (placed s at read.size) ≡ Ok top) × (each (top_of s) left.0 ≡ Ok others) × (f.tops ≡ top ∷ others)

      first : First
      first = each_fine (top_of s) (placed s at read.size) left.0 f.tops (ap (each (top_of s)) (sym left.1) ∙ f.all)

      pub row_fine : is_fine (top_of s (placed s at read.size)) ≡ true
      unfolding is_fine
      row_fine = ap is_fine first.2

      -- the rows of the chunk, and those after them
      abbrev here_rows : List Row
      here_rows = rows_by row (placed s at read.size) (top_of s (placed s at read.size))

      abbrev after : ℕ
      after = row + 1 + length (parts_by (top_of s (placed s at read.size)))

      here_many : row + length here_rows ≡ after
      here_many = omega (arith, length-map (parts_by (top_of s (placed s at read.size))) (row_in row))

      split : rows_from row f.tops ≡ here_rows ++ rows_from after first.1
      split =
          ap (rows_from row) first.4 ∙ rows_first row (placed s at read.size) first.0 first.1 (same_chunk s (placed s at read.size) first.0 (opened_as s (placed s at read.size) first.0 first.2))
          ∙ ap (λ (c : Checked Top). rows_by row (placed s at read.size) c ++ rows_from (row + 1 + length (parts_by c)) first.1) (sym first.2)

      many : length (rows_from row f.tops) ≡ length here_rows + length (rows_from after first.1)
      many = ap length split ∙ length-append here_rows (rows_from after first.1)

      pub row_room : 4 * (row + 1 + length (parts_by (top_of s (placed s at read.size)))) ≤ length out
      row_room = omega (arith, many, here_many, f.room)

      pub row_turns : (m : List ℕ) (n : ℕ) → n ≡ row + 1 + length (parts_by (top_of s (placed s at read.size)))
          → m ≡ sets out (4 * row) (numbers_of (row_in 0 (placed s at read.size) ∷ map (row_in row) (parts_by (top_of s (placed s at read.size)))))
          → length m ≡ length out → Rowing s end l m n read.next
      row_turns m n count q kept =
          let a = ahead in
          let past : 4 * after ≡ 4 * row + length (numbers_of here_rows) = omega (arith, here_many, numbers_many here_rows) in
          let stored : sets m (4 * n) (numbers_of (rows_from n first.1)) ≡ sets out (4 * row) (numbers_of (rows_from row f.tops)) =
          ap (λ (k : ℕ). sets m (4 * k) (numbers_of (rows_from k first.1))) count
          ∙ ap (λ (x : List ℕ). sets x (4 * after) (numbers_of (rows_from after first.1))) q
          ∙ ap (λ (k : ℕ). sets (sets out (4 * row) (numbers_of here_rows)) k (numbers_of (rows_from after first.1))) past
          ∙ sets_append out (4 * row) (numbers_of here_rows) (numbers_of (rows_from after first.1))
          ∙ ap (sets out (4 * row)) (sym (numbers_append here_rows (rows_from after first.1)) ∙ ap numbers_of (sym split)) in
          let enough : 4 * (after + length (rows_from after first.1)) ≤ length m = omega (arith, many, here_many, f.room) in
          record {
            rest = left.0;
            tops = first.1;
            stand = left.2;
            all = first.3;
            within = a.2;
            inside = f.inside;
            small = f.small;
            low = omega (arith, f.low, top_few s at read.size row_fine);
            same = kept ∙ f.same;
            room = subst (λ (k : ℕ). 4 * (k + length (rows_from k first.1)) ≤ length m) (sym count) enough;
            whole = stored ∙ f.whole;
          }

pub ruleset rowing = (row_starts, row_ends, row_never, row_there, row_low, row_nears, row_fine, row_room, row_turns)
