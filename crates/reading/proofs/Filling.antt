-- Rows stored one after the other: the invariant of `fill_parts`'s loop, that what is still to be stored makes the whole, and what each
-- turn and the end make of it.
use Prim.Native.Nat.{ℕ, ◌+◌, ◌-◌, ◌*◌, ◌<◌, ◌≤◌}
use mathlib.Core.Path.{◌≡◌, refl, sym, ◌∙◌, ap, subst}
use mathlib.Core.Bool.{true}
use mathlib.Core.List.{List, [], ◌∷◌, ◌++◌, map}
use lib.ListN.{length}
use lib.Seq.{sets}
use native.Mathlib.Nat.{add-zero}
use native.Mathlib.Omega.{arith}
use mir.Val.{Fits}
use mir.Syntax.{w32}
use Rattle.model.specs.Item.{is_fine, found}
use Rattle.model.specs.Chunk.{Chunk, read_chunk, chunk_step}
use Rattle.model.specs.File.{Row, row_in, numbers_of}
use Rattle.std.specs.Prelude.{Option, Some, None}
use Rattle.model.specs.declared.ReadChunk.{ReadChunk}
use Rattle.chunks.specs.Kept.{chunks_in}
use Rattle.model.proofs.Walks.{Stand}
use Rattle.model.proofs.Stores.{sets_append}
use Rattle.chunks.proofs.Lists.{ChunkAhead, chunk_ahead}
use Rattle.chunks.proofs.Searches.{list_stands, none_left, never_cut, first_left}
use Rattle.reading.specs.Stages.{row_numbers}

pub numbers_append : (one two : List Row) → numbers_of (one ++ two) ≡ numbers_of one ++ numbers_of two
unfolding numbers_of
numbers_append [] two = refl
numbers_append (row ∷ one) two =
    ap (λ (rest : List ℕ). row.chunk.id ∷ row.chunk.place ∷ row.chunk.size ∷ row.container ∷ rest) (numbers_append one two)

pub numbers_many : (rows : List Row) → length (numbers_of rows) ≡ 4 * length rows
unfolding numbers_of
numbers_many [] = refl
numbers_many (row ∷ rows) = omega (arith, numbers_many rows)

-- one row in front of others
pub row_first : (out : List ℕ) (k id place size container : ℕ) (rest : List Row)
    → sets (sets out (4 * k) (row_numbers id place size container)) (4 * (k + 1)) (numbers_of rest)
    ≡ sets out (4 * k) (numbers_of (row_in container (record { id = id; place = place; size = size }) ∷ rest))
unfolding numbers_of row_in
row_first out k id place size container rest =
    let next : 4 * (k + 1) ≡ 4 * k + 4 = omega arith in
    ap (λ (n : ℕ). sets (sets out (4 * k) (row_numbers id place size container)) n (numbers_of rest)) next
    ∙ sets_append out (4 * k) (row_numbers id place size container) (numbers_of rest)

-- the rows of a list's chunks, from row k on

pub record Filling (s : List ℕ) (start end container : ℕ) (l out : List ℕ) (k row at : ℕ) : Type 0 where
  pub rest : List Chunk
  pub stand : Stand end (chunk_step s end) at rest
  pub within : at ≤ end
  pub inside : end ≤ length s
  pub small : end ≤ 65536
  pub many : row + length rest ≡ k + length (found (chunks_in s start end))
  pub same : length out ≡ length l
  pub room : 4 * (row + length rest) ≤ length out
  pub whole : sets out (4 * row) (numbers_of (map (row_in container) rest)) ≡ sets l (4 * k) (numbers_of (map (row_in container) (found (chunks_in s start end))))

pub fill_starts : (s : List ℕ) (start end container : ℕ) (l : List ℕ) (k : ℕ) → start ≤ end → end ≤ length s → end ≤ 65536
    → is_fine (chunks_in s start end) ≡ true → 4 * (k + length (found (chunks_in s start end))) ≤ length l
    → Filling s start end container l l k k start
fill_starts s start end container l k h inside small ok room =
    record {
      rest = found (chunks_in s start end);
      stand = list_stands s start end h ok;
      within = h;
      inside = inside;
      small = small;
      many = refl;
      same = refl;
      room = room;
      whole = refl;
    }

module _ (s : List ℕ) (start end container : ℕ) (l out : List ℕ) (k row at : ℕ) (f : Filling s start end container l out k row at) where
  module _ (past : end ≤ at) where
    nothing : f.rest ≡ []
    nothing = none_left s end at f.within f.rest f.stand past

    pub fill_counts : row ≡ k + length (found (chunks_in s start end))
    fill_counts = sym (add-zero row) ∙ ap (λ (chunks : List Chunk). row + length chunks) (sym nothing) ∙ f.many

    pub fill_ends : out ≡ sets l (4 * k) (numbers_of (map (row_in container) (found (chunks_in s start end))))
    unfolding numbers_of
    fill_ends = ap (λ (chunks : List Chunk). sets out (4 * row) (numbers_of (map (row_in container) chunks))) (sym nothing) ∙ f.whole

  module _ (r : Option ReadChunk) (here : at < end) (is : r ≡ read_chunk s end at) where
    fill_never : r ≡ None → ⊥
    fill_never e = never_cut s end at f.within r is f.rest here f.stand e

    pub fill_never_counts : r ≡ None → row ≡ k + length (found (chunks_in s start end))
    fill_never_counts e = absurd (fill_never e)

    pub fill_never_ends : r ≡ None → out ≡ sets l (4 * k) (numbers_of (map (row_in container) (found (chunks_in s start end))))
    fill_never_ends e = absurd (fill_never e)

    module _ (read : ReadChunk) (e : r ≡ Some read) where
      ahead : ChunkAhead s end at (Some read)
      ahead = subst (ChunkAhead s end at) (sym is ∙ e) (chunk_ahead s end at f.within)

      left : (rest : List Chunk) × (f.rest ≡ record { id = read.id; place = at; size = read.size } ∷ rest) × Stand end (chunk_step s end) read.next rest
      left = first_left s end at f.within r is f.rest read here f.stand e

      more : length f.rest ≡ 1 + length left.0
      more = omega (arith, ap length left.1)

      pub fill_nears : end - read.next < end - at
      fill_nears = let a = ahead in omega arith

      pub fill_size : Fits w32 read.size
      fill_size = let a = ahead in record { fits = omega (arith, f.small) }

      pub fill_turns : (m : List ℕ) → m ≡ sets out (4 * row) (row_numbers read.id at read.size container) → length m ≡ length out
          → Filling s start end container l m k (row + 1) read.next
      unfolding row_in
      fill_turns m q kept =
          let a = ahead in
          record {
            rest = left.0;
            stand = left.2;
            within = a.2;
            inside = f.inside;
            small = f.small;
            many = omega (arith, more, f.many);
            same = kept ∙ f.same;
            room = omega (arith, more, f.room);
            whole =
                ap (λ (x : List ℕ). sets x (4 * (row + 1)) (numbers_of (map (row_in container) left.0))) q
                ∙ row_first out row read.id at read.size container (map (row_in container) left.0)
                ∙ ap (λ (chunks : List Chunk). sets out (4 * row) (numbers_of (map (row_in container) chunks))) (sym left.1)
                ∙ f.whole;
          }

pub ruleset fills = (fill_starts, fill_counts, fill_ends, fill_never_counts, fill_never_ends, fill_nears, fill_size, fill_turns)
