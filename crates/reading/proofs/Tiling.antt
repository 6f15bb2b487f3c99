-- Demand 2: every byte of an accepted file is in exactly one header, fixed field, leaf body or check code. The stretches that a file's rows
-- name tile it, and so one of them and no more holds any place of it.
use Prim.Native.Nat.{ℕ, suc, ◌+◌, ◌-◌, ◌<◌, ◌≤◌}
use mathlib.Core.Path.{◌≡◌, refl, sym, ◌∙◌, ap, subst}
use mathlib.Core.Bool.{true, false}
use mathlib.Core.List.{List, [], ◌∷◌, ◌++◌}
use lib.ListN.{length, take}
use lib.Seq.{length-take-le}
use native.Mathlib.Omega.{arith}
use borrow.Author.Tests.{le-leb, lt-leb, le-ltb, lt-ltb, ltb-true, ltb-false}
use Rattle.model.specs.Words.{when◌then◌else◌, ◌<?◌, keep, each}
use Rattle.std.specs.Prelude.{Ok}
use Rattle.model.specs.Chunk.{Chunk, chunk_at, chunk_step}
use Rattle.model.specs.File.{File, Top, Top.leaf, Top.readable, top_of, contents_of, file_of}
use Rattle.model.specs.Stretch.{Stretch, header_of, leaf_body, fixed_field, check_code_of, leaves, stretches_in, stretches_of, Tile, holds}
use Rattle.model.proofs.Tests.{by_test, both_true, first_false, second_false}
use Rattle.model.proofs.Walks.{Stand}
use Rattle.reading.proofs.Accepted.{stated_bytes, whole_size_lem, contents_made, stands_first, each_fine, each_none, OpenedAs, opened_as, fixed_inside, parts_stand}

-- TILES OF A FILE

tile_append : (from between to : ℕ) (front back : List Stretch) → Tile from front between → Tile between back to → Tile from (front ++ back) to
tile_append from between to [] back t u = subst (λ (n : ℕ). Tile n back to) (sym t) u
tile_append from between to (one ∷ front) back t u = (t.0, tile_append (from + one.size) between to front back t.1 u)

leaves_tile : (s : List ℕ) (end at : ℕ) (chunks : List Chunk) → at ≤ end → Stand end (chunk_step s end) at chunks → Tile at (leaves chunks) end
unfolding leaves header_of leaf_body
leaves_tile s end at [] within st = st
leaves_tile s end at (chunk ∷ chunks) within st =
    let f = stands_first s end at chunk st.0 within st.1 in
    (f.0, (omega arith, subst (λ (n : ℕ). Tile n (leaves chunks) end) f.1 (leaves_tile s end st.0 chunks f.2 st.2)))

top_tiles : (s : List ℕ) (end at : ℕ) (chunk : Chunk) (top : Top) (tops : List Top) → chunk.place ≡ at → OpenedAs s chunk top
    → Tile (at + 8 + chunk.size) (stretches_in tops) end → Tile at (stretches_in (top ∷ tops)) end
unfolding stretches_in header_of leaf_body fixed_field
top_tiles s end at chunk (leaf one) tops here o t =
    rw o.0 (here, (omega arith, t))
top_tiles s end at chunk (readable one track) tops here o t =
    let room = fixed_inside s o.1 chunk track o.3 in
    let inner : Tile (at + 8 + 6) (leaves track.parts) (at + 8 + chunk.size) =
    subst (λ (n : ℕ). Tile (n + 8 + 6) (leaves track.parts) (n + 8 + chunk.size)) here
    (leaves_tile s (chunk.place + 8 + chunk.size) (chunk.place + 8 + 6) track.parts (omega arith) (parts_stand s o.1 chunk track o.3)) in
    rw o.0 (here, (omega arith, tile_append (at + 8 + 6) (at + 8 + chunk.size) end (leaves track.parts) (stretches_in tops) inner t))

tops_tile : (s : List ℕ) (end at : ℕ) (chunks : List Chunk) (tops : List Top) → at ≤ end → Stand end (chunk_step s end) at chunks
    → each (top_of s) chunks ≡ Ok tops → Tile at (stretches_in tops) end
unfolding stretches_in
tops_tile s end at [] tops within st e = rw (each_none (top_of s) tops e) st
tops_tile s end at (chunk ∷ chunks) tops within st e =
    let f = stands_first s end at chunk st.0 within st.1 in
    let o = each_fine (top_of s) chunk chunks tops e in
    let rest = subst (λ (n : ℕ). Tile n (stretches_in o.1) end) f.1 (tops_tile s end st.0 chunks o.1 f.2 st.2 o.3) in
    subst (λ (all : List Top). Tile at (stretches_in all) end) (sym o.4)
    (top_tiles s end at chunk o.0 o.1 f.0 (opened_as s chunk o.0 o.2) rest)

pub stretches_tile : (s : List ℕ) (file : File) → contents_of s ≡ Ok file → Tile 0 (stretches_of file) (length s)
unfolding stretches_of header_of check_code_of chunk_at
stretches_tile s file e =
    let m = contents_made s file e in
    let long = m.long in
    let whole = whole_size_lem s m.chunks m.framed in
    let inner = tops_tile s (length s - 2) 8 m.chunks file.tops (omega arith) m.stand m.opens in
    rw m.whole (refl, tile_append 8 (length s - 2) (length s) (stretches_in file.tops) _ inner (omega arith, omega arith))

pub stated_stretches_tile : (buffer : List ℕ) (n : ℕ) (file : File) → file_of buffer n ≡ Ok file → Tile 0 (stretches_of file) n
stated_stretches_tile buffer n file e =
    let a = stated_bytes buffer n file e in
    subst (λ (to : ℕ). Tile 0 (stretches_of file) to) (length-take-le n buffer a.0) (stretches_tile (take n buffer) file a.1)

-- HOW MANY stretches hold a place: one within what they tile, none outside.

abbrev pub how_many : ℕ → List Stretch → ℕ
how_many i stretches = length (keep (holds i) stretches)

held : (i : ℕ) (one : Stretch) (rest : List Stretch) → holds i one ≡ true → how_many i (one ∷ rest) ≡ suc (how_many i rest)
unfolding keep when◌then◌else◌
held i one rest h = rw h

not_held : (i : ℕ) (one : Stretch) (rest : List Stretch) → holds i one ≡ false → how_many i (one ∷ rest) ≡ how_many i rest
unfolding keep when◌then◌else◌
not_held i one rest h = rw h

holds_before : (i : ℕ) (one : Stretch) → i < one.place → holds i one ≡ false
unfolding holds
holds_before i one h = first_false _ _ (lt-leb one.place i h)

holds_past : (i : ℕ) (one : Stretch) → one.place ≤ i → one.place + one.size ≤ i → holds i one ≡ false
unfolding holds
holds_past i one h g = second_false _ _ (le-leb one.place i h) (le-ltb i (one.place + one.size) g)

holds_inside : (i : ℕ) (one : Stretch) → one.place ≤ i → i < one.place + one.size → holds i one ≡ true
unfolding holds
holds_inside i one h g = both_true _ _ (le-leb one.place i h) (lt-ltb i (one.place + one.size) g)

tile_onward : (from to : ℕ) (stretches : List Stretch) → Tile from stretches to → from ≤ to
tile_onward from to [] t = omega arith
tile_onward from to (one ∷ rest) t = let g = tile_onward (from + one.size) to rest t.1 in omega arith

pub none_before : (i from to : ℕ) (stretches : List Stretch) → Tile from stretches to → i < from → how_many i stretches ≡ 0
unfolding keep
none_before i from to [] t h = refl
none_before i from to (one ∷ rest) t h =
    not_held i one rest (holds_before i one (let p = t.0 in omega arith)) ∙ none_before i (from + one.size) to rest t.1 (omega arith)

pub none_past : (i from to : ℕ) (stretches : List Stretch) → Tile from stretches to → to ≤ i → how_many i stretches ≡ 0
unfolding keep
none_past i from to [] t h = refl
none_past i from to (one ∷ rest) t h =
    let p = t.0 in
    let g = tile_onward (from + one.size) to rest t.1 in
    not_held i one rest (holds_past i one (omega arith) (omega arith)) ∙ none_past i (from + one.size) to rest t.1 h

pub one_inside : (i from to : ℕ) (stretches : List Stretch) → Tile from stretches to → from ≤ i → i < to → how_many i stretches ≡ 1
unfolding keep
one_inside i from to [] t h g = absurd (omega arith)
one_inside i from to (one ∷ rest) t h g =
    let p = t.0 in
    by_test (i <? from + one.size)
    (λ in-it.
    let q = ltb-true i (from + one.size) in-it in
    held i one rest (holds_inside i one (omega arith) (omega arith)) ∙ ap suc (none_before i (from + one.size) to rest t.1 q))
    (λ after.
    let q = ltb-false i (from + one.size) after in
    not_held i one rest (holds_past i one (omega arith) (omega arith)) ∙ one_inside i (from + one.size) to rest t.1 q g)

-- THE DEMAND, of a buffer with a stated length
module _ (buffer : List ℕ) (n : ℕ) (file : File) (e : file_of buffer n ≡ Ok file) (i : ℕ) where
  pub one_stretch_holds : i < n → length (keep (holds i) (stretches_of file)) ≡ 1
  one_stretch_holds h = one_inside i 0 n (stretches_of file) (stated_stretches_tile buffer n file e) (omega arith) h

  pub no_stretch_past : n ≤ i → length (keep (holds i) (stretches_of file)) ≡ 0
  no_stretch_past h = none_past i 0 n (stretches_of file) (stated_stretches_tile buffer n file e) h
