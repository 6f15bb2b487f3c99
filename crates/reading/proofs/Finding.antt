-- The track that a row names: the chunks of the top level that are left at a place and the number of their first row, which is the invariant
-- of `find_track`'s loop; and what its answer says of the file, for those who go on with the track.
use Prim.Native.Nat.{ℕ, ◌+◌, ◌-◌, ◌*◌, ◌<◌, ◌≤◌}
use mathlib.Core.Path.{◌≡◌, refl, sym, ◌∙◌, ap, subst}
use mathlib.Core.Bool.{true, false≢true}
use mathlib.Core.List.{List, [], ◌∷◌}
use Rattle.std.specs.Prelude.{Option, None, Some, Ok, Err}
use lib.ListN.{length}
use native.Mathlib.Omega.{arith}
use borrow.Author.Tests.{eq-eqb, ne_eqb}
use Rattle.model.specs.Words.{◌≡?◌, Checked, ◌>>=◌, each}
use Rattle.model.specs.Item.{is_fine, found}
use Rattle.model.specs.Chunk.{Chunk, read_chunk, chunk_step}
use Rattle.model.specs.Track.{Track, voice_of, track_of}
use Rattle.model.specs.File.{File, Top, Top.leaf, Top.readable, opened, top_of, contents_of, parts_of, track_in, track_from, track_at}
use Rattle.model.specs.declared.Refusal.{Refusal}
use Rattle.model.specs.declared.Voice.{Voice}
use Rattle.model.specs.declared.FoundTrack.{FoundTrack}
use Rattle.model.specs.declared.ReadChunk.{ReadChunk}
use Rattle.model.proofs.Outcomes.{bind_fine, fine_some}
use Rattle.model.proofs.Tests.{by_test, if_true, if_false}
use Rattle.model.proofs.Walks.{Stand}
use Rattle.chunks.specs.Kept.{chunks_in}
use Rattle.chunks.proofs.Lists.{ChunkAhead, chunk_ahead}
use Rattle.chunks.proofs.Searches.{none_left, never_cut, first_left}
use Rattle.reading.specs.Stages.{placed, top_rows, top_answer, tops_of, top_at, found_top, found_track}
use Rattle.reading.proofs.TrackMade.{track_made}
use Rattle.reading.proofs.OneTop.{top_closed}
use Rattle.reading.proofs.Accepted.{contents_made, stands_first, each_fine, each_none, OpenedAs, opened_as, fixed_inside, parts_read}

-- A CHUNK of the top level that passed its check

in_voice : (s : List ℕ) (chunk : Chunk) (v : Voice) → voice_of s chunk ≡ Ok (Some v) → top_of s chunk ≡ opened s chunk (Some v)
unfolding top_of ◌>>=◌
in_voice s chunk v e = rw e

opened_track : (s : List ℕ) (chunk : Chunk) (v : Voice) (top : Top) → opened s chunk (Some v) ≡ Ok top
    → (track : Track) × (track_of s v chunk ≡ Ok track) × (◌≡◌ {A = Checked Top} (Ok (readable chunk track)) (Ok top))
unfolding opened
opened_track s chunk v top e = bind_fine _ _ top e

module _ (s : List ℕ) (place size : ℕ) (ok : is_fine (top_of s (placed s place size)) ≡ true) (r : Checked (Option Voice))
    (is : r ≡ voice_of s (placed s place size)) where
  never_refused : (why : Refusal) → r ≡ Err why → ⊥
  unfolding top_of is_fine ◌>>=◌
  never_refused why e =
      false≢true (sym (ap (λ (c : Checked (Option Voice)). is_fine (c >>= λ voice. opened s (placed s place size) voice)) (sym is ∙ e)) ∙ ok)

  a_leaf : r ≡ Ok None → top_of s (placed s place size) ≡ Ok (leaf (placed s place size))
  unfolding top_of opened ◌>>=◌
  a_leaf e = rw (sym is ∙ e)

  a_track : (v : Voice) → r ≡ Ok (Some v)
      → (track : Track) × (track_of s v (placed s place size) ≡ Ok track) × (top_of s (placed s place size) ≡ Ok (readable (placed s place size) track))
  a_track v e =
      let f = fine_some (top_of s (placed s place size)) ok in
      let t = opened_track s (placed s place size) v f.0 (sym (in_voice s (placed s place size) v (sym is ∙ e)) ∙ f.1) in
      (t.0, t.1, f.1 ∙ sym t.2)

  -- how many rows it brings

  pub rows_refused : (why : Refusal) → r ≡ Err why → Ok 1 ≡ top_answer (top_of s (placed s place size))
  rows_refused why e = absurd (never_refused why e)

  pub rows_closed : (f : Option Voice) → r ≡ Ok f → f ≡ None → Ok 1 ≡ top_answer (top_of s (placed s place size))
  rows_closed f e h = top_closed s place size r is f e h

  module _ (f : Option Voice) (v : Voice) (said : r ≡ Ok f) (o : f ≡ Some v) where
    e : r ≡ Ok (Some v)
    e = said ∙ ap (λ (x : Option Voice). Ok x) o

    pub rows_from : place + 8 + 6 ≤ place + 8 + size
    rows_from = let t = a_track v e in let h = fixed_inside s v (placed s place size) t.0 t.1 in omega arith

    parts_are : chunks_in s (place + 8 + 6) (place + 8 + size) ≡ Ok (a_track v e).0.parts
    parts_are = let t = a_track v e in parts_read s v (placed s place size) t.0 t.1

    pub rows_fine : is_fine (chunks_in s (place + 8 + 6) (place + 8 + size)) ≡ true
    unfolding is_fine
    rows_fine = ap is_fine parts_are

    pub rows_opened : (n : ℕ) → n ≡ length (found (chunks_in s (place + 8 + 6) (place + 8 + size)))
        → Ok (1 + n) ≡ top_answer (top_of s (placed s place size))
    unfolding top_answer top_rows parts_of found
    rows_opened n h =
        ap (λ (k : ℕ). (Ok (1 + k))) (h ∙ ap (λ (c : Checked (List Chunk)). length (found c)) parts_are) ∙ sym (ap top_answer (a_track v e).2)

  -- the track that it is

  pub track_refused : (why : Refusal) → r ≡ Err why → None ≡ found_track (found_top (top_of s (placed s place size)))
  track_refused why e = absurd (never_refused why e)

  pub track_closed : (f : Option Voice) → r ≡ Ok f → f ≡ None → None ≡ found_track (found_top (top_of s (placed s place size)))
  unfolding found_track found_top
  track_closed f e h = sym (ap (λ (c : Checked Top). found_track (found_top c)) (a_leaf (e ∙ ap (λ (x : Option Voice). Ok x) h)))

  pub track_opened : (f : Option Voice) (v : Voice) → r ≡ Ok f → f ≡ Some v → Some (record { voice = v; place = place; size = size }) ≡ found_track (found_top (top_of s (placed s place size)))
  unfolding found_track found_top
  track_opened f v e h =
      let t = a_track v (e ∙ ap (λ (x : Option Voice). Ok x) h) in
      sym (ap (λ (w : Voice). (Some (record { voice = w; place = place; size = size }))) (track_made s v (placed s place size) t.0 t.1).voiced)
      ∙ sym (ap (λ (c : Checked Top). found_track (found_top c)) t.2)

pub ruleset row_counts = (rows_refused, rows_closed, rows_opened)

pub ruleset top_tracks = (track_refused, track_closed, track_opened)

-- THE WALK

top_hit : (row k : ℕ) (top : Top) (tops : List Top) → k ≡ row → Some top ≡ top_at row k (top ∷ tops)
unfolding top_at
top_hit row k top tops h = sym (if_true (row ≡? k) _ _ (eq-eqb row k (sym h)))

top_miss : (row k : ℕ) (top : Top) (tops : List Top) → (k ≡ row → ⊥) → top_at row (k + top_rows top) tops ≡ top_at row k (top ∷ tops)
unfolding top_at
top_miss row k top tops h = sym (if_false (row ≡? k) _ _ (ne_eqb row k (λ q. h (sym q))))

pub record Finding (s : List ℕ) (row end k at : ℕ) : Type 0 where
  pub rest : List Chunk
  pub tops : List Top
  pub stand : Stand end (chunk_step s end) at rest
  pub opens : each (top_of s) rest ≡ Ok tops
  pub within : at ≤ end
  pub inside : end ≤ length s
  pub small : length s ≤ 65536
  pub few : k ≤ 1 + 65537 * at
  pub same : top_at row k tops ≡ top_at row 1 (tops_of (contents_of s))

module _ (s : List ℕ) (row : ℕ) (ok : is_fine (contents_of s) ≡ true) where
  pub find_long : 2 ≤ length s
  find_long =
      let f = fine_some (contents_of s) ok in
      let long = (contents_made s f.0 f.1).long in
      omega arith

  pub find_starts : (end : ℕ) → end ≡ length s - 2 → length s ≤ 65536 → Finding s row end 1 8
  unfolding tops_of
  find_starts end e small =
      let f = fine_some (contents_of s) ok in
      let m = contents_made s f.0 f.1 in
      let long = m.long in
      record {
        rest = m.chunks;
        tops = f.0.tops;
        stand = subst (λ (n : ℕ). Stand n (chunk_step s n) 8 m.chunks) (sym e) m.stand;
        opens = m.opens;
        within = omega arith;
        inside = omega arith;
        small = small;
        few = omega arith;
        same = sym (ap (λ (c : Checked File). top_at row 1 (tops_of c)) f.1);
      }

module _ (s : List ℕ) (row end k at : ℕ) (w : Finding s row end k at) where
  pub find_ends : end ≤ at → None ≡ found_track (top_at row 1 (tops_of (contents_of s)))
  unfolding found_track top_at
  find_ends past =
      let over = none_left s end at w.within w.rest w.stand past in
      let none_there = each_none (top_of s) w.tops (subst (λ (chunks : List Chunk). each (top_of s) chunks ≡ Ok w.tops) over w.opens) in
      ap found_track (sym (ap (top_at row k) none_there) ∙ w.same)

  module _ (r : Option ReadChunk) (here : at < end) (is : r ≡ read_chunk s end at) where
    pub find_never : r ≡ None → None ≡ found_track (top_at row 1 (tops_of (contents_of s)))
    find_never e = absurd (never_cut s end at w.within r is w.rest here w.stand e)

    module _ (read : ReadChunk) (e : r ≡ Some read) where
      ahead : ChunkAhead s end at (Some read)
      ahead = subst (ChunkAhead s end at) (sym is ∙ e) (chunk_ahead s end at w.within)

      pub find_there : at + 8 + read.size ≤ length s
      find_there = let a = ahead in omega (arith, w.inside)

      pub find_nears : end - read.next < end - at
      find_nears = let a = ahead in omega arith

      -- the chunk at the place is the first of those that are left
      first_top : (rest : List Chunk) × (top : Top) × (tops : List Top) × Stand end (chunk_step s end) read.next rest × (each (top_of s) rest ≡ Ok tops)
          × (top_of s (placed s at read.size) ≡ Ok top) × (top_at row k (top ∷ tops) ≡ top_at row 1 (tops_of (contents_of s)))
      first_top =
          let l = first_left s end at w.within r is w.rest read here w.stand e in
          let o = each_fine (top_of s) (record { id = read.id; place = at; size = read.size }) l.0 w.tops
          (subst (λ (chunks : List Chunk). each (top_of s) chunks ≡ Ok w.tops) l.1 w.opens) in (
            l.0,
            o.0,
            o.1,
            l.2,
            o.3,
            ap (λ (n : ℕ). top_of s (record { id = n; place = at; size = read.size })) (sym ahead.0) ∙ o.2,
            ap (top_at row k) (sym o.4) ∙ w.same,
          )

      pub find_fine : is_fine (top_of s (placed s at read.size)) ≡ true
      unfolding is_fine
      find_fine = ap is_fine first_top.5

      pub find_hits : (answer : Option FoundTrack) → k ≡ row → answer ≡ found_track (found_top (top_of s (placed s at read.size)))
          → answer ≡ found_track (top_at row 1 (tops_of (contents_of s)))
      unfolding found_top
      find_hits answer h a =
          let f = first_top in
          a ∙ ap (λ (c : Checked Top). found_track (found_top c)) f.5 ∙ ap found_track (top_hit row k f.1 f.2 h ∙ f.6)

      module _ (count : ℕ) (c : (Ok count) ≡ top_answer (top_of s (placed s at read.size))) (low : count ≤ 65537) where
        pub find_misses : (k ≡ row → ⊥) → Finding s row end (k + count) read.next
        unfolding top_answer
        find_misses h =
            let a = ahead in
            let f = first_top in
            let q = c ∙ ap top_answer f.5 in
            let n : count ≡ top_rows f.1 = cc in
            record {
              rest = f.0;
              tops = f.2;
              stand = f.3;
              opens = f.4;
              within = a.2;
              inside = w.inside;
              small = w.small;
              few = omega (arith, w.few);
              same = ap (λ (m : ℕ). top_at row (k + m) f.2) n ∙ top_miss row k f.1 f.2 h ∙ f.6;
            }

pub ruleset finding = (find_long, find_starts, find_ends, find_never, find_there, find_nears, find_fine, find_hits, find_misses)

-- WHAT THE ANSWER SAYS of the file

unfoldable track_found : Option Top → Option Track
track_found None = None
track_found (Some top) = track_in top

track_of_top : (row k : ℕ) (tops : List Top) → track_from row k tops ≡ track_found (top_at row k tops)
unfolding track_from top_at track_found top_rows
track_of_top row k [] = refl
track_of_top row k (top ∷ tops) =
    by_test (row ≡? k)
    (λ hit. if_true (row ≡? k) _ _ hit ∙ sym (ap track_found (if_true (row ≡? k) _ _ hit)))
    (λ miss.
    let on : k + 1 + length (parts_of top) ≡ k + top_rows top = omega arith in
    if_false (row ≡? k) _ _ miss ∙ ap (λ (n : ℕ). track_from row n tops) on ∙ track_of_top row (k + top_rows top) tops
    ∙ sym (ap track_found (if_false (row ≡? k) _ _ miss)))

-- a chunk that a row names stands in the file, and became what it is there
top_stands : (s : List ℕ) (row end k at : ℕ) (chunks : List Chunk) (tops : List Top) (top : Top) → at ≤ end → Stand end (chunk_step s end) at chunks
    → each (top_of s) chunks ≡ Ok tops → top_at row k tops ≡ Some top
    → (place : ℕ) × (size : ℕ) × OpenedAs s (placed s place size) top × (place + 8 + size ≤ end)
unfolding top_at
top_stands s row end k at [] tops top within st e h =
    let empty = ap (top_at row k) (sym (each_none (top_of s) tops e)) ∙ h in
    let z : ◌≡◌ {A = ℕ} 0 1 = cc in
    absurd (omega arith)
top_stands s row end k at (chunk ∷ chunks) tops top within st e h =
    let f = stands_first s end at chunk st.0 within st.1 in
    let o = each_fine (top_of s) chunk chunks tops e in
    let asked : top_at row k (o.0 ∷ o.1) ≡ Some top = ap (top_at row k) (sym o.4) ∙ h in
    by_test (row ≡? k)
    (λ hit.
    let both = sym (if_true (row ≡? k) _ _ hit) ∙ asked in
    let same : o.0 ≡ top = cc in (
      at,
      chunk.size,
      subst (λ (c : Chunk). OpenedAs s c top) f.3 (subst (OpenedAs s chunk) same (opened_as s chunk o.0 o.2)),
      omega arith,
    ))
    (λ miss.
    top_stands s row end (k + top_rows o.0) st.0 chunks o.1 top f.2 st.2 o.3 (sym (if_false (row ≡? k) _ _ miss) ∙ asked))

same_track : (s : List ℕ) (one : FoundTrack) (w : Voice) (p n : ℕ) (chunk : Chunk) (track : Track)
    → Some one ≡ Some (record { voice = track.voice; place = chunk.place; size = chunk.size }) → chunk ≡ placed s p n → track_of s w (placed s p n) ≡ Ok track
    → (track_of s one.voice (placed s one.place one.size) ≡ Ok track) × (one.place ≡ p) × (one.size ≡ n)
same_track s one w p n chunk track both there e =
    let same : ◌≡◌ {A = FoundTrack} one (record { voice = track.voice; place = chunk.place; size = chunk.size }) = cc in
    let voices : one.voice ≡ w = ap (λ (f : FoundTrack). f.voice) same ∙ (track_made s w (placed s p n) track e).voiced in
    let places : one.place ≡ p = ap (λ (f : FoundTrack). f.place) same ∙ ap (λ (c : Chunk). c.place) there in
    let sizes : one.size ≡ n = ap (λ (f : FoundTrack). f.size) same ∙ ap (λ (c : Chunk). c.size) there in
    (rw (voices, places, sizes) e, places, sizes)

module _ (s : List ℕ) (row : ℕ) (file : File) (e : contents_of s ≡ Ok file) (r : Option FoundTrack) (is : r ≡ found_track (top_at row 1 (tops_of (contents_of s)))) where
  in_file : r ≡ found_track (top_at row 1 file.tops)
  unfolding tops_of
  in_file = is ∙ ap (λ (c : Checked File). found_track (top_at row 1 (tops_of c))) e

  track_is : (found : Option Top) → top_at row 1 file.tops ≡ found → track_at file row ≡ track_found found
  unfolding track_at
  track_is found q = track_of_top row 1 file.tops ∙ ap track_found q

  pub found_nowhere : r ≡ None → track_at file row ≡ None
  unfolding found_track track_found track_in
  found_nowhere h = go (top_at row 1 file.tops) refl
    where
      go : (found : Option Top) → top_at row 1 file.tops ≡ found → track_at file row ≡ None
      go None q = track_is None q
      go (Some (leaf chunk)) q = track_is (Some (leaf chunk)) q
      go (Some (readable chunk track)) q =
          let both = sym h ∙ in_file ∙ ap found_track q in
          let z : ◌≡◌ {A = ℕ} 0 1 = cc in
          absurd (omega arith)

  pub found_at : (one : FoundTrack) → r ≡ Some one
      → (track : Track) × (track_at file row ≡ Some track) × (track_of s one.voice (placed s one.place one.size) ≡ Ok track) × (one.place + 8 + one.size ≤ length s)
  unfolding found_track track_found track_in
  found_at one h = go (top_at row 1 file.tops) refl
    where
      go : (found : Option Top) → top_at row 1 file.tops ≡ found
          → (track : Track) × (track_at file row ≡ Some track) × (track_of s one.voice (placed s one.place one.size) ≡ Ok track) × (one.place + 8 + one.size ≤ length s)
      go None q = let both = sym h ∙ in_file ∙ ap found_track q in let z : ◌≡◌ {A = ℕ} 0 1 = cc in absurd (omega arith)
      go (Some (leaf chunk)) q = let both = sym h ∙ in_file ∙ ap found_track q in let z : ◌≡◌ {A = ℕ} 0 1 = cc in absurd (omega arith)
      go (Some (readable chunk track)) q =
          let m = contents_made s file e in
          let long = m.long in
          let t = top_stands s row (length s - 2) 1 8 m.chunks file.tops (readable chunk track) (omega arith) m.stand m.opens q in
          let same = same_track s one t.2.1 t.0 t.1 chunk track (sym h ∙ in_file ∙ ap found_track q) t.2.0 t.2.3 in
          let before = t.3 in
          (track, track_is _ q, same.0, omega (arith, same.1, same.2))
