-- The walk to the first readable track: the chunks that are left at a place and the number of their first row, which is the invariant of
-- `first_track`'s loop; and what its answer says of the file.
use Prim.Native.Nat.{ℕ, ◌+◌, ◌-◌, ◌<◌, ◌≤◌}
use mathlib.Core.Bool.{true}
use mathlib.Core.List.{List, ◌∷◌}
use mathlib.Core.Path.{◌≡◌, refl, sym, ◌∙◌, ap, subst}
use mir.Val.{Fits}
use mir.Syntax.{w64}
use lib.ListN.{length}
use native.Mathlib.Omega.{arith}
use borrow.Author.Tests.{le-ltb, lt-leb}
use Rattle.model.specs.Words.{Checked, each}
use Rattle.std.specs.Prelude.{Ok, Option, Some, None}
use Rattle.model.specs.Item.{is_fine}
use Rattle.model.specs.TimeBase.{milliseconds}
use Rattle.model.specs.Chunk.{Chunk, read_chunk, chunk_step}
use Rattle.model.specs.Track.{voice_of}
use Rattle.model.specs.File.{File, Top, Top.leaf, Top.readable, top_of, contents_of}
use Rattle.model.specs.declared.ReadChunk.{ReadChunk}
use Rattle.model.specs.declared.TopChunk.{TopChunk}
use Rattle.model.specs.declared.TopChunk.TheVariants.{Track, Leaf}
use Rattle.model.proofs.Outcomes.{fine_some}
use Rattle.model.proofs.Tests.{if_false}
use Rattle.model.proofs.Walks.{Stand}
use Rattle.chunks.proofs.Lists.{ChunkAhead, chunk_ahead}
use Rattle.chunks.proofs.Searches.{none_left, never_cut, first_left}
use Rattle.reading.specs.Stages.{placed, tops_of}
use Rattle.reading.proofs.TrackMade.{track_made}
use Rattle.reading.proofs.Accepted.{contents_made, each_fine, each_none, OpenedAs, opened_as, fixed_inside}
use Rattle.lines.specs.Tops.{voiced_top, chunk_top, top_met, first_of}

pub record Nearing (s : List ℕ) (end k at : ℕ) : Type 0 where
  pub rest : List Chunk
  pub tops : List Top
  pub stand : Stand end (chunk_step s end) at rest
  pub opens : each (top_of s) rest ≡ Ok tops
  pub within : at ≤ end
  pub last : end ≡ length s - 2
  pub long : 10 ≤ length s
  pub small : length s ≤ 65536
  pub few : k ≤ at
  pub same : first_of k tops ≡ first_of 1 (tops_of (contents_of s))

module _ (s : List ℕ) (ok : is_fine (contents_of s) ≡ true) where
  pub near_long : 2 ≤ length s
  near_long =
      let f = fine_some (contents_of s) ok in
      let long = (contents_made s f.0 f.1).long in
      omega arith

  pub near_starts : (end : ℕ) → end ≡ length s - 2 → length s ≤ 65536 → Nearing s end 1 8
  unfolding tops_of
  near_starts end e small =
      let f = fine_some (contents_of s) ok in
      let m = contents_made s f.0 f.1 in
      let long = m.long in
      record {
        rest = m.chunks;
        tops = f.0.tops;
        stand = subst (λ (n : ℕ). Stand n (chunk_step s n) 8 m.chunks) (sym e) m.stand;
        opens = m.opens;
        within = omega arith;
        last = e;
        long = long;
        small = small;
        few = omega arith;
        same = sym (ap (λ (c : Checked File). first_of 1 (tops_of c)) f.1);
      }

module _ (s : List ℕ) (end k at : ℕ) (w : Nearing s end k at) where
  pub near_ends : end ≤ at → None ≡ first_of 1 (tops_of (contents_of s))
  unfolding first_of
  near_ends past =
      let over = none_left s end at w.within w.rest w.stand past in
      let none_there = each_none (top_of s) w.tops (subst (λ (chunks : List Chunk). each (top_of s) chunks ≡ Ok w.tops) over w.opens) in
      sym (ap (first_of k) none_there) ∙ w.same

  -- what the head meets at the place
  abbrev Meets : Option TopChunk → Type 0
  Meets (Some (Track ms)) = Some (record { row = k; milliseconds = ms }) ≡ first_of 1 (tops_of (contents_of s))
  Meets (Some (Leaf next)) = Nearing s end (k + 1) next × (end - next < end - at)
  Meets None = ⊥

  module _ (here : at < end) where
    met_chunk : top_met s at ≡ chunk_top s at (read_chunk s end at)
    unfolding top_met
    met_chunk =
        if_false _ _ _ (le-ltb 65536 (length s) w.small)
        ∙ if_false _ _ _ (le-ltb (length s) 10 w.long)
        ∙ if_false _ _ _ (lt-leb (length s - 2) at (omega (arith, w.last)))
        ∙ ap (λ (n : ℕ). chunk_top s at (read_chunk s n at)) (sym w.last)

    module _ (read : ReadChunk) (is : read_chunk s end at ≡ Some read) where
      ahead : ChunkAhead s end at (Some read)
      ahead = subst (ChunkAhead s end at) is (chunk_ahead s end at w.within)

      meets_top : (one : Top) (rest : List Chunk) (tops : List Top) → Stand end (chunk_step s end) read.next rest → each (top_of s) rest ≡ Ok tops
          → OpenedAs s (placed s at read.size) one → first_of k (one ∷ tops) ≡ first_of 1 (tops_of (contents_of s))
          → Meets (voiced_top s at read.size read.next (voice_of s (placed s at read.size)))
      unfolding first_of voiced_top
      meets_top (leaf found) rest tops stand opens opened same =
          let a = ahead in
          subst (λ v. Meets (voiced_top s at read.size read.next v)) (sym opened.1) (
            record {
              rest = rest;
              tops = tops;
              stand = stand;
              opens = opens;
              within = a.2;
              last = w.last;
              long = w.long;
              small = w.small;
              few = omega (arith, w.few);
              same = same;
            },
            omega arith,
          )
      meets_top (readable found track) rest tops stand opens opened same =
          let voice = opened.1 in
          let made = track_made s voice (placed s at read.size) track opened.3 in
          let room = fixed_inside s voice (placed s at read.size) track opened.3 in
          subst (λ v. Meets (voiced_top s at read.size read.next v)) (sym opened.2)
          (subst Meets (sym (if_false _ _ _ (le-ltb read.size 6 room))) (ap (λ (code : ℕ). (Some (record { row = k; milliseconds = milliseconds code }))) (sym made.based) ∙ same))

      meets_chunk : Meets (voiced_top s at read.size read.next (voice_of s (placed s at read.size)))
      meets_chunk =
          let l = first_left s end at w.within (read_chunk s end at) refl w.rest read here w.stand is in
          let o = each_fine (top_of s) (record { id = read.id; place = at; size = read.size }) l.0 w.tops
          (subst (λ (chunks : List Chunk). each (top_of s) chunks ≡ Ok w.tops) l.1 w.opens) in
          meets_top o.0 l.0 o.1 l.2 o.3
          (opened_as s (placed s at read.size) o.0 (ap (λ (n : ℕ). top_of s (record { id = n; place = at; size = read.size })) (sym ahead.0) ∙ o.2))
          (ap (first_of k) (sym o.4) ∙ w.same)

    meets : Meets (top_met s at)
    unfolding chunk_top
    meets = subst Meets (sym met_chunk) (go (read_chunk s end at) refl)
      where
        go : (c : Option ReadChunk) → read_chunk s end at ≡ c → Meets (chunk_top s at c)
        go (Some read) is = meets_chunk read is
        go None is = absurd (never_cut s end at w.within (read_chunk s end at) refl w.rest here w.stand is)

    module _ (r : Option TopChunk) (is : r ≡ top_met s at) where
      pub near_cut : r ≡ None → None ≡ first_of 1 (tops_of (contents_of s))
      near_cut e = absurd (subst Meets (sym is ∙ e) meets)

      module _ (top : TopChunk) (e : r ≡ Some top) where
        pub near_track : (ms : ℕ) → top ≡ Track ms → Some (record { row = k; milliseconds = ms }) ≡ first_of 1 (tops_of (contents_of s))
        near_track ms t = subst Meets (sym is ∙ e ∙ ap (λ (x : TopChunk). Some x) t) meets

        module _ (next : ℕ) (t : top ≡ Leaf next) where
          leaf_met : Nearing s end (k + 1) next × (end - next < end - at)
          leaf_met = subst Meets (sym is ∙ e ∙ ap (λ (x : TopChunk). Some x) t) meets

          pub near_next : Nearing s end (k + 1) next
          near_next = leaf_met.0

          pub near_nears : end - next < end - at
          near_nears = leaf_met.1

    pub near_fits : Fits w64 (k + 1)
    near_fits = record { fits = omega (arith, w.few, w.within, w.last, w.small) }

pub ruleset nearing = (near_long, near_starts, near_ends, near_track, near_cut, near_next, near_nears, near_fits)
