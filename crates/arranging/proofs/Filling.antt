-- Tracks that can be written, stored one after the other: the invariant of `write_tracks`'s loop, that what is still to be stored makes the whole, and what each turn
-- and the end make of it.
use Prim.Native.Nat.{ℕ, suc, ◌+◌, ◌<◌, ◌≤◌, min}
use mathlib.Core.Bool.{true}
use mathlib.Core.List.{List, [], ◌∷◌, ◌++◌}
use mathlib.Core.Path.{◌≡◌, refl, sym, ◌∙◌, ap}
use lib.ListN.{length, length-append}
use lib.Seq.{sets}
use native.Mathlib.Nat.{add-zero}
use native.Mathlib.Omega.{arith}
use Rattle.model.specs.Words.{Checked}
use Rattle.std.specs.Prelude.{Ok}
use Rattle.model.specs.Item.{is_fine}
use Rattle.model.specs.Arrangement.{ScoreTrack, tracks_bytes}
use Rattle.model.specs.Tables.{Given, given_in, track_given, tracks_from}
use Rattle.model.proofs.Outcomes.{bind_fine, fine_some}
use Rattle.model.proofs.Stores.{sets_append}
use Rattle.writing.proofs.Listed.{told_fine}
use Rattle.arranging.specs.declared.tables.Stretches.{Stretches}
use Rattle.arranging.specs.Apart.{given_at, Apart}
use Rattle.arranging.specs.Stages.{track_given_bytes, tracks_given_bytes}
use Rattle.arranging.proofs.Clipping.{clip_next, clip_to}
use Rattle.arranging.proofs.Tracks.{Left, left_starts, left_numbers, left_bytes, left_next, left_over}

pub record Filling (numbers bytes : List ℕ) (count start : ℕ) (l out : List ℕ) (p q at i : ℕ) : Type 0 where
  pub left : List Given
  pub from : Left numbers bytes p q left
  pub many : i + length left ≡ count
  pub rest : List ScoreTrack
  pub are : tracks_from i left ≡ Ok rest
  pub size : at + length (tracks_bytes rest) ≡ start + length (tracks_given_bytes (tracks_from 0 (given_in numbers bytes)))
  pub room : at + length (tracks_bytes rest) ≤ length out
  pub few : length (tracks_bytes rest) ≤ 65536
  pub same : length out ≡ length l
  pub whole : sets out at (tracks_bytes rest) ≡ sets l start (tracks_given_bytes (tracks_from 0 (given_in numbers bytes)))

module _ (numbers bytes : List ℕ) (count start : ℕ) (l : List ℕ) where
  pub fill_starts : (q : ℕ) → count ≡ length (given_in numbers bytes) → q ≡ min (0 + 5) (length bytes)
      → is_fine (tracks_from 0 (given_in numbers bytes)) ≡ true → start + length (tracks_given_bytes (tracks_from 0 (given_in numbers bytes))) ≤ length l
      → length (tracks_given_bytes (tracks_from 0 (given_in numbers bytes))) ≤ 65536 → Filling numbers bytes count start l l 0 q start 0
  unfolding tracks_given_bytes
  fill_starts q counted e h room few =
      let these = fine_some (tracks_from 0 (given_in numbers bytes)) h in
      let is : tracks_bytes these.0 ≡ tracks_given_bytes (tracks_from 0 (given_in numbers bytes)) = sym (ap tracks_given_bytes these.1) in
      record {
        left = given_in numbers bytes;
        from = left_starts numbers bytes q (clip_next bytes 0 5 q (omega arith) e) (clip_to bytes 0 5 q (omega arith) e);
        many = omega (arith, counted);
        rest = these.0;
        are = these.1;
        size = ap (λ (b : List ℕ). start + length b) is;
        room = rw is room;
        few = rw is few;
        same = refl;
        whole = ap (sets l start) is;
      }

  module _ (out : List ℕ) (p q at i : ℕ) (r : Filling numbers bytes count start l out p q at i) where
    module _ (past : count ≤ i) where
      none : r.rest ≡ []
      unfolding tracks_from
      none =
          let over = left_over numbers bytes p q r.left r.from (omega (arith, r.many)) in
          let e = ap (tracks_from i) (sym over) ∙ r.are in
          let q : [] ≡ r.rest = cc in
          sym q

      pub filled_size : at ≡ start + length (tracks_given_bytes (tracks_from 0 (given_in numbers bytes)))
      unfolding tracks_bytes
      filled_size = sym (add-zero at) ∙ rw none at r.size

      pub filled : out ≡ sets l start (tracks_given_bytes (tracks_from 0 (given_in numbers bytes)))
      unfolding tracks_bytes
      filled = rw none at r.whole

    module _ (here : i < count) where
      some : 0 < length r.left
      some = omega (arith, r.many)

      pub fill_numbers : p + 4 ≤ length numbers
      fill_numbers = left_numbers numbers bytes p q r.left r.from some

      pub fill_bytes : q + 7 ≤ length bytes
      fill_bytes = left_bytes numbers bytes p q r.left r.from some

      module _ (parts : Stretches) (found : Apart numbers bytes p q parts) where
        next : (more : List Given) × (r.left ≡ given_at numbers bytes p q ∷ more) × Left numbers bytes parts.numbers parts.bytes more
        next = left_next numbers bytes p q r.left r.from (omega (arith, fill_numbers)) (omega (arith, fill_bytes)) parts found

        abbrev one : Checked ScoreTrack
        one = track_given (given_at numbers bytes p q)

        first : (track : ScoreTrack) × (tracks : List ScoreTrack) × (one ≡ Ok track) × (tracks_from (i + 1) next.0 ≡ Ok tracks) × (r.rest ≡ track ∷ tracks)
        unfolding tracks_from
        first =
            let a = bind_fine _ _ r.rest (ap (tracks_from i) (sym next.1) ∙ r.are) in
            let b = bind_fine _ _ r.rest a.2 in
            let same : a.0 ∷ b.0 ≡ r.rest = let q = b.2 in cc in
            (a.0, b.0, told_fine i one a.0 a.1, b.1, sym same)

        pub fill_there : is_fine (track_given (given_at numbers bytes p q)) ≡ true
        unfolding is_fine
        fill_there = ap is_fine first.2

        split : tracks_bytes r.rest ≡ track_given_bytes one ++ tracks_bytes first.1
        unfolding tracks_bytes track_given_bytes
        split = ap tracks_bytes first.4 ∙ ap (λ (o : Checked ScoreTrack). track_given_bytes o ++ tracks_bytes first.1) (sym first.2)

        both : length (tracks_bytes r.rest) ≡ length (track_given_bytes one) + length (tracks_bytes first.1)
        both = ap length split ∙ length-append (track_given_bytes one) (tracks_bytes first.1)

        pub fill_room : at + length (track_given_bytes (track_given (given_at numbers bytes p q))) ≤ length out
        fill_room = omega (arith, r.room, both)

        pub fill_few : length (track_given_bytes (track_given (given_at numbers bytes p q))) ≤ 65536
        fill_few = omega (arith, r.few, both)

        pub fill_more : (m : List ℕ) (further : ℕ) → further ≡ at + length (track_given_bytes (track_given (given_at numbers bytes p q)))
            → m ≡ sets out at (track_given_bytes (track_given (given_at numbers bytes p q))) → length m ≡ length out
            → Filling numbers bytes count start l m parts.numbers parts.bytes further (i + 1)
        fill_more m further n e k =
            let track = track_given_bytes one in
            let more = tracks_bytes first.1 in
            let stored : sets m further more ≡ sets out at (tracks_bytes r.rest) = rw (e, n, split) (sets_append out at track more) in
            let fewer : length r.left ≡ suc (length next.0) = ap length next.1 in
            record {
              left = next.0;
              from = next.2;
              many = omega (arith, r.many, fewer);
              rest = first.1;
              are = first.3;
              size = omega (arith, r.size, both);
              room = omega (arith, r.room, both);
              few = omega (arith, r.few, both);
              same = k ∙ r.same;
              whole = stored ∙ r.whole;
            }

pub ruleset fills = (fill_starts, filled_size, filled, fill_numbers, fill_bytes, fill_there, fill_room, fill_few, fill_more)
