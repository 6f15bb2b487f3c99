-- All tracks checked, and counted: the invariant of `check_tracks`'s loop, and what each way out of it and each turn makes of it.
use Prim.Native.Nat.{ℕ, suc, ◌+◌, ◌<◌, ◌≤◌, min}
use mathlib.Core.List.{List, ◌∷◌, ◌++◌}
use mathlib.Core.Path.{◌≡◌, refl, sym, ◌∙◌, ap}
use lib.ListN.{length, length-append}
use native.Mathlib.Nat.{add-zero, zero-add}
use native.Mathlib.Omega.{arith}
use Rattle.model.specs.Words.{Checked, ◌>>=◌, told_at}
use Rattle.std.specs.Prelude.{Ok, Err}
use Rattle.model.specs.declared.Refusal.{Refusal}
use Rattle.model.specs.Arrangement.{ScoreTrack, track_bytes, tracks_bytes}
use Rattle.model.specs.Tables.{Given, given_in, track_given, tracks_from}
use Rattle.writing.specs.Parts.{limited}
use Rattle.writing.proofs.Limits.{limited_small, limited_most, limited_adds}
use Rattle.arranging.specs.declared.tables.Stretches.{Stretches}
use Rattle.arranging.specs.Apart.{given_at, Apart}
use Rattle.arranging.specs.Stages.{track_answer, tracks_answer}
use Rattle.arranging.proofs.Clipping.{clip_next, clip_to}
use Rattle.arranging.proofs.Tracks.{Left, left_starts, left_numbers, left_bytes, left_next, left_over}

-- the answer where so many bytes stand before what is left
unfoldable pub onto : ℕ → Checked (List ScoreTrack) → Checked ℕ
onto size (Ok tracks) = Ok (limited (size + length (tracks_bytes tracks)))
onto size (Err why) = Err why

onto_none : (o : Checked (List ScoreTrack)) → onto 0 o ≡ tracks_answer o
unfolding onto tracks_answer
onto_none (Ok tracks) = simp zero-add
onto_none (Err why) = refl

-- a track, and those behind it
unfoldable pub ahead : Checked ScoreTrack → Checked (List ScoreTrack) → Checked (List ScoreTrack)
ahead one more = do
  track ← one
  tracks ← more
  Ok (track ∷ tracks)

onto_faulty : (size : ℕ) (why : Refusal) (one : Checked ScoreTrack) (more : Checked (List ScoreTrack)) → track_answer one ≡ Err why
    → onto size (ahead one more) ≡ Err why
unfolding onto ahead ◌>>=◌ track_answer
onto_faulty size why (Ok track) more e = let z : ◌≡◌ {A = ℕ} 0 1 = cc in absurd (omega arith)
onto_faulty size why (Err told) more e = e

onto_track : (size long : ℕ) (one : Checked ScoreTrack) (more : Checked (List ScoreTrack)) → track_answer one ≡ Ok long
    → onto size (ahead one more) ≡ onto (limited (size + long)) more
unfolding onto ahead ◌>>=◌ track_answer tracks_bytes
onto_track size long (Ok track) (Ok tracks) e =
    let bytes = track_bytes track in
    let rest = tracks_bytes tracks in
    let is : limited (length bytes) ≡ long = cc in
    let sum : size + length (bytes ++ rest) ≡ length bytes + (size + length rest) = omega (arith, length-append bytes rest) in
    let back : limited (length bytes) + (size + length rest) ≡ size + long + length rest = omega (arith, is) in
    ap (λ (n : ℕ). Ok n)
    (ap limited sum
    ∙ sym (limited_adds (length bytes) (size + length rest))
    ∙ ap limited back
    ∙ sym (limited_adds (size + long) (length rest)))
onto_track size long (Ok track) (Err why) e = refl
onto_track size long (Err why) more e = let z : ◌≡◌ {A = ℕ} 0 1 = cc in absurd (omega arith)

pub record Checking (numbers bytes : List ℕ) (count p q size i : ℕ) : Type 0 where
  pub few : size ≤ 65537
  pub left : List Given
  pub from : Left numbers bytes p q left
  pub many : i + length left ≡ count
  pub same : onto size (tracks_from i left) ≡ tracks_answer (tracks_from 0 (given_in numbers bytes))

module _ (numbers bytes : List ℕ) (count : ℕ) where
  pub check_starts : (q : ℕ) → count ≡ length (given_in numbers bytes) → q ≡ min (0 + 5) (length bytes) → Checking numbers bytes count 0 q 0 0
  check_starts q counted e =
      record {
        few = omega arith;
        left = given_in numbers bytes;
        from = left_starts numbers bytes q (clip_next bytes 0 5 q (omega arith) e) (clip_to bytes 0 5 q (omega arith) e);
        many = omega (arith, counted);
        same = onto_none _;
      }

  module _ (p q size i : ℕ) (r : Checking numbers bytes count p q size i) where
    pub check_done : count ≤ i → Ok size ≡ tracks_answer (tracks_from 0 (given_in numbers bytes))
    unfolding onto tracks_from tracks_bytes
    check_done h =
        let none = left_over numbers bytes p q r.left r.from (omega (arith, r.many)) in
        let all : limited (size + 0) ≡ size = ap limited (add-zero size) ∙ limited_small size r.few in
        ap (λ (n : ℕ). Ok n) (sym all) ∙ ap (λ (l : List Given). onto size (tracks_from i l)) (sym none) ∙ r.same

    module _ (here : i < count) where
      some : 0 < length r.left
      some = omega (arith, r.many)

      pub check_numbers : p + 4 ≤ length numbers
      check_numbers = left_numbers numbers bytes p q r.left r.from some

      pub check_bytes : q + 7 ≤ length bytes
      check_bytes = left_bytes numbers bytes p q r.left r.from some

      module _ (parts : Stretches) (found : Apart numbers bytes p q parts) (answer : Checked ℕ)
          (is : answer ≡ track_answer (told_at i (track_given (given_at numbers bytes p q)))) where
        next : (rest : List Given) × (r.left ≡ given_at numbers bytes p q ∷ rest) × Left numbers bytes parts.numbers parts.bytes rest
        next = left_next numbers bytes p q r.left r.from (omega (arith, check_numbers)) (omega (arith, check_bytes)) parts found

        abbrev one : Checked ScoreTrack
        one = told_at i (track_given (given_at numbers bytes p q))

        whole : onto size (ahead one (tracks_from (i + 1) next.0)) ≡ tracks_answer (tracks_from 0 (given_in numbers bytes))
        unfolding tracks_from ahead
        whole = ap (λ (l : List Given). onto size (tracks_from i l)) (sym next.1) ∙ r.same

        pub check_faulty : (why : Refusal) → answer ≡ Err why → Err why ≡ tracks_answer (tracks_from 0 (given_in numbers bytes))
        check_faulty why e = sym (onto_faulty size why one _ (sym is ∙ e)) ∙ whole

        pub check_goes_on : (more grown : ℕ) → answer ≡ Ok more → grown ≡ limited (size + more)
            → Checking numbers bytes count parts.numbers parts.bytes grown (i + 1)
        check_goes_on more grown e g =
            record {
              few = rw g (limited_most (size + more));
              left = next.0;
              from = next.2;
              many = let n : length r.left ≡ suc (length next.0) = ap length next.1 in omega (arith, r.many, n);
              same = ap (λ (n : ℕ). onto n (tracks_from (i + 1) next.0)) g ∙ sym (onto_track size more one _ (sym is ∙ e)) ∙ whole;
            }

pub ruleset checks = (check_starts, check_done, check_numbers, check_bytes, check_faulty, check_goes_on)
