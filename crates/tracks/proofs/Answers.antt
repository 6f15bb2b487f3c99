-- Answers whose places are counted from elsewhere.
use Prim.Native.Nat.{ℕ, ◌+◌, ◌≤◌}
use mathlib.Core.Path.{◌≡◌, refl, sym, subst}
use native.Mathlib.Omega.{arith}
use Rattle.model.specs.Words.{Checked, passed, ◌>>◌, counted_from, refused}
use Rattle.std.specs.Prelude.{Ok, Err}
use Rattle.model.specs.Item.{check_answer}
use Rattle.model.specs.declared.Refusal.{Refusal}
use Rattle.tracks.specs.Stages.{Near, moved}

module _ {A : Type 0} where
  pub answer_moved : (base : ℕ) (c : Checked A) → check_answer (counted_from base c) ≡ moved base (check_answer c)
  unfolding check_answer counted_from moved
  answer_moved base (Ok a) = refl
  answer_moved base (Err why) = refl

  pub answer_done : (c : Checked A) → check_answer (c >> passed) ≡ check_answer c
  unfolding check_answer ◌>>◌
  answer_done (Ok a) = refl
  answer_done (Err why) = refl

  -- an answer is near where the check refuses within a bound
  pub answer_near : (c : Checked A) (r : Checked (Unit {0})) (bound : ℕ) → r ≡ check_answer c → bound ≤ 200000
      → ((number place : ℕ) → c ≡ refused number place → place ≤ bound) → Near r
  unfolding check_answer
  answer_near (Ok a) r bound e h within = subst Near (sym e) tt
  answer_near (Err why) r bound e h within = subst Near (sym e) (let w = within why.number why.place refl in omega arith)

pub moved_passed : (base : ℕ) (r z : Checked (Unit {0})) → r ≡ Ok tt → z ≡ Ok tt → z ≡ moved base r
unfolding moved
moved_passed base r z p h = rw p h

pub moved_refused : (base : ℕ) (r z : Checked (Unit {0})) (why : Refusal) → r ≡ Err why → z ≡ refused why.number (base + why.place) → z ≡ moved base r
unfolding moved
moved_refused base r z why p h = rw p h
