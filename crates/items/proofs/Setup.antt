-- One walk of a setup body: the invariant of `read_setup`'s loop, and what each way out of it and each turn makes of it.
use Prim.Native.Nat.{ℕ, ◌+◌, ◌-◌, ◌<◌, ◌≤◌}
use mathlib.Core.List.{List, [], ◌∷◌}
use mathlib.Core.Bool.{true, false}
use mathlib.Core.Path.{◌≡◌, refl, sym, ◌∙◌, ap, subst}
use lib.ListN.{length}
use native.Mathlib.Omega.{arith}
use borrow.Author.Tests.{eq-eqb, ne_eqb, le-leb, lt-leb}
use Rattle.model.specs.Words.{when◌then◌else◌, ◌≤?◌, Checked, walk_to, in_turn, unasked, ◌up_to◌, refused}
use Rattle.model.specs.Item.{setup_message_at, message_met, setup_step, setup_of, check_answer}
use Rattle.model.specs.declared.Event.{Event}
use Rattle.std.specs.Prelude.{Ok, Err}
use Rattle.model.specs.declared.Refusal.{Refusal}
use Rattle.model.specs.declared.Read.{Read}
use Rattle.model.proofs.Answers.{answer_first}
use Rattle.model.proofs.Walks.{GoesOn, Left, left_starts, left_ends, left_stuck, left_next}
use Rattle.items.proofs.Ahead.{message_goes}

pub record SettingUp (s : List ℕ) (at : ℕ) : Type 0 where
  pub before : List Event
  pub left : Checked (List Event)
  pub walk : Left 10 (length s) (setup_step s) unasked at before left
  pub same : check_answer left ≡ check_answer (setup_of s)

pub setup_empty : (s : List ℕ) → length s ≡ 0 → refused 10 0 ≡ check_answer (setup_of s)
unfolding setup_of when◌then◌else◌ check_answer
setup_empty s h = simp eq-eqb

pub setup_starts : (s : List ℕ) → (length s ≡ 0 → ⊥) → SettingUp s 0
unfolding setup_of when◌then◌else◌
setup_starts s h =
    record {
      before = [];
      left = in_turn unasked [] (walk_to 10 (length s) (setup_step s) 0);
      walk = left_starts 10 (length s) (setup_step s) unasked 0 (omega arith);
      same = simp ne_eqb;
    }

module _ (s : List ℕ) (at : ℕ) (r : SettingUp s at) where
  pub setup_ends : length s ≤ at → Ok tt ≡ check_answer (setup_of s)
  unfolding check_answer
  setup_ends h = ap check_answer (sym (left_ends _ _ _ _ at r.before r.left r.walk h)) ∙ r.same

  module _ (i : Checked (Read Event)) (here : at < length s) (is : i ≡ setup_message_at s at) where
    stands : (j : Checked (Read Event)) → i ≡ j → setup_step s at ≡ message_met at j
    unfolding setup_step
    stands j e = ap (message_met at) (sym is ∙ e)

    pub setup_refused : (why : Refusal) → i ≡ Err why → refused 10 at ≡ check_answer (setup_of s)
    unfolding message_met check_answer
    setup_refused why e =
        ap check_answer (sym (left_stuck _ _ _ _ at r.before r.left r.walk 10 at here (stands (Err why) e))) ∙ r.same

    ahead : (message : Read Event) → i ≡ Ok message → (at < message.next) × (message.next ≤ length s)
    unfolding message_met
    ahead message e = subst (GoesOn (length s) at) (stands (Ok message) e) (message_goes s at)

    pub setup_nears : (message : Read Event) → i ≡ Ok message → length s - message.next < length s - at
    setup_nears message e = let a = ahead message e in omega arith

    pub setup_reads : (message : Read Event) → i ≡ Ok message → SettingUp s message.next
    unfolding message_met
    setup_reads message e =
        let a = ahead message e in
        let n = left_next _ _ _ _ at r.before r.left r.walk message.what message.next here (stands (Ok message) e) (omega arith) refl in
        record {
          before = message.what ∷ r.before;
          left = n.0;
          walk = n.1;
          same = sym (answer_first message.what n.0) ∙ ap check_answer (sym n.2) ∙ r.same;
        }

-- the room for a message's first two bytes, as the code tests it
pub two_short : (s : List ℕ) (at : ℕ) → at ≤ length s → length s - at < 2 → (length s ≤? at + 1) ≡ true
two_short s at h g = le-leb (length s) (at + 1) (omega arith)

pub two_there : (s : List ℕ) (at : ℕ) → 2 ≤ length s - at → (length s ≤? at + 1) ≡ false
two_there s at h = lt-leb (length s) (at + 1) (omega arith)

pub ruleset setting_up = (setup_empty, setup_starts, setup_ends, setup_refused, setup_nears, setup_reads)

pub ruleset twos = (two_short, two_there)
