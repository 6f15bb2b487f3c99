-- Items are read exactly, but for three zeros: as an item they are refused at the third, and with a fourth they are an end mark.
use Prim.Native.Nat.{ℕ, ◌+◌, ◌<◌, ◌≤◌}
use mathlib.Core.Bool.{true, false}
use mathlib.Core.List.{List}
use mathlib.Core.Logic.{◌⊎◌, inl, inr}
use mathlib.Core.Path.{◌≡◌, refl, sym, ◌∙◌, ap, subst}
use lib.ListN.{length}
use native.Mathlib.Omega.{arith}
use borrow.Author.Tests.{le-leb, lt-leb, leb-true, eqb-true}
use Rattle.model.specs.Words.{when◌then◌else◌, ◌and◌, Checked, refused}
use Rattle.model.specs.Bytes.{◌!◌}
use Rattle.model.specs.Duration.{duration_at}
use Rattle.model.specs.Event.{short_at, formed, control_at, event_at}
use Rattle.model.specs.Item.{is_end_mark, with_event, with_duration, item_at}
use Rattle.model.specs.declared.Voice.{Voice}
use Rattle.std.specs.Prelude.{Ok}
use Rattle.model.specs.declared.ReadItem.{ReadItem}
use Rattle.model.specs.declared.ReadItem.TheVariants.{EndMark}
use Rattle.model.proofs.Tests.{by_test, if_true, if_false, and_left, and_right}
use Rattle.faults.proofs.Agreement.{Agree}
use Rattle.faults.proofs.Exact.{Seen.ends, Seen.fails, Fault, ExactAs}
use Rattle.faults.proofs.Controls.{shared_kind}
use Rattle.faults.proofs.Timed.{item_seen, timed_at, timed_exact}

pub zeros_refused : (voice : Voice) (s : List ℕ) (at : ℕ) → at + 2 < length s → s ! at ≡ 0 → s ! (at + 1) ≡ 0 → s ! (at + 2) ≡ 0
    → timed_at voice s at ≡ refused 23 (at + 2)
unfolding duration_at with_duration event_at control_at formed short_at with_event when◌then◌else◌ ◌and◌
zeros_refused voice s at room first second third =
    let here : at < length s = omega arith in
    let more : at + 1 < length s = omega arith in
    let after : at + 1 + 1 ≡ at + 2 = omega arith in
    simp (lt-leb, first, second, after, third, shared_kind voice 13 refl)

pub record Zeros (s : List ℕ) (at : ℕ) : Type 0 where
  pub room : at + 4 ≤ length s
  pub first : s ! at ≡ 0
  pub second : s ! (at + 1) ≡ 0
  pub third : s ! (at + 2) ≡ 0
  pub fourth : s ! (at + 3) ≡ 0

module _ (s : List ℕ) (at : ℕ) where
  mark_zeros : is_end_mark s at ≡ true → Zeros s at
  unfolding is_end_mark
  mark_zeros h =
      let past_room = and_right _ _ h in
      let past_first = and_right _ _ past_room in
      let past_second = and_right _ _ past_first in
      record {
        room = leb-true _ _ (and_left _ _ h);
        first = eqb-true _ _ (and_left _ _ past_room);
        second = eqb-true _ _ (and_left _ _ past_first);
        third = eqb-true _ _ (and_left _ _ past_second);
        fourth = eqb-true _ _ (and_right _ _ past_second);
      }

  zeros_mark : Zeros s at → is_end_mark s at ≡ true
  unfolding is_end_mark ◌and◌
  zeros_mark z = simp (le-leb (at + 4) (length s) z.room, z.first, z.second, z.third, z.fourth)

-- what stands at a place, an end mark or not
module _ (voice : Voice) (s : List ℕ) (at : ℕ) where
  marked : is_end_mark s at ≡ true → item_at voice s at ≡ Ok (EndMark (at + 4))
  unfolding item_at
  marked h = if_true _ _ _ h

  unmarked : is_end_mark s at ≡ false → item_at voice s at ≡ timed_at voice s at
  unfolding item_at
  unmarked h = if_false _ _ _ h

  -- what cannot be three zeros
  no_zeros : (timed_at voice s at ≡ refused 23 (at + 2) → ⊥) → item_at voice s at ≡ timed_at voice s at
  no_zeros other =
      by_test (is_end_mark s at)
      (λ h.
      let z = mark_zeros s at h in
      absurd (other (zeros_refused voice s at (omega (arith, z.room)) z.first z.second z.third)))
      unmarked

  pub ends_read : (next : ℕ) → item_seen (timed_at voice s at) ≡ ends next → item_seen (item_at voice s at) ≡ ends next
  ends_read next e = ap item_seen (no_zeros (λ z. let q : fails 23 (at + 2) ≡ ends next = sym (ap item_seen z) ∙ e in let w : ◌≡◌ {A = ℕ} 0 1 = cc in omega arith)) ∙ e

  pub zeros_read : Zeros s at → item_at voice s at ≡ Ok (EndMark (at + 4))
  zeros_read z = marked (zeros_mark s at z)

  pub refused_or_zeros : (number place : ℕ) → timed_at voice s at ≡ refused number place → (item_at voice s at ≡ refused number place) ⊎ Zeros s at
  refused_or_zeros number place e = by_test (is_end_mark s at) (λ h. inr (mark_zeros s at h)) (λ h. inl (unmarked h ∙ e))

-- What is read is read no differently where other bytes follow, end mark or not, and what is refused is refused exactly.
module _ (voice : Voice) (s : List ℕ) (at : ℕ) (here : at < length s) where
  pub read_stays : (next : ℕ) → item_seen (item_at voice s at) ≡ ends next → (t : List ℕ) → Agree next s t → item_at voice t at ≡ item_at voice s at
  read_stays next e t a =
      by_test (is_end_mark s at)
      (λ h.
      let is = marked voice s at h in
      let z = mark_zeros s at h in
      let four : ends (at + 4) ≡ ends next = ap item_seen (sym is) ∙ e in
      let last : at + 4 ≡ next = cc in
      zeros_read voice t at
      (record {
        room = omega (arith, a.room);
        first = a.same at (omega arith) ∙ z.first;
        second = a.same (at + 1) (omega arith) ∙ z.second;
        third = a.same (at + 2) (omega arith) ∙ z.third;
        fourth = a.same (at + 3) (omega arith) ∙ z.fourth;
      })
      ∙ sym is)
      (λ h.
      let is = unmarked voice s at h in
      let timed : item_seen (timed_at voice s at) ≡ ends next = ap item_seen (sym is) ∙ e in
      let same =
      (subst (ExactAs item_seen s (λ u. timed_at voice u at) (λ u. timed_at voice u at) at (timed_at voice s at)) timed (timed_exact voice s at here).exactly).1 t a in
      no_zeros voice t at
      (λ z.
      let fault : fails 23 (at + 2) ≡ ends next = ap item_seen (sym z ∙ same) ∙ timed in
      let w : ◌≡◌ {A = ℕ} 0 1 = cc in
      omega arith)
      ∙ same
      ∙ sym is)

  pub refused_exact : (number place : ℕ) → item_at voice s at ≡ refused number place
      → Fault item_seen s (λ t. timed_at voice t at) (λ t. timed_at voice t at) at (refused number place) number place
  refused_exact number place e =
      subst (λ (r : Checked ReadItem). ExactAs item_seen s (λ t. timed_at voice t at) (λ t. timed_at voice t at) at r (item_seen r))
      (by_test (is_end_mark s at)
      (λ h.
      let both : (Ok (EndMark (at + 4))) ≡ refused number place = sym (marked voice s at h) ∙ e in
      let w : ◌≡◌ {A = ℕ} 0 1 = cc in
      absurd (omega arith))
      (λ h. sym (unmarked voice s at h) ∙ e))
      (timed_exact voice s at here).exactly
