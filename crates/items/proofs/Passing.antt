-- Items passed by: what is read where a byte below 128 and one that is neither 00 nor FF stand, and the place after an item.
use Prim.Native.Nat.{ℕ, ◌+◌, ◌<◌, ◌-◌, ◌≤◌}
use mathlib.Core.Bool.{true, false}
use mathlib.Core.List.{List}
use mathlib.Core.Path.{◌≡◌, refl, sym, ◌∙◌, subst}
use lib.ListN.{length}
use native.Mathlib.Omega.{arith}
use borrow.Author.Tests.{lt-leb, lt-ltb, ne_eqb, eqb-true, le-leb, leb-true, ltb-true, eqb-false, not-true}
use Rattle.model.specs.Words.{when◌then◌else◌, ◌and◌, ◌≤?◌, ◌≡?◌, ◌up_to◌, Checked, refused}
use Rattle.model.specs.Bytes.{◌!◌}
use Rattle.model.specs.Duration.{duration_at, not_zero, gate_at}
use Rattle.model.specs.Event.{is_sound, gated, sound_at, event_at, sound}
use Rattle.model.specs.Item.{is_end_mark, with_event, with_duration, item_at}
use Rattle.model.specs.declared.Voice.{Voice}
use Rattle.model.specs.declared.Event.{Event}
use Rattle.std.specs.Prelude.{Ok, Err}
use Rattle.model.specs.declared.Read.{Read}
use Rattle.model.specs.declared.Refusal.{Refusal}
use Rattle.model.specs.declared.ReadItem.{ReadItem}
use Rattle.model.specs.declared.ReadItem.TheVariants.{Timed, EndMark}
use Rattle.model.proofs.Tests.{by_test, if_all, and_left, and_right}
use Rattle.items.specs.Passing.{EndsAt, is_short}

-- AN ITEM THAT IS READ

module _ (voice : Voice) (s : List ℕ) (at : ℕ) (i : Checked ReadItem) (is : i ≡ item_at voice s at) where
  pub read_ends : (duration next : ℕ) (event : Event) → i ≡ Ok (Timed duration event next) → EndsAt next (item_at voice s at)
  unfolding EndsAt
  read_ends duration next event e = subst (EndsAt next) (sym e ∙ is) refl

  pub mark_ends : (next : ℕ) → i ≡ Ok (EndMark next) → EndsAt next (item_at voice s at)
  unfolding EndsAt
  mark_ends next e = subst (EndsAt next) (sym e ∙ is) refl

  pub none_ends : (place : ℕ) (why : Refusal) → i ≡ Err why → EndsAt place (item_at voice s at)
  unfolding EndsAt
  none_ends place why e = subst (EndsAt place) (sym e ∙ is) tt

-- A NOTE OR WAVE after a duration of one byte

module _ (voice : Voice) (s : List ℕ) (at : ℕ) (there : at + 1 < length s) (one : s ! at < 128) (control : s ! (at + 1) ≡ 0x00 → ⊥)
    (system : s ! (at + 1) ≡ 0xFF → ⊥) where
  no_mark : is_end_mark s at ≡ false
  unfolding is_end_mark
  no_mark =
      by_test (is_end_mark s at)
      (λ t.
      let h : ((at + 4 ≤? length s) and (s ! at ≡? 0) and (s ! (at + 1) ≡? 0) and (s ! (at + 2) ≡? 0) and (s ! (at + 3) ≡? 0)) ≡ true = t in
      absurd (control (eqb-true (s ! (at + 1)) 0 (and_left _ _ (and_right _ _ (and_right _ _ h))))))
      (λ t. t)

  pub sounds_here : item_at voice s at ≡ with_event (s ! at) (sound_at voice s (at + 1))
  unfolding item_at with_duration duration_at event_at when◌then◌else◌
  sounds_here = let here : at < length s = omega arith in simp (no_mark, lt-leb, lt-ltb, ne_eqb)

  -- and its gate time takes one byte too
  module _ (room : at + 2 < length s) (short : s ! (at + 2) < 128) where
    gate_is : gate_at s (at + 1 + 1) ≡ not_zero (at + 2) (Ok ((s ! (at + 2)) up_to (at + 3)))
    unfolding gate_at duration_at when◌then◌else◌
    gate_is =
        let place : at + 1 + 1 ≡ at + 2 = omega arith in
        let after : at + 2 + 1 ≡ at + 3 = omega arith in
        simp (place, lt-leb, lt-ltb, after)

    gated_ends : EndsAt (at + 3) (with_event (s ! at) (gated voice (s ! (at + 1)) (not_zero (at + 2) (Ok ((s ! (at + 2)) up_to (at + 3))))))
    unfolding not_zero gated with_event EndsAt
    gated_ends =
        if_all (λ (d : Checked (Read ℕ)). EndsAt (at + 3) (with_event (s ! at) (gated voice (s ! (at + 1)) d))) (s ! (at + 2) ≡? 0) _ _ (λ t. tt) (λ t. refl)

    pub short_ends : EndsAt (at + 3) (item_at voice s at)
    unfolding sound_at with_event EndsAt
    short_ends =
        subst (EndsAt (at + 3)) (sym sounds_here)
        (if_all (λ (e : Checked (Read Event)). EndsAt (at + 3) (with_event (s ! at) e)) (is_sound voice (s ! (at + 1))) _ _
        (λ t. subst (λ (d : Checked (Read ℕ)). EndsAt (at + 3) (with_event (s ! at) (gated voice (s ! (at + 1)) d))) (sym gate_is) gated_ends)
        (λ t. tt))

-- A SHORT ONE, as a test tells it

pub record Short (voice : Voice) (s : List ℕ) (at : ℕ) : Type 0 where
  pub is : item_at voice s at ≡ Ok (Timed (s ! at) (sound voice (s ! (at + 1)) (s ! (at + 2))) (at + 3))
  pub within : at + 3 ≤ length s
  pub one : s ! at < 128

pub short_stands : (voice : Voice) (s : List ℕ) (at : ℕ) → is_short voice s at ≡ true → Short voice s at
unfolding is_short sound_at with_event not_zero gated when◌then◌else◌
short_stands voice s at test =
    let within : at + 3 ≤ length s = leb-true (at + 3) (length s) (and_left _ _ test) in
    let past_room = and_right _ _ test in
    let one : s ! at < 128 = ltb-true (s ! at) 128 (and_left _ _ past_room) in
    let past_duration = and_right _ _ past_room in
    let control : s ! (at + 1) ≡ 0x00 → ⊥ = eqb-false (s ! (at + 1)) 0x00 (not-true _ (and_left _ _ past_duration)) in
    let past_control = and_right _ _ past_duration in
    let system : s ! (at + 1) ≡ 0xFF → ⊥ = eqb-false (s ! (at + 1)) 0xFF (not-true _ (and_left _ _ past_control)) in
    let past_system = and_right _ _ past_control in
    let some : s ! (at + 2) ≡ 0 → ⊥ = eqb-false (s ! (at + 2)) 0 (not-true _ (and_left _ _ past_system)) in
    let past_zero = and_right _ _ past_system in
    let gate : s ! (at + 2) < 128 = ltb-true (s ! (at + 2)) 128 (and_left _ _ past_zero) in
    let sounds : is_sound voice (s ! (at + 1)) ≡ true = and_right _ _ past_zero in
    let starts = sounds_here voice s at (omega arith) one control system in
    let gates = gate_is voice s at (omega arith) one control system (omega arith) gate in
    record { is = starts ∙ simp (sounds, gates, ne_eqb); within = within; one = one }

-- the room for one, as the code tests it

pub short_lacks_room : (s : List ℕ) (at : ℕ) → length s - at < 3 → (at + 3 ≤? length s) ≡ false
short_lacks_room s at h = lt-leb (at + 3) (length s) (omega arith)

pub short_has_room : (s : List ℕ) (at : ℕ) → 3 ≤ length s - at → (at + 3 ≤? length s) ≡ true
short_has_room s at h = le-leb (at + 3) (length s) (omega arith)

pub ruleset passing = (read_ends, mark_ends, none_ends)

pub ruleset shorts = (short_lacks_room, short_has_room)
