-- A law for each case of the definitions that go by cases: what the definition is, where its argument is known to be of that case.
use Prim.Native.Nat.{ℕ, ◌+◌, ◌-◌, ◌/◌, ◌%◌, ◌≤◌, ◌<◌}
use mathlib.Core.Path.{◌≡◌, sym, ◌∙◌, ap}
use mathlib.Core.Bool.{Bool, true, false, not}
use mathlib.Core.List.{List}
use native.Mathlib.Omega.{arith}
use lib.ListN.{length, get_or-eq_default}
use borrow.Author.Tests.{lt-leb, le-leb, leb-true}
use Rattle.model.specs.Words.{when◌then◌else◌, ◌and◌, ◌≤?◌, ◌≡?◌, ◌up_to◌, Checked, refused}
use Rattle.model.specs.Duration.{not_zero}
use Rattle.model.specs.Event.{is_note, is_wave, is_sound, sound, gated, has_kind, long_at, event_at, modulations, pitch_bends, expressions, standard_value}
use Rattle.model.specs.Item.{with_event, with_duration, is_end_mark}
use Rattle.model.proofs.Tests.{and_left, if_all}
use Rattle.model.specs.declared.Voice.{Voice}
use Rattle.model.specs.declared.Voice.TheVariants.{Score, Pcm}
use Rattle.model.specs.declared.Event.{Event}
use Rattle.model.specs.declared.Event.TheVariants.{Note, Wave}
use Rattle.std.specs.Prelude.{Ok, Err}
use Rattle.model.specs.declared.Refusal.{Refusal}
use Rattle.model.specs.declared.Read.{Read}
use Rattle.model.specs.declared.ReadItem.{ReadItem}
use Rattle.model.specs.declared.ReadItem.TheVariants.{Timed}

-- the gate time that a callee read
pub gated_is : (voice : Voice) (byte : ℕ) (d e : Checked (Read ℕ)) (value next : ℕ) (made : Event) → d ≡ e → d ≡ Ok (value up_to next)
    → made ≡ sound voice byte value → Ok (made up_to next) ≡ gated voice byte e
unfolding gated
gated_is voice byte d e value next made p q h = rw (← p, q) (ap (λ (x : Event). Ok (x up_to next)) h)

-- the voice is known
pub sound_score : (voice : Voice) (byte gate : ℕ) (z : Event) → voice ≡ Score → z ≡ Note (byte / 64) (byte % 64) gate → z ≡ sound voice byte gate
unfolding sound
sound_score voice byte gate z p h = rw p h

-- a short form has no more than 14 values
pub standard_past : (kind short : ℕ) → 15 ≤ short → 0 ≡ standard_value kind short
unfolding standard_value
standard_past kind short h =
    if_all (λ (value : ℕ). 0 ≡ value) _ _ _ (λ i. sym (get_or-eq_default modulations 0 h))
    (λ i. if_all (λ (value : ℕ). 0 ≡ value) _ _ _ (λ j. sym (get_or-eq_default pitch_bends 0 h)) (λ j. sym (get_or-eq_default expressions 0 h)))

-- an end mark is within the body
pub end_mark_within : (s : List ℕ) (at : ℕ) → is_end_mark s at ≡ true → at + 4 ≤ length s
unfolding is_end_mark
end_mark_within s at h = leb-true (at + 4) (length s) (and_left _ _ h)

-- the room for an end mark, as the code tests it

pub room_short : (s : List ℕ) (at : ℕ) → length s < 4 → (at + 4 ≤? length s) ≡ false
room_short s at h = lt-leb (at + 4) (length s) (omega arith)

pub room_past : (s : List ℕ) (at : ℕ) → length s - 4 < at → (at + 4 ≤? length s) ≡ false
room_past s at h = lt-leb (at + 4) (length s) (omega arith)

pub room_left : (s : List ℕ) (at : ℕ) → 4 ≤ length s → at ≤ length s - 4 → (at + 4 ≤? length s) ≡ true
room_left s at h g = le-leb (at + 4) (length s) (omega arith)

pub ruleset rooms = (room_short, room_past, room_left)
