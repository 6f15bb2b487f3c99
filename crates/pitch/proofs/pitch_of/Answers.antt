-- `pitch_of` answers as the definition does, test by test.
use Prim.Native.Nat.{ℕ, ◌%◌, ◌/◌}
use native.Mathlib.Omega.{arith}
use mathlib.Core.Bool.{true}
use mathlib.Core.Path.{◌≡◌, refl, ap, ◌∙◌}
use lib.IntN.{ℤ}
use Rattle.std.specs.Prelude.{Ok}
use Rattle.model.specs.Words.{Checked}
use Rattle.model.specs.Event.{is_note, is_shift}
use Rattle.model.specs.Pitch.{semitones, pitch_of}
use Rattle.model.specs.declared.Pitch.{Pitch}
use Rattle.model.proofs.Tests.{tests, junctions, if_no, not_off}
use Rattle.pitch.proofs.Signed.{kept}
use Rattle.pitch.proofs.pitch_of.Goals as goal

pub returns-then-not-is_note : goal.returns-then-not-is_note
unfolding pitch_of
returns-then-not-is_note c = search (tests, junctions) depth 9 fits 20000

pub returns-then-not-is_shift : goal.returns-then-not-is_shift
unfolding pitch_of
returns-then-not-is_shift c = search (tests, junctions) depth 9 fits 20000

pub semitones-requires : goal.semitones-requires
semitones-requires c = record { octave_bound = omega arith; note_bound = omega arith; shift_value = search tests }

pitch_made : (byte shift : ℕ) (above : ℤ) → is_note (byte % 16) ≡ true → is_shift shift ≡ true
    → above ≡ semitones (byte / 16 % 4) (byte % 16) shift → Ok (record { above = above }) ≡ pitch_of byte shift
unfolding pitch_of
pitch_made byte shift above note shifts is =
    let made : Checked Pitch = Ok (record { above = semitones (byte / 16 % 4) (byte % 16) shift }) in
    ap (λ (z : ℤ). Ok (record { above = z })) is
    ∙ if_no _ _ _ made (not_off _ note) (if_no _ _ _ made (not_off _ shifts) refl)

pub returns : goal.returns
returns c = pitch_made _ _ _ (search tests) (search tests) (search kept)
