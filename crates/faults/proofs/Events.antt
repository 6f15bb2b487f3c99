-- Events are read exactly. FF 00, a NOP, makes one readable.
use Prim.Native.Nat.{ℕ, ◌+◌, ◌<◌, ◌≤◌}
use mathlib.Core.List.{List, [], ◌∷◌}
use mathlib.Core.Path.{◌≡◌, refl, ◌∙◌, ap}
use lib.ListN.{length}
use native.Mathlib.Omega.{arith}
use borrow.Author.Tests.{lt-leb}
use Rattle.model.specs.Words.{when◌then◌else◌, ◌≡?◌, ◌up_to◌, Checked, refused}
use Rattle.model.specs.Bytes.{◌!◌}
use Rattle.model.specs.Duration.{gate_at}
use Rattle.model.specs.Event.{is_sound, gated, sound_at, control_at, system_at, event_at}
use Rattle.model.specs.declared.Voice.{Voice}
use Rattle.model.specs.declared.Event.TheVariants.{Nop}
use Rattle.std.specs.Prelude.{Ok, Err}
use Rattle.model.specs.declared.Read.{Read}
use Rattle.model.specs.declared.Event.{Event}
use Rattle.model.proofs.Tests.{if_true, if_false}
use Rattle.faults.proofs.Agreement.{Agree}
use Rattle.faults.proofs.Exact.{Mended, Exact, exact_wrong, exact_if, exact_byte, exact_made, exact_part, mended_end}
use Rattle.faults.proofs.Durations.{duration_seen, gate_exact}
use Rattle.faults.proofs.Controls.{event_seen, control_exact}
use Rattle.faults.proofs.Systems.{system_exact}

gated_seen : (voice : Voice) (byte : ℕ) (d : Checked (Read ℕ)) → event_seen (gated voice byte d) ≡ duration_seen d
unfolding gated
gated_seen voice byte (Ok read) = refl
gated_seen voice byte (Err why) = refl

pub nop_reads : (voice : Voice) (t : List ℕ) (at : ℕ) → at + 1 < length t → t ! at ≡ 0xFF → t ! (at + 1) ≡ 0x00 → event_at voice t at ≡ Ok (Nop up_to (at + 2))
unfolding event_at system_at when◌then◌else◌
nop_reads voice t at room first second = let here : at < length t = omega arith in simp (lt-leb, first, second)

-- what follows a first byte
first_at : Voice → ℕ → ℕ → List ℕ → Checked (Read Event)
first_at voice at first s =
    when first ≡? 0x00 then control_at voice s at else
    when first ≡? 0xFF then system_at s at else
    when is_sound voice first then gated voice first (gate_at s (at + 1)) else
    refused 21 at

module _ (voice : Voice) (s : List ℕ) (at : ℕ) where
  first_read : (t : List ℕ) → Agree (at + 1) s t → event_at voice t at ≡ first_at voice at (s ! at) t
  unfolding event_at first_at sound_at when◌then◌else◌
  first_read t a =
      let room : at < length t = omega arith in
      let first = a.same at (omega arith) in
      simp (lt-leb, first)

  event_mended : at ≤ length s → Mended event_seen s (λ t. event_at voice t at) at
  event_mended within =
      record {
        rest = 0xFF ∷ 0x00 ∷ [];
        bytes = omega arith;
        reads = λ t c.
            ap event_seen (nop_reads voice t at (omega arith) (c.then_byte at 0 (omega arith) (omega arith)) (c.then_byte (at + 1) 1 (omega arith) (omega arith)));
      }

  pub event_exact : at ≤ length s → Exact event_seen s (λ t. event_at voice t at) (λ t. event_at voice t at) at
  unfolding event_at first_at sound_at
  event_exact within =
      exact_byte event_seen s _ (refused 20) (λ end. refl) at at (first_at voice at) (omega arith) (mended_end event_seen s _ at within (event_mended within))
      (λ room. exact_if event_seen s _ at (s ! at ≡? 0x00) _ _
      (λ h. exact_part event_seen s (λ t. control_at voice t at) _ (at + 1)
      (λ t a. first_read t a ∙ if_true _ _ _ h) _ at (omega arith) (control_exact voice s at (omega arith)))
      (λ h. exact_if event_seen s _ at (s ! at ≡? 0xFF) _ _
      (λ i. exact_part event_seen s (λ t. system_at t at) _ (at + 1)
      (λ t a. first_read t a ∙ if_false _ _ _ h ∙ if_true _ _ _ i) _ at (omega arith) (system_exact s at (omega arith)))
      (λ i. exact_if event_seen s _ at (is_sound voice (s ! at)) _ _
      (λ j. exact_made duration_seen event_seen (gated voice (s ! at)) (gated_seen voice (s ! at)) s (λ t. gate_at t (at + 1)) _ (at + 1)
      (λ t a. first_read t a ∙ if_false _ _ _ h ∙ if_false _ _ _ i ∙ if_true _ _ _ j) _ at (omega arith) (gate_exact s (at + 1) (omega arith)))
      (λ j. exact_wrong event_seen s _ at refl (event_mended within) (omega arith)))))
