-- An item with a duration is never taken for the end mark: one of its first three bytes is not 0 (for ReadBack.antt).
use Prim.Native.Nat.{ℕ, ◌+◌, ◌-◌, ◌*◌, ◌%◌, ◌≤◌}
use mathlib.Core.Bool.{Bool, true, false}
use mathlib.Core.List.{List}
use mathlib.Core.Path.{◌≡◌, refl, ◌∙◌, ap}
use lib.ListN.{length}
use native.Mathlib.Decide.{dec_lt}
use native.Mathlib.Omega.{arith}
use borrow.Author.Tests.{ne_eqb}
use Rattle.model.specs.Words.{◌and◌}
use Rattle.model.specs.Bytes.{◌!◌}
use Rattle.model.specs.Duration.{duration_bytes}
use Rattle.model.specs.Item.{is_end_mark}
use Rattle.model.specs.Content.{Content, Content.nop, Content.note, Content.wave, Content.control, Content.exclusive, code_of, control_bytes, content_bytes}
use Rattle.model.specs.Writing.{content_fits}
use Rattle.model.specs.declared.Voice.{Voice}
use Rattle.model.proofs.Tests.{and_left, first_false}
use Rattle.writing.proofs.Durations.{one_byte, two_bytes}
use Rattle.writing.proofs.Events.{control_long, control_short}
use Rattle.writing.proofs.Numbers.{IsControl, is_note_lem, is_wave_lem, is_control}
use Rattle.writing.proofs.Stands.{Stands}
use Rattle.writing.proofs.EventBack.{note_low}

and_no : (a b : Bool) → b ≡ false → (a and b) ≡ false
unfolding ◌and◌
and_no true b h = h
and_no false b h = refl

module _ (s : List ℕ) (at : ℕ) where
  no_mark_first : (s ! at ≡ 0 → ⊥) → is_end_mark s at ≡ false
  unfolding is_end_mark
  no_mark_first h = and_no _ _ (first_false _ _ (ne_eqb (s ! at) 0 h))

  no_mark_second : (s ! (at + 1) ≡ 0 → ⊥) → is_end_mark s at ≡ false
  unfolding is_end_mark
  no_mark_second h = and_no _ _ (and_no _ _ (first_false _ _ (ne_eqb (s ! (at + 1)) 0 h)))

  no_mark_third : (s ! (at + 2) ≡ 0 → ⊥) → is_end_mark s at ≡ false
  unfolding is_end_mark
  no_mark_third h = and_no _ _ (and_no _ _ (and_no _ _ (first_false _ _ (ne_eqb (s ! (at + 2)) 0 h))))

  no_mark_control : (voice : Voice) (kind channel value : ℕ) → IsControl voice kind channel value → Stands s (at + 1) (control_bytes kind channel value)
      → is_end_mark s at ≡ false
  no_mark_control voice kind channel value n st =
      elim (dec_lt kind 11) [
        | yes q ↦ let t = rw (control_long kind channel value q) at st in
            let e : s ! (at + 2) ≡ channel * 64 + 3 * 16 + code_of kind = ap (λ (n : ℕ). s ! n) (omega arith) ∙ t.2.1 in
            no_mark_third (omega arith)
        | no q ↦ let h : 11 ≤ kind = omega arith in
            let t = rw (control_short kind channel value h) at st in
            let v = n.short h in
            let e : s ! (at + 2) ≡ channel * 64 + (13 - kind) * 16 + value = ap (λ (n : ℕ). s ! n) (omega arith) ∙ t.2.1 in
            no_mark_third (omega arith)
      ]

  no_mark_event : (voice : Voice) (content : Content) → content_fits voice content ≡ true → Stands s (at + 1) (content_bytes content) → is_end_mark s at ≡ false
  unfolding content_fits content_bytes
  no_mark_event voice nop h st = let e = st.1 in no_mark_second (omega arith)
  no_mark_event voice (note channel key gate) h st =
      let low = note_low (key % 16) (is_note_lem voice channel key gate h).note in
      let e = st.1 in
      no_mark_second (omega arith)
  no_mark_event voice (wave channel number gate) h st =
      let low = (is_wave_lem voice channel number gate h).from in
      let e = st.1 in
      no_mark_second (omega arith)
  no_mark_event voice (control kind channel value) h st =
      no_mark_control voice kind channel value (is_control voice kind channel value (and_left _ _ h)) st
  no_mark_event voice (exclusive bytes) h st = let e = st.1 in no_mark_second (omega arith)

  pub no_mark : (voice : Voice) (value : ℕ) (content : Content) → content_fits voice content ≡ true → Stands s at (duration_bytes value)
      → Stands s (at + length (duration_bytes value)) (content_bytes content) → is_end_mark s at ≡ false
  no_mark voice value content h st su =
      elim (dec_lt value 128) [
        | yes q ↦ elim (dec_lt 0 value) [
          | yes p ↦ let e = (rw (one_byte value q) at st).1 in no_mark_first (omega arith)
          | no p ↦ no_mark_event voice content h (rw (one_byte value q) at su)
        ]
        | no q ↦ let k : 128 ≤ value = omega arith in
            let e = (rw (two_bytes value k) at st).1 in
            no_mark_first (omega arith)
      ]
