-- The content of an event that can be written: its bytes by constructor, the room they want, and how many there are.
use Prim.Native.Nat.{ℕ, ◌+◌, ◌<◌, ◌≤◌}
use mathlib.Core.Bool.{true}
use mathlib.Core.List.{List, [], ◌∷◌}
use mathlib.Core.Path.{◌≡◌, refl, ap}
use lib.ListN.{length, set, length-set}
use lib.Seq.{sets}
use native.Mathlib.Decide.{dec_lt}
use native.Mathlib.Numerals.{towards_suc}
use native.Mathlib.Omega.{arith}
use borrow.Author.Tests.{le-ltb, lt-ltb}
use Rattle.model.specs.Words.{when◌then◌else◌}
use Rattle.model.specs.Bytes.{part}
use Rattle.model.specs.Content.{content_of, control_bytes, content_bytes}
use Rattle.model.specs.Writing.{event_fits}
use Rattle.model.specs.declared.Voice.{Voice}
use Rattle.model.specs.declared.Event.{Event}
use Rattle.model.specs.declared.Event.TheVariants.{Nop, Note, Wave, Control, Exclusive}
use Rattle.model.proofs.Parts.{part_length}
use Rattle.writing.specs.Parts.{SoundFit, ControlFit, sound_bytes, exclusive_bytes, event_size}
use Rattle.writing.proofs.Numbers.{is_note_lem, is_wave_lem, is_control, is_exclusive}
use Rattle.writing.proofs.Events.{control_long, control_short}

module _ (voice : Voice) (s : List ℕ) (event : Event) where
  pub note_fit : (channel key gate : ℕ) → event_fits voice s event ≡ true → event ≡ Note channel key gate → SoundFit channel key gate
  unfolding event_fits
  note_fit channel key gate h p =
      let n = is_note_lem voice channel key gate (rw p at h) in
      record { few = n.few; small = n.small; short = n.lasts.short }

  pub wave_fit : (channel number gate : ℕ) → event_fits voice s event ≡ true → event ≡ Wave channel number gate → SoundFit channel number gate
  unfolding event_fits
  wave_fit channel number gate h p =
      let n = is_wave_lem voice channel number gate (rw p at h) in
      record { few = n.few; small = omega arith; short = n.lasts.short }

  pub control_fit : (kind channel value : ℕ) → event_fits voice s event ≡ true → event ≡ Control kind channel value → ControlFit kind channel value
  unfolding event_fits
  control_fit kind channel value h p =
      let n = is_control voice kind channel value (rw p at h) in
      record { few = n.few; from = n.from; to = n.to; short = λ q. let v = n.short q in omega arith }

  pub exclusive_inside : (place size : ℕ) → event_fits voice s event ≡ true → event ≡ Exclusive place size → place + 3 + size ≤ length s
  unfolding event_fits
  exclusive_inside place size h p = (is_exclusive s place size (rw p at h)).inside

  pub nop_bytes : event ≡ Nop → content_bytes (content_of s event) ≡ 0xFF ∷ 0x00 ∷ []
  unfolding content_of content_bytes
  nop_bytes p = rw p

  pub note_bytes : (channel key gate : ℕ) → event ≡ Note channel key gate → content_bytes (content_of s event) ≡ sound_bytes channel key gate
  unfolding content_of content_bytes sound_bytes
  note_bytes channel key gate p = rw p

  pub wave_bytes : (channel number gate : ℕ) → event ≡ Wave channel number gate → content_bytes (content_of s event) ≡ sound_bytes channel number gate
  unfolding content_of content_bytes sound_bytes
  wave_bytes channel number gate p = rw p

  pub control_bytes_lem : (kind channel value : ℕ) → event ≡ Control kind channel value → content_bytes (content_of s event) ≡ control_bytes kind channel value
  unfolding content_of content_bytes
  control_bytes_lem kind channel value p = rw p

  pub exclusive_bytes_lem : (place size : ℕ) → event_fits voice s event ≡ true → event ≡ Exclusive place size
      → content_bytes (content_of s event) ≡ exclusive_bytes s place size
  unfolding content_of content_bytes exclusive_bytes
  exclusive_bytes_lem place size h p =
      rw p (ap (λ (n : ℕ). 0xFF ∷ 0xF0 ∷ n ∷ part s (place + 3) size) (part_length s (place + 3) size (exclusive_inside place size h p)))

  -- the room, the place after and the memory, from the bytes that the event is known to be
  module _ (l m : List ℕ) (at r : ℕ) (bytes : List ℕ) where
    pub event_room : content_bytes (content_of s event) ≡ bytes → at + length (content_bytes (content_of s event)) ≤ length l → at + length bytes ≤ length l
    event_room p h = rw p at h

    pub event_next : content_bytes (content_of s event) ≡ bytes → r ≡ at + length bytes → r ≡ at + length (content_bytes (content_of s event))
    event_next p h = rw p h

    pub event_wrote : content_bytes (content_of s event) ≡ bytes → m ≡ sets l at bytes → m ≡ sets l at (content_bytes (content_of s event))
    event_wrote p h = rw p h

  module _ (l : List ℕ) (at : ℕ) where
    pub nop_room : event ≡ Nop → at + length (content_bytes (content_of s event)) ≤ length l → at < length l
    nop_room p h = omega (arith, rw (nop_bytes p) at h)

    pub nop_second : (one : ℕ) → event ≡ Nop → at + length (content_bytes (content_of s event)) ≤ length l → at + 1 < length (set l at one)
    nop_second one p h = simp length-set (omega (arith, rw (nop_bytes p) at h))

    pub nop_next : event ≡ Nop → at + 2 ≡ at + length (content_bytes (content_of s event))
    nop_next p = rw (nop_bytes p)

    pub nop_wrote : event ≡ Nop → set (set l at 0xFF) (at + 1) 0x00 ≡ sets l at (content_bytes (content_of s event))
    nop_wrote p = rw (nop_bytes p) (simp towards_suc)

pub ruleset contents = (note_fit, wave_fit, control_fit, exclusive_inside, note_bytes, wave_bytes, control_bytes_lem, exclusive_bytes_lem, event_room, event_next, event_wrote, nop_room, nop_second, nop_next, nop_wrote)

pub event_length_lem : (voice : Voice) (s : List ℕ) (event : Event) → event_fits voice s event ≡ true → length (content_bytes (content_of s event)) ≡ event_size event
unfolding event_fits content_of content_bytes event_size when◌then◌else◌
event_length_lem voice s Nop h = refl
event_length_lem voice s (Note channel key gate) h = omega arith
event_length_lem voice s (Wave channel number gate) h = omega arith
event_length_lem voice s (Control kind channel value) h =
    elim (dec_lt kind 11) [
      | yes q ↦ rw (control_long kind channel value q) (simp lt-ltb)
      | no q ↦ let k : 11 ≤ kind = omega arith in rw (control_short kind channel value k) (simp le-ltb)
    ]
event_length_lem voice s (Exclusive place size) h =
    let inside = (is_exclusive s place size h).inside in
    omega (arith, part_length s (place + 3) size inside)
