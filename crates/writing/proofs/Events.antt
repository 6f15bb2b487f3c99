-- An event in memory: the room that its parts want, the place after it, and what its stores leave, by kind of event.
use Prim.Native.Nat.{ℕ, ◌+◌, ◌-◌, ◌*◌, ◌<◌, ◌≤◌}
use mathlib.Core.List.{List, [], ◌∷◌}
use mathlib.Core.Path.{◌≡◌, ◌∙◌}
use lib.ListN.{length, set, length-set}
use lib.Seq.{sets}
use mir.Val.{Fits}
use mir.Syntax.{w8}
use native.Mathlib.Numerals.{towards_suc}
use native.Mathlib.Omega.{arith}
use borrow.Author.Tests.{le-ltb, lt-ltb}
use Rattle.model.specs.Words.{when◌then◌else◌}
use Rattle.model.specs.Bytes.{part}
use Rattle.model.specs.Duration.{duration_bytes}
use Rattle.model.specs.Content.{code_of, control_bytes}
use Rattle.model.specs.declared.Event.{Event}
use Rattle.model.specs.declared.Event.TheVariants.{Nop, Note, Wave, Control, Exclusive}
use Rattle.model.proofs.Parts.{part_length}
use Rattle.writing.specs.Parts.{ControlFit, sound_bytes, exclusive_bytes, event_size}
use Rattle.writing.proofs.Stores.{kept_set}

-- a note or a wave: its first byte, and its gate time after it
module _ (l : List ℕ) (at channel low gate : ℕ) where
  pub sound_room : at + length (sound_bytes channel low gate) ≤ length l → at < length l
  unfolding sound_bytes
  sound_room h = omega arith

  pub gate_room : (byte : ℕ) → at + length (sound_bytes channel low gate) ≤ length l → at + 1 + length (duration_bytes gate) ≤ length (set l at byte)
  unfolding sound_bytes
  gate_room byte h = simp length-set (omega arith)

  pub sound_next : (r : ℕ) → r ≡ at + 1 + length (duration_bytes gate) → r ≡ at + length (sound_bytes channel low gate)
  unfolding sound_bytes
  sound_next r h = omega arith

  pub sound_wrote : (m : List ℕ) → m ≡ sets (set l at (channel * 64 + low)) (at + 1) (duration_bytes gate) → m ≡ sets l at (sound_bytes channel low gate)
  unfolding sound_bytes
  sound_wrote m h = h ∙ simp towards_suc

pub ruleset sounds = (kept_set, sound_room, gate_room, sound_next, sound_wrote)

-- a control of three bytes, and one of two
pub control_long : (kind channel value : ℕ) → kind < 11 → control_bytes kind channel value ≡ 0x00 ∷ (channel * 64 + 3 * 16 + code_of kind) ∷ value ∷ []
unfolding control_bytes when◌then◌else◌
control_long kind channel value h = simp lt-ltb

pub control_short : (kind channel value : ℕ) → 11 ≤ kind → control_bytes kind channel value ≡ 0x00 ∷ (channel * 64 + (13 - kind) * 16 + value) ∷ []
unfolding control_bytes when◌then◌else◌
control_short kind channel value h = simp le-ltb

module _ (l : List ℕ) (at kind channel value : ℕ) where
  pub long_room : kind < 11 → at + length (control_bytes kind channel value) ≤ length l → at < length l
  long_room h r = omega (arith, rw control_long at r)

  pub short_room : 11 ≤ kind → at + length (control_bytes kind channel value) ≤ length l → at < length l
  short_room h r = omega (arith, rw control_short at r)

  module _ (one two : ℕ) where
    pub long_second : kind < 11 → at + length (control_bytes kind channel value) ≤ length l → at + 1 < length (set l at one)
    long_second h r = simp length-set (omega (arith, rw control_long at r))

    pub short_second : 11 ≤ kind → at + length (control_bytes kind channel value) ≤ length l → at + 1 < length (set l at one)
    short_second h r = simp length-set (omega (arith, rw control_short at r))

    pub long_third : kind < 11 → at + length (control_bytes kind channel value) ≤ length l → at + 2 < length (set (set l at one) (at + 1) two)
    long_third h r = simp length-set (omega (arith, rw control_long at r))

  pub long_next : kind < 11 → at + 3 ≡ at + length (control_bytes kind channel value)
  long_next h = rw control_long

  pub short_next : 11 ≤ kind → at + 2 ≡ at + length (control_bytes kind channel value)
  short_next h = rw control_short

  pub long_wrote : (code : ℕ) → kind < 11 → code ≡ code_of kind
      → set (set (set l at 0) (at + 1) (channel * 64 + 3 * 16 + code)) (at + 2) value ≡ sets l at (control_bytes kind channel value)
  long_wrote code h e = rw (control_long, e) (simp towards_suc)

  pub short_wrote : 11 ≤ kind → set (set l at 0) (at + 1) (channel * 64 + (13 - kind) * 16 + value) ≡ sets l at (control_bytes kind channel value)
  short_wrote h = rw control_short (simp towards_suc)

pub short_sum : (kind channel value : ℕ) → ControlFit kind channel value → 11 ≤ kind → Fits w8 (channel * 64 + (13 - kind) * 16 + value)
short_sum kind channel value fit h = let s = fit.short h in omega arith

pub ruleset controls = (long_room, short_room, long_second, short_second, long_third, long_next, short_next, long_wrote, short_wrote, short_sum)

-- an exclusive: three bytes, and its part of the source after them
module _ (l s : List ℕ) (at place size : ℕ) (inside : place + 3 + size ≤ length s) where
  exclusive_length_lem : length (exclusive_bytes s place size) ≡ 3 + size
  unfolding exclusive_bytes
  exclusive_length_lem = omega (arith, part_length s (place + 3) size inside)

  pub head_room : at + length (exclusive_bytes s place size) ≤ length l → at < length l
  head_room h = omega (arith, exclusive_length_lem)

  pub head_second : (one : ℕ) → at + length (exclusive_bytes s place size) ≤ length l → at + 1 < length (set l at one)
  head_second one h = simp length-set (omega (arith, exclusive_length_lem))

  pub head_third : (one two : ℕ) → at + length (exclusive_bytes s place size) ≤ length l → at + 2 < length (set (set l at one) (at + 1) two)
  head_third one two h = simp length-set (omega (arith, exclusive_length_lem))

  pub copy_room : (one two three : ℕ) → at + length (exclusive_bytes s place size) ≤ length l → at + 3 + size ≤ length (set (set (set l at one) (at + 1) two) (at + 2) three)
  copy_room one two three h = simp length-set (omega (arith, exclusive_length_lem))

  pub exclusive_next : (r : ℕ) → r ≡ at + 3 + size → r ≡ at + length (exclusive_bytes s place size)
  exclusive_next r h = omega (arith, exclusive_length_lem)

pub exclusive_wrote : (l m s : List ℕ) (at place size : ℕ)
    → m ≡ sets (set (set (set l at 0xFF) (at + 1) 0xF0) (at + 2) size) (at + 3) (part s (place + 3) size) → m ≡ sets l at (exclusive_bytes s place size)
unfolding exclusive_bytes
exclusive_wrote l m s at place size h = h ∙ simp towards_suc

pub ruleset exclusives = (kept_set, head_room, head_second, head_third, copy_room, exclusive_next, exclusive_wrote)

-- the size of an event by its constructor
module _ (event : Event) where
  pub size_nop : event ≡ Nop → 2 ≡ event_size event
  unfolding event_size
  size_nop p = rw p

  pub size_note : (channel key gate r : ℕ) → event ≡ Note channel key gate → r ≡ length (duration_bytes gate) → 1 + r ≡ event_size event
  unfolding event_size
  size_note channel key gate r p h = rw (p, h)

  pub size_wave : (channel number gate r : ℕ) → event ≡ Wave channel number gate → r ≡ length (duration_bytes gate) → 1 + r ≡ event_size event
  unfolding event_size
  size_wave channel number gate r p h = rw (p, h)

  pub size_long : (kind channel value : ℕ) → event ≡ Control kind channel value → kind < 11 → 3 ≡ event_size event
  unfolding event_size when◌then◌else◌
  size_long kind channel value p h = rw p (simp lt-ltb)

  pub size_short : (kind channel value : ℕ) → event ≡ Control kind channel value → 11 ≤ kind → 2 ≡ event_size event
  unfolding event_size when◌then◌else◌
  size_short kind channel value p h = rw p (simp le-ltb)

  pub size_exclusive : (place size : ℕ) → event ≡ Exclusive place size → 3 + size ≡ event_size event
  unfolding event_size
  size_exclusive place size p = rw p

pub ruleset sizes = (size_nop, size_note, size_wave, size_long, size_short, size_exclusive)
