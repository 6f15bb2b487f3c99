-- A law for each case of the tests that go by cases on a voice or an event, and the room of an exclusive as the code tests it.
use Prim.Native.Nat.{ℕ, ◌+◌, ◌-◌, ◌%◌, ◌<◌, ◌≤◌}
use mathlib.Core.Bool.{Bool, true, false}
use mathlib.Core.List.{List}
use mathlib.Core.Path.{◌≡◌}
use lib.ListN.{length}
use native.Mathlib.Omega.{arith}
use borrow.Author.Tests.{lt-leb, le-leb}
use Rattle.model.specs.Words.{◌and◌, ◌≤?◌}
use Rattle.model.specs.Event.{is_note, is_wave}
use Rattle.model.specs.Writing.{is_gate, note_fits, wave_fits, control_fits, exclusive_fits, event_fits}
use Rattle.model.specs.declared.Voice.{Voice}
use Rattle.model.specs.declared.Voice.TheVariants.{Score, Pcm}
use Rattle.model.specs.declared.Event.{Event}
use Rattle.model.specs.declared.Event.TheVariants.{Nop, Note, Wave, Control, Exclusive}

module _ (voice : Voice) (channel low gate : ℕ) (z : Bool) where
  pub note_score : voice ≡ Score → z ≡ ((channel ≤? 3) and (low ≤? 63) and is_note (low % 16) and is_gate gate) → z ≡ note_fits voice channel low gate
  unfolding note_fits
  note_score p h = rw p h

  pub note_pcm : voice ≡ Pcm → z ≡ false → z ≡ note_fits voice channel low gate
  unfolding note_fits
  note_pcm p h = rw p h

  pub wave_score : voice ≡ Score → z ≡ false → z ≡ wave_fits voice channel low gate
  unfolding wave_fits
  wave_score p h = rw p h

  pub wave_pcm : voice ≡ Pcm → z ≡ ((channel ≤? 3) and is_wave low and is_gate gate) → z ≡ wave_fits voice channel low gate
  unfolding wave_fits
  wave_pcm p h = rw p h

pub ruleset voices = (note_score, note_pcm, wave_score, wave_pcm)

module _ (voice : Voice) (source : List ℕ) (event : Event) (z : Bool) where
  pub fits_nop : event ≡ Nop → z ≡ true → z ≡ event_fits voice source event
  unfolding event_fits
  fits_nop p h = rw p h

  pub fits_note : (channel key gate : ℕ) → event ≡ Note channel key gate → z ≡ note_fits voice channel key gate → z ≡ event_fits voice source event
  unfolding event_fits
  fits_note channel key gate p h = rw p h

  pub fits_wave : (channel number gate : ℕ) → event ≡ Wave channel number gate → z ≡ wave_fits voice channel number gate
      → z ≡ event_fits voice source event
  unfolding event_fits
  fits_wave channel number gate p h = rw p h

  pub fits_control : (kind channel value : ℕ) → event ≡ Control kind channel value → z ≡ control_fits voice kind channel value
      → z ≡ event_fits voice source event
  unfolding event_fits
  fits_control kind channel value p h = rw p h

  pub fits_exclusive : (place size : ℕ) → event ≡ Exclusive place size → z ≡ exclusive_fits source place size → z ≡ event_fits voice source event
  unfolding event_fits
  fits_exclusive place size p h = rw p h

pub ruleset events = (fits_nop, fits_note, fits_wave, fits_control, fits_exclusive)

module _ (s : List ℕ) (place size : ℕ) where
  pub source_short : length s < size + 3 → (place + 3 + size ≤? length s) ≡ false
  source_short h = lt-leb (place + 3 + size) (length s) (omega arith)

  pub source_past : length s - (size + 3) < place → (place + 3 + size ≤? length s) ≡ false
  source_past h = lt-leb (place + 3 + size) (length s) (omega arith)

  pub source_holds : size + 3 ≤ length s → place ≤ length s - (size + 3) → (place + 3 + size ≤? length s) ≡ true
  source_holds h k = le-leb (place + 3 + size) (length s) (omega arith)

pub ruleset sources = (source_short, source_past, source_holds)
