-- Short notes: how the code tells them, their length, and their bytes where a narrow note is given.
use Prim.Native.Nat.{ℕ, ◌+◌, ◌*◌, ◌/◌, ◌%◌, ◌<◌, ◌≤◌}
use mathlib.Core.Bool.{Bool, true, false, not, false≢true}
use mathlib.Core.List.{List, ◌∷◌, ◌++◌}
use mathlib.Core.Path.{◌≡◌, refl, sym, ◌∙◌, ap}
use lib.ListN.{length, set, length-set}
use lib.Seq.{sets}
use native.Mathlib.Numerals.{towards_suc}
use native.Mathlib.Omega.{arith}
use borrow.Author.Tests.{eqb-true, leb-true, le-ltb}
use Rattle.model.specs.Words.{when◌then◌else◌, ◌and◌, ◌≤?◌, ◌≡?◌}
use Rattle.model.specs.Event.{is_note}
use Rattle.model.specs.Item.{is_fine}
use Rattle.model.specs.Plain.{item_bytes}
use Rattle.model.specs.Content.{content_of, content_bytes}
use Rattle.model.specs.Writing.{timed_bytes, kind_in, channel_in, value_in, gate_in, event_in, is_kind, item_given}
use Rattle.model.specs.declared.Voice.{Voice}
use Rattle.model.specs.declared.Voice.TheVariants.{Score, Pcm}
use Rattle.model.specs.declared.Event.TheVariants.{Note}
use Rattle.model.proofs.Tests.{and_left, and_right, both_true}
use Rattle.writing.specs.Parts.{sound_bytes, given_bytes, is_narrow, is_short_note, is_short, short_bytes, ShortNote, sound_length}
use Rattle.writing.proofs.Durations.{one_byte}
use Rattle.writing.proofs.Contents.{note_fit, note_bytes}
use Rattle.writing.proofs.WordCases.{in_note}
use Rattle.writing.proofs.GivenItems.{given_fits, event_bytes}
use Rattle.writing.proofs.Lengths.{length_note, length_some}

-- HOW THEY ARE TOLD
module _ (word : ℕ) (z : Bool) where
  pub note_bits : z ≡ is_note (word / 0x20000 % 16) → z ≡ is_note (value_in word % 16)
  note_bits h = let e : word / 0x20000 % 16 ≡ value_in word % 16 = omega arith in h ∙ ap is_note e

  pub gate_bits : gate_in word ≤ 127 → z ≡ not (word / 4 % 0x80 ≡? 0) → z ≡ not (gate_in word ≡? 0)
  gate_bits g h = let e : word / 4 % 0x80 ≡ gate_in word = omega arith in h ∙ ap (λ (n : ℕ). not (n ≡? 0)) e

module _ (voice : Voice) (duration word : ℕ) (z : Bool) where
  pub short_score : voice ≡ Score → z ≡ is_short_note duration word → z ≡ is_short voice duration word
  unfolding is_short
  short_score p h = rw p h

  pub short_pcm : voice ≡ Pcm → z ≡ false → z ≡ is_short voice duration word
  unfolding is_short
  short_pcm p h = rw p h

pub ruleset short_voices = (short_score, short_pcm)

-- THREE STORES
module _ (l : List ℕ) (at duration word : ℕ) where
  pub short_second : (one : ℕ) → at + 3 ≤ length l → at + 1 < length (set l at one)
  short_second one h = simp length-set (omega arith)

  pub short_third : (one two : ℕ) → at + 3 ≤ length l → at + 2 < length (set (set l at one) (at + 1) two)
  short_third one two h = simp length-set (omega arith)

  pub short_stored : set (set (set l at duration) (at + 1) (channel_in word * 64 + value_in word)) (at + 2) (gate_in word) ≡ sets l at (short_bytes duration word)
  unfolding short_bytes
  short_stored = simp towards_suc

pub ruleset short_stores = (short_second, short_third, short_stored)

-- A NARROW NOTE that is given, with a duration of one byte
module _ (voice : Voice) (source : List ℕ) (duration word : ℕ) (there : is_fine (item_given voice source duration word) ≡ true) (brief : duration < 128)
    (narrow : is_narrow word ≡ true) where
  is_kind_note : kind_in word ≡ 1
  unfolding is_narrow
  is_kind_note = eqb-true (kind_in word) 1 (and_left _ _ narrow)

  gate_small : gate_in word < 128
  unfolding is_narrow
  gate_small = let h = leb-true (gate_in word) 127 (and_right (kind_in word ≡? 1) _ narrow) in omega arith

  no_mark : kind_in word ≡ 16 → ⊥
  no_mark e = let k = is_kind_note in omega arith

  said : Note (channel_in word) (value_in word) (gate_in word) ≡ event_in word
  said = sym (in_note word is_kind_note)

  pub short_note : ShortNote duration word
  short_note =
      let fit = note_fit voice source _ (channel_in word) (value_in word) (gate_in word) (given_fits voice source duration word there no_mark _ said) refl in
      record { brief = omega arith; small = fit.small; narrow = let g = gate_small in omega arith }

  short_bytes_lem : given_bytes (item_given voice source duration word) ≡ short_bytes duration word
  unfolding timed_bytes item_bytes short_bytes sound_bytes
  short_bytes_lem =
      event_bytes voice source duration word there no_mark _ said
      ∙ ap (λ (bytes : List ℕ). bytes ++ content_bytes (content_of source (Note (channel_in word) (value_in word) (gate_in word)))) (one_byte duration brief)
      ∙ ap (λ (bytes : List ℕ). duration ∷ bytes) (note_bytes voice source _ (channel_in word) (value_in word) (gate_in word) refl)
      ∙ ap (λ (bytes : List ℕ). duration ∷ (channel_in word * 64 + value_in word) ∷ bytes) (one_byte (gate_in word) gate_small)

  module _ (l : List ℕ) (at : ℕ) where
    pub short_room : at + length (given_bytes (item_given voice source duration word)) ≤ length l → at + 3 ≤ length l
    unfolding short_bytes
    short_room h = rw short_bytes_lem at h

    pub short_next : (n : ℕ) → n ≡ at + 3 → n ≡ at + length (given_bytes (item_given voice source duration word))
    unfolding short_bytes
    short_next n h = rw short_bytes_lem h

    pub short_wrote : (m : List ℕ) → m ≡ sets l at (short_bytes duration word) → m ≡ sets l at (given_bytes (item_given voice source duration word))
    short_wrote m h = rw short_bytes_lem h

pub ruleset short_parts = (short_note, short_room, short_next, short_wrote)

-- THE LENGTH of a short note, which is told from its numbers

not-true : (b : Bool) → not b ≡ true → b ≡ false
not-true true h = absurd (false≢true h)
not-true false h = refl

module _ (source : List ℕ) (duration word : ℕ) (short : is_short_note duration word ≡ true) where
  abbrev allowed : Bool
  allowed = (value_in word ≤? 63) and is_note (value_in word % 16)

  score_length : 3 ≡ length (given_bytes (item_given Score source duration word))
  unfolding is_short_note is_kind sound_length when◌then◌else◌ ◌and◌
  score_length =
      let brief = leb-true duration 127 (and_left _ _ short) in
      let from_kind = and_right (duration ≤? 127) _ short in
      let kind = eqb-true (kind_in word) 1 (and_left _ _ from_kind) in
      let from_value = and_right (kind_in word ≡? 1) _ from_kind in
      let value = and_left (value_in word ≤? 63) _ from_value in
      let from_gate = and_right (value_in word ≤? 63) _ from_value in
      let narrow = leb-true (gate_in word) 127 (and_left _ _ from_gate) in
      let from_bits = and_right (gate_in word ≤? 127) _ from_gate in
      let exact = and_left (word % 4 ≡? 0) _ from_bits in
      let from_note = and_right (word % 4 ≡? 0) _ from_bits in
      let note = and_left (is_note (value_in word % 16)) _ from_note in
      let sounds = not-true (gate_in word ≡? 0) (and_right (is_note (value_in word % 16)) _ from_note) in
      let fits : allowed ≡ true = both_true _ _ value note in
      let gate : gate_in word < 128 = omega arith in
      let two : 2 ≡ sound_length allowed word = rw fits (simp (exact, sounds, le-ltb 16511 (gate_in word) (omega arith), one_byte (gate_in word) gate)) in
      let event = length_note source word 2 kind allowed refl two in
      length_some Score source duration word (omega arith) (λ e. omega arith) true (simp kind) refl 2 event 1 (λ e. omega arith)
      (sym (ap length (one_byte duration (omega arith))))

pub short_length : (voice : Voice) (source : List ℕ) (duration word : ℕ) → is_short voice duration word ≡ true → 3 ≡ length (given_bytes (item_given voice source duration word))
unfolding is_short
short_length Score source duration word h = score_length source duration word h
short_length Pcm source duration word h = absurd (false≢true h)
