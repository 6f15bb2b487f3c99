-- Demand 2: the word of an event says that event to the writer, so that what was played, or given as an item, can be written as it stands in the table.
use Prim.Native.Nat.{◌≤◌}
use mathlib.Core.Path.{◌≡◌, refl}
use native.Mathlib.Omega.{arith}
use borrow.Author.Tests.{le-leb, ne_eqb}
use Rattle.model.specs.Words.{when◌then◌else◌, ◌and◌}
use Rattle.model.specs.Word.{packed, packed_exclusive, word_of, InWord}
use Rattle.model.specs.Writing.{kind_in, channel_in, value_in, gate_in, place_in, size_in, event_in, event_word}
use Rattle.model.specs.declared.Event.{Event}
use Rattle.model.specs.declared.Event.TheVariants.{Nop, Note, Wave, Control, Exclusive}

pub word_back : (event : Event) → InWord event → event_in (word_of event) ≡ event
unfolding word_of event_in when◌then◌else◌ ◌and◌
word_back Nop h = refl
word_back (Note channel key gate) h =
    let k : kind_in (packed 1 channel key gate) ≡ 1 = omega arith in
    let c : channel_in (packed 1 channel key gate) ≡ channel = omega arith in
    let v : value_in (packed 1 channel key gate) ≡ key = omega arith in
    let g : gate_in (packed 1 channel key gate) ≡ gate = omega arith in
    simp (k, c, v, g)
word_back (Wave channel number gate) h =
    let k : kind_in (packed 2 channel number gate) ≡ 2 = omega arith in
    let c : channel_in (packed 2 channel number gate) ≡ channel = omega arith in
    let v : value_in (packed 2 channel number gate) ≡ number = omega arith in
    let g : gate_in (packed 2 channel number gate) ≡ gate = omega arith in
    simp (k, c, v, g)
word_back (Control kind channel value) h =
    let k : kind_in (packed kind channel value 0) ≡ kind = omega arith in
    let c : channel_in (packed kind channel value 0) ≡ channel = omega arith in
    let v : value_in (packed kind channel value 0) ≡ value = omega arith in
    let n1 : kind ≡ 1 → ⊥ = λ e. omega arith in
    let n2 : kind ≡ 2 → ⊥ = λ e. omega arith in
    let n14 : kind ≡ 14 → ⊥ = λ e. omega arith in
    let from : 3 ≤ kind = omega arith in
    let to : kind ≤ 13 = omega arith in
    simp (k, c, v, ne_eqb, le-leb)
word_back (Exclusive place size) h =
    let k : kind_in (packed_exclusive place size) ≡ 14 = omega arith in
    let p : place_in (packed_exclusive place size) ≡ place = omega arith in
    let n : size_in (packed_exclusive place size) ≡ size = omega arith in
    simp (k, p, n)

pub given_word_back : (event : Event) → InWord event → event_in (event_word event) ≡ event
unfolding event_word event_in when◌then◌else◌ ◌and◌
given_word_back Nop h = refl
given_word_back (Note channel key gate) h = word_back (Note channel key gate) h
given_word_back (Wave channel number gate) h = word_back (Wave channel number gate) h
given_word_back (Control kind channel value) h = word_back (Control kind channel value) h
given_word_back (Exclusive place size) h = word_back (Exclusive place size) h
