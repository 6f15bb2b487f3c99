-- Durations and events read back: where their bytes stand, the readers give their numbers again (half of demand 2, for ReadBack.antt).
use Prim.Native.Nat.{ℕ, suc, ◌+◌, ◌-◌, ◌*◌, ◌/◌, ◌%◌, ◌<◌, ◌≤◌}
use mathlib.Core.Bool.{true}
use mathlib.Core.List.{List, [], ◌∷◌}
use mathlib.Core.Path.{◌≡◌, refl, sym, ◌∙◌, ap, subst}
use lib.Dec.{T}
use lib.ListN.{length}
use native.Mathlib.Decide.{dec_lt}
use native.Mathlib.Omega.{arith}
use borrow.Author.Tests.{le-ltb, lt-ltb, le-leb, lt-leb, ne_eqb, leb-true, eqb-true}
use Rattle.model.specs.Words.{when◌then◌else◌, ◌and◌, ◌≤?◌, ◌up_to◌}
use Rattle.model.specs.Bytes.{◌!◌}
use Rattle.model.specs.Duration.{two_byte_value, duration_at, not_zero, gate_at, duration_bytes}
use Rattle.model.specs.Event.{is_note, is_wave, is_sound, sound, gated, sound_at, long_at, short_at, formed, control_at, closed_at, exclusive_at, system_at, event_at}
use Rattle.model.specs.Content.{Content, Content.nop, Content.note, Content.wave, Content.control, Content.exclusive, content_of, code_of, control_bytes, content_bytes}
use Rattle.model.specs.Writing.{note_fits, wave_fits, content_fits}
use Rattle.model.specs.declared.Voice.{Voice}
use Rattle.model.specs.declared.Voice.TheVariants.{Score, Pcm}
use Rattle.model.specs.declared.Event.{Event}
use Rattle.model.specs.declared.Event.TheVariants.{Nop, Note, Wave, Control, Exclusive}
use Rattle.std.specs.Prelude.{Ok}
use Rattle.model.proofs.Tests.{and_left, and_right}
use Rattle.model.proofs.Codes.{code_low, kind_back}
use Rattle.writing.proofs.Durations.{one_byte, two_bytes}
use Rattle.writing.proofs.Events.{control_long, control_short}
use Rattle.writing.proofs.Numbers.{IsGate, IsNote, IsWave, IsControl, is_note_lem, is_wave_lem, is_control}
use Rattle.writing.proofs.Stands.{Stands, stands_byte, stands_within, stands_part}

-- durations and gate times
short_back : (s : List ℕ) (at value : ℕ) → value < 128 → Stands s at (value ∷ []) → duration_at s at ≡ Ok (value up_to (at + 1))
unfolding duration_at when◌then◌else◌
short_back s at value h st = let a = st.0 in let e = st.1 in simp (lt-leb, lt-ltb, e)

long_back : (s : List ℕ) (at one two : ℕ) → 128 ≤ one → two < 128 → Stands s at (one ∷ two ∷ [])
    → duration_at s at ≡ Ok ((two_byte_value one two) up_to (at + 2))
unfolding duration_at when◌then◌else◌
long_back s at one two h k st =
    let a = st.0 in
    let e = st.1 in
    let b = st.2.0 in
    let f = st.2.1 in
    simp (lt-leb, lt-ltb, le-ltb, e, f)

pub duration_back : (s : List ℕ) (at value : ℕ) → value ≤ 16511 → Stands s at (duration_bytes value)
    → duration_at s at ≡ Ok (value up_to (at + length (duration_bytes value)))
duration_back s at value m st =
    elim (dec_lt value 128) [
      | yes q ↦ rw one_byte (short_back s at value q (rw one_byte at st))
      | no q ↦ let h : 128 ≤ value = omega arith in
          rw (two_bytes value h) (long_back s at _ _ (omega arith) (omega arith) (rw (two_bytes value h) at st) ∙ ap (λ (n : ℕ). Ok (n up_to (at + 2))) (omega arith))
    ]

gate_back : (s : List ℕ) (at gate : ℕ) → IsGate gate → Stands s at (duration_bytes gate) → gate_at s at ≡ Ok (gate up_to (at + length (duration_bytes gate)))
unfolding gate_at not_zero when◌then◌else◌
gate_back s at gate g st =
    let d = duration_back s at gate g.short st in
    let z : gate ≡ 0 → ⊥ = omega arith in
    simp (d, ne_eqb)

-- the event of a content whose bytes begin at a place
unfoldable pub event_from : ℕ → Content → Event
event_from place nop = Nop
event_from place (note channel key gate) = Note channel key gate
event_from place (wave channel number gate) = Wave channel number gate
event_from place (control kind channel value) = Control kind channel value
event_from place (exclusive bytes) = Exclusive place (length bytes)

pub note_low : (low : ℕ) → is_note low ≡ true → 1 ≤ low
unfolding is_note
note_low low h = leb-true 1 low (and_left _ _ h)

note_top : (low : ℕ) → is_note low ≡ true → low ≤ 12
unfolding is_note
note_top low h = leb-true low 12 (and_right (1 ≤? low) _ h)

note_back : (s : List ℕ) (at channel key gate : ℕ) → IsNote channel key gate → Stands s at ((channel * 64 + key) ∷ duration_bytes gate)
    → event_at Score s at ≡ Ok ((Note channel key gate) up_to (at + length ((channel * 64 + key) ∷ duration_bytes gate)))
unfolding event_at sound_at is_sound sound gated when◌then◌else◌
note_back s at channel key gate n st =
    let h = st.0 in
    let e = st.1 in
    let low = note_low (key % 16) n.note in
    let top = note_top (key % 16) n.note in
    let z : channel * 64 + key ≡ 0 → ⊥ = omega arith in
    let f : channel * 64 + key ≡ 255 → ⊥ = omega arith in
    let ok : is_note ((channel * 64 + key) % 16) ≡ true = ap is_note (omega arith) ∙ n.note in
    let g = gate_back s (at + 1) gate n.lasts st.2 in
    let x : at + 1 + length (duration_bytes gate) ≡ at + length ((channel * 64 + key) ∷ duration_bytes gate) = omega arith in
    let c : (channel * 64 + key) / 64 ≡ channel = omega arith in
    let k : (channel * 64 + key) % 64 ≡ key = omega arith in
    simp (lt-leb, e, ne_eqb, ok, g, c, k) (ap (λ (n : ℕ). Ok ((Note channel key gate) up_to n)) x)

wave_back : (s : List ℕ) (at channel number gate : ℕ) → IsWave channel number gate → Stands s at ((channel * 64 + number) ∷ duration_bytes gate)
    → event_at Pcm s at ≡ Ok ((Wave channel number gate) up_to (at + length ((channel * 64 + number) ∷ duration_bytes gate)))
unfolding event_at sound_at is_sound is_wave sound gated when◌then◌else◌ ◌and◌
wave_back s at channel number gate n st =
    let h = st.0 in
    let e = st.1 in
    let low = n.from in
    let top = n.to in
    let z : channel * 64 + number ≡ 0 → ⊥ = omega arith in
    let f : channel * 64 + number ≡ 255 → ⊥ = omega arith in
    let g = gate_back s (at + 1) gate n.lasts st.2 in
    let x : at + 1 + length (duration_bytes gate) ≡ at + length ((channel * 64 + number) ∷ duration_bytes gate) = omega arith in
    let c : (channel * 64 + number) / 64 ≡ channel = omega arith in
    let k : (channel * 64 + number) % 64 ≡ number = omega arith in
    simp (lt-leb, e, ne_eqb, le-leb, g, c, k) (ap (λ (n : ℕ). Ok ((Wave channel number gate) up_to n)) x)

nop_back : (voice : Voice) (s : List ℕ) (at : ℕ) → Stands s at (0xFF ∷ 0x00 ∷ []) → event_at voice s at ≡ Ok (Nop up_to (at + 2))
unfolding event_at system_at when◌then◌else◌
nop_back voice s at st =
    let h = st.0 in
    let e = st.1 in
    let k = st.2.0 in
    let d = st.2.1 in
    simp (lt-leb, e, d)

-- controls of form 3, and of the other forms
control_long_back : (voice : Voice) (s : List ℕ) (at kind channel value : ℕ) → kind < 11 → IsControl voice kind channel value
    → Stands s at (0x00 ∷ (channel * 64 + 3 * 16 + code_of kind) ∷ value ∷ []) → event_at voice s at ≡ Ok ((Control kind channel value) up_to (at + 3))
unfolding event_at control_at formed long_at when◌then◌else◌
control_long_back voice s at kind channel value l n st =
    let h = st.0 in
    let e = st.1 in
    let h1 = st.2.0 in
    let e1 = st.2.1 in
    let h2 : at + 2 < length s = omega arith in
    let e2 : s ! (at + 2) ≡ value = ap (λ (n : ℕ). s ! n) (omega arith) ∙ st.2.2.1 in
    let low = code_low kind l in
    let form : (channel * 64 + 3 * 16 + code_of kind) / 16 % 4 ≡ 3 = omega arith in
    let chan : (channel * 64 + 3 * 16 + code_of kind) / 64 ≡ channel = omega arith in
    let lowest : (channel * 64 + 3 * 16 + code_of kind) % 16 ≡ code_of kind = omega arith in
    let back = kind_back kind n.from l in
    let k0 : kind ≡ 0 → ⊥ = omega (arith, n.from) in
    let has = n.has in
    let ok = n.long l in
    simp (lt-leb, e, e1, form, chan, lowest, back, e2, ne_eqb, has, ok)

control_short_back : (voice : Voice) (s : List ℕ) (at kind channel value : ℕ) → 11 ≤ kind → IsControl voice kind channel value
    → Stands s at (0x00 ∷ (channel * 64 + (13 - kind) * 16 + value) ∷ []) → event_at voice s at ≡ Ok ((Control kind channel value) up_to (at + 2))
unfolding event_at control_at formed short_at when◌then◌else◌
control_short_back voice s at kind channel value l n st =
    let h = st.0 in
    let e = st.1 in
    let h1 = st.2.0 in
    let e1 = st.2.1 in
    let v = n.short l in
    let to = n.to in
    let form : (channel * 64 + (13 - kind) * 16 + value) / 16 % 4 ≡ 13 - kind = omega arith in
    let n3 : 13 - kind ≡ 3 → ⊥ = omega arith in
    let chan : (channel * 64 + (13 - kind) * 16 + value) / 64 ≡ channel = omega arith in
    let low : (channel * 64 + (13 - kind) * 16 + value) % 16 ≡ value = omega arith in
    let back : 13 - (13 - kind) ≡ kind = omega arith in
    let has = n.has in
    let v0 : value ≡ 0 → ⊥ = omega arith in
    let v15 : value ≡ 15 → ⊥ = omega arith in
    simp (lt-leb, e, e1, form, chan, low, back, has, ne_eqb)

control_back : (voice : Voice) (s : List ℕ) (at kind channel value : ℕ) → IsControl voice kind channel value → Stands s at (control_bytes kind channel value)
    → event_at voice s at ≡ Ok ((Control kind channel value) up_to (at + length (control_bytes kind channel value)))
control_back voice s at kind channel value n st =
    elim (dec_lt kind 11) [
      | yes q ↦ rw (control_long kind channel value q) (control_long_back voice s at kind channel value q n (rw (control_long kind channel value q) at st))
      | no q ↦ let h : 11 ≤ kind = omega arith in
          rw (control_short kind channel value h) (control_short_back voice s at kind channel value h n (rw (control_short kind channel value h) at st))
    ]

-- an exclusive: its last byte closes it
exclusive_back : (voice : Voice) (s : List ℕ) (at : ℕ) (bytes : List ℕ) → 3 ≤ length bytes → bytes ! (length bytes - 1) ≡ 0xF7
    → Stands s at (0xFF ∷ 0xF0 ∷ length bytes ∷ bytes) → event_at voice s at ≡ Ok ((Exclusive at (length bytes)) up_to (at + suc (suc (suc (length bytes)))))
unfolding event_at system_at exclusive_at closed_at when◌then◌else◌
exclusive_back voice s at bytes many last st =
    let h = st.0 in
    let e = st.1 in
    let h1 = st.2.0 in
    let e1 = st.2.1 in
    let h2 : at + 2 < length s = omega (arith, st.2.2.0) in
    let e2 : s ! (at + 2) ≡ length bytes = ap (λ (n : ℕ). s ! n) (omega arith) ∙ st.2.2.1 in
    let body : Stands s (at + 3) bytes = subst (λ (n : ℕ). Stands s n bytes) (omega arith) st.2.2.2 in
    let h3 : at + 2 + length bytes < length s = omega (arith, stands_within s (at + 3) bytes (omega arith) body) in
    let p : at + 2 + length bytes ≡ at + 3 + (length bytes - 1) = omega arith in
    let e3 : s ! (at + 2 + length bytes) ≡ 0xF7 = ap (λ (n : ℕ). s ! n) p ∙ stands_byte s (at + 3) bytes (length bytes - 1) (omega arith) body ∙ last in
    simp (lt-leb, e, e1, e2, le-ltb, e3) (ap (λ (n : ℕ). Ok ((Exclusive at (length bytes)) up_to n)) (omega arith))

pub event_back : (voice : Voice) (s : List ℕ) (at : ℕ) (content : Content) → content_fits voice content ≡ true → Stands s at (content_bytes content)
    → event_at voice s at ≡ Ok ((event_from at content) up_to (at + length (content_bytes content)))
unfolding content_fits content_bytes event_from note_fits wave_fits
event_back voice s at nop h st = nop_back voice s at st
event_back Score s at (note channel key gate) h st = note_back s at channel key gate (is_note_lem Score channel key gate h) st
event_back Pcm s at (note channel key gate) h st = absurd (subst T (sym h) tt)
event_back Score s at (wave channel number gate) h st = absurd (subst T (sym h) tt)
event_back Pcm s at (wave channel number gate) h st = wave_back s at channel number gate (is_wave_lem Pcm channel number gate h) st
event_back voice s at (control kind channel value) h st =
    control_back voice s at kind channel value (is_control voice kind channel value (and_left _ _ h)) st
event_back voice s at (exclusive bytes) h st =
    let k = and_right (3 ≤? length bytes) _ h in
    let l = and_right (length bytes ≤? 255) _ k in
    exclusive_back voice s at bytes (leb-true 3 (length bytes) (and_left _ _ h)) (eqb-true (bytes ! (length bytes - 1)) 0xF7 l) st

-- and its content is the one that was written
pub content_back : (s : List ℕ) (at : ℕ) (content : Content) → Stands s at (content_bytes content) → content_of s (event_from at content) ≡ content
unfolding content_bytes event_from content_of
content_back s at nop st = refl
content_back s at (note channel key gate) st = refl
content_back s at (wave channel number gate) st = refl
content_back s at (control kind channel value) st = refl
content_back s at (exclusive bytes) st =
    let p : at + 1 + 1 + 1 ≡ at + 3 = omega arith in
    ap exclusive (stands_part s (at + 3) bytes (subst (λ (n : ℕ). Stands s n bytes) p st.2.2.2))
