-- The numbers of an event that can be written, taken out of the test that they pass.
use Prim.Native.Nat.{ℕ, ◌+◌, ◌%◌, ◌<◌, ◌≤◌}
use mathlib.Core.Bool.{true}
use mathlib.Core.List.{List}
use mathlib.Core.Path.{◌≡◌, sym, ◌∙◌, subst}
use lib.Dec.{T}
use lib.ListN.{length}
use borrow.Author.Tests.{leb-true, eqb-true, lt-ltb, le-ltb}
use Rattle.model.specs.Words.{◌and◌, ◌<?◌, ◌≤?◌}
use Rattle.model.specs.Bytes.{◌!◌}
use Rattle.model.specs.Event.{is_note, is_wave, has_kind, is_value}
use Rattle.model.specs.Writing.{is_gate, note_fits, wave_fits, value_fits, control_fits, exclusive_fits}
use Rattle.model.specs.declared.Voice.{Voice}
use Rattle.model.specs.declared.Voice.TheVariants.{Score, Pcm}
use Rattle.model.proofs.Tests.{and_left, and_right, if_true, if_false}

pub record IsGate (gate : ℕ) : Type 0 where
  pub sounds : 1 ≤ gate
  pub short : gate ≤ 16511

pub record IsNote (channel key gate : ℕ) : Type 0 where
  pub few : channel ≤ 3
  pub small : key ≤ 63
  pub note : is_note (key % 16) ≡ true
  pub lasts : IsGate gate

pub record IsWave (channel number gate : ℕ) : Type 0 where
  pub few : channel ≤ 3
  pub from : 1 ≤ number
  pub to : number ≤ 62
  pub lasts : IsGate gate

pub record IsControl (voice : Voice) (kind channel value : ℕ) : Type 0 where
  pub few : channel ≤ 3
  pub from : 3 ≤ kind
  pub to : kind ≤ 13
  pub has : has_kind voice kind ≡ true
  pub long : kind < 11 → is_value kind value ≡ true
  pub short : 11 ≤ kind → (1 ≤ value) × (value ≤ 14)

pub record IsExclusive (s : List ℕ) (place size : ℕ) : Type 0 where
  pub enough : 3 ≤ size
  pub inside : place + 3 + size ≤ length s
  pub closed : s ! (place + 2 + size) ≡ 0xF7

is_gate_lem : (gate : ℕ) → is_gate gate ≡ true → IsGate gate
unfolding is_gate
is_gate_lem gate h = record { sounds = leb-true 1 gate (and_left _ _ h); short = leb-true gate 16511 (and_right _ _ h) }

pub is_note_lem : (voice : Voice) (channel key gate : ℕ) → note_fits voice channel key gate ≡ true → IsNote channel key gate
unfolding note_fits
is_note_lem Score channel key gate h =
    let k = and_right (channel ≤? 3) _ h in
    let n = and_right (key ≤? 63) _ k in
    record {
      few = leb-true channel 3 (and_left _ _ h);
      small = leb-true key 63 (and_left _ _ k);
      note = and_left _ _ n;
      lasts = is_gate_lem gate (and_right (is_note (key % 16)) _ n);
    }
is_note_lem Pcm channel key gate h = absurd (subst T (sym h) tt)

pub is_wave_lem : (voice : Voice) (channel number gate : ℕ) → wave_fits voice channel number gate ≡ true → IsWave channel number gate
unfolding wave_fits is_wave
is_wave_lem Score channel number gate h = absurd (subst T (sym h) tt)
is_wave_lem Pcm channel number gate h =
    let n = and_right (channel ≤? 3) _ h in
    let w = and_left ((1 ≤? number) and (number ≤? 62)) _ n in
    record {
      few = leb-true channel 3 (and_left _ _ h);
      from = leb-true 1 number (and_left _ _ w);
      to = leb-true number 62 (and_right (1 ≤? number) _ w);
      lasts = is_gate_lem gate (and_right ((1 ≤? number) and (number ≤? 62)) _ n);
    }

pub is_control : (voice : Voice) (kind channel value : ℕ) → control_fits voice kind channel value ≡ true → IsControl voice kind channel value
unfolding control_fits value_fits
is_control voice kind channel value h =
    let k = and_right (channel ≤? 3) _ h in
    let l = and_right (3 ≤? kind) _ k in
    let m = and_right (kind ≤? 13) _ l in
    let n = and_right (has_kind voice kind) _ m in
    let short : 11 ≤ kind → ((1 ≤? value) and (value ≤? 14)) ≡ true = λ q. sym (if_false (kind <? 11) (is_value kind value) _ (le-ltb kind 11 q)) ∙ n in
    record {
      few = leb-true channel 3 (and_left _ _ h);
      from = leb-true 3 kind (and_left _ _ k);
      to = leb-true kind 13 (and_left _ _ l);
      has = and_left _ _ m;
      long = λ q. sym (if_true (kind <? 11) (is_value kind value) _ (lt-ltb kind 11 q)) ∙ n;
      short = λ q. (leb-true 1 value (and_left _ _ (short q)), leb-true value 14 (and_right (1 ≤? value) _ (short q)));
    }

pub is_exclusive : (s : List ℕ) (place size : ℕ) → exclusive_fits s place size ≡ true → IsExclusive s place size
unfolding exclusive_fits
is_exclusive s place size h =
    let k = and_right (3 ≤? size) _ h in
    record {
      enough = leb-true 3 size (and_left _ _ h);
      inside = leb-true (place + 3 + size) (length s) (and_left _ _ k);
      closed = eqb-true (s ! (place + 2 + size)) 0xF7 (and_right (place + 3 + size ≤? length s) _ k);
    }
