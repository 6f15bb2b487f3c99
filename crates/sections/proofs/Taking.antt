-- Items taken as plain numbers: a word is 0 exactly where there is no message, and what is taken agrees with what is read.
use Prim.Native.Nat.{ℕ, ◌+◌, ◌/◌, ◌%◌, ◌<◌, ◌≤◌}
use mathlib.Core.Bool.{true, false}
use mathlib.Core.List.{List}
use mathlib.Core.Path.{◌≡◌, refl, sym, ◌∙◌, ap, subst}
use lib.ListN.{length}
use native.Mathlib.Omega.{arith}
use Rattle.model.specs.Bytes.{◌!◌}
use Rattle.model.specs.Duration.{duration_at, gate_at}
use Rattle.model.specs.Event.{is_sound, sound, gated, sound_at}
use Rattle.model.specs.Item.{with_event, item_at}
use Rattle.model.specs.Word.{is_message, packed, word_of, InWord}
use Rattle.model.specs.declared.Voice.{Voice}
use Rattle.model.specs.declared.Voice.TheVariants.{Score, Pcm}
use Rattle.model.specs.declared.Event.{Event}
use Rattle.model.specs.declared.Event.TheVariants.{Nop, Note, Wave, Control, Exclusive}
use Rattle.std.specs.Prelude.{Ok, Err}
use Rattle.model.specs.Words.{Checked}
use Rattle.model.specs.declared.Refusal.{Refusal}
use Rattle.model.specs.declared.Read.{Read}
use Rattle.model.specs.declared.ReadItem.{ReadItem}
use Rattle.model.specs.declared.ReadItem.TheVariants.{Timed, EndMark}
use Rattle.model.proofs.Tests.{if_all}
use Rattle.items.proofs.Passing.{sounds_here}
use Rattle.sections.specs.Taking.{AllBytes, taken_as, taken_mark, EventAgrees, ItemAgrees}
use Rattle.sections.specs.declared.Taken.{Taken}
use Rattle.sections.proofs.InWords.{DurationShort, duration_short, gate_short, ItemInWord, item_in_word}

pub word_some : (event : Event) → (word_of event ≡ 0 → ⊥) → is_message event ≡ true
unfolding is_message word_of
word_some Nop h = absurd (h refl)
word_some (Note channel key gate) h = refl
word_some (Wave channel number gate) h = refl
word_some (Control kind channel value) h = refl
word_some (Exclusive place size) h = refl

pub word_none : (event : Event) → InWord event → word_of event ≡ 0 → is_message event ≡ false
unfolding is_message word_of
word_none Nop h e = refl
word_none (Note channel key gate) h e = absurd (omega arith)
word_none (Wave channel number gate) h e = absurd (omega arith)
word_none (Control kind channel value) h e = absurd (omega arith)
word_none (Exclusive place size) h e = absurd (omega arith)

module _ (voice : Voice) (byte gate z : ℕ) where
  pub score_word : voice ≡ Score → z ≡ packed 1 (byte / 64) (byte % 64) gate → z ≡ word_of (sound voice byte gate)
  unfolding sound word_of
  score_word p h = rw p h

  pub pcm_word : voice ≡ Pcm → z ≡ packed 2 (byte / 64) (byte % 64) gate → z ≡ word_of (sound voice byte gate)
  unfolding sound word_of
  pcm_word p h = rw p h

-- A NOTE OR WAVE

module _ (s : List ℕ) (bytes : AllBytes s) (at : ℕ) (d : Checked (Read ℕ)) (is : d ≡ gate_at s at) (read : Read ℕ) (e : d ≡ Ok read) where
  pub gate_fits : read.what < 32768
  unfolding gate_at
  gate_fits =
      let short = subst DurationShort (sym is ∙ e) (gate_short s bytes at (duration_at s at) (duration_short s bytes at)) in
      omega arith

module _ (voice : Voice) (s : List ℕ) (at length : ℕ) (d : Checked (Read ℕ)) (is : d ≡ gate_at s (at + 1)) (r : Taken) where
  agrees_where : EventAgrees length r (gated voice (s ! at) d) → EventAgrees length r (sound_at voice s at)
  unfolding sound_at EventAgrees
  agrees_where h =
      if_all (EventAgrees length r) (is_sound voice (s ! at)) _ _
      (λ t. subst (λ (x : Checked (Read ℕ)). EventAgrees length r (gated voice (s ! at) x)) is h)
      (λ t. tt)

  pub sound_taken : (read : Read ℕ) (word : ℕ) → d ≡ Ok read → word ≡ word_of (sound voice (s ! at) read.what) → r ≡ taken_as read.next length word
      → EventAgrees length r (sound_at voice s at)
  unfolding gated EventAgrees
  sound_taken read word e w h = agrees_where (rw e (h ∙ ap (taken_as read.next length) w))

  pub sound_refused : (why : Refusal) → d ≡ Err why → EventAgrees length r (sound_at voice s at)
  unfolding gated EventAgrees
  sound_refused why e = agrees_where (rw e tt)

-- AN ITEM THAT IS READ

module _ (voice : Voice) (s : List ℕ) (at : ℕ) (i : Checked ReadItem) (is : i ≡ item_at voice s at) where
  pub read_in_word : (read : ReadItem) (duration next : ℕ) (what : Event) → AllBytes s → length s ≤ 65536 → i ≡ Ok read
      → read ≡ Timed duration what next → InWord what
  read_in_word read duration next what bytes small e f = (subst ItemInWord (sym is ∙ e ∙ ap Ok f) (item_in_word s bytes small voice at)).1

  module _ (r : Taken) where
    pub read_timed : (read : ReadItem) (duration next word : ℕ) (what : Event) → i ≡ Ok read → read ≡ Timed duration what next → word ≡ word_of what
        → r ≡ taken_as next duration word → ItemAgrees r (item_at voice s at)
    unfolding ItemAgrees
    read_timed read duration next word what e f w h = subst (ItemAgrees r) (sym (e ∙ ap Ok f) ∙ is) (h ∙ ap (taken_as next duration) w)

    pub read_mark : (read : ReadItem) (next : ℕ) → i ≡ Ok read → read ≡ EndMark next → r ≡ taken_mark next 0 → ItemAgrees r (item_at voice s at)
    unfolding ItemAgrees
    read_mark read next e f h = subst (ItemAgrees r) (sym (e ∙ ap Ok f) ∙ is) h

    pub read_refused : (why : Refusal) → i ≡ Err why → ItemAgrees r (item_at voice s at)
    unfolding ItemAgrees
    read_refused why e = subst (ItemAgrees r) (sym e ∙ is) tt

-- AFTER A DURATION OF ONE BYTE

with_agrees : (length : ℕ) (r : Taken) (e : Checked (Read Event)) → EventAgrees length r e → ItemAgrees r (with_event length e)
unfolding with_event EventAgrees ItemAgrees
with_agrees length r (Ok read) h = h
with_agrees length r (Err why) h = tt

module _ (voice : Voice) (s : List ℕ) (at : ℕ) (there : at + 1 < length s) (one : s ! at < 128) (control : s ! (at + 1) ≡ 0x00 → ⊥)
    (system : s ! (at + 1) ≡ 0xFF → ⊥) where
  pub item_sounds : (r : Taken) → EventAgrees (s ! at) r (sound_at voice s (at + 1)) → ItemAgrees r (item_at voice s at)
  item_sounds r h = subst (ItemAgrees r) (sym (sounds_here voice s at there one control system)) (with_agrees (s ! at) r (sound_at voice s (at + 1)) h)

pub ruleset taking = (score_word, pcm_word, gate_fits, sound_taken, sound_refused, read_in_word, read_timed, read_mark, read_refused, item_sounds)
