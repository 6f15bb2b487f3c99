-- Messages and words, event by event: what `is_message` and `word_of` answer.
use Prim.Native.Nat.{ℕ}
use mathlib.Core.Bool.{Bool, true, false}
use mathlib.Core.Path.{◌≡◌, refl, sym, ◌∙◌, ap}
use Rattle.model.specs.Word.{is_message, packed, packed_exclusive, word_of}
use Rattle.model.specs.declared.Event.{Event}
use Rattle.model.specs.declared.Event.TheVariants.{Nop, Note, Wave, Control, Exclusive}

pub no_nop : (event : Event) → (event ≡ Nop → ⊥) → true ≡ is_message event
unfolding is_message
no_nop Nop h = absurd (h refl)
no_nop (Note channel key gate) h = refl
no_nop (Wave channel number gate) h = refl
no_nop (Control kind channel value) h = refl
no_nop (Exclusive place size) h = refl

module _ (event : Event) where
  module _ (is : event ≡ Nop) where
    pub nop_message : (r : Bool) → r ≡ false → r ≡ is_message event
    unfolding is_message
    nop_message r h = h ∙ sym (ap is_message is)

    pub nop_word : (r : ℕ) → r ≡ 0 → r ≡ word_of event
    unfolding word_of
    nop_word r h = h ∙ sym (ap word_of is)

  module _ (channel value gate : ℕ) (is : event ≡ Note channel value gate) where
    pub note_word : (r : ℕ) → r ≡ packed 1 channel value gate → r ≡ word_of event
    unfolding word_of
    note_word r h = h ∙ sym (ap word_of is)

  module _ (channel value gate : ℕ) (is : event ≡ Wave channel value gate) where
    pub wave_word : (r : ℕ) → r ≡ packed 2 channel value gate → r ≡ word_of event
    unfolding word_of
    wave_word r h = h ∙ sym (ap word_of is)

  module _ (kind channel value : ℕ) (is : event ≡ Control kind channel value) where
    pub control_word : (r : ℕ) → r ≡ packed kind channel value 0 → r ≡ word_of event
    unfolding word_of
    control_word r h = h ∙ sym (ap word_of is)

  module _ (place size : ℕ) (is : event ≡ Exclusive place size) where
    pub exclusive_word : (r : ℕ) → r ≡ packed_exclusive place size → r ≡ word_of event
    unfolding word_of
    exclusive_word r h = h ∙ sym (ap word_of is)

pub ruleset words = (nop_word, note_word, wave_word, control_word, exclusive_word)
