-- Lines: what each event prints, and a line in its parts.
use Prim.Native.Nat.{ℕ, ◌+◌}
use mathlib.Core.List.{List, ◌++◌, append_assoc}
use mathlib.Core.Path.{◌≡◌, sym, ◌∙◌, ap, ap₂}
use lib.ListN.{length, get_or}
use lib.Seq.{sets}
use Rattle.model.specs.Listing.{Line, long_kind_of, long_value_of, line_of}
use Rattle.model.specs.ListingText.{fields, line_text}
use Rattle.model.specs.declared.Event.{Event}
use Rattle.model.specs.declared.Event.TheVariants.{Nop, Note, Wave, Control, Exclusive}
use Rattle.lines.specs.declared.line.Printed.{Printed}
use Rattle.lines.proofs.Numbers.{joined_next, joined_written}
use Rattle.lines.specs.Fields.{closed, said, note_line, voiced_line, unvoiced_line, times_text, source_text, value_text}

-- THE LINE of each event
module _ (shifts : List ℕ) (step ms : ℕ) (event : Event) (line : Line) where
  pub note_line_lem : (channel key gate shift : ℕ) → event ≡ Note channel key gate → shift ≡ get_or shifts channel 0
      → line ≡ note_line shift step ms channel key gate → line ≡ line_of shifts step ms event
  unfolding line_of note_line
  note_line_lem channel key gate shift e is h = h ∙ ap (λ (n : ℕ). note_line n step ms channel key gate) is ∙ sym (ap (line_of shifts step ms) e)

  pub wave_line : (channel number gate : ℕ) → event ≡ Wave channel number gate → line ≡ voiced_line step ms channel 2 number gate
      → line ≡ line_of shifts step ms event
  unfolding line_of voiced_line
  wave_line channel number gate e h = h ∙ sym (ap (line_of shifts step ms) e)

  pub control_line : (kind channel value long number : ℕ) → event ≡ Control kind channel value → long ≡ long_kind_of kind → number ≡ long_value_of kind value
      → line ≡ voiced_line step ms channel long number 0 → line ≡ line_of shifts step ms event
  unfolding line_of voiced_line
  control_line kind channel value long number e p q h =
      h ∙ ap₂ (λ (n v : ℕ). voiced_line step ms channel n v 0) p q ∙ sym (ap (line_of shifts step ms) e)

  pub exclusive_line : (place size : ℕ) → event ≡ Exclusive place size → line ≡ unvoiced_line step ms 14 size → line ≡ line_of shifts step ms event
  unfolding line_of unvoiced_line
  exclusive_line place size e h = h ∙ sym (ap (line_of shifts step ms) e)

  pub nop_line : event ≡ Nop → line ≡ unvoiced_line step ms 0 0 → line ≡ line_of shifts step ms event
  unfolding line_of unvoiced_line
  nop_line e h = h ∙ sym (ap (line_of shifts step ms) e)

pub ruleset printed = (note_line_lem, wave_line, control_line, exclusive_line, nop_line)

-- A LINE IN PARTS
module _ (line : Printed) where
  abbrev times : List ℕ
  times = times_text line.step line.ms

  line_parts : times_text line.step line.ms ++ source_text line ++ value_text line ≡ line_text (said line)
  unfolding line_text said fields times_text source_text value_text closed
  line_parts = sym (simp append_assoc)

  module _ (at source value : ℕ) (p : source ≡ at + length (times_text line.step line.ms)) (q : value ≡ source + length (source_text line)) where
    pub line_next : (r : ℕ) → r ≡ value + length (value_text line) → r ≡ at + length (line_text (said line))
    line_next r e =
        joined_next (times ++ source_text line) (value_text line) at value (joined_next times (source_text line) at source p value q) r e
        ∙ ap (λ (text : List ℕ). at + length text) line_parts

    pub line_written : (l one two last : List ℕ) → one ≡ sets l at (times_text line.step line.ms) → two ≡ sets one source (source_text line)
        → last ≡ sets two value (value_text line) → last ≡ sets l at (line_text (said line))
    line_written l one two last e f g =
        joined_written (times ++ source_text line) (value_text line) at value (joined_next times (source_text line) at source p value q) l two last
        (joined_written times (source_text line) at source p l one two e f) g
        ∙ ap (sets l at) line_parts

pub ruleset line_joins = (line_next, line_written)
