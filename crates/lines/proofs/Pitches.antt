-- What a line says: the pitch of a note as a difference of two counts, and the line of each event.
use Prim.Native.Nat.{ℕ, ◌+◌, ◌-◌, ◌*◌, ◌/◌, ◌%◌, ◌≤◌}
use mathlib.Core.List.{List}
use Rattle.std.specs.Prelude.{Some, None}
use mathlib.Core.Path.{◌≡◌, sym, ◌∙◌, ap, ap₂}
use lib.ListN.{length, get_or, set, get_or-eq_default}
use lib.Seq.{set_out}
use lib.IntN.{ℤ, pos, ◌-ℤ◌}
use native.Mathlib.Nat.{sub-zero}
use native.Mathlib.Omega.{arith}
use borrow.Author.Tests.{leb-true, leb-false}
use Rattle.model.specs.Words.{◌≤?◌}
use Rattle.model.specs.Pitch.{semitones}
use Rattle.model.proofs.Tests.{if_true, if_false, by_test}
use Rattle.pitch.proofs.Counts.{difference_up, raised, lowered}
use Rattle.lines.specs.declared.line.Printed.{Printed}
use Rattle.lines.specs.Fields.{said, octaves_up, semitones_up, semitones_down, note_line, voiced_line, unvoiced_line}

pitch_said : (key shift : ℕ) → pos (semitones_up key shift) -ℤ pos (semitones_down shift) ≡ semitones (key / 16) (key % 16) shift
unfolding semitones_up semitones_down octaves_up
pitch_said key shift =
    by_test (shift ≤? 4)
    (λ t.
    let low = leb-true shift 4 t in
    let down : 33 + 12 * (shift - 0x80) ≡ 33 = omega arith in
    raised (key / 16) (key % 16) shift _ low
    (ap₂ (λ (up less : ℕ). pos (12 * (key / 16) + key % 16 + 12 * up) -ℤ pos less) (if_true (shift ≤? 4) shift 0 t) down))
    (λ t.
    let high = leb-false shift 4 t in
    let up : 12 * (key / 16) + key % 16 + 12 * 0 ≡ 12 * (key / 16) + key % 16 = omega arith in
    lowered (key / 16) (key % 16) shift _ high
    (ap (λ (up : ℕ). pos (12 * (key / 16) + key % 16 + 12 * up) -ℤ pos (33 + 12 * (shift - 0x80))) (if_false (shift ≤? 4) shift 0 t)
    ∙ ap (λ (up : ℕ). pos up -ℤ pos (33 + 12 * (shift - 0x80))) up))

module _ (step ms channel kind gate up down : ℕ) where
  abbrev voiced_by : Printed
  voiced_by = record { step = step; ms = ms; channel = Some channel; kind = kind; up = up; down = down; gate = gate }

  abbrev unvoiced_by : Printed
  unvoiced_by = record { step = step; ms = ms; channel = None; kind = kind; up = up; down = down; gate = 0 }

pub note_said : (shift step ms channel key gate up down : ℕ) → up ≡ semitones_up key shift → down ≡ semitones_down shift
    → said (voiced_by step ms channel 1 gate up down) ≡ note_line shift step ms channel key gate
unfolding said note_line
note_said shift step ms channel key gate up down p q =
    ap (λ (value : ℤ). record { step = step; ms = ms; channel = Some channel; kind = 1; value = value; gate = gate })
    (ap₂ (λ (x y : ℕ). pos x -ℤ pos y) p q ∙ pitch_said key shift)

pub voiced_said : (step ms channel kind value gate : ℕ) → said (voiced_by step ms channel kind gate value 0) ≡ voiced_line step ms channel kind value gate
unfolding said voiced_line
voiced_said step ms channel kind value gate =
    ap (λ (number : ℤ). record { step = step; ms = ms; channel = Some channel; kind = kind; value = number; gate = gate }) (difference_up value 0 (omega arith) ∙ ap pos (sub-zero value))

pub unvoiced_said : (step ms kind value : ℕ) → said (unvoiced_by step ms 0 kind 0 value 0) ≡ unvoiced_line step ms kind value
unfolding said unvoiced_line
unvoiced_said step ms kind value =
    ap (λ (number : ℤ). record { step = step; ms = ms; channel = None; kind = kind; value = number; gate = 0 }) (difference_up value 0 (omega arith) ∙ ap pos (sub-zero value))

-- past the four channels there is no shift
pub no_shift : (shifts : List ℕ) (channel : ℕ) → length shifts ≡ 4 → 4 ≤ channel → 0 ≡ get_or shifts channel 0
no_shift shifts channel four h = sym (get_or-eq_default shifts 0 (omega arith))

pub none_shifted : (shifts : List ℕ) (channel value : ℕ) → length shifts ≡ 4 → 4 ≤ channel → shifts ≡ set shifts channel value
none_shifted shifts channel value four h = sym (set_out shifts channel value (omega arith))
