-- Rows that stand in two tables already, and are to be played again.
use Rattle.std.specs.Prelude.{ℕ, ◌+◌, ◌<◌, ◌≤◌, List, map, ◌≡◌, length, Option, Some}
use Rattle.model.specs.Bytes.{◌!◌, part}
use Rattle.model.specs.declared.Span.{Span}
use Rattle.sections.specs.declared.Standing.{Standing}
use Rattle.sections.specs.Spans.{Items, span_rows, steps_of, words_of}

-- steps so much later
unfoldable pub later : ℕ → List ℕ → List ℕ
later more steps = map (λ step. step + more) steps

abbrev pub AllFit : ℕ → List ℕ → Type 0
AllFit more steps = (i : ℕ) → i < length steps → steps ! i + more ≤ 4611686018427387904

abbrev pub standing_at : ℕ → ℕ → Standing
standing_at row before = record { row = row; before = before }

-- The rows of a span stand from an index on, before another, as they were when so much had been played; none is past the span's end.
pub record Stored (items : Items) (span : Span) (standing : Standing) (steps words : List ℕ) (at before : ℕ) : Type 0 where
  pub inside : standing.row + span.messages ≤ at
  pub past : standing.before ≤ before
  pub steps_stand : part steps standing.row span.messages ≡ steps_of (span_rows items span standing.before)
  pub words_stand : part words standing.row span.messages ≡ words_of (span_rows items span standing.before)
  pub low : (i : ℕ) → i < length (steps_of (span_rows items span standing.before)) → steps_of (span_rows items span standing.before) ! i ≤ standing.before + span.lasts

abbrev pub StoredWhereKnown : Items → Span → Option Standing → List ℕ → List ℕ → ℕ → ℕ → Type 0
StoredWhereKnown items span known steps words at before = (standing : Standing) → known ≡ Some standing → Stored items span standing steps words at before
