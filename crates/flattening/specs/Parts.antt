-- A plain form in parts, one for each section: its messages after those before, and what is known of a part before it is written.
use Rattle.std.specs.Prelude.{ℕ, ◌+◌, ◌-◌, ◌≤◌, true, false, List, [], ◌∷◌, ◌++◌, map, ◌≡◌, length, Option, Some}
use Rattle.model.specs.Words.{when◌then◌else◌}
use Rattle.model.specs.Bytes.{part}
use Rattle.model.specs.Duration.{longest_duration, duration_bytes}
use Rattle.model.specs.Item.{Item, Item.timed}
use Rattle.model.specs.Play.{At}
use Rattle.model.specs.Plain.{bytes_of, left, waits}
use Rattle.model.specs.Content.{Content, content_of, content_bytes, handy_phone}
use Rattle.model.specs.Writing.{timed_bytes}
use Rattle.model.specs.declared.Event.{Event}
use Rattle.model.specs.declared.Shape.{Shape}
use Rattle.model.specs.declared.Outline.{Outline}
use Rattle.model.specs.declared.Span.{Span}
use Rattle.sections.specs.Spans.{Items, span_rows}

-- each message in its own form after the gap to the one before
unfoldable pub plain_part : ℕ → List (At Content) → List (Item Content)
plain_part past [] = []
plain_part past (at ∷ messages) =
    waits handy_phone (at.step - past)
    ++ (timed (left longest_duration (at.step - past)) at.event ∷ plain_part at.step messages)

-- the step of the last message, or what is past
unfoldable pub last_step : ℕ → List (At Content) → ℕ
last_step past [] = past
last_step past (at ∷ messages) = last_step at.step messages

-- rows of a body by their content
unfoldable pub told : List ℕ → List (At Event) → List (At Content)
told body rows = map (λ at. record { step = at.step; event = content_of body at.event }) rows

-- the bytes of rows of a body, after what is past
unfoldable pub part_bytes : List ℕ → ℕ → List (At Event) → List ℕ
part_bytes body past rows = bytes_of handy_phone (plain_part past (told body rows))

unfoldable pub part_last : List ℕ → ℕ → List (At Event) → ℕ
part_last body past rows = last_step past (told body rows)

-- the bytes of one message after a gap
unfoldable pub message_bytes : List ℕ → ℕ → Event → List ℕ
message_bytes body gap event = bytes_of handy_phone (waits handy_phone gap) ++ timed_bytes body (left longest_duration gap) event

-- a gap in bytes, with the duration that is left of it
unfoldable pub gap_bytes : ℕ → List ℕ
gap_bytes gap = bytes_of handy_phone (waits handy_phone gap) ++ duration_bytes (left longest_duration gap)

unfoldable pub shape_of : ℕ → List (At Content) → Shape
shape_of lasts [] = record { heard = false; lead = 0; bytes = 0; tail = lasts }
shape_of lasts (first ∷ others) =
    record {
      heard = true;
      lead = first.step;
      bytes = length (content_bytes first.event) + length (bytes_of handy_phone (plain_part first.step others));
      tail = lasts - last_step first.step others;
    }

-- the shape of a span of a body
unfoldable pub span_shape : List ℕ → Items → Span → Shape
span_shape body items span = shape_of span.lasts (told body (span_rows items span 0))

-- the bytes of messages after the gap to the first, which are the same wherever they are played
unfoldable pub bytes_after_gap : List (At Content) → List ℕ
bytes_after_gap [] = []
bytes_after_gap (first ∷ others) = content_bytes first.event ++ bytes_of handy_phone (plain_part first.step others)

unfoldable pub span_bytes : List ℕ → Items → Span → List ℕ
span_bytes body items span = bytes_after_gap (told body (span_rows items span 0))

-- Bytes stand in a memory from a place on, before another.
pub record Written (bytes : List ℕ) (place : ℕ) (out : List ℕ) (at : ℕ) : Type 0 where
  pub inside : place + length bytes ≤ at
  pub stand : part out place (length bytes) ≡ bytes

abbrev pub WrittenWhereKnown : List ℕ → Option ℕ → List ℕ → ℕ → Type 0
WrittenWhereKnown bytes known out at = (place : ℕ) → known ≡ Some place → Written bytes place out at

-- nothing is counted yet
abbrev pub silence : Outline
silence = record { heard = false; lead = 0; bytes = 0; last = 0 }

-- one message more, of so many bytes, at a step
unfoldable pub joined : Outline → ℕ → ℕ → Outline
joined outline step size =
    when outline.heard then record {
      heard = true;
      lead = outline.lead;
      bytes = outline.bytes + (length (gap_bytes (step - outline.last)) + size);
      last = step;
    } else record { heard = true; lead = step; bytes = size; last = step }

unfoldable pub shaped : ℕ → Outline → Shape
shaped lasts outline =
    record { heard = outline.heard; lead = outline.lead; bytes = outline.bytes; tail = lasts - outline.last }
