-- The plain form of an order: the spans of its letters one after the other, the rest before the end, and the end mark.
use Rattle.std.specs.Prelude.{ℕ, ◌+◌, ◌<◌, ◌≤◌, ◌≡◌, false, List, length, get_or, Ok}
use Rattle.model.specs.Words.{when◌then◌else◌, ◌or◌, ◌<?◌, Checked, refused}
use Rattle.model.specs.Bytes.{◌!◌}
use Rattle.model.specs.Plain.{bytes_of, rest, plain_after}
use Rattle.model.specs.Content.{handy_phone}
use Rattle.model.specs.declared.Span.{Span}
use Rattle.model.specs.declared.Shape.{Shape}
use Rattle.sections.specs.Spans.{Items}
use Rattle.playing.specs.Performing.{span_at, lasts_together, rows_together}
use Rattle.flattening.specs.declared.Size.{Size}
use Rattle.flattening.specs.declared.Measure.{Measure}
use Rattle.flattening.specs.Parts.{told, gap_bytes, span_shape}

-- the bytes that are left of a plain form, after what is past, where so much has been played before
unfoldable pub order_bytes : List ℕ → Items → List Span → ℕ → ℕ → List ℕ → List ℕ
order_bytes body items spans past before letters =
    bytes_of handy_phone (plain_after handy_phone past (told body (rows_together items spans before letters)) (before + lasts_together spans letters))

-- THE SIZE of a plain form, from the shapes of its spans

abbrev pub no_shape : Shape
no_shape = record { heard = false; lead = 0; bytes = 0; tail = 0 }

abbrev pub shape_at : List Shape → ℕ → Shape
shape_at shapes letter = get_or shapes letter no_shape

-- one section more: the gap to its first message and its bytes, or, where it is silent, a longer gap
unfoldable pub add_shape : Size → Shape → Size
add_shape size shape =
    when shape.heard then record { bytes = size.bytes + (length (gap_bytes (size.gap + shape.lead)) + shape.bytes); gap = shape.tail } else
    record { bytes = size.bytes; gap = size.gap + shape.tail }

-- with the rest before the end and the end mark
unfoldable pub whole_size : Size → ℕ
whole_size size = size.bytes + length (bytes_of handy_phone (rest handy_phone size.gap)) + 4

-- a shape whose times and bytes can be counted on
pub record Slight (shape : Shape) : Type 0 where
  pub lead : shape.lead ≤ 1082064896
  pub tail : shape.tail ≤ 1082064896
  pub bytes : shape.bytes ≤ 70915304128512

-- the shapes of a table are those of the spans of a list's letters
abbrev pub AllShaped : List ℕ → Items → List Span → List Shape → List ℕ → Type 0
AllShaped body items spans shapes letters =
    (i : ℕ) → i < length letters → shape_at shapes (letters ! i) ≡ span_shape body items (span_at spans (letters ! i))

-- WHAT IS KNOWN of an order before a byte of it is written: the size of its plain form and the shapes of its spans, or that it is over 65,536
-- bytes.
pub record Measured (body : List ℕ) (items : Items) (spans : List Span) (letters : List ℕ) (measure : Measure) : Type 0 where
  pub over : 65536 < measure.bytes → 65536 < length (order_bytes body items spans 0 0 letters)
  pub size : measure.bytes ≤ 65536 → measure.bytes ≡ length (order_bytes body items spans 0 0 letters)
  pub shaped : measure.bytes ≤ 65536 → AllShaped body items spans measure.shapes letters

-- 18, at the track's header, where a plain form is over 65,536 bytes or over the room
unfoldable pub fitted : ℕ → ℕ → List ℕ → Checked (List ℕ)
fitted header room bytes = when (65536 <? length bytes) or (room <? length bytes) then refused 18 header else Ok bytes
