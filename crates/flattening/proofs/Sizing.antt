-- THE SIZE of a plain form from the shapes of its spans: that a shape adds the bytes of its span, and the invariant of `measure_order`'s loop,
-- that the shapes which are known are right and that what the letters ahead add to what is counted makes the whole.
use Prim.Native.Nat.{ℕ, ◌+◌, ◌-◌, ◌*◌, ◌<◌, ◌≤◌}
use mathlib.Core.Bool.{Bool, true, false, false≢true}
use mathlib.Core.List.{List, [], ◌∷◌}
use mathlib.Core.Path.{◌≡◌, refl, sym, ◌∙◌, ap, ap₂}
use mir.Syntax.{w64}
use mir.Val.{Fits}
use lib.ListN.{length, get_or, drop, replicate}
use lib.Seq.{drop-length}
use native.Mathlib.Decide.{dec_lt}
use native.Mathlib.Nat.{zero-add}
use native.Mathlib.Omega.{arith}
use Rattle.model.specs.Bytes.{◌!◌}
use Rattle.model.specs.Play.{At}
use Rattle.model.specs.Plain.{bytes_of, rest}
use Rattle.model.specs.Content.{Content, handy_phone}
use Rattle.model.specs.declared.Event.{Event}
use Rattle.model.specs.declared.Span.{Span}
use Rattle.model.specs.declared.Shape.{Shape}
use Rattle.model.proofs.Tests.{by_test, if_true, if_false}
use Rattle.sections.specs.Spans.{Items, span_rows, Playable}
use Rattle.playing.specs.Performing.{span_at, AllPlayable, AllRise, AllShort}
use Rattle.playing.proofs.Tables.{Table, Known, table_starts}
use Rattle.flattening.specs.declared.Size.{Size}
use Rattle.flattening.specs.Parts.{gap_bytes, span_shape, part_bytes, part_last, told, shape_of}
use Rattle.flattening.specs.Orders.{order_bytes, no_shape, shape_at, add_shape, whole_size, Slight, Measured}
use Rattle.flattening.proofs.Telling.{none_told, none_last}
use Rattle.flattening.proofs.Shapes.{span_size, span_tail, span_silent, span_lead_within, span_tail_within, last_within}
use Rattle.flattening.proofs.Ordering.{order_none_length, order_next_length}

-- one section more, whether it is heard or silent
module _ (size : Size) (shape : Shape) where
  add_heard : shape.heard ≡ true → record { bytes = size.bytes + (length (gap_bytes (size.gap + shape.lead)) + shape.bytes); gap = shape.tail } ≡ add_shape size shape
  unfolding add_shape
  add_heard h = sym (if_true shape.heard _ _ h)

  pub add_after : (gap : ℕ) → shape.heard ≡ true → gap ≡ length (gap_bytes (size.gap + shape.lead))
      → record { bytes = size.bytes + (gap + shape.bytes); gap = shape.tail } ≡ add_shape size shape
  add_after gap h e = ap (λ (n : ℕ). record { bytes = size.bytes + (n + shape.bytes); gap = shape.tail }) e ∙ add_heard h

  pub add_silent : shape.heard ≡ false → record { bytes = size.bytes; gap = size.gap + shape.tail } ≡ add_shape size shape
  unfolding add_shape
  add_silent h = sym (if_false shape.heard _ _ h)

pub ruleset adding = (add_after, add_silent)

pub whole_is : (size : Size) (left : ℕ) → left ≡ length (bytes_of handy_phone (rest handy_phone size.gap)) → size.bytes + left + 4 ≡ whole_size size
unfolding whole_size
whole_is size left is = ap (λ (n : ℕ). size.bytes + n + 4) is

-- a silent span is all gap
silent_tail : (s : List ℕ) (items : Items) (span : Span) → (span_shape s items span).heard ≡ false → (span_shape s items span).tail ≡ span.lasts
unfolding span_shape shape_of
silent_tail s items span h = go (told s (span_rows items span 0)) h
  where
    go : (rows : List (At Content)) → (shape_of span.lasts rows).heard ≡ false → (shape_of span.lasts rows).tail ≡ span.lasts
    go [] e = refl
    go (row ∷ rows) e = absurd (false≢true (sym e))

-- A SHAPE ADDS THE BYTES OF ITS SPAN, and leaves the time since the last message
module _ (s : List ℕ) (items : Items) (span : Span) (size : Size) (past before : ℕ) (early : past ≤ before) (gap : size.gap ≡ before - past) where
  abbrev rows : List (At Event)
  rows = span_rows items span before

  abbrev added : Size
  added = record { bytes = size.bytes + length (part_bytes s past rows); gap = before + span.lasts - part_last s past rows }

  heard_adds : (span_shape s items span).heard ≡ true → add_shape size (span_shape s items span) ≡ added
  heard_adds h =
      let shape = span_shape s items span in
      let lead : size.gap + shape.lead ≡ before + shape.lead - past = omega (arith, gap) in
      sym (add_heard size shape h)
      ∙ ap₂ (λ (n t : ℕ). record { bytes = size.bytes + n; gap = t })
      (ap (λ (g : ℕ). length (gap_bytes g) + shape.bytes) lead ∙ sym (span_size s items span before past h)) (sym (span_tail s items span before past h))

  silent_adds : (span_shape s items span).heard ≡ false → add_shape size (span_shape s items span) ≡ added
  silent_adds h =
      let none = span_silent s items span before past h in
      let bytes : size.bytes ≡ size.bytes + length (part_bytes s past rows) = omega (arith, ap length (ap (part_bytes s past) none ∙ none_told s past)) in
      let time : size.gap + (span_shape s items span).tail ≡ before + span.lasts - part_last s past rows =
      omega (arith, gap, silent_tail s items span h, ap (part_last s past) none ∙ none_last s past) in
      sym (add_silent size (span_shape s items span) h) ∙ ap₂ (λ (n t : ℕ). record { bytes = n; gap = t }) bytes time

  pub shape_adds : (shape : Shape) → shape ≡ span_shape s items span → add_shape size shape ≡ added
  shape_adds shape is = ap (add_shape size) is ∙ by_test (span_shape s items span).heard heard_adds silent_adds

-- the shape of a slot's span
abbrev pub ShapeOf : List ℕ → Items → List Span → ℕ → Shape → Type 0
ShapeOf s items spans slot shape = (shape ≡ span_shape s items (span_at spans slot)) × (shape.bytes ≤ 70915304128512)

module _ (s : List ℕ) (items : Items) (many : ℕ) (spans : List Span) (letters : List ℕ) where
  pub record Measuring (shapes : List Shape) (known : List Bool) (size : Size) (i : ℕ) : Type 0 where
    pub bytes : (k : ℕ) → letters ! k < 256
    pub playable : AllPlayable items many spans letters
    pub rises : AllRise items spans letters
    pub brief : AllShort spans letters
    pub listed : length letters ≤ 65536
    pub within : i ≤ length letters
    pub table : Table no_shape (ShapeOf s items spans) shapes known
    pub seen : (j : ℕ) → j < i → get_or known (letters ! j) false ≡ true
    pub past : ℕ
    pub before : ℕ
    pub early : past ≤ before
    pub gap : size.gap ≡ before - past
    pub short : size.gap ≤ 1082064896 * i
    pub few : size.bytes ≤ 300000000000000
    pub same : size.bytes + length (order_bytes s items spans past before (drop i letters)) ≡ length (order_bytes s items spans 0 0 letters)

  pub measure_starts : (shape : Shape) → ((k : ℕ) → letters ! k < 256) → AllPlayable items many spans letters → AllRise items spans letters
      → AllShort spans letters → length letters ≤ 65536 → Measuring (replicate 256 shape) (replicate 256 false) (record { bytes = 0; gap = 0 }) 0
  measure_starts shape bytes playable rises brief listed =
      record {
        bytes = bytes;
        playable = playable;
        rises = rises;
        brief = brief;
        listed = listed;
        within = omega arith;
        table = table_starts no_shape (ShapeOf s items spans) shape;
        seen = λ j h. absurd (omega arith);
        past = 0;
        before = 0;
        early = omega arith;
        gap = refl;
        short = omega arith;
        few = omega arith;
        same = zero-add _;
      }

  module _ (shapes : List Shape) (known : List Bool) (size : Size) (i : ℕ) (w : Measuring shapes known size i) where
    pub measure_slot : letters ! i < 256
    measure_slot = w.bytes i

    pub measure_slot_fits : Fits w64 (letters ! i)
    measure_slot_fits = record { fits = omega (arith, w.bytes i) }

    pub measure_span_fits : Fits w64 (letters ! i * 40)
    measure_span_fits = record { fits = omega (arith, w.bytes i) }

    pub measure_shape_fits : Fits w64 (letters ! i * 32)
    measure_shape_fits = record { fits = omega (arith, w.bytes i) }

    pub measure_gap : size.gap ≤ 70914205024256
    measure_gap = omega (arith, w.short, w.within, w.listed)

    pub measure_few : size.bytes ≤ 300000000000000
    measure_few = w.few

    pub measure_over : 65536 < size.bytes → Measured s items spans letters (record { shapes = shapes; bytes = size.bytes })
    measure_over h =
        record { over = λ g. omega (arith, w.same); size = λ g. absurd (omega arith); shaped = λ g. absurd (omega arith) }

    pub measure_ends : (n : ℕ) → length letters ≤ i → n ≡ whole_size size → Measured s items spans letters (record { shapes = shapes; bytes = n })
    unfolding whole_size
    measure_ends n over e =
        let end : i ≡ length letters = omega (arith, w.within) in
        let none : drop i letters ≡ [] = ap (λ (k : ℕ). drop k letters) end ∙ drop-length letters in
        let rest_is = ap (λ (g : ℕ). length (bytes_of handy_phone (rest handy_phone g))) w.gap in
        let left = ap (λ (l : List ℕ). length (order_bytes s items spans w.past w.before l)) none ∙ order_none_length s items spans w.past w.before in
        let is : n ≡ length (order_bytes s items spans 0 0 letters) = omega (arith, e, rest_is, left, w.same) in
        record {
          over = λ g. omega (arith, is);
          size = λ g. is;
          shaped = λ g j h. (w.table.right (letters ! j) (w.seen j (omega arith))).0;
        }

    module _ (here : i < length letters) where
      pub measure_playable : Playable items many (span_at spans (letters ! i))
      measure_playable = w.playable i here

      pub measure_nears : Fits w64 (i + 1)
      measure_nears = record { fits = omega (arith, w.listed) }

      module _ (shapes' : List Shape) (known' : List Bool) (k : Known no_shape (ShapeOf s items spans) (letters ! i) known shapes' known') where
        abbrev span : Span
        span = span_at spans (letters ! i)

        shape_is : ShapeOf s items spans (letters ! i) (shape_at shapes' (letters ! i))
        shape_is = k.table.right (letters ! i) k.here

        pub measure_slight : Slight (shape_at shapes' (letters ! i))
        measure_slight =
            let brief = w.brief i here in
            record {
              lead = omega (arith, ap (λ (x : Shape). x.lead) shape_is.0, span_lead_within s items span (w.rises i here), brief);
              tail = omega (arith, ap (λ (x : Shape). x.tail) shape_is.0, span_tail_within s items span, brief);
              bytes = shape_is.1;
            }

        pub measure_turns : (next : Size) → next ≡ add_shape size (shape_at shapes' (letters ! i)) → next.bytes ≤ 300000000000000
            → Measuring shapes' known' next (i + 1)
        measure_turns next e few =
            let past = w.past in
            let before = w.before in
            let rows = span_rows items span before in
            let is = e ∙ shape_adds s items span size past before w.early w.gap (shape_at shapes' (letters ! i)) shape_is.0 in
            let gap = ap (λ (x : Size). x.gap) is in
            let bytes = ap (λ (x : Size). x.bytes) is in
            let tail : (add_shape size (shape_at shapes' (letters ! i))).gap ≤ size.gap + 1082064896 =
            by_test (shape_at shapes' (letters ! i)).heard
            (λ h. omega (arith, measure_slight.tail, ap (λ (x : Size). x.gap) (add_heard size (shape_at shapes' (letters ! i)) h)))
            (λ h. omega (arith, measure_slight.tail, ap (λ (x : Size). x.gap) (add_silent size (shape_at shapes' (letters ! i)) h))) in
            record {
              bytes = w.bytes;
              playable = w.playable;
              rises = w.rises;
              brief = w.brief;
              listed = w.listed;
              within = omega arith;
              table = k.table;
              seen = λ j h. elim (dec_lt j i) [
                | yes q ↦ k.kept (letters ! j) (w.seen j q)
                | no q ↦ let at : j ≡ i = omega arith in rw at k.here
              ];
              past = part_last s past rows;
              before = before + span.lasts;
              early = last_within s past before (before + span.lasts) rows w.early (w.rises i here before);
              gap = gap;
              short = omega (arith, tail, w.short, ap (λ (x : Size). x.gap) e);
              few = few;
              same = omega (arith, bytes, order_next_length s items spans letters past before i here, w.same);
            }

pub ruleset measuring = (
  measure_slot,
  measure_slot_fits,
  measure_span_fits,
  measure_shape_fits,
  measure_gap,
  measure_few,
  measure_over,
  measure_ends,
  measure_playable,
  measure_nears,
  measure_slight,
  measure_turns,
)
