-- A SECTION WRITTEN AGAIN: the gap to its first message, and the bytes that stand in the memory already.
use Prim.Native.Nat.{ℕ, ◌+◌, ◌-◌, ◌≤◌}
use mathlib.Core.Bool.{true, false}
use mathlib.Core.List.{List, [], ◌++◌}
use mathlib.Core.Path.{◌≡◌, refl, sym, ◌∙◌, ap, ap₂}
use lib.ListN.{length, drop, length-append}
use lib.Seq.{paste, sets, length-sets}
use native.Mathlib.Omega.{arith}
use Rattle.std.specs.Prelude.{Option}
use Rattle.model.specs.Bytes.{part}
use Rattle.model.specs.Play.{At}
use Rattle.model.specs.declared.Event.{Event}
use Rattle.model.specs.declared.Shape.{Shape}
use Rattle.model.specs.declared.Span.{Span}
use Rattle.model.proofs.Stores.{sets_append}
use Rattle.sections.specs.Spans.{Items, span_rows, SpanRises}
use Rattle.sections.proofs.Copying.{part_copied, part_before, part_stored}
use Rattle.flattening.specs.Parts.{part_bytes, part_last, gap_bytes, span_shape, span_bytes, Written, WrittenWhereKnown}
use Rattle.flattening.proofs.Telling.{none_told, none_last}
use Rattle.flattening.proofs.Shapes.{span_bytes_lem, span_size, span_tail, span_silent, span_counted, span_ends, span_lead_within, span_tail_within, last_within}

-- a gap, and bytes that are copied after it
pub copy_wrote : (l k m : List ℕ) (at gap from count middle : ℕ) → from + count ≤ at → middle ≡ at + length (gap_bytes gap) → k ≡ sets l at (gap_bytes gap)
    → at + (length (gap_bytes gap) + count) ≤ length l → m ≡ paste k middle (drop from k) (from + count - from)
    → m ≡ sets l at (gap_bytes gap ++ part l from count)
copy_wrote l k m at gap from count middle behind after p room q =
    let long : length k ≡ length l = ap length p ∙ length-sets l at (gap_bytes gap) in
    let same : part k from count ≡ part l from count = ap (λ (x : List ℕ). part x from count) p ∙ part_before l from count at (gap_bytes gap) behind in
    part_copied k m from count middle (omega arith) (omega arith) q ∙ ap (sets k middle) same ∙ rw (p, after) (sets_append l at (gap_bytes gap) (part l from count))

module _ (s : List ℕ) (items : Items) (span : Span) (shape : Shape) (is : shape ≡ span_shape s items span) (before past : ℕ) where
  abbrev rows : List (At Event)
  rows = span_rows items span before

  -- a silent section writes nothing
  module _ (silent : shape.heard ≡ false) where
    none : span_rows items span before ≡ []
    none = span_silent s items span before past (sym (ap (λ (x : Shape). x.heard) is) ∙ silent)

    none_bytes : part_bytes s past (span_rows items span before) ≡ []
    none_bytes = ap (part_bytes s past) none ∙ none_told s past

    pub silent_at : (at : ℕ) → at ≡ at + length (part_bytes s past (span_rows items span before))
    silent_at at = omega (arith, ap length none_bytes)

    pub silent_past : past ≡ part_last s past (span_rows items span before)
    silent_past = sym (ap (part_last s past) none ∙ none_last s past)

    pub silent_out : (out : List ℕ) (at : ℕ) → out ≡ sets out at (part_bytes s past (span_rows items span before))
    silent_out out at = ap (sets out at) (sym none_bytes)

  pub again_lead : SpanRises items span → shape.lead ≤ span.lasts
  again_lead rises = omega (arith, span_lead_within s items span rises, ap (λ (x : Shape). x.lead) is)

  pub again_tail : shape.tail ≤ span.lasts
  again_tail = omega (arith, span_tail_within s items span, ap (λ (x : Shape). x.tail) is)

  -- one that is heard: a gap, and its bytes
  module _ (heard : shape.heard ≡ true) (early : past ≤ before) where
    loud : (span_shape s items span).heard ≡ true
    loud = sym (ap (λ (x : Shape). x.heard) is) ∙ heard

    gap_is : before - past + shape.lead ≡ before + (span_shape s items span).lead - past
    gap_is = omega (arith, ap (λ (x : Shape). x.lead) is)

    bytes_are : shape.bytes ≡ length (span_bytes s items span)
    bytes_are = ap (λ (x : Shape). x.bytes) is ∙ sym (span_counted s items span)

    many : length (part_bytes s past (span_rows items span before)) ≡ length (gap_bytes (before - past + shape.lead)) + shape.bytes
    many =
        span_size s items span before past loud
        ∙ ap₂ (λ (g n : ℕ). length (gap_bytes g) + n) (sym gap_is) (sym (ap (λ (x : Shape). x.bytes) is))

    pub again_past : (last : ℕ) → SpanRises items span → last ≡ before + span.lasts - shape.tail → last ≡ part_last s past (span_rows items span before)
    again_past last rises e =
        omega (arith, e, ap (λ (x : Shape). x.tail) is, span_tail s items span before past loud, last_within s past before (before + span.lasts) rows early (rises before))

    module _ (out : List ℕ) (at : ℕ) where
      pub again_room : at + length (part_bytes s past (span_rows items span before)) ≤ length out
          → at + (length (gap_bytes (before - past + shape.lead)) + shape.bytes) ≤ length out
      again_room room = omega (arith, many)

      pub again_next : (n : ℕ) → n ≡ at + (length (gap_bytes (before - past + shape.lead)) + shape.bytes)
          → n ≡ at + length (part_bytes s past (span_rows items span before))
      again_next n e = omega (arith, many)

      module _ (place : ℕ) (written : Written (span_bytes s items span) place out at) where
        pub again_behind : place + shape.bytes ≤ at
        again_behind = omega (arith, bytes_are, written.inside)

        pub again_wrote : (m : List ℕ) → m ≡ sets out at (gap_bytes (before - past + shape.lead) ++ part out place shape.bytes)
            → m ≡ sets out at (part_bytes s past (span_rows items span before))
        again_wrote m e =
            let stand : part out place shape.bytes ≡ span_bytes s items span = ap (part out place) bytes_are ∙ written.stand in
            e ∙ ap₂ (λ (g : ℕ) (bytes : List ℕ). sets out at (gap_bytes g ++ bytes)) gap_is stand
            ∙ ap (sets out at) (sym (span_bytes_lem s items span before past loud))

pub ruleset again = (
  silent_at,
  silent_past,
  silent_out,
  again_lead,
  again_tail,
  again_past,
  again_room,
  again_next,
  again_behind,
  again_wrote,
)

-- WHERE BYTES STAND: when more is stored behind them, and once they are written

pub written_kept : (bytes : List ℕ) (known : Option ℕ) (out : List ℕ) (at : ℕ) (more : List ℕ) (past : ℕ) → at ≤ past → WrittenWhereKnown bytes known out at
    → WrittenWhereKnown bytes known (sets out at more) past
written_kept bytes known out at more past on written place is =
    let w = written place is in
    record { inside = omega (arith, w.inside); stand = part_before out place (length bytes) at more w.inside ∙ w.stand }

written_last : (out : List ℕ) (at : ℕ) (front bytes : List ℕ) → at + length (front ++ bytes) ≤ length out
    → Written bytes (at + length front) (sets out at (front ++ bytes)) (at + length (front ++ bytes))
written_last out at front bytes room =
    let long = length-append front bytes in
    record {
      inside = omega (arith, long);
      stand = rw (← sets_append out at front bytes)
          (part_stored (sets out at front) (at + length front) bytes (length bytes) refl (omega (arith, long, length-sets out at front)));
    }

module _ (s : List ℕ) (items : Items) (span : Span) (before past : ℕ) where
  -- so many bytes end what is written of a span
  pub span_bytes_within : (span_shape s items span).bytes ≤ length (part_bytes s past (span_rows items span before))
  span_bytes_within =
      let ends = span_ends s items span before past in
      omega (arith, span_counted s items span, ap length ends.1, length-append ends.0 (span_bytes s items span))

  pub span_written : (out : List ℕ) (at : ℕ) → at + length (part_bytes s past (span_rows items span before)) ≤ length out
      → Written (span_bytes s items span) (at + length (part_bytes s past (span_rows items span before)) - (span_shape s items span).bytes)
      (sets out at (part_bytes s past (span_rows items span before))) (at + length (part_bytes s past (span_rows items span before)))
  span_written out at room =
      let ends = span_ends s items span before past in
      let front = ends.0 in
      let bytes = span_bytes s items span in
      let place : at + length front ≡ at + length (front ++ bytes) - (span_shape s items span).bytes =
      omega (arith, length-append front bytes, span_counted s items span) in
      rw ends.1 (rw (← place) (written_last out at front bytes (rw (← ends.1) room)))
