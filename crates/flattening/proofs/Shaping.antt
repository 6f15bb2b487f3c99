-- The messages of a span, counted one after the other: the invariant of `shape_of`'s loop, that what is still to be counted makes the
-- whole, and what each turn and each way out makes of it.
use Prim.Native.Nat.{ℕ, ◌+◌, ◌-◌, ◌*◌, ◌<◌, ◌≤◌}
use mathlib.Core.Bool.{Bool, true, false}
use mathlib.Core.List.{List, [], ◌∷◌}
use mathlib.Core.Path.{◌≡◌, refl, sym, ◌∙◌, ap}
use lib.ListN.{length}
use native.Mathlib.Nat.{zero-add}
use native.Mathlib.Omega.{arith}
use Rattle.model.specs.Words.{when◌then◌else◌, Checked}
use Rattle.model.specs.Bytes.{◌!◌}
use Rattle.model.specs.Item.{Item.timed, Item.end_mark, item_at, body_of, is_fine, items_of}
use Rattle.model.specs.Play.{At}
use Rattle.model.specs.Content.{content_of, content_bytes}
use Rattle.model.specs.Word.{is_message}
use Rattle.model.specs.declared.Voice.{Voice}
use Rattle.model.specs.declared.Event.{Event}
use Rattle.model.specs.declared.Outline.{Outline}
use Rattle.std.specs.Prelude.{Ok, Err}
use Rattle.model.specs.declared.Refusal.{Refusal}
use Rattle.model.specs.declared.ReadItem.{ReadItem}
use Rattle.model.specs.declared.ReadItem.TheVariants.{Timed, EndMark}
use Rattle.model.specs.declared.Shape.{Shape}
use Rattle.model.specs.declared.Span.{Span}
use Rattle.writing.specs.Parts.{event_size}
use Rattle.writing.proofs.Contents.{event_length_lem}
use Rattle.inverse.proofs.Fitting.{read_fits}
use Rattle.items.proofs.Addresses.{timed_nears, mark_nears}
use Rattle.sections.specs.Spans.{span_rows, Playable}
use Rattle.sections.proofs.Ahead.{Ahead, Onward, next_rows, message_next, nop_next, mark_next, playable_begins, span_begins, in_time, in_place, none_ahead, timed_late, timed_onward, mark_onward, never_refused}
use Rattle.flattening.specs.Parts.{gap_bytes, span_shape, silence, joined, shaped}
use Rattle.flattening.proofs.Shapes.{outlined, outline_shapes}

-- one message more
module _ (outline : Outline) (step size found : ℕ) where
  pub joined_first : outline.heard ≡ false → found ≡ size → record { heard = true; lead = step; bytes = found; last = step } ≡ joined outline step size
  unfolding joined when◌then◌else◌
  joined_first silent p = simp silent (ap (λ (n : ℕ). record { heard = true; lead = step; bytes = n; last = step }) p)

  pub joined_next : (gap : ℕ) → outline.heard ≡ true → found ≡ size → gap ≡ length (gap_bytes (step - outline.last))
      → record { heard = true; lead = outline.lead; bytes = outline.bytes + (gap + found); last = step } ≡ joined outline step size
  unfolding joined when◌then◌else◌
  joined_next gap loud p q =
      let both : outline.bytes + (gap + found) ≡ outline.bytes + (length (gap_bytes (step - outline.last)) + size) = omega arith in
      simp loud (ap (λ (n : ℕ). record { heard = true; lead = outline.lead; bytes = n; last = step }) both)

pub ruleset joins = (joined_first, joined_next)

pub shape_known : (outline : Outline) (lasts after : ℕ) → after ≡ lasts - outline.last
    → record { heard = outline.heard; lead = outline.lead; bytes = outline.bytes; tail = after } ≡ shaped lasts outline
unfolding shaped
shape_known outline lasts after e = ap (λ (n : ℕ). record { heard = outline.heard; lead = outline.lead; bytes = outline.bytes; tail = n }) e

-- a row joined
row_joined : (s : List ℕ) (outline : Outline) (step : ℕ) (event : Event) (rows : List (At Event))
    → outlined s outline (record { step = step; event = event } ∷ rows)
    ≡ outlined s (joined outline step (length (content_bytes (content_of s event)))) rows
unfolding outlined
row_joined s outline step event rows = refl

none_joined : (s : List ℕ) (outline : Outline) → outlined s outline [] ≡ outline
unfolding outlined
none_joined s outline = refl

pub record Shaping (voice : Voice) (s : List ℕ) (span : Span) (outline : Outline) (count place time : ℕ) : Type 0 where
  pub ahead : Ahead voice s span.start place time
  pub small : outline.bytes ≤ 1082081667 * place
  pub early : outline.last ≤ time - span.start
  pub whole : shaped span.lasts (outlined s outline (next_rows 0 span.start count time ahead.rest)) ≡ span_shape s (items_of voice s) span

module _ (voice : Voice) (s : List ℕ) (span : Span) where
  pub shape_starts : (outline : Outline) → outline ≡ silence → ((k : ℕ) → s ! k < 256) → length s ≤ 65536 → is_fine (body_of voice s) ≡ true
      → Playable (items_of voice s) (length s) span → Shaping voice s span outline span.messages span.first span.past
  unfolding span_shape
  shape_starts outline nothing bytes small fine playable =
      let begun = span_begins voice s bytes small fine span (playable_begins (items_of voice s) (length s) span playable) in
      record {
        ahead = begun.0;
        small = omega (arith, ap (λ (x : Outline). x.bytes) nothing);
        early = omega (arith, ap (λ (x : Outline). x.last) nothing);
        whole = ap (λ (x : Outline). shaped span.lasts (outlined s x (next_rows 0 span.start span.messages span.past begun.0.rest))) nothing
            ∙ ap (λ (x : List (At Event)). shaped span.lasts (outlined s silence x)) (begun.1 0)
            ∙ outline_shapes s span.lasts (span_rows (items_of voice s) span 0);
      }

  module _ (outline : Outline) (count place time : ℕ) (r : Shaping voice s span outline count place time) where
    abbrev rows : List (At Event)
    rows = next_rows 0 span.start count time r.ahead.rest

    -- nothing is left
    over : (shape : Shape) → shape ≡ shaped span.lasts outline → rows ≡ [] → shape ≡ span_shape s (items_of voice s) span
    over shape e none = e ∙ ap (shaped span.lasts) (sym (ap (outlined s outline) none ∙ none_joined s outline)) ∙ r.whole

    -- a body has so few bytes that a shape's can be counted on
    pub shape_slight : (shape : Shape) → shape ≡ shaped span.lasts outline → shape.bytes ≤ 70915304128512
    unfolding shaped
    shape_slight shape e = omega (arith, ap (λ (x : Shape). x.bytes) e, r.small, in_place voice s span.start place time r.ahead)

    pub shape_full : (shape : Shape) → shape ≡ shaped span.lasts outline → count ≡ 0 → shape ≡ span_shape s (items_of voice s) span
    shape_full shape e none = over shape e (rw none refl)

    pub shape_ends : (shape : Shape) → shape ≡ shaped span.lasts outline → length s ≤ place → shape ≡ span_shape s (items_of voice s) span
    shape_ends shape e past = over shape e (none_ahead voice s span.start place time r.ahead 0 count past)

    -- past an item that is no message
    silent : (next later : ℕ) (a : Ahead voice s span.start next later) → place ≤ next → time ≤ later
        → rows ≡ next_rows 0 span.start count later a.rest → Shaping voice s span outline count next later
    silent next later a further on same =
        record {
          ahead = a;
          small = omega (arith, r.small);
          early = omega (arith, r.early);
          whole = ap (λ (x : List (At Event)). shaped span.lasts (outlined s outline x)) (sym same) ∙ r.whole;
        }

    module _ (i : Checked ReadItem) (is : i ≡ item_at voice s place) where
      module _ (read : ReadItem) (duration next : ℕ) (event : Event) (was : i ≡ Ok read) (so : read ≡ Timed duration event next) where
        timed_read : i ≡ Ok (Timed duration event next)
        timed_read = was ∙ ap Ok so

        onward : Onward voice s span.start place time r.ahead (timed duration event) next (time + duration)
        onward = timed_onward voice s span.start place time r.ahead duration next event (sym is ∙ timed_read)

        pub shape_late : span.start ≤ time + duration
        shape_late = timed_late voice s span.start place time r.ahead duration next event (sym is ∙ timed_read)

        pub shape_few : outline.bytes ≤ 4611686018427387904
        shape_few = omega (arith, r.small, in_place voice s span.start place time r.ahead)

        pub shape_grows : outline.last ≤ time + duration - span.start
        shape_grows = omega (arith, r.early)

        pub shape_near : time + duration - span.start ≤ 4294967296
        shape_near = omega (arith, in_time voice s span.start next (time + duration) onward.0)

        pub shape_silent : (b : Bool) → b ≡ is_message event → b ≡ false → Shaping voice s span outline count next (time + duration)
        shape_silent b q h =
            silent next (time + duration) onward.0 (omega (arith, timed_nears voice s place i is duration next event timed_read)) (omega arith)
            (nop_next 0 span.start count time place r.ahead.rest onward.0.rest duration event onward.1 (sym q ∙ h))

        module _ (b : Bool) (q : b ≡ is_message event) (h : b ≡ true) (more : count ≡ 0 → ⊥) where
          abbrev step : ℕ
          step = time + duration - span.start

          abbrev later : List (At Event)
          later = next_rows 0 span.start (count - 1) (time + duration) onward.0.rest

          first : rows ≡ record { step = step; event = event } ∷ later
          first =
              message_next 0 span.start count time place r.ahead.rest onward.0.rest (count - 1) duration event onward.1 (omega arith) (sym q ∙ h)
              ∙ ap (λ (n : ℕ). record { step = n; event = event } ∷ later) (zero-add step)

          sized : length (content_bytes (content_of s event)) ≡ event_size event
          sized = event_length_lem voice s event (read_fits s r.ahead.bytes voice place duration event next (sym is ∙ timed_read))

          pub shape_again : (more : Outline) → more ≡ joined outline (time + duration - span.start) (event_size event)
              → more.last ≡ time + duration - span.start → more.bytes ≤ outline.bytes + (time + duration - span.start + 260)
              → Shaping voice s span more (count - 1) next (time + duration)
          shape_again more is-joined last bytes =
              let whole_rows = ap (outlined s outline) first ∙ row_joined s outline step event later
              ∙ ap (λ (n : ℕ). outlined s (joined outline step n) later) sized
              ∙ ap (λ (x : Outline). outlined s x later) (sym is-joined) in
              let near = in_time voice s span.start next (time + duration) onward.0 in
              record {
                ahead = onward.0;
                small = omega (arith, r.small, timed_nears voice s place i is duration next event timed_read, near, bytes);
                early = omega (arith, last);
                whole = ap (shaped span.lasts) (sym whole_rows) ∙ r.whole;
              }

      module _ (read : ReadItem) (next : ℕ) (was : i ≡ Ok read) (so : read ≡ EndMark next) where
        mark_read : i ≡ Ok (EndMark next)
        mark_read = was ∙ ap Ok so

        marked : Onward voice s span.start place time r.ahead end_mark next time
        marked = mark_onward voice s span.start place time r.ahead next (sym is ∙ mark_read)

        pub shape_marks : Shaping voice s span outline count next time
        shape_marks =
            silent next time marked.0 (omega (arith, mark_nears voice s place i is next mark_read)) (omega arith)
            (mark_next 0 span.start count time place r.ahead.rest marked.0.rest marked.1)

      pub shape_never : (shape : Shape) (why : Refusal) → place < length s → i ≡ Err why → shape ≡ span_shape s (items_of voice s) span
      shape_never shape why inside e = absurd (never_refused voice s span.start place time r.ahead why.number why.place inside (sym is ∙ e))

pub ruleset shapes = (shape_late, shape_few, shape_grows, shape_near, timed_nears, shape_silent, shape_again, mark_nears, shape_marks)

pub ruleset shape_known_ends = (shape_full, shape_ends, shape_never)
