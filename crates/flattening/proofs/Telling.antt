-- The messages of a span, written one after the other: the invariant of `write_messages`' loop, that what is still to be written makes the
-- whole, and what each turn and each way out makes of it.
use Prim.Native.Nat.{ℕ, ◌+◌, ◌-◌, ◌<◌, ◌≤◌}
use mathlib.Core.Bool.{Bool, true, false}
use mathlib.Core.List.{List, [], ◌∷◌, ◌++◌}
use mathlib.Core.Path.{◌≡◌, refl, sym, ◌∙◌, ap}
use lib.ListN.{length, length-append}
use lib.Seq.{sets}
use native.Mathlib.Omega.{arith}
use Rattle.model.specs.Bytes.{◌!◌}
use Rattle.model.specs.Item.{Item.timed, Item.end_mark, item_at, body_of, is_fine, items_of}
use Rattle.model.specs.Play.{At}
use Rattle.model.specs.Plain.{bytes_of, left, waits}
use Rattle.model.specs.Content.{handy_phone}
use Rattle.model.specs.Word.{is_message}
use Rattle.model.specs.Writing.{event_fits, timed_bytes}
use Rattle.model.specs.declared.Voice.{Voice}
use Rattle.model.specs.declared.Event.{Event}
use Rattle.std.specs.Prelude.{Ok, Err}
use Rattle.model.specs.Words.{Checked}
use Rattle.model.specs.declared.Refusal.{Refusal}
use Rattle.model.specs.declared.ReadItem.{ReadItem}
use Rattle.model.specs.declared.ReadItem.TheVariants.{Timed, EndMark}
use Rattle.model.specs.declared.Span.{Span}
use Rattle.model.proofs.Stores.{sets_append}
use Rattle.inverse.proofs.Fitting.{read_fits}
use Rattle.items.proofs.Addresses.{timed_nears, mark_nears}
use Rattle.sections.specs.Spans.{span_rows, Playable}
use Rattle.sections.proofs.Ahead.{Ahead, Onward, next_rows, message_next, nop_next, mark_next, playable_begins, span_begins, none_ahead, timed_late, timed_onward, mark_onward, never_refused}
use Rattle.flattening.specs.Parts.{plain_part, last_step, told, part_bytes, part_last, message_bytes}
use Rattle.flattening.proofs.Joining.{part_first}

-- one message: the waits, and its item after them
module _ (s : List ℕ) (gap : ℕ) (event : Event) where
  message_length : length (message_bytes s gap event) ≡ length (bytes_of handy_phone (waits handy_phone gap)) + length (timed_bytes s (left 16511 gap) event)
  unfolding message_bytes
  message_length = length-append (bytes_of handy_phone (waits handy_phone gap)) (timed_bytes s (left 16511 gap) event)

  module _ (l : List ℕ) (at : ℕ) where
    pub waits_room : at + length (message_bytes s gap event) ≤ length l → at + length (bytes_of handy_phone (waits handy_phone gap)) ≤ length l
    waits_room room = omega (arith, message_length)

    module _ (v : ℕ) (is : v ≡ left 16511 gap) (middle : ℕ) (after : middle ≡ at + length (bytes_of handy_phone (waits handy_phone gap))) where
      lasting : timed_bytes s v event ≡ timed_bytes s (left 16511 gap) event
      lasting = ap (λ (x : ℕ). timed_bytes s x event) is

      pub item_room : (k : List ℕ) → at + length (message_bytes s gap event) ≤ length l → length k ≡ length l → middle + length (timed_bytes s v event) ≤ length k
      item_room k room same = omega (arith, message_length, ap length lasting)

      pub message_next_place : (n : ℕ) → n ≡ middle + length (timed_bytes s v event) → n ≡ at + length (message_bytes s gap event)
      message_next_place n e = omega (arith, message_length, ap length lasting)

      pub message_wrote : (k m : List ℕ) → k ≡ sets l at (bytes_of handy_phone (waits handy_phone gap)) → m ≡ sets k middle (timed_bytes s v event)
          → m ≡ sets l at (message_bytes s gap event)
      unfolding message_bytes
      message_wrote k m p h =
          h ∙ rw (p, after, lasting) (sets_append l at (bytes_of handy_phone (waits handy_phone gap)) (timed_bytes s (left 16511 gap) event))

pub ruleset message = (waits_room, item_room, message_next_place, message_wrote)

pub none_told : (s : List ℕ) (past : ℕ) → part_bytes s past [] ≡ []
unfolding part_bytes told plain_part bytes_of
none_told s past = refl

pub none_last : (s : List ℕ) (past : ℕ) → part_last s past [] ≡ past
unfolding part_last told last_step
none_last s past = refl

last_first : (s : List ℕ) (past step : ℕ) (event : Event) (rows : List (At Event))
    → part_last s past (record { step = step; event = event } ∷ rows) ≡ part_last s step rows
unfolding part_last told last_step
last_first s past step event rows = refl

pub record Telling (voice : Voice) (s : List ℕ) (span : Span) (before past : ℕ) (l : List ℕ) (at : ℕ) (out : List ℕ) (here last count place time : ℕ)
    : Type 0 where
  pub ahead : Ahead voice s span.start place time
  pub low : before ≤ 4611686018427387904
  pub early : last ≤ before + (time - span.start)
  pub same : length out ≡ length l
  pub size : here + length (part_bytes s last (next_rows before span.start count time ahead.rest))
      ≡ at + length (part_bytes s past (span_rows (items_of voice s) span before))
  pub room : at + length (part_bytes s past (span_rows (items_of voice s) span before)) ≤ length out
  pub ends : part_last s last (next_rows before span.start count time ahead.rest) ≡ part_last s past (span_rows (items_of voice s) span before)
  pub whole : sets out here (part_bytes s last (next_rows before span.start count time ahead.rest))
      ≡ sets l at (part_bytes s past (span_rows (items_of voice s) span before))

module _ (voice : Voice) (s : List ℕ) (span : Span) (before past : ℕ) (l : List ℕ) (at : ℕ) where
  abbrev all : List (At Event)
  all = span_rows (items_of voice s) span before

  pub tell_starts : ((k : ℕ) → s ! k < 256) → length s ≤ 65536 → is_fine (body_of voice s) ≡ true → Playable (items_of voice s) (length s) span
      → before ≤ 4611686018427387904 → past ≤ before → at + length (part_bytes s past (span_rows (items_of voice s) span before)) ≤ length l
      → Telling voice s span before past l at l at past span.messages span.first span.past
  tell_starts bytes small fine playable low early room =
      let begun = span_begins voice s bytes small fine span (playable_begins (items_of voice s) (length s) span playable) in
      let rows = begun.1 before in
      record {
        ahead = begun.0;
        low = low;
        early = omega arith;
        same = refl;
        size = ap (λ (x : List (At Event)). at + length (part_bytes s past x)) rows;
        room = room;
        ends = ap (part_last s past) rows;
        whole = ap (λ (x : List (At Event)). sets l at (part_bytes s past x)) rows;
      }

  module _ (out : List ℕ) (here last count place time : ℕ) (r : Telling voice s span before past l at out here last count place time) where
    abbrev rows : List (At Event)
    rows = next_rows before span.start count time r.ahead.rest

    -- nothing is left
    module _ (none : rows ≡ []) where
      none_bytes : part_bytes s last rows ≡ []
      none_bytes = ap (part_bytes s last) none ∙ none_told s last

      over_at : here ≡ at + length (part_bytes s past all)
      over_at = omega (arith, ap length none_bytes, r.size)

      over_past : last ≡ part_last s past all
      over_past = sym (ap (part_last s last) none ∙ none_last s last) ∙ r.ends

      over_out : out ≡ sets l at (part_bytes s past all)
      over_out = ap (sets out here) (sym none_bytes) ∙ r.whole

    full : count ≡ 0 → rows ≡ []
    full e = rw e refl

    pub full_at : count ≡ 0 → here ≡ at + length (part_bytes s past (span_rows (items_of voice s) span before))
    full_at e = over_at (full e)

    pub full_past : count ≡ 0 → last ≡ part_last s past (span_rows (items_of voice s) span before)
    full_past e = over_past (full e)

    pub full_out : count ≡ 0 → out ≡ sets l at (part_bytes s past (span_rows (items_of voice s) span before))
    full_out e = over_out (full e)

    past_end : length s ≤ place → rows ≡ []
    past_end h = none_ahead voice s span.start place time r.ahead before count h

    pub end_at : length s ≤ place → here ≡ at + length (part_bytes s past (span_rows (items_of voice s) span before))
    end_at h = over_at (past_end h)

    pub end_past : length s ≤ place → last ≡ part_last s past (span_rows (items_of voice s) span before)
    end_past h = over_past (past_end h)

    pub end_out : length s ≤ place → out ≡ sets l at (part_bytes s past (span_rows (items_of voice s) span before))
    end_out h = over_out (past_end h)

    -- past an item that is no message
    silent : (next later : ℕ) (a : Ahead voice s span.start next later) → time ≤ later
        → rows ≡ next_rows before span.start count later a.rest
        → Telling voice s span before past l at out here last count next later
    silent next later a on same =
        record {
          ahead = a;
          low = r.low;
          early = omega (arith, r.early);
          same = r.same;
          size = ap (λ (x : List (At Event)). here + length (part_bytes s last x)) (sym same) ∙ r.size;
          room = r.room;
          ends = ap (part_last s last) (sym same) ∙ r.ends;
          whole = ap (λ (x : List (At Event)). sets out here (part_bytes s last x)) (sym same) ∙ r.whole;
        }

    module _ (i : Checked ReadItem) (is : i ≡ item_at voice s place) where
      module _ (read : ReadItem) (duration next : ℕ) (event : Event) (was : i ≡ Ok read) (so : read ≡ Timed duration event next) where
        timed_read : i ≡ Ok (Timed duration event next)
        timed_read = was ∙ ap Ok so

        onward : Onward voice s span.start place time r.ahead (timed duration event) next (time + duration)
        onward = timed_onward voice s span.start place time r.ahead duration next event (sym is ∙ timed_read)

        pub tell_fits : event_fits voice s event ≡ true
        tell_fits = read_fits s r.ahead.bytes voice place duration event next (sym is ∙ timed_read)

        pub tell_late : span.start ≤ time + duration
        tell_late = timed_late voice s span.start place time r.ahead duration next event (sym is ∙ timed_read)

        pub tell_gap : last ≤ before + (time + duration - span.start)
        tell_gap = omega (arith, r.early)

        pub tell_silent : (b : Bool) → b ≡ is_message event → b ≡ false → Telling voice s span before past l at out here last count next (time + duration)
        tell_silent b q h =
            silent next (time + duration) onward.0 (omega arith)
            (nop_next before span.start count time place r.ahead.rest onward.0.rest duration event onward.1 (sym q ∙ h))

        module _ (b : Bool) (q : b ≡ is_message event) (h : b ≡ true) (more : count ≡ 0 → ⊥) where
          abbrev step : ℕ
          step = before + (time + duration - span.start)

          abbrev later : List (At Event)
          later = next_rows before span.start (count - 1) (time + duration) onward.0.rest

          first : rows ≡ record { step = step; event = event } ∷ later
          first =
              message_next before span.start count time place r.ahead.rest onward.0.rest (count - 1) duration event onward.1 (omega arith)
              (sym q ∙ h)

          first_bytes : part_bytes s last rows ≡ message_bytes s (step - last) event ++ part_bytes s step later
          first_bytes = ap (part_bytes s last) first ∙ part_first s last step event later

          first_length : length (part_bytes s last rows) ≡ length (message_bytes s (step - last) event) + length (part_bytes s step later)
          first_length = ap length first_bytes ∙ length-append (message_bytes s (step - last) event) (part_bytes s step later)

          pub tell_room : here + length (message_bytes s (before + (time + duration - span.start) - last) event) ≤ length out
          tell_room = omega (arith, first_length, r.size, r.room)

          pub tell_again : (m : List ℕ) (after : ℕ) → after ≡ here + length (message_bytes s (before + (time + duration - span.start) - last) event)
              → m ≡ sets out here (message_bytes s (before + (time + duration - span.start) - last) event) → length m ≡ length out
              → Telling voice s span before past l at m after (before + (time + duration - span.start)) (count - 1) next (time + duration)
          tell_again m after n w k =
              let stored : sets m after (part_bytes s step later) ≡ sets out here (part_bytes s last rows) =
              rw (w, n, first_bytes) (sets_append out here (message_bytes s (step - last) event) (part_bytes s step later)) in
              record {
                ahead = onward.0;
                low = r.low;
                early = omega arith;
                same = k ∙ r.same;
                size = omega (arith, first_length, r.size);
                room = omega (arith, r.room);
                ends = sym (ap (part_last s last) first ∙ last_first s last step event later) ∙ r.ends;
                whole = stored ∙ r.whole;
              }

      module _ (read : ReadItem) (next : ℕ) (was : i ≡ Ok read) (so : read ≡ EndMark next) where
        mark_read : i ≡ Ok (EndMark next)
        mark_read = was ∙ ap Ok so

        marked : Onward voice s span.start place time r.ahead end_mark next time
        marked = mark_onward voice s span.start place time r.ahead next (sym is ∙ mark_read)

        pub tell_marks : Telling voice s span before past l at out here last count next time
        tell_marks =
            silent next time marked.0 (omega arith)
            (mark_next before span.start count time place r.ahead.rest marked.0.rest marked.1)

      module _ (why : Refusal) (inside : place < length s) (e : i ≡ Err why) where
        never : ⊥
        never = never_refused voice s span.start place time r.ahead why.number why.place inside (sym is ∙ e)

        pub never_at : here ≡ at + length (part_bytes s past (span_rows (items_of voice s) span before))
        never_at = absurd never

        pub never_past : last ≡ part_last s past (span_rows (items_of voice s) span before)
        never_past = absurd never

        pub never_out : out ≡ sets l at (part_bytes s past (span_rows (items_of voice s) span before))
        never_out = absurd never

pub ruleset tells = (tell_fits, tell_late, tell_gap, timed_nears, tell_silent, tell_room, tell_again, mark_nears, tell_marks)

pub ruleset tell_ends = (full_at, full_past, full_out, end_at, end_past, end_out, never_at, never_past, never_out)
