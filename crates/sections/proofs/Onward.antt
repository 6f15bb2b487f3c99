-- ALL FROM AN ADDRESS ON, up to the first end mark from there, written in one walk that is told only a bound on the messages, the body's size: the
-- rows are those of the section without a stop, and a row for every three bytes of the body is room for them.
use Prim.Native.Nat.{ℕ, ◌+◌, ◌-◌, ◌*◌, ◌/◌, ◌<◌, ◌≤◌}
use mathlib.Core.Bool.{true}
use mathlib.Core.List.{List, map}
use Rattle.std.specs.Prelude.{None}
use mathlib.Core.Path.{◌≡◌, refl, sym, ◌∙◌, ap, subst}
use lib.ListN.{length, take}
use lib.Seq.{sets, take_all}
use native.Mathlib.Omega.{arith}
use Rattle.model.specs.Words.{keep}
use Rattle.model.specs.Item.{lasting, body_of, is_fine, items_of}
use Rattle.model.specs.Play.{At, onsets_after, messages_of, Section, is_within, reaches, items_within, sounding, lasts_in}
use Rattle.model.specs.Points.{time_of}
use Rattle.model.specs.Order.{stream_section}
use Rattle.model.specs.Word.{is_message}
use Rattle.model.specs.declared.Voice.{Voice}
use Rattle.model.specs.declared.Event.{Event}
use Rattle.model.specs.declared.Reached.{Reached}
use Rattle.model.specs.declared.Span.{Span}
use Rattle.items.proofs.Addresses.{reads_to_items}
use Rattle.items.proofs.Standing.{body_stands, body_not_empty}
use Rattle.sections.specs.Spans.{Items, messages_after, messages_within, Rest, since, place_of, items_from, items_through, span_of, span_from, counted, span_rows, steps_of, words_of, Begun, Ended}
use Rattle.sections.specs.Reaching.{reached_of, span_on, Arrived}
use Rattle.sections.specs.declared.Written.{Written}
use Rattle.sections.proofs.Places.{Standing, from_since}
use Rattle.sections.proofs.Marks.{open_through, lasts_through}
use Rattle.sections.proofs.Stretches.{within, kept_since, all_kept, cut_few, span_sounds, span_counts}
use Rattle.sections.proofs.Cutting.{from_through, since_through}
use Rattle.sections.proofs.Nearing.{walked_begun}
use Rattle.sections.proofs.Spanning.{heard_late, from_time, span_like}
use Rattle.sections.proofs.Small.{messages_few}

module _ (voice : Voice) (s : List ℕ) (fine : is_fine (body_of voice s) ≡ true) (from : Reached)
    (came : Arrived (items_of voice s) (length s) from.at from.at from) where
  abbrev all : Items
  all = items_of voice s

  stand : Standing voice s 0 all
  stand = body_stands voice s all (reads_to_items voice s fine)

  abbrev section : Section
  section = stream_section all from.at None

  -- what is heard of the body
  abbrev heard : Items
  heard = items_through from.at all

  there : from ≡ reached_of all (length s) from.at
  there = came.walked.is

  first_is : from.first ≡ place_of (length s) (since (time_of all from.at) 0 all).items
  unfolding reached_of
  first_is = ap (λ (x : Reached). x.first) there

  past_is : from.past ≡ (since (time_of all from.at) 0 all).past
  unfolding reached_of
  past_is = ap (λ (x : Reached). x.past) there

  time_is : from.time ≡ time_of all from.at
  time_is = from_time voice s from came

  early : from.first ≤ from.at
  early = walked_begun voice s fine from came.walked

  -- it plays all of that which is not before its start
  plays_all : messages_after from.past (items_from from.first heard) ≡ messages_within section all
  unfolding stream_section items_within
  plays_all =
      let left = since (time_of all from.at) 0 all in
      let since_is : items_from from.first all ≡ left.items =
      ap (λ (n : ℕ). items_from n all) first_is ∙ from_since voice s (time_of all from.at) 0 0 all stand in
      let there : place_of (length s) left.items ≤ from.at = omega (arith, first_is, early) in
      ap (messages_after from.past) (sym (from_through from.first from.at all early) ∙ ap (items_through from.at) since_is)
      ∙ ap (λ (n : ℕ). messages_after n (items_through from.at left.items)) past_is
      ∙ ap (λ (x : Rest). messages_after x.past x.items) (sym (since_through voice s from.at (time_of all from.at) 0 0 all stand there))
      ∙ sym (ap (messages_of is_message) (ap (keep (within section)) (open_through section refl 0 all) ∙ kept_since section 0 heard ∙ all_kept _))

  -- a message for every three bytes at most
  thirds : 3 * length (messages_within section all) ≤ length s
  unfolding items_within
  thirds =
      let few = messages_few voice s (λ at. is_within section at.step) 0 0 all stand in
      let cut = cut_few (λ at. is_within section at.step) (reaches section) (onsets_after 0 all) in
      omega arith

  bounded : take (length s) (messages_after from.past (items_from from.first heard)) ≡ messages_within section all
  bounded =
      let few : length (messages_within section all) ≤ length s = omega (arith, thirds) in
      rw plays_all (take_all (length s) (messages_within section all) few)

  module _ (bound : Span) (is : bound ≡ span_on from (length s) 0) where
    pub onward_begins : Begun (items_of voice s) (length s) bound
    onward_begins =
        subst (Begun all (length s)) (sym is) (record { first = rw time_is first_is; past = rw time_is past_is })

    pub onward_early : bound.first ≤ from.at
    onward_early = let same : bound.first ≡ from.first = ap (λ (span : Span). span.first) is in omega (arith, early)

    rows : span_rows heard bound 0 ≡ span_rows all (span_from all (length s) from.at) 0
    unfolding span_rows sounding stream_section
    rows =
        ap (λ (span : Span). span_rows heard span 0) is
        ∙ ap (map (counted 0 from.time)) bounded
        ∙ ap (λ (n : ℕ). map (counted 0 n) (messages_within section all)) time_is
        ∙ sym (span_sounds voice s fine section 0)

    many : length (span_rows heard bound 0) ≡ length (messages_within section all)
    unfolding span_of
    many = ap length rows ∙ span_counts voice s fine section 0

    pub onward_fits : length s ≤ 65536 → 0 + bound.messages < 18446744073709551616
    onward_fits small = let size : bound.messages ≡ length s = ap (λ (span : Span). span.messages) is in omega arith

    pub onward_room : (room : ℕ) → length s / 3 ≤ room → 0 + length (span_rows (items_through from.at (items_of voice s)) bound 0) ≤ room
    onward_room room h = omega (arith, many, thirds)

    module _ (written : Written) (ended : Ended (items_through from.at (items_of voice s)) bound 0 0 written) where
      whole : written.time ≡ lasting heard
      whole =
          let size : bound.messages ≡ length s = ap (λ (span : Span). span.messages) is in
          let Some = body_not_empty voice s all (reads_to_items voice s fine) in
          ended.time (omega (arith, many, thirds))

      pub onward_later : from.time ≤ written.time
      onward_later = omega (arith, time_is, whole, heard_late voice s fine from.at came.walked.address)

      module _ (r : Span) (told : r ≡ span_on from written.row (written.time - from.time)) where
        pub onward_is : r ≡ span_from (items_of voice s) (length s) from.at
        unfolding stream_section
        onward_is =
            let row : written.row ≡ length (messages_within section all) = omega (arith, ended.row, many) in
            let lasts : written.time - from.time ≡ lasts_in (onsets_after 0 all) section =
            omega (arith, whole, time_is, lasts_through section refl all refl) in
            told ∙ span_like voice s from came section refl written.row (written.time - from.time) row lasts

        pub onward_few : r.messages ≤ length s / 3
        onward_few = let row : r.messages ≡ written.row = ap (λ (span : Span). span.messages) told in omega (arith, ended.row, many, thirds)

        module _ (l m : List ℕ) where
          pub onward_steps : m ≡ sets l 0 (steps_of (span_rows (items_through from.at (items_of voice s)) bound 0)) → m ≡ sets l 0 (steps_of (span_rows (items_of voice s) r 0))
          onward_steps e =
              e ∙ ap (λ (x : List (At Event)). sets l 0 (steps_of x)) (rows ∙ ap (λ (span : Span). span_rows all span 0) (sym onward_is))

          pub onward_words : m ≡ sets l 0 (words_of (span_rows (items_through from.at (items_of voice s)) bound 0)) → m ≡ sets l 0 (words_of (span_rows (items_of voice s) r 0))
          onward_words e =
              e ∙ ap (λ (x : List (At Event)). sets l 0 (words_of x)) (rows ∙ ap (λ (span : Span). span_rows all span 0) (sym onward_is))

pub ruleset onward = (onward_begins, onward_early, onward_fits, onward_room, onward_later, onward_is, onward_few, onward_steps, onward_words)
