-- The span of a section whose ends are reached: how many messages it plays is told by those before either end, and whether it reaches an end mark
-- by the times of the two.
use Prim.Native.Nat.{ℕ, ◌+◌, ◌-◌, ◌<◌, ◌≤◌}
use mathlib.Core.Bool.{Bool, true, false}
use mathlib.Core.List.{List, [], ◌∷◌, ◌++◌, append-nil}
use Rattle.std.specs.Prelude.{None, Some}
use mathlib.Core.Path.{◌≡◌, refl, sym, ◌∙◌, ap, ap₂, subst}
use lib.ListN.{length}
use native.Mathlib.Omega.{arith}
use borrow.Author.Tests.{eq-eqb, le-ltb, lt-ltb, le-leb, lt-leb, ltb-true, ltb-false}
use Rattle.model.specs.Words.{when◌then◌else◌, ◌and◌, ◌or◌, ◌<?◌, ◌≡?◌, any, first, keep, through, sum, Placed}
use Rattle.model.specs.Item.{Item, lasting, body_of, is_fine, items_of}
use Rattle.model.specs.Play.{At, Onsets, onsets_after, messages_of, Section, is_below, is_within, reaches, items_within, lasts_to, lasts_in, stops_in}
use Rattle.model.specs.Points.{is_address, time_of}
use Rattle.model.specs.Word.{is_message}
use Rattle.model.specs.Order.{between, stream_section}
use Rattle.model.specs.declared.Voice.{Voice}
use Rattle.model.specs.declared.Event.{Event}
use Rattle.model.specs.declared.Reached.{Reached}
use Rattle.model.specs.declared.Span.{Span}
use Rattle.model.specs.declared.Passage.{Passage}
use Rattle.model.proofs.Tests.{by_test}
use Rattle.model.proofs.Picking.{keep_append, through_none, through_append, first_none, any_first}
use Rattle.items.proofs.Addresses.{placed_at, stands_ahead, one_there, reads_to_items}
use Rattle.items.proofs.Standing.{body_stands}
use Rattle.sections.specs.Spans.{Items, messages_after, messages_within, since, place_of, span_of, passage_of, passage_between, span_from, mark_from, items_through}
use Rattle.sections.specs.Reaching.{messages_to, items_to, reached_of, at_head, span_on, span_to, passage_to, Walked, Arrived}
use Rattle.sections.proofs.Places.{Standing, stands_within}
use Rattle.sections.proofs.Marks.{lasting_append, onsets_append, Cut, unreached, reached, open_through, lasts_through}
use Rattle.sections.proofs.Stretches.{within, below, none_kept, below_kept, all_kept}
use Rattle.sections.proofs.Nearing.{says, reach, none_from}
use Rattle.sections.proofs.Walking.{walking_starts, walking_is}

-- of a list's messages no more are kept than there are
kept_few : (test : At (Placed (Item Event)) → Bool) (l : Onsets Event) → length (messages_of is_message (keep test l)) ≤ length (messages_of is_message l)
unfolding keep messages_of when◌then◌else◌
kept_few test [] = omega arith
kept_few test (at ∷ l) =
    let rest = kept_few test l in
    let one = says at.event.what at.step (messages_of is_message (keep test l)) in
    let all = says at.event.what at.step (messages_of is_message l) in
    by_test (test at) (λ t. simp t (omega arith)) (λ t. simp t (omega arith))

-- the messages below a section's bound are those before its start and those within it
counted_apart : (section : Section) → ((onset : ℕ) → onset < section.from → is_below onset section.to ≡ true) → (l : Onsets Event)
    → length (messages_of is_message (keep (below section.to) l))
    ≡ length (messages_of is_message (keep (λ at. at.step <? section.from) l)) + length (messages_of is_message (keep (within section) l))
unfolding keep messages_of is_within ◌and◌ when◌then◌else◌
counted_apart section under [] = refl
counted_apart section under (at ∷ l) =
    let rest = counted_apart section under l in
    let b = says at.event.what at.step (messages_of is_message (keep (below section.to) l)) in
    let e = says at.event.what at.step (messages_of is_message (keep (λ at. at.step <? section.from) l)) in
    let w = says at.event.what at.step (messages_of is_message (keep (within section) l)) in
    by_test (at.step <? section.from)
    (λ t.
    let early = ltb-true at.step section.from t in
    let u = under at.step early in
    simp (lt-ltb, lt-leb, u) (omega arith))
    (λ t.
    let late = ltb-false at.step section.from t in
    by_test (is_below at.step section.to) (λ u. simp (le-ltb, le-leb, u) (omega arith)) (λ u. simp (le-ltb, le-leb, u) (omega arith)))

-- the time of an address does not fall
times_grow : (start stop : ℕ) (items : Items) → start ≤ stop → lasting (items_to start items) ≤ lasting (items_to stop items)
unfolding keep lasting sum when◌then◌else◌
times_grow start stop [] h = omega arith
times_grow start stop (item ∷ items) h =
    let rest = times_grow start stop items h in
    by_test (item.place <? start)
    (λ t.
    let early = ltb-true item.place start t in
    let both : item.place < stop = omega arith in
    simp lt-ltb (omega arith))
    (λ t. by_test (item.place <? stop) (λ u. simp (t, u) (omega arith)) (λ u. simp (t, u) rest))

-- a passage as it is made
module _ (from went to : Reached) (span : Span) where
  pub passage_marked : went.time < to.time → span ≡ span_to from went.messages went.time
      → record { span = span; stops = true } ≡ passage_to from went to
  unfolding passage_to when◌then◌else◌
  passage_marked h e = ap (λ (x : Span). record { span = x; stops = true }) e ∙ simp lt-ltb

  pub passage_whole : to.time ≤ went.time → span ≡ span_to from to.passed to.time
      → record { span = span; stops = false } ≡ passage_to from went to
  unfolding passage_to when◌then◌else◌
  passage_whole h e = ap (λ (x : Span). record { span = x; stops = false }) e ∙ simp le-ltb

pub ruleset passages = (passage_marked, passage_whole)

pub head_first : (r : Reached) (address : ℕ) → r ≡ at_head → r.at ≤ address
head_first r address e = subst (λ (x : Reached). x.at ≤ address) (sym e) (omega arith)

or_last : (a b : Bool) → b ≡ true → (a or b) ≡ true
unfolding ◌or◌
or_last true b h = refl
or_last false b h = h

module _ (voice : Voice) (s : List ℕ) where
  abbrev all : Items
  all = items_of voice s

  all_to : (at : ℕ) (items : Items) → Standing voice s at items → items_to (length s) items ≡ items
  unfolding keep when◌then◌else◌
  all_to at [] st = refl
  all_to at (item ∷ items) st =
      let a = stands_ahead voice s at item st.0 st.1 in
      let early : item.place < length s = omega (arith, placed_at voice s at item st.0 st.1) in
      simp lt-ltb (ap (λ (rest : Items). item ∷ rest) (all_to st.0 items st.2))

  module _ (fine : is_fine (body_of voice s) ≡ true) where
    stand : Standing voice s 0 all
    stand = body_stands voice s all (reads_to_items voice s fine)

    pub head_walked : (r : Reached) → r ≡ at_head → Walked all (length s) r
    unfolding is_address
    head_walked r e =
        subst (Walked all (length s)) (sym e)
        (record { is = walking_is voice s at_head all (walking_starts voice s fine); address = one_there voice s 0 all stand; small = omega arith })

    -- an address is at most the body's size
    pub address_within : (address : ℕ) → is_address all (length s) address ≡ true → address ≤ length s
    address_within address is =
        let r = reach voice s all _ (walking_starts voice s fine) address (omega arith) is in
        omega (arith, r.3, stands_within voice s r.0.at r.1 r.2.stands)

  pub size_is_address : is_address all (length s) (length s) ≡ true
  unfolding is_address
  size_is_address = or_last _ (length s ≡? length s) (eq-eqb (length s) (length s) refl)

  -- a walk that no mark can end is at its address
  pub arrived_at : (address : ℕ) (r : Reached) → Arrived all (length s) address address r → r.at ≡ address
  arrived_at address r came = came.whole (none_from voice s address address all (omega arith))

  arrived_is : (address : ℕ) (r : Reached) → Arrived all (length s) address address r → r ≡ reached_of all (length s) address
  arrived_is address r came = came.walked.is ∙ ap (reached_of all (length s)) (arrived_at address r came)

  module _ (fine : is_fine (body_of voice s) ≡ true) where
    split_at : (address : ℕ) → is_address all (length s) address ≡ true → (rest : Items) × (all ≡ items_to address all ++ rest)
    split_at address is =
        let r = reach voice s all _ (walking_starts voice s fine) address (omega arith) is in
        (r.1, r.2.split ∙ ap (λ (n : ℕ). items_to n all ++ r.1) r.3)

    -- what is heard from an address on does not end before it
    pub heard_late : (address : ℕ) → is_address all (length s) address ≡ true → time_of all address ≤ lasting (items_through address all)
    unfolding time_of
    heard_late address is =
        let q = split_at address is in
        let front = items_to address all in
        let cut : items_through address all ≡ front ++ items_through address q.0 =
        ap (items_through address) q.1 ∙ through_append (mark_from address) front q.0 (none_from voice s address address all (omega arith)) in
        omega (arith, ap lasting cut, lasting_append front (items_through address q.0))

  module _ (marks address : ℕ) (r : Reached) (came : Arrived all (length s) marks address r) where
    pub arrived_walked : Walked (items_of voice s) (length s) r
    arrived_walked = came.walked

    pub arrived_near : r.at ≤ address
    arrived_near = came.near

    -- what was walked through
    abbrev cut : Items
    cut = items_through marks (items_to address all)

    cut_time : r.time ≡ lasting cut
    unfolding reached_of time_of
    cut_time = ap (λ (x : Reached). x.time) came.walked.is ∙ ap lasting came.behind

    cut_messages : r.messages ≡ length (messages_after 0 cut)
    unfolding reached_of
    cut_messages = ap (λ (x : Reached). x.messages) came.walked.is ∙ ap (λ (l : Items). length (messages_after 0 l)) came.behind

    -- what is early is all in it
    module _ (fine : is_fine (body_of voice s) ≡ true) (time : ℕ) (late : time ≤ lasting cut) where
      cut_early : messages_to time 0 cut ≡ messages_to time 0 all
      unfolding is_below
      cut_early =
          let q = split_at fine r.at came.walked.address in
          let split : all ≡ cut ++ q.0 = q.1 ∙ ap (λ (front : Items). front ++ q.0) came.behind in
          ap (λ (l : Onsets Event). length (messages_of is_message l))
          (sym (ap (λ (l : Items). keep (λ at. at.step <? time) (onsets_after 0 l)) split
          ∙ ap (keep (λ at. at.step <? time)) (onsets_append 0 cut q.0)
          ∙ keep_append (λ at. at.step <? time) (onsets_after 0 cut) (onsets_after (0 + lasting cut) q.0)
          ∙ ap (λ (l : Onsets Event). keep (λ at. at.step <? time) (onsets_after 0 cut) ++ l)
          (none_kept time (0 + lasting cut) q.0 (omega arith))
          ∙ append-nil _))

    -- what a section that goes no further plays of it
    module _ (fine : is_fine (body_of voice s) ≡ true) (section : Section) (late : section.from ≤ lasting cut)
        (under : (onset : ℕ) → onset < section.from → is_below onset section.to ≡ true)
        (whole : keep (below section.to) (onsets_after 0 cut) ≡ onsets_after 0 cut) where
      cut_apart : length (messages_after 0 cut) ≡ messages_to section.from 0 all + length (messages_of is_message (keep (within section) (onsets_after 0 cut)))
      cut_apart =
          ap (λ (l : Onsets Event). length (messages_of is_message l)) (sym whole)
          ∙ counted_apart section under (onsets_after 0 cut)
          ∙ ap (λ (n : ℕ). n + length (messages_of is_message (keep (within section) (onsets_after 0 cut)))) (cut_early fine section.from late)

  -- a walk that reached an address, whatever it was told of it
  module _ (start : ℕ) (from : Reached) (came : Arrived all (length s) start start from) where
    pub at_start : (stop : ℕ) → start ≤ stop → from.at ≤ stop
    at_start stop h = omega (arith, arrived_at start from came)

    pub arrived_there : Arrived (items_of voice s) (length s) from.at from.at from
    arrived_there = subst (λ (n : ℕ). Arrived all (length s) n n from) (sym (arrived_at start from came)) came

    pub passage_from : (stop : ℕ) (r : Passage) → r ≡ passage_between (items_of voice s) (length s) from.at stop
        → r ≡ passage_between (items_of voice s) (length s) start stop
    passage_from stop r e = e ∙ ap (λ (n : ℕ). passage_between all (length s) n stop) (arrived_at start from came)

    pub span_from_lem : (r : Span) → r ≡ span_from (items_of voice s) (length s) from.at → r ≡ span_from (items_of voice s) (length s) start
    span_from_lem r e = e ∙ ap (span_from all (length s)) (arrived_at start from came)

  module _ (from : Reached) (came : Arrived (items_of voice s) (length s) from.at from.at from) where
    abbrev start : ℕ
    start = from.at

    there : from ≡ reached_of all (length s) start
    there = came.walked.is

    pub from_time : from.time ≡ time_of all start
    unfolding reached_of
    from_time = ap (λ (x : Reached). x.time) there

    from_passed : from.passed ≡ messages_to (time_of all start) 0 all
    unfolding reached_of
    from_passed = ap (λ (x : Reached). x.passed) there

    -- a walk from there on is not behind it
    cut_late : (marks address : ℕ) (r : Reached) → Arrived all (length s) marks address r → from.at ≤ r.at → time_of all start ≤ lasting (items_through marks (items_to address all))
    unfolding time_of
    cut_late marks address r there after =
        let grows = times_grow start r.at all after in
        let same = ap lasting there.behind in
        omega arith

    -- the parts of a span from a time on
    abbrev span_from_time : ℕ → ℕ → ℕ → Span
    span_from_time time messages lasts =
        record { first = place_of (length s) (since time 0 all).items; past = (since time 0 all).past; start = time; messages = messages; lasts = lasts }

    pub span_like : (section : Section) → section.from ≡ time_of all start → (messages lasts : ℕ) → messages ≡ length (messages_within section all)
        → lasts ≡ lasts_in (onsets_after 0 all) section → span_on from messages lasts ≡ span_of all (length s) section
    unfolding span_of reached_of
    span_like section begins messages lasts m l =
        ap (λ (x : Reached). span_on x messages lasts) there
        ∙ ap (λ (t : ℕ). span_from_time t messages lasts) (sym begins)
        ∙ ap₂ (span_from_time section.from) m l

    -- BETWEEN TWO ADDRESSES, where a walk from the first went through a mark, or to the second, and another to the second
    module _ (fine : is_fine (body_of voice s) ≡ true) (stop : ℕ) (went to : Reached) (walk : Arrived all (length s) start stop went)
        (after : from.at ≤ went.at) (stopped : Arrived all (length s) stop stop to) (ordered : start ≤ stop) where
      abbrev section : Section
      section = between all start stop

      abbrev walked : Items
      walked = items_through start (items_to stop all)

      starts : section.from ≡ time_of all start
      unfolding between
      starts = refl

      bounded : section.to ≡ Some (time_of all stop)
      unfolding between
      bounded = refl

      to_time : to.time ≡ time_of all stop
      unfolding reached_of
      to_time = ap (λ (x : Reached). x.time) (arrived_is stop to stopped)

      to_passed : to.passed ≡ messages_to (time_of all stop) 0 all
      unfolding reached_of
      to_passed = ap (λ (x : Reached). x.passed) (arrived_is stop to stopped)

      grows : time_of all start ≤ time_of all stop
      unfolding time_of
      grows = times_grow start stop all ordered

      late : time_of all start ≤ lasting walked
      late = cut_late start stop went walk after

      under : (onset : ℕ) → onset < section.from → is_below onset section.to ≡ true
      unfolding between is_below
      under onset h = let below : onset < time_of all stop = omega (arith, grows) in lt-ltb onset (time_of all stop) below

      rest : (others : Items) × (all ≡ items_to stop all ++ others)
      rest = split_at fine stop (ap (is_address all (length s)) (sym (arrived_at stop to stopped)) ∙ stopped.walked.address)

      pub went_later : from.time ≤ went.time
      went_later = omega (arith, from_time, cut_time start stop went walk, late)

      pub stop_later : from.time ≤ to.time
      stop_later = omega (arith, from_time, to_time, grows)

      pub went_heard : from.passed ≤ went.messages
      went_heard =
          let few = kept_few (λ at. at.step <? time_of all start) (onsets_after 0 walked) in
          omega (arith, from_passed, cut_messages start stop went walk, cut_early start stop went walk fine (time_of all start) late, few)

      -- what would be played if no mark were reached
      unmarked : to.passed ≡ from.passed + length (messages_of is_message (keep (within section) (onsets_after 0 all)))
      unfolding between is_below
      unmarked = omega (arith, to_passed, from_passed, counted_apart section under (onsets_after 0 all))

      pub stop_passed : from.passed ≤ to.passed
      stop_passed = omega (arith, unmarked)

      -- a mark is reached
      module _ (early : went.time < to.time) where
        cut_here : Cut section (time_of all stop) bounded 0 (items_to stop all) rest.0
        unfolding between time_of
        cut_here = reached section (time_of all stop) bounded 0 (items_to stop all) rest.0 (omega arith) (omega (arith, cut_time start stop went walk, to_time))

        cut_onsets : through (reaches section) (onsets_after 0 all) ≡ onsets_after 0 walked
        unfolding between
        cut_onsets = ap (λ (l : Items). through (reaches section) (onsets_after 0 l)) rest.1 ∙ cut_here.items

        mark_met : first (reaches section) (onsets_after 0 all) ≡ Some cut_here.mark
        mark_met = ap (λ (l : Items). first (reaches section) (onsets_after 0 l)) rest.1 ∙ cut_here.is

        all_below : keep (below section.to) (onsets_after 0 walked) ≡ onsets_after 0 walked
        unfolding between
        all_below = below_kept (time_of all stop) 0 walked (omega (arith, cut_time start stop went walk, to_time))

        many_cut : went.messages - from.passed ≡ length (messages_within section all)
        unfolding items_within between
        many_cut =
            let apart = cut_apart start stop went walk fine section late under all_below in
            let same = ap (λ (l : Onsets Event). length (messages_of is_message (keep (within section) l))) cut_onsets in
            omega (arith, cut_messages start stop went walk, from_passed, apart, same)

        lasts_cut : went.time - from.time ≡ lasts_in (onsets_after 0 all) section
        unfolding lasts_in lasts_to between
        lasts_cut =
            let onset = cut_here.onset in
            let time : went.time - from.time ≡ cut_here.mark.step - time_of all start = omega (arith, cut_time start stop went walk, from_time, onset) in
            time ∙ ap (lasts_to section) (sym mark_met)

        reaches_is : record { span = span_to from went.messages went.time; stops = true } ≡ passage_of all (length s) section
        unfolding passage_of span_to stops_in
        reaches_is =
            ap₂ (λ (x : Span) (b : Bool). record { span = x; stops = b })
            (span_like section starts (went.messages - from.passed) (went.time - from.time) many_cut lasts_cut)
            (sym (any_first (reaches section) (onsets_after 0 all) cut_here.mark mark_met))

      -- none is
      module _ (long : to.time ≤ went.time) where
        none_reached : any (reaches section) (onsets_after 0 all) ≡ false
        unfolding between
        none_reached =
            ap (λ (l : Items). any (reaches section) (onsets_after 0 l)) rest.1
            ∙ unreached section (time_of all stop) bounded 0 (items_to stop all) rest.0 (omega (arith, cut_time start stop went walk, to_time))

        many_whole : to.passed - from.passed ≡ length (messages_within section all)
        unfolding items_within
        many_whole =
            let whole = through_none (reaches section) (onsets_after 0 all) none_reached in
            let same = ap (λ (l : Onsets Event). length (messages_of is_message (keep (within section) l))) whole in
            omega (arith, unmarked, same)

        lasts_whole : to.time - from.time ≡ lasts_in (onsets_after 0 all) section
        unfolding lasts_in lasts_to between
        lasts_whole =
            let time : to.time - from.time ≡ time_of all stop - time_of all start = omega (arith, to_time, from_time) in
            time ∙ ap (lasts_to section) (sym (first_none (reaches section) (onsets_after 0 all) none_reached))

        between_is : record { span = span_to from to.passed to.time; stops = false } ≡ passage_of all (length s) section
        unfolding passage_of span_to stops_in
        between_is =
            ap₂ (λ (x : Span) (b : Bool). record { span = x; stops = b })
            (span_like section starts (to.passed - from.passed) (to.time - from.time) many_whole lasts_whole) (sym none_reached)

      pub passage_is : (r : Passage) → r ≡ passage_to from went to → r ≡ passage_between (items_of voice s) (length s) from.at stop
      unfolding passage_to when◌then◌else◌
      passage_is r e =
          e ∙ by_test (went.time <? to.time)
          (λ t. simp t (reaches_is (ltb-true went.time to.time t)))
          (λ t. simp t (between_is (ltb-false went.time to.time t)))

    -- TO THE BODY'S END, or through the first mark from there on
    module _ (fine : is_fine (body_of voice s) ≡ true) (to : Reached) (walk : Arrived all (length s) start (length s) to) (after : from.at ≤ to.at) where
      abbrev unstopped : Section
      unstopped = stream_section all start None

      abbrev heard : Items
      heard = items_through start (items_to (length s) all)

      begins : unstopped.from ≡ time_of all start
      unfolding stream_section
      begins = refl

      endless : unstopped.to ≡ None
      unfolding stream_section
      endless = refl

      whole : items_to (length s) all ≡ all
      whole = all_to 0 all (stand fine)

      on_late : time_of all start ≤ lasting heard
      on_late = cut_late start (length s) to walk after

      pub time_on : from.time ≤ to.time
      time_on = omega (arith, from_time, cut_time start (length s) to walk, on_late)

      heard_onsets : through (reaches unstopped) (onsets_after 0 all) ≡ onsets_after 0 heard
      unfolding stream_section
      heard_onsets = open_through unstopped endless 0 all ∙ ap (λ (l : Items). onsets_after 0 (items_through start l)) (sym whole)

      on_apart : to.messages ≡ from.passed + length (messages_within unstopped all)
      unfolding items_within stream_section is_below
      on_apart =
          let apart = cut_apart start (length s) to walk fine unstopped on_late (λ onset h. refl) (all_kept (onsets_after 0 heard)) in
          let same = ap (λ (l : Onsets Event). length (messages_of is_message (keep (within unstopped) l))) heard_onsets in
          omega (arith, cut_messages start (length s) to walk, from_passed, apart, same)

      pub passed_falls_not_on : from.passed ≤ to.messages
      passed_falls_not_on = omega (arith, on_apart)

      lasts_on : to.time - from.time ≡ lasts_in (onsets_after 0 all) unstopped
      unfolding stream_section
      lasts_on =
          let time : to.time - from.time ≡ lasting heard - time_of all start = omega (arith, cut_time start (length s) to walk, from_time) in
          time ∙ ap (λ (l : Items). lasting (items_through start l) - time_of all start) whole ∙ sym (lasts_through unstopped endless all refl)

      pub stream_is : (r : Span) → r ≡ span_to from to.messages to.time → r ≡ span_from (items_of voice s) (length s) from.at
      unfolding span_to
      stream_is r e =
          let many : to.messages - from.passed ≡ length (messages_within unstopped all) = omega (arith, on_apart) in
          e ∙ span_like unstopped begins (to.messages - from.passed) (to.time - from.time) many lasts_on

pub ruleset reaching = (head_walked, head_first, size_is_address, arrived_walked, arrived_near, at_start, arrived_there, address_within, passage_from, span_from_lem)

pub ruleset spanning = (went_later, stop_later, went_heard, stop_passed, passage_is, time_on, passed_falls_not_on, stream_is)
