-- The rows of a span, stored one after the other, up to the first end mark from a place on: the invariant of `write_rows`'s loop, that what is
-- still to be stored makes the whole, and what each turn and each way out makes of it.
use Prim.Native.Nat.{ℕ, suc, ◌+◌, ◌-◌, ◌<◌, ◌≤◌}
use mathlib.Core.Bool.{Bool, true, false, false≢true}
use mathlib.Core.List.{List, [], ◌∷◌}
use mathlib.Core.Path.{◌≡◌, refl, sym, ◌∙◌, ap, subst}
use lib.ListN.{length, set, length-set, length-take, length-map}
use lib.Seq.{sets}
use native.Mathlib.Nat.{add-zero}
use native.Mathlib.Numerals.{add-one}
use native.Mathlib.Omega.{arith}
use Rattle.model.specs.Bytes.{◌!◌}
use Rattle.model.specs.Words.{◌and◌, ◌≤?◌, through, sum, Checked}
use Rattle.model.specs.Item.{Item, Item.timed, Item.end_mark, duration_of, is_mark, lasting, item_at, body_of, is_fine, items_of}
use Rattle.model.specs.Play.{At}
use Rattle.model.specs.Word.{is_message, word_of, InWord}
use Rattle.model.specs.declared.Voice.{Voice}
use Rattle.model.specs.declared.Event.{Event}
use Rattle.std.specs.Prelude.{Ok, Err}
use Rattle.model.specs.declared.ReadItem.{ReadItem}
use Rattle.model.specs.declared.ReadItem.TheVariants.{Timed, EndMark}
use Rattle.model.specs.declared.Span.{Span}
use Rattle.model.proofs.Picking.{through_here, through_on}
use Rattle.items.proofs.Addresses.{timed_nears, mark_nears, reads_to_items}
use Rattle.items.proofs.Standing.{body_stands}
use Rattle.sections.specs.Spans.{Items, since, place_of, mark_from, items_through, span_rows, steps_of, words_of, Begun, Ended}
use Rattle.sections.specs.Taking.{AllBytes, taken_as, taken_mark, ItemAgrees}
use Rattle.sections.specs.declared.Taken.{Taken}
use Rattle.sections.proofs.Places.{first_stands, stands_within}
use Rattle.sections.proofs.Cutting.{uncut_rows}
use Rattle.sections.proofs.InWords.{ItemInWord, item_in_word}
use Rattle.sections.proofs.Taking.{word_none, word_some}
use Rattle.sections.proofs.Ahead.{Ahead, Onward, next_rows, message_next, nop_next, mark_next, none_left, playable_begins, span_begins, span_cut, nothing_ahead, timed_late, timed_onward, mark_late, mark_onward, never_refused}

-- a span has no more rows than it says
pub rows_room : (items : Items) (span : Span) (before at room : ℕ) → at + span.messages ≤ room → at + length (span_rows items span before) ≤ room
unfolding span_rows
rows_room items span before at room h = simp (length-map, length-take) (omega arith)

-- the items of a body up to the first mark from a place on
abbrev cut_at : Voice → List ℕ → ℕ → Items
cut_at voice s marks = items_through marks (items_of voice s)

pub record Rowing (voice : Voice) (s : List ℕ) (span : Span) (marks before : ℕ) (l m : List ℕ) (at end : ℕ) (out outs : List ℕ) (row place time : ℕ) : Type 0 where
  pub walk : Ahead voice s span.start place time
  pub lasts : time + lasting (items_through marks walk.rest) ≡ lasting (cut_at voice s marks)
  pub ends : end ≡ at + span.messages
  pub few : row ≤ end
  pub fits : end < 18446744073709551616
  pub same_steps : length out ≡ length l
  pub same_words : length outs ≡ length m
  pub room_steps : at + length (span_rows (cut_at voice s marks) span before) ≤ length out
  pub room_words : at + length (span_rows (cut_at voice s marks) span before) ≤ length outs
  pub count : row + length (next_rows before span.start (end - row) time (items_through marks walk.rest)) ≡ at + length (span_rows (cut_at voice s marks) span before)
  pub steps : sets out row (steps_of (next_rows before span.start (end - row) time (items_through marks walk.rest))) ≡ sets l at (steps_of (span_rows (cut_at voice s marks) span before))
  pub words : sets outs row (words_of (next_rows before span.start (end - row) time (items_through marks walk.rest))) ≡ sets m at (words_of (span_rows (cut_at voice s marks) span before))

pub rows_start : (voice : Voice) (s : List ℕ) (span : Span) (marks before : ℕ) (l m : List ℕ) (at end : ℕ) → ((k : ℕ) → s ! k < 256) → length s ≤ 65536
    → is_fine (body_of voice s) ≡ true → Begun (items_of voice s) (length s) span → span.first ≤ marks → end ≡ at + span.messages
    → end < 18446744073709551616
    → at + length (span_rows (cut_at voice s marks) span before) ≤ length l → at + length (span_rows (cut_at voice s marks) span before) ≤ length m
    → Rowing voice s span marks before l m at end l m at span.first span.past
unfolding span_rows
rows_start voice s span marks before l m at end bytes small fine begun early ends fits room rooms =
    let starts = span_begins voice s bytes small fine span begun in
    let many : end - at ≡ span.messages = omega arith in
    let cut = span_cut voice s bytes small fine span begun marks early in
    let left : items_through marks starts.0.rest ≡ items_through marks (since span.start 0 (items_of voice s)).items = ap (items_through marks) starts.2 in
    let rows =
    ap (λ (n : ℕ). next_rows before span.start n span.past (items_through marks starts.0.rest)) many
    ∙ ap (next_rows before span.start span.messages span.past) (left ∙ cut.0) in
    record {
      walk = starts.0;
      lasts = ap (λ (items : Items). span.past + lasting items) left ∙ cut.1;
      ends = ends;
      few = omega arith;
      fits = fits;
      same_steps = refl;
      same_words = refl;
      room_steps = room;
      room_words = rooms;
      count = ap (λ (x : List (At Event)). at + length x) rows;
      steps = ap (λ (x : List (At Event)). sets l at (steps_of x)) rows;
      words = ap (λ (x : List (At Event)). sets m at (words_of x)) rows;
    }

module _ (voice : Voice) (s : List ℕ) (span : Span) (marks before : ℕ) (l m : List ℕ) (at end : ℕ) (out outs : List ℕ) (row place time : ℕ)
    (r : Rowing voice s span marks before l m at end out outs row place time) where
  -- all is stored, or nothing is left to be
  nothing_left : (rows : List (At Event)) → next_rows before span.start (end - row) time (items_through marks r.walk.rest) ≡ rows → rows ≡ []
      → (out ≡ sets l at (steps_of (span_rows (cut_at voice s marks) span before))) × (outs ≡ sets m at (words_of (span_rows (cut_at voice s marks) span before)))
      × (row ≡ at + length (span_rows (cut_at voice s marks) span before))
  unfolding steps_of words_of
  nothing_left rows e none = (
    ap (λ (x : List (At Event)). sets out row (steps_of x)) (sym (e ∙ none)) ∙ r.steps,
    ap (λ (x : List (At Event)). sets outs row (words_of x)) (sym (e ∙ none)) ∙ r.words,
    let no_row : length (next_rows before span.start (end - row) time (items_through marks r.walk.rest)) ≡ 0 = ap length (e ∙ none) in omega (arith, r.count),
  )

  full : row ≡ end → next_rows before span.start (end - row) time (items_through marks r.walk.rest) ≡ []
  full e = let none : end - row ≡ 0 = omega arith in rw none refl

  rests_none : length s ≤ place → items_through marks r.walk.rest ≡ []
  unfolding through
  rests_none past = ap (items_through marks) (nothing_ahead voice s span.start place time r.walk past)

  over : length s ≤ place → next_rows before span.start (end - row) time (items_through marks r.walk.rest) ≡ []
  over past = ap (next_rows before span.start (end - row) time) (rests_none past) ∙ none_left before span.start (end - row) time

  pub steps_full : row ≡ end → out ≡ sets l at (steps_of (span_rows (cut_at voice s marks) span before))
  steps_full e = (nothing_left _ refl (full e)).0

  pub words_full : row ≡ end → outs ≡ sets m at (words_of (span_rows (cut_at voice s marks) span before))
  words_full e = (nothing_left _ refl (full e)).1

  pub ended_full : row ≡ end → Ended (cut_at voice s marks) span before at (record { row = row; time = time })
  ended_full e =
      let many = (nothing_left _ refl (full e)).2 in
      record { row = many; time = λ fewer. absurd (omega (arith, r.ends)) }

  pub steps_over : length s ≤ place → out ≡ sets l at (steps_of (span_rows (cut_at voice s marks) span before))
  steps_over h = (nothing_left _ refl (over h)).0

  pub words_over : length s ≤ place → outs ≡ sets m at (words_of (span_rows (cut_at voice s marks) span before))
  words_over h = (nothing_left _ refl (over h)).1

  pub ended_over : length s ≤ place → Ended (cut_at voice s marks) span before at (record { row = row; time = time })
  unfolding lasting sum
  ended_over h =
      let past : time + lasting (items_through marks r.walk.rest) ≡ time + 0 = ap (λ (items : Items). time + lasting items) (rests_none h) in
      record { row = (nothing_left _ refl (over h)).2; time = λ fewer. omega (arith, past, r.lasts) }

  -- past an item that is no message
  silent : (next later : ℕ) (b : Ahead voice s span.start next later)
      → next_rows before span.start (end - row) time (items_through marks r.walk.rest) ≡ next_rows before span.start (end - row) later (items_through marks b.rest)
      → later + lasting (items_through marks b.rest) ≡ lasting (cut_at voice s marks)
      → Rowing voice s span marks before l m at end out outs row next later
  silent next later b same lasts =
      record {
        walk = b;
        lasts = lasts;
        ends = r.ends;
        few = r.few;
        fits = r.fits;
        same_steps = r.same_steps;
        same_words = r.same_words;
        room_steps = r.room_steps;
        room_words = r.room_words;
        count = ap (λ (x : List (At Event)). row + length x) (sym same) ∙ r.count;
        steps = ap (λ (x : List (At Event)). sets out row (steps_of x)) (sym same) ∙ r.steps;
        words = ap (λ (x : List (At Event)). sets outs row (words_of x)) (sym same) ∙ r.words;
      }

  -- an item that is no mark from the place on
  module _ (what : Item Event) (next later : ℕ) (on : Onward voice s span.start place time r.walk what next later)
      (unmarked : mark_from marks (record { place = place; what = what }) ≡ false) where
    opened : items_through marks r.walk.rest ≡ record { place = place; what = what } ∷ items_through marks on.0.rest
    opened = ap (items_through marks) on.1 ∙ through_on (mark_from marks) _ on.0.rest unmarked

    lasts_on : time + duration_of what ≡ later → later + lasting (items_through marks on.0.rest) ≡ lasting (cut_at voice s marks)
    unfolding lasting sum
    lasts_on h = let all = ap (λ (items : Items). time + lasting items) opened in omega (arith, all, r.lasts)

  module _ (duration next : ℕ) (event : Event) (e : item_at voice s place ≡ Ok (Timed duration event next)) where
    onward : Onward voice s span.start place time r.walk (timed duration event) next (time + duration)
    onward = timed_onward voice s span.start place time r.walk duration next event e

    unmarked : mark_from marks (record { place = place; what = timed duration event }) ≡ false
    unfolding mark_from is_mark ◌and◌
    unmarked = refl

    opens_on : items_through marks r.walk.rest ≡ record { place = place; what = timed duration event } ∷ items_through marks onward.0.rest
    opens_on = opened (timed duration event) next (time + duration) onward unmarked

    row_lasts : time + duration + lasting (items_through marks onward.0.rest) ≡ lasting (cut_at voice s marks)
    unfolding duration_of
    row_lasts = lasts_on (timed duration event) next (time + duration) onward unmarked refl

    row_in_word : InWord event
    row_in_word = (subst ItemInWord e (item_in_word s r.walk.bytes r.walk.small voice place)).1

    row_silent : is_message event ≡ false → Rowing voice s span marks before l m at end out outs row next (time + duration)
    row_silent h =
        silent next (time + duration) onward.0
        (nop_next before span.start (end - row) time place (items_through marks r.walk.rest) (items_through marks onward.0.rest) duration event opens_on h)
        row_lasts

    module _ (more : row ≡ end → ⊥) (h : is_message event ≡ true) where
      abbrev later : List (At Event)
      later = next_rows before span.start (end - suc row) (time + duration) (items_through marks onward.0.rest)

      opens : next_rows before span.start (end - row) time (items_through marks r.walk.rest)
          ≡ record { step = before + (time + duration - span.start); event = event } ∷ later
      opens =
          message_next before span.start (end - row) time place (items_through marks r.walk.rest) (items_through marks onward.0.rest) (end - suc row) duration
          event opens_on
          (omega (arith, r.few)) h

      counts : suc row + length later ≡ at + length (span_rows (cut_at voice s marks) span before)
      counts = let one = ap length opens in omega (arith, r.count)

      row_room_steps : row < length out
      row_room_steps = omega (arith, counts, r.room_steps)

      row_room_words : row < length outs
      row_room_words = omega (arith, counts, r.room_words)

      row_sounds : (m₁ m₂ : List ℕ) → m₁ ≡ set out row (before + (time + duration - span.start))
          → m₂ ≡ set outs row (word_of event) → Rowing voice s span marks before l m at end m₁ m₂ (row + 1) next (time + duration)
      unfolding steps_of words_of
      row_sounds m₁ m₂ p₁ p₂ =
          record {
            walk = onward.0;
            lasts = row_lasts;
            ends = r.ends;
            few = omega (arith, r.few);
            fits = r.fits;
            same_steps = ap length p₁ ∙ length-set out row _ ∙ r.same_steps;
            same_words = ap length p₂ ∙ length-set outs row _ ∙ r.same_words;
            room_steps = rw (p₁, length-set out row (before + (time + duration - span.start))) r.room_steps;
            room_words = rw (p₂, length-set outs row (word_of event)) r.room_words;
            count = rw (add-one row) counts;
            steps = rw (p₁, add-one row) (ap (λ (x : List (At Event)). sets out row (steps_of x)) (sym opens) ∙ r.steps);
            words = rw (p₂, add-one row) (ap (λ (x : List (At Event)). sets outs row (words_of x)) (sym opens) ∙ r.words);
          }

  -- an end mark, which a walk passes or where it ends
  module _ (next : ℕ) (e : item_at voice s place ≡ Ok (EndMark next)) where
    on_mark : Onward voice s span.start place time r.walk end_mark next time
    on_mark = mark_onward voice s span.start place time r.walk next e

    mark_is : mark_from marks (record { place = place; what = end_mark }) ≡ (marks ≤? place)
    unfolding mark_from is_mark ◌and◌
    mark_is = refl

    row_passes : (marks ≤? place) ≡ false → Rowing voice s span marks before l m at end out outs row next time
    unfolding duration_of
    row_passes h =
        let unmarked = mark_is ∙ h in
        silent next time on_mark.0
        (mark_next before span.start (end - row) time place (items_through marks r.walk.rest) (items_through marks on_mark.0.rest)
        (opened end_mark next time on_mark unmarked))
        (lasts_on end_mark next time on_mark unmarked (add-zero time))

    module _ (h : (marks ≤? place) ≡ true) where
      last_one : items_through marks r.walk.rest ≡ record { place = place; what = end_mark } ∷ []
      last_one = ap (items_through marks) on_mark.1 ∙ through_here (mark_from marks) _ on_mark.0.rest (mark_is ∙ h)

      no_more : next_rows before span.start (end - row) time (items_through marks r.walk.rest) ≡ []
      no_more =
          mark_next before span.start (end - row) time place (items_through marks r.walk.rest) [] last_one
          ∙ none_left before span.start (end - row) time

      mark_lasts : lasting (items_through marks r.walk.rest) ≡ 0
      unfolding lasting sum duration_of
      mark_lasts = ap lasting last_one

      ended_mark : Ended (cut_at voice s marks) span before at (record { row = row; time = time })
      ended_mark = record { row = (nothing_left _ refl no_more).2; time = λ fewer. omega (arith, mark_lasts, r.lasts) }

  -- an item that is taken as plain numbers
  module _ (taken : Taken) (here : place < length s) (agrees : ItemAgrees taken (item_at voice s place)) where
    by_cases : (X : Taken → Type 0)
        → ((duration next : ℕ) (event : Event) → item_at voice s place ≡ Ok (Timed duration event next) → X (taken_as next duration (word_of event)))
        → ((next : ℕ) → item_at voice s place ≡ Ok (EndMark next) → X (taken_mark next 0)) → X taken
    unfolding ItemAgrees
    by_cases X timed-so marked-so = go (item_at voice s place) refl agrees
      where
        go : (j : Checked ReadItem) → item_at voice s place ≡ j → ItemAgrees taken j → X taken
        go (Ok (Timed duration event next)) e a = subst X (sym a) (timed-so duration next event e)
        go (Ok (EndMark next)) e a = subst X (sym a) (marked-so next e)
        go (Err why) e a = absurd (never_refused voice s span.start place time r.walk why.number why.place here e)

    pub took_nears : length s - taken.next < length s - place
    took_nears =
        by_cases (λ taken. length s - taken.next < length s - place)
        (λ duration next event e. timed_nears voice s place (item_at voice s place) refl duration next event e)
        (λ next e. mark_nears voice s place (item_at voice s place) refl next e)

    pub took_not_before : span.start ≤ time + taken.duration
    took_not_before =
        by_cases (λ taken. span.start ≤ time + taken.duration)
        (λ duration next event e. timed_late voice s span.start place time r.walk duration next event e)
        (λ next e. mark_late voice s span.start place time r.walk next e)

    module _ (flag : Bool) (so : flag ≡ (taken.mark and (marks ≤? place))) where
      pub took_silent : taken.word ≡ 0 → flag ≡ false → Rowing voice s span marks before l m at end out outs row taken.next (time + taken.duration)
      unfolding ◌and◌
      took_silent none off =
          by_cases (λ taken. taken.word ≡ 0 → (taken.mark and (marks ≤? place)) ≡ false
          → Rowing voice s span marks before l m at end out outs row taken.next (time + taken.duration))
          (λ duration next event e none off.
          let there = row_in_word duration next event e in
          row_silent duration next event e (word_none event there none))
          (λ next e none off. subst (Rowing voice s span marks before l m at end out outs row next) (sym (add-zero time)) (row_passes next e off))
          none (sym so ∙ off)

      module _ (on : flag ≡ true) where
        at_mark : (next : ℕ) × (item_at voice s place ≡ Ok (EndMark next)) × ((marks ≤? place) ≡ true) × (time + taken.duration ≡ time)
        unfolding ◌and◌
        at_mark =
            by_cases (λ taken. (taken.mark and (marks ≤? place)) ≡ true
            → (next : ℕ) × (item_at voice s place ≡ Ok (EndMark next)) × ((marks ≤? place) ≡ true) × (time + taken.duration ≡ time))
            (λ duration next event e on. absurd (false≢true on))
            (λ next e on. (next, e, on, add-zero time))
            (sym so ∙ on)

        nothing_more : next_rows before span.start (end - row) time (items_through marks r.walk.rest) ≡ []
        nothing_more = no_more at_mark.0 at_mark.1 at_mark.2

        pub steps_marked : out ≡ sets l at (steps_of (span_rows (cut_at voice s marks) span before))
        steps_marked = (nothing_left _ refl nothing_more).0

        pub words_marked : outs ≡ sets m at (words_of (span_rows (cut_at voice s marks) span before))
        words_marked = (nothing_left _ refl nothing_more).1

        pub ended_marked : Ended (cut_at voice s marks) span before at (record { row = row; time = time + taken.duration })
        ended_marked =
            subst (λ (t : ℕ). Ended (cut_at voice s marks) span before at (record { row = row; time = t })) (sym at_mark.3)
            (ended_mark at_mark.0 at_mark.1 at_mark.2)

    module _ (more : row ≡ end → ⊥) (some : taken.word ≡ 0 → ⊥) where
      took_room : (row < length out) × (row < length outs)
      took_room =
          by_cases (λ taken. (taken.word ≡ 0 → ⊥) → (row < length out) × (row < length outs))
          (λ duration next event e some.
          let m = word_some event some in (
            row_room_steps duration next event e more m,
            row_room_words duration next event e more m,
          ))
          (λ next e some. absurd (some refl))
          some

      pub took_room_steps : row < length out
      took_room_steps = took_room.0

      pub took_room_words : row < length outs
      took_room_words = took_room.1

      pub took_sounds : (m₁ m₂ : List ℕ) → m₁ ≡ set out row (before + (time + taken.duration - span.start)) → m₂ ≡ set outs row taken.word
          → Rowing voice s span marks before l m at end m₁ m₂ (row + 1) taken.next (time + taken.duration)
      took_sounds m₁ m₂ =
          by_cases (λ taken. (taken.word ≡ 0 → ⊥) → m₁ ≡ set out row (before + (time + taken.duration - span.start)) → m₂ ≡ set outs row taken.word
          → Rowing voice s span marks before l m at end m₁ m₂ (row + 1) taken.next (time + taken.duration))
          (λ duration next event e some p₁ p₂.
          row_sounds duration next event e more (word_some event some) m₁ m₂ p₁ p₂)
          (λ next e some p₁ p₂. absurd (some refl))
          some

  pub row_bytes_lem : AllBytes s
  row_bytes_lem = r.walk.bytes

pub ruleset row_turns = (row_bytes_lem, took_nears, took_not_before, took_silent, took_room_steps, took_room_words, took_sounds)

pub ruleset row_ends = (steps_full, words_full, ended_full, steps_over, words_over, ended_over, steps_marked, words_marked, ended_marked)

-- where no mark ends it
module _ (voice : Voice) (s : List ℕ) (fine : is_fine (body_of voice s) ≡ true) (span : Span) where
  pub begins_within : Begun (items_of voice s) (length s) span → span.first ≤ length s
  begins_within begun =
      let left = (since span.start 0 (items_of voice s)).items in
      let st = first_stands voice s span.start 0 0 (items_of voice s) (body_stands voice s (items_of voice s) (reads_to_items voice s fine)) in
      omega (arith, begun.first, stands_within voice s (place_of (length s) left) left st)

  module _ (before at : ℕ) (l m : List ℕ) where
    pub steps_uncut : m ≡ sets l at (steps_of (span_rows (items_through (length s) (items_of voice s)) span before)) → m ≡ sets l at (steps_of (span_rows (items_of voice s) span before))
    steps_uncut e = e ∙ ap (λ (rows : List (At Event)). sets l at (steps_of rows)) (uncut_rows voice s fine span before)

    pub words_uncut : m ≡ sets l at (words_of (span_rows (items_through (length s) (items_of voice s)) span before)) → m ≡ sets l at (words_of (span_rows (items_of voice s) span before))
    words_uncut e = e ∙ ap (λ (rows : List (At Event)). sets l at (words_of rows)) (uncut_rows voice s fine span before)

pub ruleset row_begins = (playable_begins, rows_room, begins_within, steps_uncut, words_uncut)
