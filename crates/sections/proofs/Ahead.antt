-- THE ITEMS THAT ARE AHEAD of a walk through a span: the rows that they make, that a span begins with all of its own ahead, and what is read
-- where they stand. Each loop over a span's messages has this in its invariant.
use Prim.Native.Nat.{ℕ, zero, suc, ◌+◌, ◌-◌, ◌*◌, ◌<◌, ◌≤◌}
use mathlib.Core.Bool.{true, false}
use mathlib.Core.List.{List, [], ◌∷◌, map}
use mathlib.Core.Path.{◌≡◌, refl, sym, ◌∙◌, ap, subst}
use lib.ListN.{length, take}
use native.Mathlib.Nat.{add-zero, zero-add, add_assoc}
use native.Mathlib.Omega.{arith}
use borrow.Author.Tests.{ltb-false}
use Rattle.model.specs.Words.{when◌then◌else◌, ◌<?◌, sum, Step.met, refused}
use Rattle.model.specs.Bytes.{◌!◌}
use Rattle.model.specs.Item.{Item, Item.timed, Item.end_mark, duration_of, lasting, item_at, item_step, body_of, is_fine, items_of}
use Rattle.model.specs.Play.{At, onsets_after, with_message, messages_of}
use Rattle.model.specs.Word.{is_message}
use Rattle.model.specs.declared.Voice.{Voice}
use Rattle.model.specs.declared.Event.{Event}
use Rattle.std.specs.Prelude.{Ok}
use Rattle.model.specs.declared.ReadItem.TheVariants.{Timed, EndMark}
use Rattle.model.specs.declared.Span.{Span}
use Rattle.model.proofs.Tests.{by_test}
use Rattle.model.proofs.Walks.{stand_first, stand_never_stuck, stand_over}
use Rattle.items.proofs.Ahead.{item_goes}
use Rattle.items.proofs.Addresses.{stands_ahead, timed_met, mark_met, refused_stuck, reads_to_items}
use Rattle.items.proofs.Standing.{body_stands}
use Rattle.sections.specs.Spans.{Items, messages_after, Rest, since, place_of, items_from, items_through, span_of, counted, span_rows, Begun, Playable}
use Rattle.sections.proofs.Cutting.{from_through, since_through}
use Rattle.sections.proofs.Places.{Standing, stands_within, first_stands, from_since, item_short, past_small}

-- the rows of the next so many messages, after a time that is past
abbrev pub next_rows : ℕ → ℕ → ℕ → ℕ → Items → List (At Event)
next_rows before start count time items = map (counted before start) (take count (messages_after time items))

pub none_left : (before start count time : ℕ) → next_rows before start count time [] ≡ []
unfolding onsets_after messages_of
none_left before start zero time = refl
none_left before start (suc count) time = refl

module _ (before start count time place : ℕ) (all items : Items) where
  pub message_next : (fewer duration : ℕ) (event : Event) → all ≡ record { place = place; what = timed duration event } ∷ items → count ≡ suc fewer
      → is_message event ≡ true
      → next_rows before start count time all
      ≡ record { step = before + (time + duration - start); event = event } ∷ next_rows before start fewer (time + duration) items
  unfolding onsets_after messages_of with_message duration_of when◌then◌else◌
  message_next fewer duration event first some h = rw (first, some) (simp h)

  pub nop_next : (duration : ℕ) (event : Event) → all ≡ record { place = place; what = timed duration event } ∷ items → is_message event ≡ false
      → next_rows before start count time all ≡ next_rows before start count (time + duration) items
  unfolding onsets_after messages_of with_message duration_of when◌then◌else◌
  nop_next duration event first h = rw first (simp h)

  pub mark_next : all ≡ record { place = place; what = end_mark } ∷ items → next_rows before start count time all ≡ next_rows before start count time items
  unfolding onsets_after messages_of with_message duration_of
  mark_next first = ap (next_rows before start count time) first ∙ ap (λ (t : ℕ). next_rows before start count t items) (add-zero time)

-- the first item's onset is not before a start
abbrev NotBefore : ℕ → ℕ → Items → Type 0
NotBefore start time [] = Unit
NotBefore start time (item ∷ items) = start ≤ time + duration_of item.what

since_not_before : (start past : ℕ) (items : Items) → NotBefore start (since start past items).past (since start past items).items
unfolding since when◌then◌else◌
since_not_before start past [] = tt
since_not_before start past (item ∷ items) =
    by_test (past + duration_of item.what <? start)
    (λ t. simp t (since_not_before start (past + duration_of item.what) items))
    (λ t. simp t (ltb-false (past + duration_of item.what) start t))

later_not_before : (start time : ℕ) (items : Items) → start ≤ time → NotBefore start time items
later_not_before start time [] h = tt
later_not_before start time (item ∷ items) h = omega arith

-- what is past and what the items not before a time last make up what all last
since_lasts : (time past : ℕ) (items : Items) → (since time past items).past + lasting (since time past items).items ≡ past + lasting items
unfolding since lasting sum when◌then◌else◌
since_lasts time past [] = refl
since_lasts time past (item ∷ items) =
    by_test (past + duration_of item.what <? time)
    (λ t. simp t (since_lasts time (past + duration_of item.what) items ∙ add_assoc past (duration_of item.what) (lasting items)))
    (λ t. simp t)

-- The items from a place on, after a time that is past; the first of them is not before the span's start.
pub record Ahead (voice : Voice) (s : List ℕ) (start place time : ℕ) : Type 0 where
  pub bytes : (k : ℕ) → s ! k < 256
  pub small : length s ≤ 65536
  pub rest : Items
  pub stands : Standing voice s place rest
  pub short : time ≤ 16511 * place
  pub late : NotBefore start time rest

-- a span that some section gives begins where that section does
pub playable_begins : (items : Items) (size : ℕ) (span : Span) → Playable items size span → Begun items size span
unfolding span_of
playable_begins items size span playable = subst (Begun items size) (sym playable.is) (record { first = refl; past = refl })

module _ (voice : Voice) (s : List ℕ) (bytes : (k : ℕ) → s ! k < 256) (small : length s ≤ 65536) (fine : is_fine (body_of voice s) ≡ true) (span : Span)
    (begun : Begun (items_of voice s) (length s) span) where
  abbrev all : Items
  all = items_of voice s

  abbrev left : Items
  left = (since span.start 0 all).items

  stand : Standing voice s 0 all
  stand = body_stands voice s all (reads_to_items voice s fine)

  -- all of a span is ahead
  pub span_begins : (a : Ahead voice s span.start span.first span.past)
      × ((before : ℕ) → next_rows before span.start span.messages span.past a.rest ≡ span_rows (items_of voice s) span before)
      × (a.rest ≡ (since span.start 0 (items_of voice s)).items)
  unfolding span_rows
  span_begins =
      let from : items_from span.first all ≡ left = ap (λ (n : ℕ). items_from n all) begun.first ∙ from_since voice s span.start 0 0 all stand in (
        record {
          bytes = bytes;
          small = small;
          rest = left;
          stands = subst (λ (n : ℕ). Standing voice s n left) (sym begun.first) (first_stands voice s span.start 0 0 all stand);
          short = rw (begun.first, begun.past) (past_small voice s bytes small span.start 0 0 all stand (omega arith));
          late = subst (λ (n : ℕ). NotBefore span.start n left) (sym begun.past) (since_not_before span.start 0 all);
        },
        λ before. rw from refl,
        refl,
      )

  -- and so it is of what an end mark leaves of it
  pub span_cut : (marks : ℕ) → span.first ≤ marks
      → (items_through marks left ≡ items_from span.first (items_through marks (items_of voice s)))
      × (span.past + lasting (items_through marks left) ≡ lasting (items_through marks (items_of voice s)))
  span_cut marks early =
      let from : items_from span.first all ≡ left = ap (λ (n : ℕ). items_from n all) begun.first ∙ from_since voice s span.start 0 0 all stand in
      let there : place_of (length s) left ≤ marks = subst (λ (n : ℕ). n ≤ marks) begun.first early in
      let cut = since_through voice s marks span.start 0 0 all stand there in (
        ap (items_through marks) (sym from) ∙ from_through span.first marks all early,
        ap (λ (n : ℕ). n + lasting (items_through marks left)) begun.past
            ∙ ap (λ (x : Rest). x.past + lasting x.items) (sym cut)
            ∙ since_lasts span.start 0 (items_through marks all)
            ∙ zero-add (lasting (items_through marks all)),
      )

module _ (voice : Voice) (s : List ℕ) (start place time : ℕ) (a : Ahead voice s start place time) where
  pub in_time : time ≤ 1082081407
  in_time = omega (arith, a.short, a.small, stands_within voice s place a.rest a.stands)

  pub in_place : place ≤ 65536
  in_place = omega (arith, a.small, stands_within voice s place a.rest a.stands)

  -- nothing is ahead at the end
  pub nothing_ahead : length s ≤ place → a.rest ≡ []
  nothing_ahead past = stand_over (length s) (item_step voice s) place a.rest a.stands (item_goes voice s place) past

  pub none_ahead : (before count : ℕ) → length s ≤ place → next_rows before start count time a.rest ≡ []
  none_ahead before count past = ap (next_rows before start count time) (nothing_ahead past) ∙ none_left before start count time

  -- so much is ahead after one item
  abbrev pub Onward : Item Event → ℕ → ℕ → Type 0
  Onward what next later = (b : Ahead voice s start next later) × (a.rest ≡ record { place = place; what = what } ∷ b.rest)

  -- what is met where they stand is the first of them
  module _ (what : Item Event) (next : ℕ) (e : item_step voice s place ≡ met (record { place = place; what = what }) next) where
    nears : (place < next) × (next ≤ length s)
    nears = stands_ahead voice s place _ next e

    opened : (items : Items) × (a.rest ≡ record { place = place; what = what } ∷ items) × Standing voice s next items
    opened = stand_first (length s) (item_step voice s) place a.rest a.stands (omega (arith, nears)) _ next e

    not_before : start ≤ time + duration_of what
    not_before = subst (NotBefore start time) opened.1 a.late

    onward : (later : ℕ) → time + duration_of what ≡ later → Onward what next later
    onward later on =
        let items = opened.0 in (
          record {
            bytes = a.bytes;
            small = a.small;
            rest = items;
            stands = opened.2;
            short = omega (arith, a.short, nears, item_short voice s a.bytes a.small place _ next e);
            late = later_not_before start later items (omega (arith, not_before));
          },
          opened.1,
        )

  module _ (duration next : ℕ) (event : Event) (e : item_at voice s place ≡ Ok (Timed duration event next)) where
    is_timed : item_step voice s place ≡ met (record { place = place; what = timed duration event }) next
    is_timed = timed_met voice s place (item_at voice s place) refl duration next event e

    pub timed_late : start ≤ time + duration
    unfolding duration_of
    timed_late = not_before (timed duration event) next is_timed

    pub timed_onward : Onward (timed duration event) next (time + duration)
    unfolding duration_of
    timed_onward = onward (timed duration event) next is_timed (time + duration) refl

  module _ (next : ℕ) (e : item_at voice s place ≡ Ok (EndMark next)) where
    is_mark : item_step voice s place ≡ met (record { place = place; what = end_mark }) next
    is_mark = mark_met voice s place (item_at voice s place) refl next e

    pub mark_late : start ≤ time + 0
    unfolding duration_of
    mark_late = not_before end_mark next is_mark

    pub mark_onward : Onward end_mark next time
    unfolding duration_of
    mark_onward = onward end_mark next is_mark time (add-zero time)

  -- nothing that stands in a body that reads is refused
  pub never_refused : (number there : ℕ) → place < length s → item_at voice s place ≡ refused number there → ⊥
  never_refused number there here e =
      stand_never_stuck (length s) (item_step voice s) place a.rest a.stands here number there
      (refused_stuck voice s place (item_at voice s place) refl number there e)
