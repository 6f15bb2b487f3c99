-- FROM A FILTER TO A STRETCH. The paper's rule plays each message whose onset is within a section, up to the end mark that it reaches; onsets
-- never fall, so these are the first so many messages from some item on: the rows of a section's span are what the section sounds.
use Prim.Native.Nat.{ℕ, ◌+◌, ◌<◌, ◌≤◌}
use mathlib.Core.List.{List, [], ◌∷◌, map}
use mathlib.Core.Bool.{Bool, true}
use Rattle.std.specs.Prelude.{Option, None, Some}
use mathlib.Core.Path.{◌≡◌, refl, sym, ◌∙◌, ap}
use lib.ListN.{length, take, length-take, length-map}
use lib.Seq.{take-length, take-take}
use native.Mathlib.Omega.{arith}
use borrow.Author.Tests.{le-leb, lt-leb, le-ltb, lt-ltb, ltb-true, ltb-false}
use Rattle.model.specs.Words.{◌and◌, when◌then◌else◌, ◌<?◌, keep, through, sum, Placed}
use Rattle.model.specs.Item.{Item, Item.timed, Item.end_mark, duration_of, lasting, body_of, is_fine, items_of}
use Rattle.model.specs.Play.{At, Onsets, onsets_after, with_message, messages_of, Section, is_below, is_within, reaches, items_within, sounding}
use Rattle.model.specs.Word.{is_message}
use Rattle.model.specs.declared.Voice.{Voice}
use Rattle.model.specs.declared.Event.{Event}
use Rattle.model.proofs.Tests.{by_test}
use Rattle.items.proofs.Addresses.{reads_to_items}
use Rattle.items.proofs.Standing.{body_stands}
use Rattle.sections.specs.Spans.{Items, messages_after, messages_within, Rest, since, span_of, counted, span_rows}
use Rattle.sections.proofs.Places.{from_since}

abbrev pub within : Section → At (Placed (Item Event)) → Bool
within section at = is_within section at.step

abbrev pub below : Option ℕ → At (Placed (Item Event)) → Bool
below to at = is_below at.step to

-- an item in front of what is kept of those after it
abbrev kept_first : Option ℕ → ℕ → Placed (Item Event) → Onsets Event → Onsets Event
kept_first to onset item rest = when is_below onset to then record { step = onset; event = item } ∷ rest else rest

-- past a section's start only the bound counts
pub kept_after : (section : Section) (past : ℕ) (items : Items) → section.from ≤ past
    → keep (within section) (onsets_after past items) ≡ keep (below section.to) (onsets_after past items)
unfolding keep onsets_after is_within ◌and◌
kept_after section past [] h = refl
kept_after section past (item ∷ items) h =
    let here : section.from ≤ past + duration_of item.what = omega arith in
    simp le-leb
    (ap (λ (rest : Onsets Event). kept_first section.to (past + duration_of item.what) item rest)
    (kept_after section (past + duration_of item.what) items here))

-- what is before a section's start is not within it
pub kept_since : (section : Section) (past : ℕ) (items : Items)
    → keep (within section) (onsets_after past items)
    ≡ keep (below section.to) (onsets_after (since section.from past items).past (since section.from past items).items)
unfolding keep onsets_after is_within since ◌and◌ when◌then◌else◌
kept_since section past [] = refl
kept_since section past (item ∷ items) =
    by_test (past + duration_of item.what <? section.from)
    (λ t.
    let early = ltb-true (past + duration_of item.what) section.from t in
    simp (lt-ltb, lt-leb) (kept_since section (past + duration_of item.what) items))
    (λ t.
    let late = ltb-false (past + duration_of item.what) section.from t in
    simp (le-ltb, le-leb)
    (ap (λ (rest : Onsets Event). kept_first section.to (past + duration_of item.what) item rest)
    (kept_after section (past + duration_of item.what) items late)))

-- past a bound nothing is kept
pub none_kept : (bound past : ℕ) (items : Items) → bound ≤ past → keep (below (Some bound)) (onsets_after past items) ≡ []
unfolding keep onsets_after is_below when◌then◌else◌
none_kept bound past [] h = refl
none_kept bound past (item ∷ items) h =
    let over : bound ≤ past + duration_of item.what = omega arith in
    simp le-ltb (none_kept bound (past + duration_of item.what) items over)

-- before a bound all is
pub below_kept : (bound past : ℕ) (items : Items) → past + lasting items < bound → keep (below (Some bound)) (onsets_after past items) ≡ onsets_after past items
unfolding keep onsets_after is_below lasting sum when◌then◌else◌
below_kept bound past [] h = refl
below_kept bound past (item ∷ items) h =
    let under : past + duration_of item.what < bound = omega arith in
    let later : past + duration_of item.what + lasting items < bound = omega arith in
    simp lt-ltb
    (ap (λ (rest : Onsets Event). record { step = past + duration_of item.what; event = item } ∷ rest)
    (below_kept bound (past + duration_of item.what) items later))

pub all_kept : (l : Onsets Event) → keep (below None) l ≡ l
unfolding keep is_below when◌then◌else◌
all_kept [] = refl
all_kept (at ∷ l) = ap (λ (rest : Onsets Event). at ∷ rest) (all_kept l)

-- an item's message in front of a first piece and of the whole
first_with : (onset : ℕ) (item : Item Event) (piece whole : List (At Event)) → take (length piece) whole ≡ piece
    → take (length (with_message is_message onset item piece)) (with_message is_message onset item whole) ≡ with_message is_message onset item piece
unfolding with_message when◌then◌else◌
first_with onset (timed duration event) piece whole e =
    by_test (is_message event)
    (λ t. simp t (ap (λ (rest : List (At Event)). record { step = onset; event = event } ∷ rest) e))
    (λ t. simp t e)
first_with onset end_mark piece whole e = e

-- the messages below a bound are the first so many
first_kept : (to : Option ℕ) (past : ℕ) (items : Items)
    → take (length (messages_of is_message (keep (below to) (onsets_after past items)))) (messages_after past items)
    ≡ messages_of is_message (keep (below to) (onsets_after past items))
unfolding keep onsets_after messages_of is_below when◌then◌else◌
first_kept None past items = rw (all_kept (onsets_after past items)) (take-length (messages_after past items))
first_kept (Some bound) past [] = refl
first_kept (Some bound) past (item ∷ items) =
    by_test (past + duration_of item.what <? bound)
    (λ t. simp t (first_with (past + duration_of item.what) item.what _ _ (first_kept (Some bound) (past + duration_of item.what) items)))
    (λ t.
    let over = ltb-false (past + duration_of item.what) bound t in
    simp (t, none_kept bound (past + duration_of item.what) items over))

-- what is cut off the end of a list takes messages off the end alone
first_cut : (test cut : At (Placed (Item Event)) → Bool) (l : Onsets Event)
    → take (length (messages_of is_message (keep test (through cut l)))) (messages_of is_message (keep test l)) ≡ messages_of is_message (keep test (through cut l))
unfolding keep through messages_of when◌then◌else◌
first_cut test cut [] = refl
first_cut test cut (at ∷ l) =
    by_test (cut at)
    (λ c. by_test (test at) (λ t. simp (c, t) (first_with at.step at.event.what [] _ refl)) (λ t. simp (c, t)))
    (λ c.
    by_test (test at) (λ t. simp (c, t) (first_with at.step at.event.what _ _ (first_cut test cut l))) (λ t. simp (c, t) (first_cut test cut l)))

pub cut_few : (test cut : At (Placed (Item Event)) → Bool) (l : Onsets Event)
    → length (messages_of is_message (keep test (through cut l))) ≤ length (messages_of is_message (keep test l))
cut_few test cut l =
    let same = ap length (first_cut test cut l) in
    omega (arith, same, length-take (length (messages_of is_message (keep test (through cut l)))) (messages_of is_message (keep test l)))

-- a first piece of a first piece
first_of_first : (piece middle whole : List (At Event)) → take (length piece) middle ≡ piece → take (length middle) whole ≡ middle
    → take (length piece) whole ≡ piece
first_of_first piece middle whole p m =
    let few : length (take (length piece) middle) ≡ length piece = ap length p in
    let less : length piece ≤ length middle = omega (arith, few, length-take (length piece) middle) in
    sym (take-take (length piece) (length middle) whole less) ∙ ap (take (length piece)) m ∙ p

-- the rows of a section's span are what the section sounds
module _ (voice : Voice) (s : List ℕ) (fine : is_fine (body_of voice s) ≡ true) (section : Section) where
  abbrev items : Items
  items = items_of voice s

  abbrev rest : Rest
  rest = since section.from 0 items

  rest_messages : take (length (messages_within section items)) (messages_after rest.past rest.items) ≡ messages_within section items
  unfolding items_within
  rest_messages =
      first_of_first (messages_within section items) (messages_of is_message (keep (within section) (onsets_after 0 items))) (messages_after rest.past rest.items)
      (first_cut (within section) (reaches section) (onsets_after 0 items))
      (rw (kept_since section 0 items) (first_kept section.to rest.past rest.items))

  pub span_sounds : (before : ℕ) → span_rows items (span_of items (length s) section) before ≡ sounding is_message (onsets_after 0 items) before section
  unfolding span_rows span_of sounding
  span_sounds before =
      ap (map (counted before section.from))
      (ap (λ (l : Items). take (length (messages_within section items)) (messages_after rest.past l))
      (from_since voice s section.from 0 0 items (body_stands voice s items (reads_to_items voice s fine)))
      ∙ rest_messages)

  -- and as many as the span says
  pub span_counts : (before : ℕ) → length (span_rows items (span_of items (length s) section) before) ≡ (span_of items (length s) section).messages
  unfolding span_of sounding
  span_counts before = ap length (span_sounds before) ∙ length-map (messages_within section items) (counted before section.from)
