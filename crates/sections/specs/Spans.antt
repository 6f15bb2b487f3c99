-- A section as a stretch of a body: onsets never fall, so what is not before a section is all that stands from some item on, and what it
-- plays is the first so many messages of that.
use Rattle.std.specs.Prelude.{ℕ, ◌+◌, ◌-◌, ◌*◌, ◌<◌, ◌≤◌, Bool, List, [], ◌∷◌, map, ◌≡◌, length, take, None}
use Rattle.model.specs.Words.{when◌then◌else◌, ◌and◌, ◌<?◌, ◌≤?◌, keep, through, Placed}
use Rattle.model.specs.Duration.{longest_duration}
use Rattle.model.specs.Item.{Item, duration_of, is_mark, lasting}
use Rattle.model.specs.Play.{At, onsets_after, messages_of, Section, items_within, lasts_in, stops_in}
use Rattle.model.specs.Order.{between, stream_section}
use Rattle.model.specs.Word.{is_message, word_of}
use Rattle.model.specs.declared.Event.{Event}
use Rattle.model.specs.declared.Span.{Span}
use Rattle.model.specs.declared.Passage.{Passage}
use Rattle.sections.specs.declared.Written.{Written}

abbrev pub Items : Type 0
Items = List (Placed (Item Event))

-- the messages of a list of items at their onsets
abbrev pub messages_after : ℕ → Items → List (At Event)
messages_after past items = messages_of is_message (onsets_after past items)

-- the messages that a section plays, at their onsets
abbrev pub messages_within : Section → Items → List (At Event)
messages_within section items = messages_of is_message (items_within section (onsets_after 0 items))

-- Items, and the time that is past before them.
pub record Rest : Type 0 where
  pub past : ℕ
  pub items : Items

-- the items whose onset is not before a time
unfoldable pub since : ℕ → ℕ → Items → Rest
since time past [] = record { past = past; items = [] }
since time past (item ∷ items) =
    when past + duration_of item.what <? time then since time (past + duration_of item.what) items else
    record { past = past; items = item ∷ items }

-- the place of the first item, or the body's size where there is none
unfoldable pub place_of : ℕ → Items → ℕ
place_of size [] = size
place_of size (item ∷ items) = item.place

-- a section as it is walked
unfoldable pub span_of : Items → ℕ → Section → Span
span_of items size section =
    record {
      first = place_of size (since section.from 0 items).items;
      past = (since section.from 0 items).past;
      start = section.from;
      messages = length (messages_within section items);
      lasts = lasts_in (onsets_after 0 items) section;
    }

unfoldable pub passage_of : Items → ℕ → Section → Passage
passage_of items size section = record { span = span_of items size section; stops = stops_in (onsets_after 0 items) section }

-- the sections of a track: between two addresses, and from an address on with no bound
abbrev pub passage_between : Items → ℕ → ℕ → ℕ → Passage
passage_between items size start stop = passage_of items size (between items start stop)

abbrev pub span_from : Items → ℕ → ℕ → Span
span_from items size start = span_of items size (stream_section items start None)

-- an end mark that stands from a place on
unfoldable pub mark_from : ℕ → Placed (Item Event) → Bool
mark_from place item = is_mark item.what and (place ≤? item.place)

-- the items up to and with the first such mark
abbrev pub items_through : ℕ → Items → Items
items_through place items = through (mark_from place) items

-- the items that stand from a place on
unfoldable pub items_from : ℕ → Items → Items
items_from place items = keep (λ item. place ≤? item.place) items

-- a message at its onset less a section's start, where so much has been played before
abbrev pub counted : ℕ → ℕ → At Event → At Event
counted before start at = record { step = before + (at.step - start); event = at.event }

-- the rows of a span
unfoldable pub span_rows : Items → Span → ℕ → List (At Event)
span_rows items span before =
    map (counted before span.start) (take span.messages (messages_after span.past (items_from span.first items)))

-- the two columns of rows, as a table has them
unfoldable pub steps_of : List (At Event) → List ℕ
steps_of rows = map (λ row. row.step) rows

unfoldable pub words_of : List (At Event) → List ℕ
words_of rows = map (λ row. word_of row.event) rows

-- steps that never fall, from a low one up to a high one
abbrev pub Rising : ℕ → ℕ → List (At Event) → Type 0
Rising low high [] = low ≤ high
Rising low high (row ∷ rows) = (low ≤ row.step) × Rising row.step high rows

-- the steps of a span never fall, and none is past where it ends
abbrev pub SpanRises : Items → Span → Type 0
SpanRises items span = (before : ℕ) → Rising before (before + span.lasts) (span_rows items span before)

-- What a span of a body of a size can come to: each message takes a byte, and each byte at most the longest duration.
pub record Small (size : ℕ) (span : Span) : Type 0 where
  pub few : span.messages ≤ size
  pub short : span.lasts ≤ longest_duration * size

-- A span that begins with the first item that is not before its start.
pub record Begun (items : Items) (size : ℕ) (span : Span) : Type 0 where
  pub first : span.first ≡ place_of size (since span.start 0 items).items
  pub past : span.past ≡ (since span.start 0 items).past

-- Where the rows of a span end that stand from an index on: after as many as there are; and where those are fewer than the span says, when all
-- items are past.
pub record Ended (items : Items) (span : Span) (before at : ℕ) (written : Written) : Type 0 where
  pub row : written.row ≡ at + length (span_rows items span before)
  pub time : length (span_rows items span before) < span.messages → written.time ≡ lasting items

-- A span that some section of a body gives.
pub record Playable (items : Items) (size : ℕ) (span : Span) : Type 0 where
  pub section : Section
  pub is : span ≡ span_of items size section
