-- A body walked up to an address, or through the first end mark from a place on.
use Rattle.std.specs.Prelude.{ℕ, ◌+◌, ◌-◌, ◌*◌, ◌≤◌, true, false, ◌≡◌, length}
use Rattle.model.specs.Words.{when◌then◌else◌, ◌<?◌, ◌≡?◌, any, keep}
use Rattle.model.specs.Play.{onsets_after, messages_of}
use Rattle.model.specs.Points.{is_address, time_of}
use Rattle.model.specs.Word.{is_message}
use Rattle.model.specs.declared.Reached.{Reached}
use Rattle.model.specs.declared.Span.{Span}
use Rattle.model.specs.declared.Passage.{Passage}
use Rattle.sections.specs.Spans.{Items, messages_after, since, place_of, mark_from, items_through}

-- how many messages have an onset before a time, after a time that is past
abbrev pub messages_to : ℕ → ℕ → Items → ℕ
messages_to time past items = length (messages_of is_message (keep (λ at. at.step <? time) (onsets_after past items)))

-- the items that start before an address
abbrev pub items_to : ℕ → Items → Items
items_to address items = keep (λ item. item.place <? address) items

-- up to an address
unfoldable pub reached_of : Items → ℕ → ℕ → Reached
reached_of items size address =
    record {
      at = address;
      time = time_of items address;
      messages = length (messages_after 0 (items_to address items));
      first = place_of size (since (time_of items address) 0 items).items;
      past = (since (time_of items address) 0 items).past;
      passed = messages_to (time_of items address) 0 items;
    }

-- nothing is walked yet
abbrev pub at_head : Reached
at_head = record { at = 0; time = 0; messages = 0; first = 0; past = 0; passed = 0 }

-- the span from what is reached on, with so many messages, and so long
abbrev pub span_on : Reached → ℕ → ℕ → Span
span_on reached messages lasts =
    record { first = reached.first; past = reached.past; start = reached.time; messages = messages; lasts = lasts }

-- the span from what is reached on, up to so many messages and a time
unfoldable pub span_to : Reached → ℕ → ℕ → Span
span_to reached messages time = span_on reached (messages - reached.passed) (time - reached.time)

-- the passage from what is reached on: up to where a walk went, if that is before the time of the stop, and else up to the stop
unfoldable pub passage_to : Reached → Reached → Reached → Passage
passage_to from went to =
    when went.time <? to.time then record { span = span_to from went.messages went.time; stops = true } else
    record { span = span_to from to.passed to.time; stops = false }

-- how many messages an item is, by its word
unfoldable pub heard_by : ℕ → ℕ
heard_by word = when word ≡? 0 then 0 else 1

-- One item further: a duration, so many messages, and the place after it. An item that takes time is the first that is not before its
-- own onset.
unfoldable pub passed_by : Reached → ℕ → ℕ → ℕ → Reached
passed_by reached duration heard next =
    when duration ≡? 0 then record {
      at = next;
      time = reached.time;
      messages = reached.messages + heard;
      first = reached.first;
      past = reached.past;
      passed = reached.passed;
    } else record {
      at = next;
      time = reached.time + duration;
      messages = reached.messages + heard;
      first = reached.at;
      past = reached.time;
      passed = reached.messages;
    }

-- What a walk goes on from: it has reached an address, and its time leaves room to count on.
pub record Walked (items : Items) (size : ℕ) (reached : Reached) : Type 0 where
  pub is : reached ≡ reached_of items size reached.at
  pub address : is_address items size reached.at ≡ true
  pub small : reached.time ≤ 4294967296 * reached.at

-- Where a walk to an address ends that goes no further than through the first end mark from a place on.
pub record Arrived (items : Items) (size marks address : ℕ) (reached : Reached) : Type 0 where
  pub walked : Walked items size reached
  pub near : reached.at ≤ address
  pub behind : items_to reached.at items ≡ items_through marks (items_to address items)
  pub whole : any (mark_from marks) (items_to address items) ≡ false → reached.at ≡ address
