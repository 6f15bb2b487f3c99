-- What is read at a place ends within the body and past the place, an event by two bytes or more, an item or an end mark by three or more; and a
-- fault has a number from 20 to 23, and a place within the body or at its end.
use Prim.Native.Nat.{ℕ, ◌+◌, ◌<◌, ◌≤◌}
use mathlib.Core.List.{List}
use lib.ListN.{length}
use native.Mathlib.Omega.{arith}
use borrow.Author.Tests.{leb-false}
use Rattle.model.specs.Duration.{duration_at, not_zero, gate_at}
use Rattle.model.specs.Event.{gated, sound_at, long_at, short_at, formed, control_at, closed_at, exclusive_at, system_at, event_at}
use Rattle.model.specs.Item.{with_event, with_duration, item_at, item_met, item_step, setup_message_at, message_met, setup_step}
use Rattle.model.specs.declared.Voice.{Voice}
use Rattle.std.specs.Prelude.{Ok, Err}
use Rattle.model.specs.Words.{Checked}
use Rattle.model.specs.declared.Read.{Read}
use Rattle.model.specs.declared.Event.{Event}
use Rattle.model.specs.declared.ReadItem.{ReadItem}
use Rattle.model.specs.declared.ReadItem.TheVariants.{Timed, EndMark}
use Rattle.model.proofs.Tests.{if_all}
use Rattle.model.proofs.Walks.{GoesOn}
use Rattle.items.proofs.Matches.{end_mark_within}

abbrev pub FaultWithin : ℕ → ℕ → ℕ → Type 0
FaultWithin end number place = (20 ≤ number) × (number ≤ 23) × (place ≤ end)

abbrev pub DurationAhead : ℕ → ℕ → Checked (Read ℕ) → Type 0
DurationAhead at end (Ok read) = (at < read.next) × (read.next ≤ end)
DurationAhead at end (Err why) = FaultWithin end why.number why.place

abbrev pub EventAhead : ℕ → ℕ → Checked (Read Event) → Type 0
EventAhead at end (Ok read) = (at + 2 ≤ read.next) × (read.next ≤ end)
EventAhead at end (Err why) = FaultWithin end why.number why.place

abbrev pub ItemAhead : ℕ → ℕ → Checked ReadItem → Type 0
ItemAhead at end (Ok (Timed length event next)) = (at + 3 ≤ next) × (next ≤ end)
ItemAhead at end (Ok (EndMark next)) = (at + 3 ≤ next) × (next ≤ end)
ItemAhead at end (Err why) = FaultWithin end why.number why.place

pub duration_ahead : (s : List ℕ) (at : ℕ) → DurationAhead at (length s) (duration_at s at)
unfolding duration_at
duration_ahead s at =
    if_all (DurationAhead at (length s)) _ _ _ (λ h. omega arith)
    (λ h. if_all (DurationAhead at (length s)) _ _ _ (λ i. omega (arith, leb-false))
    (λ i. if_all (DurationAhead at (length s)) _ _ _ (λ j. omega arith)
    (λ j. if_all (DurationAhead at (length s)) _ _ _ (λ k. omega (arith, leb-false)) (λ k. omega (arith, leb-false)))))

not_zero_ahead : (at end : ℕ) (d : Checked (Read ℕ)) → DurationAhead at end d → DurationAhead at end (not_zero at d)
unfolding not_zero
not_zero_ahead at end (Ok read) h = if_all (DurationAhead at end) _ _ _ (λ i. omega arith) (λ i. h)
not_zero_ahead at end (Err why) h = h

gated_ahead : (voice : Voice) (byte at end : ℕ) (d : Checked (Read ℕ)) → DurationAhead (at + 1) end d → EventAhead at end (gated voice byte d)
unfolding gated
gated_ahead voice byte at end (Ok read) h = omega arith
gated_ahead voice byte at end (Err why) h = h

module _ (voice : Voice) (s : List ℕ) (at : ℕ) where
  sound_ahead : at < length s → EventAhead at (length s) (sound_at voice s at)
  unfolding sound_at gate_at
  sound_ahead room =
      if_all (EventAhead at (length s)) _ _ _
      (λ h. gated_ahead voice _ at (length s) _ (not_zero_ahead (at + 1) (length s) _ (duration_ahead s (at + 1))))
      (λ h. omega arith)

  long_ahead : (channel kind : ℕ) → at + 1 < length s → EventAhead at (length s) (long_at voice s at channel kind)
  unfolding long_at
  long_ahead channel kind room =
      if_all (EventAhead at (length s)) _ _ _ (λ h. omega arith)
      (λ h. if_all (EventAhead at (length s)) _ _ _ (λ i. omega arith)
      (λ i. if_all (EventAhead at (length s)) _ _ _ (λ j. omega arith)
      (λ j. if_all (EventAhead at (length s)) _ _ _ (λ k. omega (arith, leb-false)) (λ k. omega (arith, leb-false)))))

  short_ahead : (channel kind value : ℕ) → at + 1 < length s → EventAhead at (length s) (short_at voice at channel kind value)
  unfolding short_at
  short_ahead channel kind value room =
      if_all (EventAhead at (length s)) _ _ _ (λ h. omega arith)
      (λ h. if_all (EventAhead at (length s)) _ _ _ (λ i. omega arith)
      (λ i. if_all (EventAhead at (length s)) _ _ _ (λ j. omega arith) (λ j. omega arith)))

  control_ahead : EventAhead at (length s) (control_at voice s at)
  unfolding control_at formed
  control_ahead =
      if_all (EventAhead at (length s)) _ _ _ (λ h. omega arith)
      (λ h.
      let room : at + 1 < length s = leb-false (length s) (at + 1) h in
      if_all (EventAhead at (length s)) _ _ _ (λ i. long_ahead _ _ room) (λ i. short_ahead _ _ _ room))

closed_ahead : (s : List ℕ) (at size : ℕ) → at + 2 < length s → EventAhead at (length s) (closed_at s at size)
unfolding closed_at
closed_ahead s at size room =
    if_all (EventAhead at (length s)) _ _ _ (λ h. omega arith)
    (λ h. if_all (EventAhead at (length s)) _ _ _ (λ i. omega arith)
    (λ i. if_all (EventAhead at (length s)) _ _ _ (λ j. omega (arith, leb-false)) (λ j. omega (arith, leb-false))))

exclusive_ahead : (s : List ℕ) (at : ℕ) → EventAhead at (length s) (exclusive_at s at)
unfolding exclusive_at
exclusive_ahead s at =
    if_all (EventAhead at (length s)) _ _ _ (λ h. omega arith) (λ h. closed_ahead s at _ (leb-false (length s) (at + 2) h))

system_ahead : (s : List ℕ) (at : ℕ) → EventAhead at (length s) (system_at s at)
unfolding system_at
system_ahead s at =
    if_all (EventAhead at (length s)) _ _ _ (λ h. omega arith)
    (λ h. if_all (EventAhead at (length s)) _ _ _ (λ i. omega (arith, leb-false))
    (λ i. if_all (EventAhead at (length s)) _ _ _ (λ j. exclusive_ahead s at) (λ j. omega (arith, leb-false))))

pub event_ahead : (voice : Voice) (s : List ℕ) (at : ℕ) → EventAhead at (length s) (event_at voice s at)
unfolding event_at
event_ahead voice s at =
    if_all (EventAhead at (length s)) _ _ _ (λ h. omega arith)
    (λ h. if_all (EventAhead at (length s)) _ _ _ (λ i. control_ahead voice s at)
    (λ i. if_all (EventAhead at (length s)) _ _ _ (λ j. system_ahead s at) (λ j. sound_ahead voice s at (leb-false (length s) at h))))

with_event_ahead : (at middle end value : ℕ) (e : Checked (Read Event)) → at < middle → EventAhead middle end e → ItemAhead at end (with_event value e)
unfolding with_event
with_event_ahead at middle end value (Ok read) h g = omega arith
with_event_ahead at middle end value (Err why) h g = g

with_duration_ahead : (voice : Voice) (s : List ℕ) (at : ℕ) (d : Checked (Read ℕ)) → DurationAhead at (length s) d
    → ItemAhead at (length s) (with_duration voice s d)
unfolding with_duration
with_duration_ahead voice s at (Ok read) h =
    with_event_ahead at read.next (length s) read.what (event_at voice s read.next) h.0 (event_ahead voice s read.next)
with_duration_ahead voice s at (Err why) h = h

pub item_ahead : (voice : Voice) (s : List ℕ) (at : ℕ) → ItemAhead at (length s) (item_at voice s at)
unfolding item_at
item_ahead voice s at =
    if_all (ItemAhead at (length s)) _ _ _ (λ h. omega (arith, end_mark_within s at h))
    (λ h. with_duration_ahead voice s at (duration_at s at) (duration_ahead s at))

-- so the walks over items and over setup messages go on

item_met_goes : (at end : ℕ) (item : Checked ReadItem) → ItemAhead at end item → GoesOn end at (item_met at item)
unfolding item_met
item_met_goes at end (Ok (Timed duration event next)) a = omega arith
item_met_goes at end (Ok (EndMark next)) a = omega arith
item_met_goes at end (Err why) a = tt

pub item_goes : (voice : Voice) (s : List ℕ) (at : ℕ) → GoesOn (length s) at (item_step voice s at)
unfolding item_step
item_goes voice s at = item_met_goes at (length s) (item_at voice s at) (item_ahead voice s at)

abbrev MessageGoes : ℕ → ℕ → Checked (Read Event) → Type 0
MessageGoes end at message = GoesOn end at (message_met at message)

message_met_goes : (at end : ℕ) (message : Checked (Read Event)) → EventAhead at end message → MessageGoes end at message
unfolding message_met
message_met_goes at end (Ok read) a = omega arith
message_met_goes at end (Err why) a = tt

pub message_goes : (s : List ℕ) (at : ℕ) → GoesOn (length s) at (setup_step s at)
unfolding setup_step setup_message_at message_met
message_goes s at =
    if_all (MessageGoes (length s) at) _ _ _ (λ h. tt)
    (λ h. if_all (MessageGoes (length s) at) _ _ _ (λ i. message_met_goes at (length s) (exclusive_at s at) (exclusive_ahead s at)) (λ i. tt))
