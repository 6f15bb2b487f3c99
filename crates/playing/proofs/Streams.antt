-- A stream: what its seek body says, and that its points are addresses.
use Prim.Native.Nat.{ℕ, ◌≤◌}
use mathlib.Core.Path.{◌≡◌, refl, sym, ◌∙◌, ap}
use mathlib.Core.Bool.{Bool, true, false, not, false≢true}
use mathlib.Core.List.{List}
use Rattle.std.specs.Prelude.{Option, None, Some}
use lib.ListN.{length}
use native.Mathlib.Omega.{arith}
use borrow.Author.Tests.{ltb-false, eq-eqb, ne_eqb, not-true}
use Rattle.model.specs.Words.{◌and◌, ◌<?◌, is_some, ◌otherwise◌, first_said, Placed, passed, when◌then◌else◌}
use Rattle.model.specs.Item.{Item, is_fine, found, items_of}
use Rattle.model.specs.Seek.{Entry, Entry.start, Entry.stop, Entry.phrase, Entry.order, seek_of, start_in, stop_in, start_point, stop_point, order_list, order_place, points_said}
use Rattle.model.specs.Points.{is_address, point_holds, points_hold}
use Rattle.model.specs.Order.{stream_section}
use Rattle.model.specs.Track.{point_width, points_of}
use Rattle.model.specs.declared.Voice.{Voice}
use Rattle.model.specs.declared.Event.{Event}
use Rattle.model.specs.declared.Points.{Points}
use Rattle.model.specs.declared.Span.{Span}
use Rattle.model.specs.declared.Passage.{Passage}
use Rattle.model.proofs.Tests.{and_left, and_right}
use Rattle.items.proofs.Addresses.{head_there}
use Rattle.sections.specs.Spans.{span_of, passage_of, passage_between, span_from}
use Rattle.playing.proofs.Said.{said_by, kept}
use Rattle.playing.specs.Performing.{entries_said, Formed, Ready}

-- WHAT A SEEK BODY SAYS

module _ (phrases : Bool) (seek : List ℕ) where
  pub points_none : length seek ≡ 0
      → record { starts = false; start = 0; stops = false; stop = 0; ordered = false; order = 0; letters = 0 } ≡ points_said (entries_said phrases seek)
  unfolding entries_said when◌then◌else◌ points_said start_point stop_point order_list order_place first_said is_some ◌otherwise◌
  points_none h = simp eq-eqb

  module _ (some_bytes : length seek ≡ 0 → ⊥) where
    pub points_formed : Formed phrases seek → is_fine (seek_of (point_width phrases) seek) ≡ true
    points_formed formed = formed (omega arith)

    pub points_some : (points : Points) → points ≡ points_said (found (seek_of (point_width phrases) seek)) → points ≡ points_said (entries_said phrases seek)
    unfolding entries_said when◌then◌else◌
    points_some points e = e ∙ ap points_said (sym (simp ne_eqb))

pub ruleset saying = (points_none, points_formed, points_some)

-- THE POINTS OF A STREAM

start_is : (entry : Entry) (value : ℕ) → start_in entry ≡ Some value → entry ≡ start value
unfolding start_in
start_is (start v) value e = let same : v ≡ value = cc in ap start same
start_is (stop v) value e = let z : ◌≡◌ {A = ℕ} 0 1 = cc in absurd (omega arith)
start_is (phrase letter from to) value e = let z : ◌≡◌ {A = ℕ} 0 1 = cc in absurd (omega arith)
start_is (order letters) value e = let z : ◌≡◌ {A = ℕ} 0 1 = cc in absurd (omega arith)

stop_is : (entry : Entry) (value : ℕ) → stop_in entry ≡ Some value → entry ≡ stop value
unfolding stop_in
stop_is (start v) value e = let z : ◌≡◌ {A = ℕ} 0 1 = cc in absurd (omega arith)
stop_is (stop v) value e = let same : v ≡ value = cc in ap stop same
stop_is (phrase letter from to) value e = let z : ◌≡◌ {A = ℕ} 0 1 = cc in absurd (omega arith)
stop_is (order letters) value e = let z : ◌≡◌ {A = ℕ} 0 1 = cc in absurd (omega arith)

module _ (address point : ℕ → Bool) (entries : List (Placed Entry)) (all : points_hold address point entries ≡ passed) where
  pub start_holds : (value : ℕ) → start_point entries ≡ Some value → point value ≡ true
  unfolding points_hold start_point point_holds
  start_holds value e =
      let s = said_by _ _ entries value all e in
      let k = kept _ s.0.place s.2 in
      rw (start_is s.0.what value s.1) at k

  pub stop_holds : (value : ℕ) → stop_point entries ≡ Some value → (point value ≡ true) × ((start_point entries otherwise 0) ≤ value)
  unfolding points_hold stop_point point_holds
  stop_holds value e =
      let s = said_by _ _ entries value all e in
      let k = kept _ s.0.place s.2 in
      let h : (point value and not (value <? (start_point entries otherwise 0))) ≡ true = rw (stop_is s.0.what value s.1) at k in
      (and_left _ _ h, ltb-false value _ (not-true _ (and_right (point value) _ h)))

-- a point that is said, or its default
pub said_or : (P : ℕ → Type 0) (o : Option ℕ) → ((value : ℕ) → o ≡ Some value → P value) → P 0 → P (o otherwise 0)
unfolding ◌otherwise◌
said_or P None h z = z
said_or P (Some value) h z = h value refl

pub some_said : (o : Option ℕ) → is_some o ≡ true → (value : ℕ) × (o ≡ Some value)
unfolding is_some
some_said None h = absurd (false≢true h)
some_said (Some value) h = (value, refl)

pub none_said : (o : Option ℕ) → is_some o ≡ false → o ≡ None
unfolding is_some
none_said None h = refl
none_said (Some value) h = absurd (false≢true (sym h))

module _ (voice : Voice) (body seek : List ℕ) (ready : Ready voice false body seek) (points : Points) (said : points ≡ points_said (entries_said false seek)) where
  abbrev items : List (Placed (Item Event))
  items = items_of voice body

  abbrev entries : List (Placed Entry)
  entries = entries_said false seek

  holds : points_hold (is_address items (length body)) (is_address items (length body)) entries ≡ passed
  unfolding points_of
  holds = ready.holds

  started : points.start ≡ (start_point entries otherwise 0)
  unfolding points_said
  started = ap (λ (p : Points). p.start) said

  pub stream_from_lem : is_address (items_of voice body) (length body) points.start ≡ true
  stream_from_lem =
      rw started
      (said_or (λ (value : ℕ). is_address items (length body) value ≡ true) (start_point entries) (start_holds _ _ entries holds) (head_there voice body ready.reads))

  module _ (stops : points.stops ≡ true) where
    stopped : (value : ℕ) × (stop_point entries ≡ Some value)
    unfolding points_said
    stopped = some_said (stop_point entries) (sym (ap (λ (p : Points). p.stops) said) ∙ stops)

    stop_said : points.stop ≡ stopped.0
    unfolding points_said ◌otherwise◌
    stop_said = ap (λ (p : Points). p.stop) said ∙ ap (λ (o : Option ℕ). o otherwise 0) stopped.1

    pub stream_to : is_address (items_of voice body) (length body) points.stop ≡ true
    stream_to = rw stop_said (stop_holds _ _ entries holds stopped.0 stopped.1).0

    pub stream_rises : points.start ≤ points.stop
    stream_rises = let h = (stop_holds _ _ entries holds stopped.0 stopped.1).1 in omega (arith, started, stop_said)

    pub stream_between : (r : Passage) → r ≡ passage_between (items_of voice body) (length body) points.start points.stop
        → r.span ≡ span_of (items_of voice body) (length body)
        (stream_section (items_of voice body) (start_point (entries_said false seek) otherwise 0) (stop_point (entries_said false seek)))
    unfolding passage_of stream_section
    stream_between r e = rw (stopped.1, sym started, sym stop_said) (ap (λ (x : Passage). x.span) e)

  pub stream_open : (r : Span) → points.stops ≡ false → r ≡ span_from (items_of voice body) (length body) points.start
      → r ≡ span_of (items_of voice body) (length body)
      (stream_section (items_of voice body) (start_point (entries_said false seek) otherwise 0) (stop_point (entries_said false seek)))
  unfolding points_said
  stream_open r stops e =
      let none_there = none_said (stop_point entries) (sym (ap (λ (p : Points). p.stops) said) ∙ stops) in
      rw (none_there, sym started) e

pub ruleset streaming = (stream_from_lem, stream_to, stream_rises, stream_between, stream_open)
