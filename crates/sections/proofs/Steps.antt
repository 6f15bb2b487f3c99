-- THE STEPS OF A SECTION never fall, begin where it begins and end where it ends; a section with no bounds plays every message up to an end mark.
use Prim.Native.Nat.{ℕ, ◌+◌, ◌-◌, ◌≤◌}
use mathlib.Core.Bool.{Bool, true}
use mathlib.Core.List.{List, [], ◌∷◌, map}
use Rattle.std.specs.Prelude.{Option, None}
use mathlib.Core.Path.{◌≡◌, ◌∙◌, ap}
use native.Mathlib.Omega.{arith}
use borrow.Author.Tests.{ltb-true}
use Rattle.model.specs.Words.{when◌then◌else◌, ◌<?◌, ◌≤?◌, first, keep, through, Placed}
use Rattle.model.specs.Item.{Item, Item.timed, Item.end_mark, duration_of, lasting}
use Rattle.model.specs.Play.{At, onsets_after, with_message, messages_of, Section, is_below, is_within, reaches, items_within, sounding, lasts_to, lasts_in}
use Rattle.model.specs.Points.{time_of}
use Rattle.model.specs.Word.{is_message}
use Rattle.model.specs.Order.{between, stream_section}
use Rattle.model.specs.declared.Event.{Event}
use Rattle.model.proofs.Tests.{by_test, and_right}
use Rattle.sections.specs.Spans.{Items, messages_after, messages_within, items_through, counted, Rising}
use Rattle.sections.proofs.Marks.{open_through, Ended, through_ended}
use Rattle.sections.proofs.Stretches.{within, kept_after, all_kept}

pub rising_from : (low lower high : ℕ) (rows : List (At Event)) → lower ≤ low → Rising low high rows → Rising lower high rows
rising_from low lower high [] h rises = omega arith
rising_from low lower high (row ∷ rows) h rises = (omega arith, rises.1)

module _ (before lasts : ℕ) (section : Section) where
  -- a message's step, by its onset
  abbrev step_at : ℕ → ℕ
  step_at onset = before + (onset - section.from)

  abbrev end : ℕ
  end = before + lasts

  with_rises : (low onset : ℕ) (what : Item Event) (l : List (At Event)) → low ≤ step_at onset
      → Rising (step_at onset) end (map (counted before section.from) l)
      → Rising low end (map (counted before section.from) (with_message is_message onset what l))
  unfolding with_message when◌then◌else◌
  with_rises low onset (timed duration event) l h rises =
      by_test (is_message event) (λ t. simp t (h, rises)) (λ t. simp t (rising_from (step_at onset) low end (map (counted before section.from) l) h rises))
  with_rises low onset end_mark l h rises = rising_from (step_at onset) low end (map (counted before section.from) l) h rises

  -- what is within the section, up to where it is cut off, and not past its end
  kept_rise : (cut : At (Placed (Item Event)) → Bool) (low past : ℕ) (items : Items) → low ≤ end → low ≤ step_at past
      → Ended section lasts (through cut (onsets_after past items))
      → Rising low end (map (counted before section.from) (messages_of is_message (keep (within section) (through cut (onsets_after past items)))))
  unfolding keep through onsets_after messages_of when◌then◌else◌
  kept_rise cut low past [] h k ended = h
  kept_rise cut low past (item ∷ items) h k ended =
      let onset = past + duration_of item.what in
      by_test (cut (record { step = onset; event = item }))
      (λ c.
      let here : (is_within section onset ≡ true → onset - section.from ≤ lasts) × Unit = simp c at ended in
      by_test (is_within section onset)
      (λ t. let high = here.0 t in simp (c, t) (with_rises low onset item.what [] (omega arith) (omega arith)))
      (λ t. simp (c, t) h))
      (λ c.
      let all : (is_within section onset ≡ true → onset - section.from ≤ lasts) × Ended section lasts (through cut (onsets_after onset items)) = simp c at ended in
      by_test (is_within section onset)
      (λ t.
      let high = all.0 t in
      let rest = kept_rise cut (step_at onset) onset items (omega arith) (omega arith) all.1 in
      simp (c, t)
      (with_rises low onset item.what (messages_of is_message (keep (within section) (through cut (onsets_after onset items)))) (omega arith) rest))
      (λ t. simp (c, t) (kept_rise cut low onset items h (omega arith) all.1)))

-- the steps of a section, where what is within it is not past its end, if no mark cuts it off
rises : (before : ℕ) (section : Section) (items : Items)
    → ((onset : ℕ) → onset ≤ 0 + lasting items → is_within section onset ≡ true → onset - section.from ≤ section.lasts)
    → Rising before (before + lasts_in (onsets_after 0 items) section) (sounding is_message (onsets_after 0 items) before section)
unfolding sounding items_within lasts_in
rises before section items whole =
    kept_rise before (lasts_to section (first (reaches section) (onsets_after 0 items))) section (reaches section) before 0 items (omega arith) (omega arith)
    (through_ended section 0 items whole)

-- a section between two addresses
pub between_rises : (before start stop : ℕ) (items : Items)
    → Rising before (before + lasts_in (onsets_after 0 items) (between items start stop)) (sounding is_message (onsets_after 0 items) before (between items start stop))
unfolding between is_within is_below
between_rises before start stop items =
    rises before (between items start stop) items
    (λ onset h w.
    let under = ltb-true onset (time_of items stop) (and_right (time_of items start ≤? onset) (onset <? time_of items stop) w) in
    omega arith)

-- a stream without a stop point
pub stream_rises : (before start : ℕ) (items : Items)
    → Rising before (before + lasts_in (onsets_after 0 items) (stream_section items start None)) (sounding is_message (onsets_after 0 items) before (stream_section items start None))
unfolding stream_section
stream_rises before start items = rises before (stream_section items start None) items (λ onset h w. omega arith)

-- without bounds every message plays, up to the first mark from the start address on
pub all_within : (section : Section) (items : Items) → section.from ≡ 0 → section.to ≡ None
    → messages_within section items ≡ messages_after 0 (items_through section.address items)
unfolding items_within
all_within section items start stop =
    let heard = items_through section.address items in
    ap (messages_of is_message)
    (ap (keep (within section)) (open_through section stop 0 items)
    ∙ kept_after section 0 heard (omega arith)
    ∙ ap (λ (to : Option ℕ). keep (λ at. is_below at.step to) (onsets_after 0 heard)) stop
    ∙ all_kept (onsets_after 0 heard))
