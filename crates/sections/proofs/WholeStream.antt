-- Ticket 2: a stream without points plays every message before the first end mark of its body, at its onset, and ends at that mark's onset; where
-- there is no mark it plays every message, and lasts as long as its items.
use Prim.Native.Nat.{ℕ, ◌+◌, ◌-◌}
use mathlib.Core.List.{List, [], ◌∷◌, map, append-nil}
use Rattle.std.specs.Prelude.{None}
use mathlib.Core.Path.{◌≡◌, refl, ◌∙◌, ap, ap₂}
use native.Mathlib.Omega.{arith}
use borrow.Author.Tests.{le-ltb, le-leb}
use Rattle.model.specs.Words.{when◌then◌else◌, ◌and◌, ◌<?◌, keep, through, sum, Placed}
use Rattle.model.specs.Item.{Item, is_mark, lasting}
use Rattle.model.specs.Play.{At, Tune, onsets_after, Section, sounding, stops_in, sections_played, played_from, all_played, tune_of}
use Rattle.model.specs.Points.{time_of}
use Rattle.model.specs.Word.{is_message}
use Rattle.model.specs.Order.{stream_section}
use Rattle.model.specs.declared.Event.{Event}
use Rattle.sections.specs.Spans.{Items, messages_after, messages_within, mark_from, items_through, counted}
use Rattle.model.proofs.Tests.{by_test}
use Rattle.sections.proofs.Marks.{lasts_through}
use Rattle.sections.proofs.Steps.{all_within}

-- what a body plays as a stream without points
abbrev pub streamed : Items → Tune Event
streamed items = tune_of is_message items (stream_section items 0 None ∷ [])

-- the items up to and with the first end mark; all of them where there is none
abbrev pub to_mark : {E : Type 0} → List (Placed (Item E)) → List (Placed (Item E))
to_mark items = through (λ item. is_mark item.what) items

-- every place is from the head on
to_mark_lem : (items : Items) → items_through 0 items ≡ to_mark items
unfolding through mark_from ◌and◌ when◌then◌else◌
to_mark_lem [] = refl
to_mark_lem (item ∷ items) =
    by_test (is_mark item.what)
    (λ t. simp (t, le-leb 0 item.place (omega arith)))
    (λ t. simp t (ap (λ (rest : Items). item ∷ rest) (to_mark_lem items)))

none_before : (items : Items) → keep (λ item. item.place <? 0) items ≡ []
unfolding keep when◌then◌else◌
none_before [] = refl
none_before (item ∷ items) = rw (le-ltb item.place 0 (omega arith)) (none_before items)

starts_at_none : (items : Items) → time_of items 0 ≡ 0
unfolding time_of lasting sum
starts_at_none items = ap lasting (none_before items)

as_they_are : (start : ℕ) (messages : List (At Event)) → start ≡ 0 → map (counted 0 start) messages ≡ messages
as_they_are start [] h = refl
as_they_are start (at ∷ messages) h =
    let step : 0 + (at.step - start) ≡ at.step = omega arith in
    ap₂ (λ (n : ℕ) (later : List (At Event)). record { step = n; event = at.event } ∷ later) step (as_they_are start messages h)

-- an order of one section plays that section, whatever it reaches
pub played_alone : (items : Items) (section : Section) → tune_of is_message items (section ∷ []) ≡ all_played is_message (onsets_after 0 items) (section ∷ [])
unfolding tune_of sections_played through when◌then◌else◌
played_alone items section =
    ap (all_played is_message (onsets_after 0 items)) (by_test (stops_in (onsets_after 0 items) section) (λ t. simp t) (λ t. simp t))

pub stream_messages : (items : Items) → (streamed items).messages ≡ messages_after 0 (to_mark items)
unfolding all_played played_from sounding stream_section
stream_messages items =
    ap (λ (tune : Tune Event). tune.messages) (played_alone items (stream_section items 0 None))
    ∙ append-nil (map (counted 0 (time_of items 0)) (messages_within (stream_section items 0 None) items))
    ∙ ap (map (counted 0 (time_of items 0))) (all_within (stream_section items 0 None) items (starts_at_none items) refl)
    ∙ as_they_are (time_of items 0) (messages_after 0 (items_through 0 items)) (starts_at_none items)
    ∙ ap (messages_after 0) (to_mark_lem items)

pub stream_end : (items : Items) → (streamed items).end ≡ lasting (to_mark items)
unfolding all_played stream_section sum
stream_end items =
    ap (λ (tune : Tune Event). tune.end) (played_alone items (stream_section items 0 None))
    ∙ omega (arith, starts_at_none items, lasts_through (stream_section items 0 None) refl items refl)
    ∙ ap lasting (to_mark_lem items)
