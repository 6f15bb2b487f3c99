-- Demand 3, "plays the same messages, in the same order, at the same steps, with the same end", over any kind of event and any format that
-- has a duration over 0 and an event that is no message: wherever the items of a plain form stand, up to the first end mark they have the messages
-- that it was made of, at their steps, and they last to its end.
use Prim.Native.Nat.{ℕ, zero, suc, ◌+◌, ◌-◌, ◌*◌, ◌<◌, ◌≤◌}
use mathlib.Core.Bool.{Bool, true, false}
use mathlib.Core.List.{List, [], ◌∷◌, ◌++◌, map, map-map, append_assoc}
use mathlib.Core.Path.{◌≡◌, refl, sym, ◌∙◌, ap}
use lib.ListN.{replicate}
use native.Mathlib.Omega.{arith}
use borrow.Author.Tests.{eqb-true}
use Rattle.model.specs.Words.{when◌then◌else◌, ◌≡?◌, through, sum, Placed}
use Rattle.model.specs.Item.{Item, Item.timed, Item.end_mark, duration_of, is_mark, lasting}
use Rattle.model.specs.Play.{At, onsets_after, with_message, messages_of}
use Rattle.model.specs.Plain.{Format, times, left, waits, rest, plain_after}
use Rattle.model.proofs.Picking.{through_map}
use Rattle.model.proofs.Tests.{by_test}
use Rattle.sections.proofs.WholeStream.{to_mark}
use Rattle.plain.proofs.Gaps.{gap_is}
use Rattle.plain.proofs.PlainItems.{mark_cuts_nothing, plain_ends}

-- steps that never fall, from a first one up to an end
abbrev pub Rises : {E : Type 0} → ℕ → ℕ → List (At E) → Type 0
Rises first end [] = first ≤ end
Rises first end (at ∷ messages) = (first ≤ at.step) × Rises at.step end messages

-- all events are messages
abbrev pub AllSaid : {E : Type 0} → (E → Bool) → List (At E) → Type 0
AllSaid is_message [] = Unit
AllSaid is_message (at ∷ messages) = (is_message at.event ≡ true) × AllSaid is_message messages

-- items without their places
abbrev pub unplaced : {E : Type 0} → List (Placed (Item E)) → List (Item E)
unplaced items = map (λ item. item.what) items

-- what items last together
abbrev durations : {E : Type 0} → List (Item E) → ℕ
durations items = sum (map duration_of items)

-- that is the same wherever they stand
lasting_durations : {E : Type 0} (items : List (Placed (Item E))) → lasting items ≡ durations (unplaced items)
unfolding lasting
lasting_durations items = ap sum (sym (map-map duration_of (λ item. item.what) items))

-- The mark of a plain form is its last item, so it cuts nothing off.
plain_up_to_mark : {E : Type 0} (format : Format E) (past : ℕ) (messages : List (At E)) (end : ℕ) (items : List (Placed (Item E)))
    → unplaced items ≡ plain_after format past messages end → unplaced (to_mark items) ≡ plain_after format past messages end
plain_up_to_mark {E} format past messages end items e =
    sym (through_map is_mark (λ item. item.what) items)
    ∙ ap (through is_mark) e
    ∙ mark_cuts_nothing (plain_after format past messages end) (plain_ends E format past messages end)

module _ (E : Type 0) (format : Format E) (some : 0 < format.longest) where
  abbrev wait : Item E
  wait = timed format.longest format.nop

  waits_last : (count : ℕ) (items : List (Item E)) → durations (replicate count wait ++ items) ≡ count * format.longest + durations items
  unfolding sum duration_of
  waits_last zero items = omega arith
  waits_last (suc count) items = omega (arith, waits_last count items)

  rest_lasts : (gap : ℕ) → durations (rest format gap ++ (end_mark ∷ [])) ≡ gap
  unfolding rest waits when◌then◌else◌ sum duration_of
  rest_lasts gap =
      let count = times format.longest gap in
      let over = left format.longest gap in
      let all = gap_is format.longest gap some in
      by_test (over ≡? 0)
      (λ t. let none = eqb-true over 0 t in simp t (omega (arith, waits_last count (end_mark ∷ []))))
      (λ t.
      simp t
      (ap durations (append_assoc (replicate count wait) (timed over format.nop ∷ []) (end_mark ∷ []))
      ∙ waits_last count (timed over format.nop ∷ end_mark ∷ []) ∙ omega arith))

  rises_on : (past : ℕ) (messages : List (At E)) (end : ℕ) → Rises past end messages → past ≤ end
  rises_on past [] end rises = rises
  rises_on past (at ∷ messages) end rises = omega (arith, rises_on at.step messages end rises.1)

  plain_durations : (past : ℕ) (messages : List (At E)) (end : ℕ) → Rises past end messages
      → durations (plain_after format past messages end) ≡ end - past
  unfolding plain_after waits sum duration_of
  plain_durations past [] end rises = rest_lasts (end - past)
  plain_durations past (at ∷ messages) end rises =
      let gap = at.step - past in
      let later = plain_after format at.step messages end in
      waits_last (times format.longest gap) (timed (left format.longest gap) at.event ∷ later)
      ∙ omega (arith, gap_is format.longest gap some, plain_durations at.step messages end rises.1, rises_on at.step messages end rises.1)

  -- THE SAME END
  pub plain_lasts : (past : ℕ) (messages : List (At E)) (end : ℕ) → Rises past end messages
      → (items : List (Placed (Item E))) → unplaced items ≡ plain_after format past messages end → lasting (to_mark items) ≡ end - past
  plain_lasts past messages end rises items e =
      lasting_durations (to_mark items)
      ∙ ap durations (plain_up_to_mark format past messages end items e)
      ∙ plain_durations past messages end rises

  module _ (is_message : E → Bool) (silent : is_message format.nop ≡ false) where
    -- the messages of a list of items at their onsets, after a time that is past
    abbrev heard : ℕ → List (Item E) → List (At E)
    heard past [] = []
    heard past (item ∷ items) = with_message is_message (past + duration_of item) item (heard (past + duration_of item) items)

    -- they are the same wherever the items stand
    messages_heard : (past : ℕ) (items : List (Placed (Item E))) → messages_of is_message (onsets_after past items) ≡ heard past (unplaced items)
    unfolding onsets_after messages_of
    messages_heard past [] = refl
    messages_heard past (item ∷ items) =
        ap (with_message is_message (past + duration_of item.what) item.what) (messages_heard (past + duration_of item.what) items)

    -- a NOP takes its time
    nop_heard : (past duration : ℕ) (items : List (Item E)) → heard past (timed duration format.nop ∷ items) ≡ heard (past + duration) items
    unfolding with_message duration_of when◌then◌else◌
    nop_heard past duration items = rw silent

    waits_heard : (count past : ℕ) (items : List (Item E)) → heard past (replicate count wait ++ items) ≡ heard (past + count * format.longest) items
    waits_heard zero past items = ap (λ (n : ℕ). heard n items) (omega arith)
    waits_heard (suc count) past items =
        let on : past + format.longest + count * format.longest ≡ past + suc count * format.longest = omega arith in
        nop_heard past format.longest (replicate count wait ++ items) ∙ waits_heard count (past + format.longest) items ∙ ap (λ (n : ℕ). heard n items) on

    mark_heard : (past : ℕ) → heard past (end_mark ∷ []) ≡ []
    unfolding with_message
    mark_heard past = refl

    -- the rest before the end
    rest_heard : (past gap : ℕ) → heard past (rest format gap ++ (end_mark ∷ [])) ≡ []
    unfolding rest waits when◌then◌else◌
    rest_heard past gap =
        let count = times format.longest gap in
        let over = left format.longest gap in
        by_test (over ≡? 0) (λ t. simp t (waits_heard count past (end_mark ∷ []) ∙ mark_heard (past + count * format.longest)))
        (λ t.
        simp t
        (ap (heard past) (append_assoc (replicate count wait) (timed over format.nop ∷ []) (end_mark ∷ []))
        ∙ waits_heard count past (timed over format.nop ∷ end_mark ∷ [])
        ∙ nop_heard (past + count * format.longest) over (end_mark ∷ [])
        ∙ mark_heard (past + count * format.longest + over)))

    -- a message at its step
    message_heard : (past : ℕ) (at : At E) (items : List (Item E)) → past ≤ at.step → is_message at.event ≡ true
        → heard past (waits format (at.step - past) ++ (timed (left format.longest (at.step - past)) at.event ∷ items))
        ≡ at ∷ heard at.step items
    unfolding waits with_message duration_of when◌then◌else◌
    message_heard past at items h m =
        let gap = at.step - past in
        let all = gap_is format.longest gap some in
        let on : past + times format.longest gap * format.longest + left format.longest gap ≡ at.step = omega arith in
        waits_heard (times format.longest gap) past (timed (left format.longest gap) at.event ∷ items) ∙ rw (m, on)

    plain_heard : (past : ℕ) (messages : List (At E)) (end : ℕ) → Rises past end messages → AllSaid is_message messages
        → heard past (plain_after format past messages end) ≡ messages
    unfolding plain_after
    plain_heard past [] end rises said = rest_heard past (end - past)
    plain_heard past (at ∷ messages) end rises said =
        message_heard past at (plain_after format at.step messages end) rises.0 said.0
        ∙ ap (λ (later : List (At E)). at ∷ later) (plain_heard at.step messages end rises.1 said.1)

    -- THE SAME MESSAGES, in the same order, at the same steps
    pub plain_plays : (past : ℕ) (messages : List (At E)) (end : ℕ) → Rises past end messages → AllSaid is_message messages
        → (items : List (Placed (Item E))) → unplaced items ≡ plain_after format past messages end
        → messages_of is_message (onsets_after past (to_mark items)) ≡ messages
    plain_plays past messages end rises said items e =
        messages_heard past (to_mark items)
        ∙ ap (heard past) (plain_up_to_mark format past messages end items e)
        ∙ plain_heard past messages end rises said
