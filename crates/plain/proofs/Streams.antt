-- What a body plays as a stream without points, told by the contents of its events, is told by the contents of its items, each where it stands.
use Prim.Native.Nat.{ℕ, ◌+◌}
use mathlib.Core.List.{List, [], ◌∷◌, map}
use mathlib.Core.Path.{◌≡◌, refl, ◌∙◌, ap, ap₂}
use native.Mathlib.Omega.{arith}
use Rattle.model.specs.Words.{when◌then◌else◌, through, sum, Placed}
use Rattle.model.specs.Item.{Item, Item.timed, Item.end_mark, duration_of, is_mark, lasting}
use Rattle.model.specs.Play.{At, onsets_after, with_message, messages_of, retold}
use Rattle.model.specs.Word.{is_message}
use Rattle.model.specs.Content.{Content, content_of, content_in, is_said}
use Rattle.model.specs.declared.Event.{Event}
use Rattle.model.specs.declared.Event.TheVariants.{Nop, Note, Wave, Control, Exclusive}
use Rattle.model.proofs.Tests.{by_test}
use Rattle.sections.specs.Spans.{Items, messages_after}
use Rattle.sections.proofs.WholeStream.{streamed, to_mark, stream_messages, stream_end}

-- an event is a message where its content is one
pub said_so : (body : List ℕ) (event : Event) → is_said (content_of body event) ≡ is_message event
unfolding content_of is_said is_message
said_so body Nop = refl
said_so body (Note channel key gate) = refl
said_so body (Wave channel number gate) = refl
said_so body (Control kind channel value) = refl
said_so body (Exclusive place size) = refl

-- a message of a body, told by its content
abbrev pub told : List ℕ → At Event → At Content
told body at = record { step = at.step; event = content_of body at.event }

-- its items, each where it stands, told by their contents
abbrev pub told_items : List ℕ → Items → List (Placed (Item Content))
told_items body items = map (λ item. record { place = item.place; what = content_in body item.what }) items

module _ (body : List ℕ) where
  with_told : (onset : ℕ) (item : Item Event) (messages : List (At Event))
      → map (told body) (with_message is_message onset item messages) ≡ with_message is_said onset (content_in body item) (map (told body) messages)
  unfolding with_message content_in when◌then◌else◌
  with_told onset (timed duration event) messages = rw (said_so body event) (by_test (is_message event) (λ t. simp t) (λ t. simp t))
  with_told onset end_mark messages = refl

  duration_told : (item : Item Event) → duration_of (content_in body item) ≡ duration_of item
  unfolding content_in duration_of
  duration_told (timed duration event) = refl
  duration_told end_mark = refl

  mark_told : (item : Item Event) → is_mark (content_in body item) ≡ is_mark item
  unfolding content_in is_mark
  mark_told (timed duration event) = refl
  mark_told end_mark = refl

  messages_told : (past : ℕ) (items : Items) → map (told body) (messages_after past items) ≡ messages_of is_said (onsets_after past (told_items body items))
  unfolding onsets_after messages_of
  messages_told past [] = refl
  messages_told past (item ∷ items) =
      rw (duration_told item.what)
      (with_told (past + duration_of item.what) item.what (messages_after (past + duration_of item.what) items)
      ∙ ap (with_message is_said (past + duration_of item.what) (content_in body item.what)) (messages_told (past + duration_of item.what) items))

  lasting_told : (items : Items) → lasting items ≡ lasting (told_items body items)
  unfolding lasting sum
  lasting_told [] = refl
  lasting_told (item ∷ items) = omega (arith, duration_told item.what, lasting_told items)

  up_to_mark_told : (items : Items) → told_items body (to_mark items) ≡ to_mark (told_items body items)
  unfolding through when◌then◌else◌
  up_to_mark_told [] = refl
  up_to_mark_told (item ∷ items) =
      rw (mark_told item.what)
      (by_test (is_mark item.what) (λ t. simp t)
      (λ t. simp t (ap (λ (rest : List (Placed (Item Content))). record { place = item.place; what = content_in body item.what } ∷ rest) (up_to_mark_told items))))

  pub stream_told : (items : Items)
      → retold (content_of body) (streamed items)
      ≡ record { messages = messages_of is_said (onsets_after 0 (to_mark (told_items body items))); end = lasting (to_mark (told_items body items)) }
  unfolding retold
  stream_told items =
      ap₂ (λ (messages : List (At Content)) (end : ℕ). record { messages = messages; end = end })
      (ap (map (told body)) (stream_messages items)
      ∙ messages_told 0 (to_mark items)
      ∙ ap (λ (l : List (Placed (Item Content))). messages_of is_said (onsets_after 0 l)) (up_to_mark_told items))
      (stream_end items ∙ lasting_told (to_mark items) ∙ ap lasting (up_to_mark_told items))
