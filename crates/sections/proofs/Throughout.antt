-- What holds of every event of a body holds of every message that is played of it, whatever the sections; so all that is played has numbers
-- that its word has the bits for.
use Prim.Native.Nat.{ℕ, ◌+◌, ◌<◌, ◌≤◌}
use mathlib.Core.Bool.{Bool, true}
use mathlib.Core.List.{List, [], ◌∷◌, ◌++◌, map}
use mathlib.Core.Path.{◌≡◌, subst}
use lib.ListN.{length}
use native.Mathlib.Omega.{arith}
use Rattle.model.specs.Words.{when◌then◌else◌, keep, through, Placed, Step.met, Checked}
use Rattle.std.specs.Prelude.{Ok, Err}
use Rattle.model.specs.Bytes.{◌!◌}
use Rattle.model.specs.Item.{Item, Item.timed, Item.end_mark, item_met, item_step, item_at, duration_of, body_of}
use Rattle.model.specs.Play.{At, onsets_after, with_message, messages_of, Section, is_within, reaches, items_within, sounding, lasts_in, sections_played, played_from, all_played, tune_of}
use Rattle.model.specs.Word.{is_message, InWord}
use Rattle.model.specs.declared.Voice.{Voice}
use Rattle.model.specs.declared.Event.{Event}
use Rattle.model.specs.declared.ReadItem.{ReadItem}
use Rattle.model.specs.declared.ReadItem.TheVariants.{Timed, EndMark}
use Rattle.model.proofs.Tests.{by_test, if_all}
use Rattle.items.proofs.Standing.{body_stands}
use Rattle.sections.specs.Spans.{Items, messages_within, counted}
use Rattle.sections.proofs.InWords.{ItemInWord, item_in_word}
use Rattle.sections.proofs.Places.{Standing}

module _ (P : Event → Type 0) where
  abbrev pub OfItem : Item Event → Type 0
  OfItem (timed duration event) = P event
  OfItem end_mark = Unit

  abbrev pub OfItems : Items → Type 0
  OfItems [] = Unit
  OfItems (item ∷ items) = OfItem item.what × OfItems items

  abbrev pub OfMessages : List (At Event) → Type 0
  OfMessages [] = Unit
  OfMessages (at ∷ messages) = (is_message at.event ≡ true) × P at.event × OfMessages messages

  of_append : (front back : List (At Event)) → OfMessages front → OfMessages back → OfMessages (front ++ back)
  of_append [] back s t = t
  of_append (at ∷ front) back s t = (s.0, s.1, of_append front back s.2 t)

  of_counted : (before start : ℕ) (messages : List (At Event)) → OfMessages messages → OfMessages (map (counted before start) messages)
  of_counted before start [] s = tt
  of_counted before start (at ∷ messages) s = (s.0, s.1, of_counted before start messages s.2)

  of_with : (onset : ℕ) (item : Item Event) (messages : List (At Event)) → OfItem item → OfMessages messages
      → OfMessages (with_message is_message onset item messages)
  unfolding with_message when◌then◌else◌
  of_with onset (timed duration event) messages p s = if_all OfMessages (is_message event) _ _ (λ t. (t, p, s)) (λ t. s)
  of_with onset end_mark messages p s = s

  of_kept : (test cut : At (Placed (Item Event)) → Bool) (past : ℕ) (items : Items) → OfItems items
      → OfMessages (messages_of is_message (keep test (through cut (onsets_after past items))))
  unfolding keep through onsets_after messages_of when◌then◌else◌
  of_kept test cut past [] all = tt
  of_kept test cut past (item ∷ items) all =
      let onset = past + duration_of item.what in
      let at : At (Placed (Item Event)) = record { step = onset; event = item } in
      let later = of_kept test cut onset items all.1 in
      by_test (cut at)
      (λ c. by_test (test at) (λ t. simp (c, t) (of_with onset item.what [] all.0 tt)) (λ t. simp (c, t) tt))
      (λ c. by_test (test at) (λ t. simp (c, t) (of_with onset item.what _ all.0 later)) (λ t. simp (c, t) later))

  of_played : (items : Items) → OfItems items → (before : ℕ) (sections : List Section)
      → OfMessages (played_from is_message (onsets_after 0 items) before sections)
  unfolding played_from sounding items_within
  of_played items all before [] = tt
  of_played items all before (section ∷ sections) =
      let later = before + lasts_in (onsets_after 0 items) section in
      let heard = of_kept (λ at. is_within section at.step) (reaches section) 0 items all in
      let here = of_counted before section.from (messages_within section items) heard in
      of_append (sounding is_message (onsets_after 0 items) before section) (played_from is_message (onsets_after 0 items) later sections) here
      (of_played items all later sections)

  pub of_tune : (items : Items) → OfItems items → (sections : List Section) → OfMessages (tune_of is_message items sections).messages
  unfolding tune_of all_played
  of_tune items all sections = of_played items all 0 (sections_played (onsets_after 0 items) sections)

-- WORDS have the bits for the events of a body of bytes
module _ (voice : Voice) (s : List ℕ) (bytes : (k : ℕ) → s ! k < 256) (small : length s ≤ 65536) where
  met_in_word : (at : ℕ) (j : Checked ReadItem) (item : Placed (Item Event)) (next : ℕ) → ItemInWord j → item_met at j ≡ met item next → OfItem InWord item.what
  unfolding item_met
  met_in_word at (Ok (Timed duration event n)) item next h e =
      let same : ◌≡◌ {A = Placed (Item Event)} (record { place = at; what = timed duration event }) item = cc in
      subst (λ (i : Placed (Item Event)). OfItem InWord i.what) same h.1
  met_in_word at (Ok (EndMark n)) item next h e =
      let same : ◌≡◌ {A = Placed (Item Event)} (record { place = at; what = end_mark }) item = cc in
      subst (λ (i : Placed (Item Event)). OfItem InWord i.what) same tt
  met_in_word at (Err why) item next h e = let z : ◌≡◌ {A = ℕ} 0 1 = cc in absurd (omega arith)

  standing_in_word : (at : ℕ) (items : Items) → Standing voice s at items → OfItems InWord items
  unfolding item_step
  standing_in_word at [] st = tt
  standing_in_word at (item ∷ items) st =
      (met_in_word at (item_at voice s at) item st.0 (item_in_word s bytes small voice at) st.1, standing_in_word st.0 items st.2)

  pub body_in_word : (items : Items) → body_of voice s ≡ Ok items → OfItems InWord items
  body_in_word items e = standing_in_word 0 items (body_stands voice s items e)
