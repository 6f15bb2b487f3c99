-- THE PHRASE OF A LETTER in a track that keeps the rules: both its ends are addresses, in their order, so that its span can be walked.
use Prim.Native.Nat.{ℕ, ◌<◌, ◌≤◌}
use mathlib.Core.Bool.{Bool, true, false≢true}
use mathlib.Core.List.{List}
use Rattle.std.specs.Prelude.{Option, None, Some}
use mathlib.Core.Path.{◌≡◌, sym, ◌∙◌, ap, subst}
use lib.ListN.{length}
use native.Mathlib.Omega.{arith}
use borrow.Author.Tests.{eqb-false, ltb-false, not-true}
use Rattle.model.specs.Words.{◌<?◌, ◌≡?◌, is_some, ◌otherwise◌, first_said, Placed, passed}
use Rattle.model.specs.Item.{is_fine, found, items_of}
use Rattle.model.specs.Seek.{Entry, Entry.start, Entry.stop, Entry.phrase, Entry.order, seek_of, Addresses, start_point, phrase_in, phrase_of, found_phrase}
use Rattle.model.specs.Points.{is_address, is_span, is_position, point_holds, points_hold}
use Rattle.model.specs.Order.{phrase_section}
use Rattle.model.specs.Track.{point_width, points_of}
use Rattle.model.specs.declared.Voice.{Voice}
use Rattle.model.specs.declared.Passage.{Passage}
use Rattle.model.specs.declared.PhraseAddresses.{PhraseAddresses}
use Rattle.sections.specs.Spans.{Items, passage_of, passage_between}
use Rattle.model.proofs.Tests.{by_test, if_true, if_false, and_left, and_right}
use Rattle.playing.proofs.Said.{said_by, both_pass, kept}
use Rattle.playing.specs.Performing.{Ready, entries_said, letter_section, letter_passage}

-- an entry that says a letter's phrase and keeps the rules is a span
entry_spans : (address point : ℕ → Bool) (started letter : ℕ) (entry : Entry) (addresses : Addresses) → phrase_in letter entry ≡ Some addresses
    → point_holds address point started entry ≡ true → is_span address addresses.from addresses.to ≡ true
unfolding phrase_in point_holds
entry_spans address point started letter (start value) addresses e h = let z : ◌≡◌ {A = ℕ} 0 1 = cc in absurd (omega arith)
entry_spans address point started letter (stop value) addresses e h = let z : ◌≡◌ {A = ℕ} 0 1 = cc in absurd (omega arith)
entry_spans address point started letter (phrase name from to) addresses e h =
    by_test (name ≡? letter)
    (λ t.
    let q : Some (record { from = from; to = to }) ≡ Some addresses = sym (if_true _ _ _ t) ∙ e in
    let same : ◌≡◌ {A = Addresses} (record { from = from; to = to }) addresses = cc in
    subst (λ (x : Addresses). is_span address x.from x.to ≡ true) same h)
    (λ t.
    let q = sym (if_false _ _ _ t) ∙ e in
    let z : ◌≡◌ {A = ℕ} 0 1 = cc in
    absurd (omega arith))
entry_spans address point started letter (order letters) addresses e h = let z : ◌≡◌ {A = ℕ} 0 1 = cc in absurd (omega arith)

phrase_spans : (items : Items) (size letter : ℕ) (entries : List (Placed Entry)) (addresses : Addresses) → points_of true items size entries ≡ passed
    → phrase_of letter entries ≡ Some addresses → is_span (is_address items size) addresses.from addresses.to ≡ true
unfolding points_of points_hold phrase_of
phrase_spans items size letter entries addresses holds is =
    let p = said_by _ _ entries addresses (both_pass _ _ holds).0 is in
    let entry = p.0.what in
    let started = start_point entries otherwise 0 in
    let right = kept (point_holds (is_address items size) (is_position entries) started entry) p.0.place p.2 in
    entry_spans (is_address items size) (is_position entries) started letter entry addresses p.1 right

-- what is found is the phrase of the letter
found_some : (o : Option Addresses) (ends : PhraseAddresses) → found_phrase o ≡ Some ends → o ≡ Some (record { from = ends.start; to = ends.stop })
unfolding found_phrase
found_some None ends e = let z : ◌≡◌ {A = ℕ} 0 1 = cc in absurd (omega arith)
found_some (Some addresses) ends e =
    let same : ◌≡◌ {A = PhraseAddresses} (record { start = addresses.from; stop = addresses.to }) ends = cc in
    ap (λ (p : PhraseAddresses). Some (record { from = p.start; to = p.stop })) same

found_never : (o : Option Addresses) → is_some o ≡ true → found_phrase o ≡ None → ⊥
unfolding is_some found_phrase
found_never None h e = false≢true h
found_never (Some addresses) h e = let z : ◌≡◌ {A = ℕ} 0 1 = cc in omega arith

module _ (voice : Voice) (body seek : List ℕ) (letter : ℕ) (ready : Ready voice true body seek)
    (named : is_some (phrase_of letter (entries_said true seek)) ≡ true) where
  -- a track without entries names no letter
  said : (0 < length seek) × (entries_said true seek ≡ found (seek_of (point_width true) seek))
  unfolding entries_said phrase_of first_said is_some
  said =
      by_test (length seek ≡? 0)
      (λ t. absurd (false≢true (ap (λ (entries : List (Placed Entry)). is_some (phrase_of letter entries)) (sym (if_true _ _ _ t)) ∙ named)))
      (λ t. (omega (arith, eqb-false (length seek) 0 t), if_false _ _ _ t))

  pub letter_formed : is_fine (seek_of (point_width true) seek) ≡ true
  letter_formed = ready.formed said.0

  module _ (r : Option PhraseAddresses) (is : r ≡ found_phrase (phrase_of letter (found (seek_of (point_width true) seek)))) where
    told : (answer : Option PhraseAddresses) → r ≡ answer → found_phrase (phrase_of letter (entries_said true seek)) ≡ answer
    told answer e = ap (λ (entries : List (Placed Entry)). found_phrase (phrase_of letter entries)) said.1 ∙ sym is ∙ e

    pub letter_never : r ≡ None → (z : Passage) → z ≡ letter_passage (items_of voice body) (length body) (entries_said true seek) letter
    letter_never e z = absurd (found_never _ named (told None e))

    module _ (ends : PhraseAddresses) (e : r ≡ Some ends) where
      phrase_said : phrase_of letter (entries_said true seek) ≡ Some (record { from = ends.start; to = ends.stop })
      phrase_said = found_some _ ends (told (Some ends) e)

      spans : is_span (is_address (items_of voice body) (length body)) ends.start ends.stop ≡ true
      spans = phrase_spans (items_of voice body) (length body) letter (entries_said true seek) _ ready.holds phrase_said

      pub letter_starts : is_address (items_of voice body) (length body) ends.start ≡ true
      unfolding is_span
      letter_starts = and_left _ _ spans

      pub letter_stops : is_address (items_of voice body) (length body) ends.stop ≡ true
      unfolding is_span
      letter_stops = and_left _ _ (and_right _ _ spans)

      pub letter_ordered : ends.start ≤ ends.stop
      unfolding is_span
      letter_ordered = ltb-false ends.stop ends.start (not-true (ends.stop <? ends.start) (and_right _ _ (and_right _ _ spans)))

      pub letter_is : (z : Passage) → z ≡ passage_between (items_of voice body) (length body) ends.start ends.stop
          → z ≡ letter_passage (items_of voice body) (length body) (entries_said true seek) letter
      unfolding letter_passage letter_section phrase_section
      letter_is z q = q ∙ ap (λ (o : Option Addresses). passage_of (items_of voice body) (length body) (phrase_section (items_of voice body) o)) (sym phrase_said)

pub ruleset phrased = (letter_formed, letter_never, letter_starts, letter_stops, letter_ordered, letter_is)
