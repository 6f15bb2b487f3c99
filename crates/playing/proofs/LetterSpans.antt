-- THE SPANS of an order list: the invariants of `find_spans`'s loop, that the spans which are known are right and playing stops in none of their
-- sections, and of `add_spans`'s, that what the letters ahead add to what is counted makes the whole, with what each turn and the ends make of them.
use Prim.Native.Nat.{ℕ, suc, ◌+◌, ◌*◌, ◌<◌, ◌≤◌}
use mathlib.Core.Bool.{Bool, true, false}
use mathlib.Core.List.{List, [], ◌∷◌}
use mathlib.Core.Path.{◌≡◌, refl, sym, ◌∙◌, ap, ap₂, subst}
use lib.ListN.{length, get_or, take, drop, set, replicate, length-take}
use lib.Seq.{drop-cons, drop-length, take-length, get_or-take}
use native.Mathlib.Nat.{add-zero, zero-add, add_assoc}
use native.Mathlib.Decide.{dec_lt}
use native.Mathlib.Omega.{arith}
use Rattle.model.specs.Words.{is_some, Placed}
use Rattle.model.specs.Bytes.{◌!◌}
use Rattle.model.specs.Item.{body_of, is_fine, items_of}
use Rattle.model.specs.Seek.{Entry, phrase_of}
use Rattle.model.specs.Play.{onsets_after, stops_in}
use Rattle.model.specs.declared.Voice.{Voice}
use Rattle.model.specs.declared.Span.{Span}
use Rattle.model.specs.declared.Passage.{Passage}
use Rattle.model.specs.declared.Total.{Total}
use Rattle.model.proofs.Parts.{take_bytes}
use Rattle.model.proofs.Picking.{through_at, through_whole}
use Rattle.sections.specs.Spans.{Items, passage_of, SpanRises}
use Rattle.playing.specs.Performing.{no_span, span_at, letter_section, letter_passage, letter_span, letters_heard, Named, Spanned, AllPlayable, AllFew, AllShort, messages_together, lasts_together, total_of, Found}
use Rattle.playing.proofs.Bounded.{letter_few, letter_short, letter_rises}
use Rattle.playing.proofs.Tables.{Table, Known, table_starts, table_weaken, known_now}

-- each letter of a list that is named has a phrase
pub named_here : (entries : List (Placed Entry)) (letters : List ℕ) (i : ℕ) → Named entries letters → i < length letters
    → is_some (phrase_of (letters ! i) entries) ≡ true
named_here entries letters i named h = named i h

-- THE SPANS of letters, each found once

module _ (items : Items) (size : ℕ) (entries : List (Placed Entry)) where
  pub first_spanned : (spans : List Span) (letter : ℕ) (letters : List ℕ) → Spanned items size entries spans (letter ∷ letters)
      → span_at spans letter ≡ letter_span items size entries letter
  first_spanned spans letter letters is = is 0 (omega arith)

  pub rest_spanned : (spans : List Span) (letter : ℕ) (letters : List ℕ) → Spanned items size entries spans (letter ∷ letters)
      → Spanned items size entries spans letters
  rest_spanned spans letter letters is i h = is (suc i) (omega arith)

  pub letters_playable : (spans : List Span) (letters : List ℕ) → Spanned items size entries spans letters → AllPlayable items size spans letters
  unfolding letter_span
  letters_playable spans letters is i h = record { section = letter_section items entries (letters ! i); is = is i h }

  -- the span of a letter's phrase
  abbrev pub SpanOf : ℕ → Span → Type 0
  SpanOf letter span = span ≡ letter_span items size entries letter

  -- whether playing stops in it
  abbrev Stops : ℕ → Bool
  Stops letter = stops_in (onsets_after 0 items) (letter_section items entries letter)

  -- the span of one in which it does not
  abbrev pub PassedBy : ℕ → Span → Type 0
  PassedBy letter span = SpanOf letter span × (Stops letter ≡ false)

  -- a letter's passage
  passage_span : (letter : ℕ) (passage : Passage) → passage ≡ letter_passage items size entries letter → SpanOf letter passage.span
  unfolding letter_passage letter_span passage_of
  passage_span letter passage e = ap (λ (x : Passage). x.span) e

  passage_stops : (letter : ℕ) (passage : Passage) → passage ≡ letter_passage items size entries letter → passage.stops ≡ Stops letter
  unfolding letter_passage passage_of
  passage_stops letter passage e = ap (λ (x : Passage). x.stops) e

  pub passage_goes_on : (letter : ℕ) (passage : Passage) → passage ≡ letter_passage items size entries letter → passage.stops ≡ false → PassedBy letter passage.span
  passage_goes_on letter passage e goes = (passage_span letter passage e, sym (passage_stops letter passage e) ∙ goes)

  pub record Finding (letters : List ℕ) (spans : List Span) (known : List Bool) (i : ℕ) : Type 0 where
    pub bytes : (k : ℕ) → letters ! k < 256
    pub few : (letter : ℕ) → (letter_span items size entries letter).messages ≤ 65536
    pub short : (letter : ℕ) → (letter_span items size entries letter).lasts ≤ 1082064896
    pub rise : (letter : ℕ) → SpanRises items (letter_span items size entries letter)
    pub listed : length letters ≤ 65536
    pub within : i ≤ length letters
    pub table : Table no_span PassedBy spans known
    pub seen : (j : ℕ) → j < i → get_or known (letters ! j) false ≡ true

  module _ (letters : List ℕ) (spans : List Span) (known : List Bool) (i : ℕ) (p : Finding letters spans known i) where
    -- so many letters whose spans are right, and which are those that are played
    found_so : (spans' : List Span) (count : ℕ) → count ≤ length letters → ((j : ℕ) → j < count → SpanOf (letters ! j) (span_at spans' (letters ! j)))
        → take count letters ≡ letters_heard items entries letters → Found items size entries letters (record { spans = spans'; letters = count })
    found_so spans' count within right are =
        let front = take count letters in
        let fewer : (j : ℕ) → j < length front → j < count = λ j h. omega (arith, length-take count letters) in
        let is : Spanned items size entries spans' front =
        λ j h. subst (λ (letter : ℕ). SpanOf letter (span_at spans' letter)) (sym (get_or-take count letters j 0 (fewer j h))) (right j (fewer j h)) in
        record {
          within = within;
          are = are;
          spanned = is;
          heard = record {
            bytes = take_bytes letters count p.bytes;
            listed = omega (arith, length-take count letters, p.listed);
            playable = letters_playable spans' front is;
            rise = λ j h. subst (SpanRises items) (sym (is j h)) (p.rise (front ! j));
            few = λ j h. omega (arith, ap (λ (span : Span). span.messages) (is j h), p.few (front ! j));
            short = λ j h. omega (arith, ap (λ (span : Span). span.lasts) (is j h), p.short (front ! j));
          };
        }

    -- playing has stopped in no section before
    before : (j : ℕ) → j < i → PassedBy (letters ! j) (span_at spans (letters ! j))
    before j h = p.table.right (letters ! j) (p.seen j h)

    pub find_ends : length letters ≤ i → Found items size entries letters (record { spans = spans; letters = length letters })
    unfolding letters_heard
    find_ends past =
        let all : i ≡ length letters = omega (arith, p.within) in
        found_so spans (length letters) (omega arith) (λ j h. (before j (omega arith)).0)
        (take-length letters ∙ through_whole Stops letters (λ j h. (before j (omega arith)).1))

    pub find_turns : (spans' : List Span) (known' : List Bool) → i < length letters → Known no_span PassedBy (letters ! i) known spans' known'
        → Finding letters spans' known' (i + 1)
    find_turns spans' known' here k =
        record {
          bytes = p.bytes;
          few = p.few;
          short = p.short;
          rise = p.rise;
          listed = p.listed;
          within = omega arith;
          table = k.table;
          seen = λ j h. elim (dec_lt j i) [
            | yes q ↦ k.kept (letters ! j) (p.seen j q)
            | no q ↦ let e : j ≡ i = omega arith in rw e k.here
          ];
        }

    -- a letter that is met for the first time
    module _ (here : i < length letters) (passage : Passage) (is : passage ≡ letter_passage items size entries (letters ! i)) where
      -- playing stops in its section
      pub find_stops : passage.stops ≡ true → Found items size entries letters (record { spans = set spans (letters ! i) passage.span; letters = i + 1 })
      unfolding letters_heard
      find_stops stops =
          let loose = table_weaken no_span PassedBy SpanOf spans known (λ slot span right. right.0) p.table in
          let k = known_now no_span SpanOf (letters ! i) spans known loose _ _ passage.span (p.bytes i) (passage_span (letters ! i) passage is) refl refl in
          found_so (set spans (letters ! i) passage.span) (i + 1) (omega arith)
          (λ j h. k.table.right (letters ! j) (elim (dec_lt j i) [
            | yes q ↦ k.kept (letters ! j) (p.seen j q)
            | no q ↦ let e : j ≡ i = omega arith in rw e k.here
          ]))
          (through_at Stops letters i here (λ j h. (before j h).1) (sym (passage_stops (letters ! i) passage is) ∙ stops))

pub find_starts : (voice : Voice) (s : List ℕ) (entries : List (Placed Entry)) (letters : List ℕ) (span : Span)
    → ((k : ℕ) → s ! k < 256) → ((k : ℕ) → letters ! k < 256) → length s ≤ 65536 → is_fine (body_of voice s) ≡ true → length letters ≤ 65536
    → Finding (items_of voice s) (length s) entries letters (replicate 256 span) (replicate 256 false) 0
find_starts voice s entries letters span bytes letter-bytes small reads listed =
    record {
      bytes = letter-bytes;
      few = letter_few voice s bytes small reads entries;
      short = letter_short voice s bytes small reads entries;
      rise = letter_rises voice s reads entries;
      listed = listed;
      within = omega arith;
      table = table_starts no_span (PassedBy (items_of voice s) (length s) entries) span;
      seen = λ j h. absurd (omega arith);
    }

pub ruleset finding = (named_here, find_ends, find_turns, find_stops)

-- WHAT THEY COME TO together

pub record Adding (spans : List Span) (letters : List ℕ) (total : Total) (i : ℕ) : Type 0 where
  pub bytes : (k : ℕ) → letters ! k < 256
  pub listed : length letters ≤ 65536
  pub few : AllFew spans letters
  pub short : AllShort spans letters
  pub within : i ≤ length letters
  pub many : total.count ≤ 65536 * i
  pub long : total.end ≤ 1082064896 * i
  pub counted : total.count + messages_together spans (drop i letters) ≡ messages_together spans letters
  pub ended : total.end + lasts_together spans (drop i letters) ≡ lasts_together spans letters

pub add_starts : (spans : List Span) (letters : List ℕ) → ((k : ℕ) → letters ! k < 256) → length letters ≤ 65536 → AllFew spans letters → AllShort spans letters
    → Adding spans letters (record { count = 0; end = 0 }) 0
add_starts spans letters bytes listed few short =
    record {
      bytes = bytes;
      listed = listed;
      few = few;
      short = short;
      within = omega arith;
      many = omega arith;
      long = omega arith;
      counted = zero-add _;
      ended = zero-add _;
    }

module _ (spans : List Span) (letters : List ℕ) (total : Total) (i : ℕ) (p : Adding spans letters total i) where
  pub add_ends : length letters ≤ i → total ≡ total_of spans letters
  unfolding total_of messages_together lasts_together
  add_ends past =
      let all : drop i letters ≡ [] = (let end : i ≡ length letters = omega (arith, p.within) in ap (λ (n : ℕ). drop n letters) end ∙ drop-length letters) in
      ap₂ (λ (n t : ℕ). record { count = n; end = t })
      (sym (add-zero total.count) ∙ ap (λ (l : List ℕ). total.count + messages_together spans l) (sym all) ∙ p.counted)
      (sym (add-zero total.end) ∙ ap (λ (l : List ℕ). total.end + lasts_together spans l) (sym all) ∙ p.ended)

  module _ (here : i < length letters) where
    next : drop i letters ≡ letters ! i ∷ drop (i + 1) letters
    next = let on : suc i ≡ i + 1 = omega arith in drop-cons letters i 0 here ∙ ap (λ (n : ℕ). letters ! i ∷ drop n letters) on

    pub add_turns : Adding spans letters
        (record { count = total.count + (span_at spans (letters ! i)).messages; end = total.end + (span_at spans (letters ! i)).lasts }) (i + 1)
    unfolding messages_together lasts_together
    add_turns =
        record {
          bytes = p.bytes;
          listed = p.listed;
          few = p.few;
          short = p.short;
          within = omega arith;
          many = omega (arith, p.few i here, p.many);
          long = omega (arith, p.short i here, p.long);
          counted = add_assoc total.count _ _ ∙ ap (λ (l : List ℕ). total.count + messages_together spans l) (sym next) ∙ p.counted;
          ended = add_assoc total.end _ _ ∙ ap (λ (l : List ℕ). total.end + lasts_together spans l) (sym next) ∙ p.ended;
        }

pub ruleset adding = (add_ends, add_turns)
