-- WHAT AN ORDER LIST COMES TO: where a table has the spans of its letters, up to the one in whose section playing stops, their rows and their
-- length together are those of the sections that the letters name.
use Prim.Native.Nat.{ℕ, suc, ◌+◌, ◌*◌, ◌≤◌}
use mathlib.Core.Bool.{true}
use mathlib.Core.List.{List, [], ◌∷◌, ◌++◌, map}
use mathlib.Core.Path.{◌≡◌, refl, sym, ◌∙◌, ap, ap₂}
use lib.ListN.{length, length-append}
use native.Mathlib.Omega.{arith}
use Rattle.model.specs.Words.{sum, through, Placed}
use Rattle.model.specs.Item.{body_of, is_fine, items_of}
use Rattle.model.specs.Seek.{Entry}
use Rattle.model.specs.Play.{At, onsets_after, lasts_in, stops_in, sections_played, played_from, all_played, tune_of}
use Rattle.model.specs.Word.{is_message}
use Rattle.model.specs.declared.Voice.{Voice}
use Rattle.model.specs.declared.Event.{Event}
use Rattle.model.specs.declared.Span.{Span}
use Rattle.sections.specs.Spans.{Items, span_of, span_rows}
use Rattle.model.proofs.Picking.{through_map}
use Rattle.sections.proofs.Stretches.{span_sounds}
use Rattle.playing.specs.Performing.{span_at, letter_section, letter_span, letters_heard, Spanned, AllPlayable, AllShort, messages_together, lasts_together, rows_together, tune_together}
use Rattle.playing.proofs.LetterSpans.{first_spanned, rest_spanned}
use Rattle.playing.proofs.Writing.{rows_many}

module _ (items : Items) (size : ℕ) (entries : List (Placed Entry)) (spans : List Span) where
  letters_last : (letters : List ℕ) → Spanned items size entries spans letters
      → lasts_together spans letters ≡ sum (map (lasts_in (onsets_after 0 items)) (map (letter_section items entries) letters))
  unfolding lasts_together sum letter_span span_of
  letters_last [] is = refl
  letters_last (letter ∷ letters) is =
      ap₂ (λ (span : Span) (n : ℕ). span.lasts + n) (first_spanned items size entries spans letter letters is)
      (letters_last letters (rest_spanned items size entries spans letter letters is))

-- what letters last together
short_together : (spans : List Span) (letters : List ℕ) → AllShort spans letters → lasts_together spans letters ≤ 1082064896 * length letters
unfolding lasts_together
short_together spans [] short = omega arith
short_together spans (letter ∷ letters) short =
    let rest = short_together spans letters (λ i h. short (suc i) (omega arith)) in
    let first = short 0 (omega arith) in
    omega arith

pub short_enough : (spans : List Span) (letters : List ℕ) → AllShort spans letters → length letters ≤ 65536 → lasts_together spans letters ≤ 4611686018427387904
short_enough spans letters short listed = omega (arith, short_together spans letters short)

module _ (voice : Voice) (s : List ℕ) (reads : is_fine (body_of voice s) ≡ true) where
  abbrev items : Items
  items = items_of voice s

  module _ (entries : List (Placed Entry)) (spans : List Span) where
    letters_sound : (before : ℕ) (letters : List ℕ) → Spanned items (length s) entries spans letters
        → rows_together items spans before letters ≡ played_from is_message (onsets_after 0 items) before (map (letter_section items entries) letters)
    unfolding rows_together played_from letter_span span_of
    letters_sound before [] is = refl
    letters_sound before (letter ∷ letters) is =
        let e = first_spanned items (length s) entries spans letter letters is in
        let section = letter_section items entries letter in
        ap₂ (λ (here later : List (At Event)). here ++ later)
        (ap (λ (span : Span). span_rows items span before) e ∙ span_sounds voice s reads section before)
        (ap (λ (span : Span). rows_together items spans (before + span.lasts) letters) e
        ∙ letters_sound (before + lasts_in (onsets_after 0 items) section) letters (rest_spanned items (length s) entries spans letter letters is))

    -- the letters up to where playing stops play what the whole order does
    pub together_is : (letters heard : List ℕ) → heard ≡ letters_heard items entries letters → Spanned items (length s) entries spans heard
        → tune_together items spans heard ≡ tune_of is_message items (map (letter_section items entries) letters)
    unfolding tune_together tune_of sections_played all_played letters_heard
    together_is letters heard are is =
        let played : map (letter_section items entries) heard ≡ through (stops_in (onsets_after 0 items)) (map (letter_section items entries) letters) =
        ap (map (letter_section items entries)) are ∙ sym (through_map (stops_in (onsets_after 0 items)) (letter_section items entries) letters) in
        ap₂ (λ (messages : List (At Event)) (end : ℕ). record { messages = messages; end = end })
        (letters_sound 0 heard is) (letters_last items (length s) entries spans heard is)
        ∙ ap (all_played is_message (onsets_after 0 items)) played

  pub rows_count : (spans : List Span) (before : ℕ) (letters : List ℕ) → AllPlayable items (length s) spans letters
      → length (rows_together items spans before letters) ≡ messages_together spans letters
  unfolding rows_together messages_together
  rows_count spans before [] playable = refl
  rows_count spans before (letter ∷ letters) playable =
      length-append (span_rows items (span_at spans letter) before) _
      ∙ ap₂ ◌+◌ (rows_many voice s before (span_at spans letter) reads (playable 0 (omega arith)))
      (rows_count spans (before + (span_at spans letter).lasts) letters (λ i h. playable (suc i) (omega arith)))
