-- A SECTION PLAYED AGAIN: its rows are those that stand in the tables, each as much later as has been played since.
use Prim.Native.Nat.{ℕ, zero, suc, ◌+◌, ◌-◌, ◌<◌, ◌≤◌}
use mathlib.Core.List.{List, [], ◌∷◌, map}
use mathlib.Core.Path.{◌≡◌, refl, ◌∙◌, ap, ap₂}
use lib.ListN.{length, take, drop, length-map}
use lib.Seq.{paste, sets}
use native.Mathlib.Omega.{arith}
use Rattle.std.specs.Prelude.{Option}
use Rattle.model.specs.Bytes.{◌!◌, part}
use Rattle.model.specs.Play.{At}
use Rattle.model.specs.Word.{word_of}
use Rattle.model.specs.declared.Event.{Event}
use Rattle.model.specs.declared.Span.{Span}
use Rattle.sections.specs.declared.Standing.{Standing}
use Rattle.sections.specs.Spans.{Items, messages_after, items_from, counted, span_rows, steps_of, words_of, Rising}
use Rattle.sections.specs.Again.{later, standing_at, Stored, StoredWhereKnown}
use Rattle.sections.proofs.Copying.{part_copied, part_before, part_stored}

counted_later : (first before start : ℕ) (rows : List (At Event)) → first ≤ before
    → later (before - first) (steps_of (map (counted first start) rows)) ≡ steps_of (map (counted before start) rows)
unfolding later steps_of
counted_later first before start [] h = refl
counted_later first before start (row ∷ rows) h =
    let step : first + (row.step - start) + (before - first) ≡ before + (row.step - start) = omega arith in
    ap₂ (λ (n : ℕ) (l : List ℕ). n ∷ l) step (counted_later first before start rows h)

counted_words : (first before start : ℕ) (rows : List (At Event)) → words_of (map (counted first start) rows) ≡ words_of (map (counted before start) rows)
unfolding words_of
counted_words first before start [] = refl
counted_words first before start (row ∷ rows) = ap (λ (l : List ℕ). word_of row.event ∷ l) (counted_words first before start rows)

module _ (items : Items) (span : Span) (first before : ℕ) where
  rows_later : first ≤ before → later (before - first) (steps_of (span_rows items span first)) ≡ steps_of (span_rows items span before)
  unfolding span_rows
  rows_later h = counted_later first before span.start (take span.messages (messages_after span.past (items_from span.first items))) h

  rows_words : words_of (span_rows items span first) ≡ words_of (span_rows items span before)
  unfolding span_rows
  rows_words = counted_words first before span.start (take span.messages (messages_after span.past (items_from span.first items)))

module _ (items : Items) (span : Span) (standing : Standing) (steps words : List ℕ) (at before : ℕ) (stored : Stored items span standing steps words at before) where
  pub again_behind : standing.row + span.messages ≤ at
  again_behind = stored.inside

  pub again_past : standing.before ≤ before
  again_past = stored.past

  pub again_steps : (m : List ℕ) → m ≡ sets steps at (later (before - standing.before) (part steps standing.row span.messages))
      → m ≡ sets steps at (steps_of (span_rows items span before))
  again_steps m e =
      e ∙ ap (sets steps at) (ap (later (before - standing.before)) stored.steps_stand ∙ rows_later items span standing.before before stored.past)

  pub again_words : (m : List ℕ) → at + span.messages ≤ length words
      → m ≡ paste words at (drop standing.row words) (standing.row + span.messages - standing.row)
      → m ≡ sets words at (words_of (span_rows items span before))
  again_words m room e = part_copied words m standing.row span.messages at stored.inside room e ∙ ap (sets words at) (stored.words_stand ∙ rows_words items span standing.before before)

pub ruleset again = (again_behind, again_past, again_steps, again_words)

-- what is known stays known when more is stored behind it, and what was stored is known

rising_low : (low high : ℕ) (rows : List (At Event)) → Rising low high rows → low ≤ high
rising_low low high [] rises = rises
rising_low low high (row ∷ rows) rises = let rest = rising_low row.step high rows rises.1 in omega (arith, rises.0)

steps_low : (low high : ℕ) (rows : List (At Event)) → Rising low high rows → (i : ℕ) → i < length (steps_of rows) → steps_of rows ! i ≤ high
unfolding steps_of
steps_low low high [] rises i h = absurd (omega arith)
steps_low low high (row ∷ rows) rises zero h = rising_low row.step high rows rises.1
steps_low low high (row ∷ rows) rises (suc i) h = steps_low row.step high rows rises.1 i (omega arith)

module _ (items : Items) (span : Span) (steps words : List ℕ) (at before : ℕ) where
  pub stored_kept : (known : Option Standing) (more words_more : List ℕ) (past later-on : ℕ) → at ≤ past → before ≤ later-on
      → StoredWhereKnown items span known steps words at before
      → StoredWhereKnown items span known (sets steps at more) (sets words at words_more) past later-on
  stored_kept known more words_more past later-on h k where_known standing is =
      let s = where_known standing is in
      record {
        inside = omega (arith, s.inside);
        past = omega (arith, s.past);
        steps_stand = part_before steps standing.row span.messages at more s.inside ∙ s.steps_stand;
        words_stand = part_before words standing.row span.messages at words_more s.inside ∙ s.words_stand;
        low = s.low;
      }

  pub stored_new : length (span_rows items span before) ≡ span.messages → at + span.messages ≤ length steps → at + span.messages ≤ length words
      → Rising before (before + span.lasts) (span_rows items span before)
      → Stored items span (standing_at at before) (sets steps at (steps_of (span_rows items span before)))
      (sets words at (words_of (span_rows items span before))) (at + span.messages) (before + span.lasts)
  unfolding steps_of words_of
  stored_new many room words-room rises =
      let rows = span_rows items span before in
      record {
        inside = omega arith;
        past = omega arith;
        steps_stand = part_stored steps at (steps_of rows) span.messages (length-map rows (λ row. row.step) ∙ many) room;
        words_stand = part_stored words at (words_of rows) span.messages (length-map rows (λ row. word_of row.event) ∙ many) words-room;
        low = steps_low before (before + span.lasts) rows rises;
      }
