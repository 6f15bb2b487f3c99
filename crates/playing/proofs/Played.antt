-- What is played, from its rows: 15 where a table has too little room, and otherwise the answer and the two tables. For a stream, whose
-- rows are those of one span.
use Prim.Native.Nat.{ℕ, ◌/◌, ◌<◌, ◌≤◌, min}
use mathlib.Core.Path.{◌≡◌, refl, sym, ◌∙◌, ap, ap₂}
use mathlib.Core.Bool.{false}
use mathlib.Core.List.{List, [], ◌∷◌, ◌++◌, append-nil}
use lib.ListN.{length, drop, length-map}
use lib.Seq.{sets, sets-eq}
use native.Mathlib.Nat.{zero-add, add-zero}
use native.Mathlib.Omega.{arith}
use borrow.Author.Tests.{lt-ltb, le-ltb}
use Rattle.model.specs.Words.{sum, ◌otherwise◌, Checked, when◌then◌else◌, refused}
use Rattle.std.specs.Prelude.{Ok}
use Rattle.model.specs.Item.{items_of}
use Rattle.model.specs.Seek.{start_point, stop_point}
use Rattle.model.specs.Play.{At, Section, Tune, onsets_after, sounding, lasts_in, played_from, all_played, tune_of}
use Rattle.model.specs.Word.{is_message, word_of}
use Rattle.model.specs.Order.{stream_section, order_of}
use Rattle.model.specs.Answer.{written_over, memory_after, play_answer, steps_table, words_table}
use Rattle.model.specs.declared.Voice.{Voice}
use Rattle.model.specs.declared.Event.{Event}
use Rattle.model.specs.declared.Span.{Span}
use Rattle.sections.specs.Spans.{Items, span_of, span_rows, steps_of, words_of, Playable}
use Rattle.sections.proofs.Stretches.{span_sounds, span_counts}
use Rattle.sections.proofs.WholeStream.{played_alone}
use Rattle.playing.specs.Performing.{entries_said, Ready, fitted, played, heard}

-- a refusal answers its number and place, and keeps the tables

module _ (o : Checked (Tune Event)) (number place : ℕ) (is : o ≡ refused number place) where
  pub refused_answer : refused number place ≡ play_answer o
  unfolding play_answer
  refused_answer = ap play_answer (sym is)

  pub refused_steps : (l : List ℕ) → l ≡ steps_table l o
  unfolding steps_table memory_after
  refused_steps l = ap (steps_table l) (sym is)

  pub refused_words : (l : List ℕ) → l ≡ words_table l o
  unfolding words_table memory_after
  refused_words l = ap (words_table l) (sym is)

-- what is stored from the head on

pub written_front : (l front : List ℕ) → length front ≤ length l → sets l 0 front ≡ written_over l front
unfolding written_over
written_front l front h = sets-eq front l 0 (omega arith) ∙ ap (λ (n : ℕ). front ++ drop n l) (zero-add (length front))

-- a tune whose rows are known

module _ (o : Checked (Tune Event)) (header room : ℕ) (tune : Tune Event) (is : o ≡ fitted header room tune)
    (rows : List (At Event)) (are : rows ≡ tune.messages) (count : ℕ) (many : count ≡ length rows) where
  counted : count ≡ length tune.messages
  counted = many ∙ ap length are

  pub tune_short : room < count → o ≡ refused 15 header
  unfolding fitted when◌then◌else◌
  tune_short h = let short : room < length tune.messages = omega (arith, counted) in is ∙ simp lt-ltb

  tune_fits : count ≤ room → o ≡ Ok tune
  unfolding fitted when◌then◌else◌
  tune_fits h = let enough : length tune.messages ≤ room = omega (arith, counted) in is ∙ simp le-ltb

  pub tune_answer : (end : ℕ) → end ≡ tune.end → count ≤ room → Ok (record { count = count; end = end }) ≡ play_answer o
  unfolding play_answer
  tune_answer end e h = ap₂ (λ (k t : ℕ). (Ok (record { count = k; end = t }))) counted e ∙ ap play_answer (sym (tune_fits h))

  pub tune_steps : (l m : List ℕ) → count ≤ room → room ≤ length l → m ≡ sets l 0 (steps_of rows) → m ≡ steps_table l o
  unfolding steps_table memory_after steps_of
  tune_steps l m h k e =
      e ∙ written_front l (steps_of rows) (omega (arith, length-map rows (λ row. row.step)))
      ∙ ap (λ (r : List (At Event)). written_over l (steps_of r)) are
      ∙ ap (steps_table l) (sym (tune_fits h))

  pub tune_words : (l m : List ℕ) → count ≤ room → room ≤ length l → m ≡ sets l 0 (words_of rows) → m ≡ words_table l o
  unfolding words_table memory_after words_of
  tune_words l m h k e =
      e ∙ written_front l (words_of rows) (omega (arith, length-map rows (λ row. word_of row.event)))
      ∙ ap (λ (r : List (At Event)). written_over l (words_of r)) are
      ∙ ap (words_table l) (sym (tune_fits h))

-- what the shorter of two has room for, both have
module _ (least steps words many : ℕ) (shorter : least ≡ min steps words) (enough : many ≤ least) where
  pub steps_have_room : many ≤ steps
  steps_have_room = omega arith

  pub words_have_room : many ≤ words
  words_have_room = omega arith

-- so has room for a third of a body for the messages that are no more than that
pub third_has_room : (size room many : ℕ) → many ≤ size / 3 → size / 3 ≤ room → many ≤ room
third_has_room size room many few h = omega arith

-- A STREAM

module _ (voice : Voice) (header : ℕ) (body seek steps words : List ℕ) (ready : Ready voice false body seek) (span : Span)
    (is : span ≡ span_of (items_of voice body) (length body)
    (stream_section (items_of voice body) (start_point (entries_said false seek) otherwise 0) (stop_point (entries_said false seek)))) where
  abbrev items : Items
  items = items_of voice body

  abbrev section : Section
  section = stream_section items (start_point (entries_said false seek) otherwise 0) (stop_point (entries_said false seek))

  abbrev tune : Tune Event
  tune = tune_of is_message items (section ∷ [])

  abbrev room : ℕ
  room = min (length steps) (length words)

  stream_is : heard voice false header room body seek ≡ fitted header room tune
  unfolding heard played order_of
  stream_is = refl

  rows_are : span_rows items span 0 ≡ tune.messages
  unfolding all_played played_from
  rows_are =
      ap (λ (one : Span). span_rows items one 0) is ∙ span_sounds voice body ready.reads section 0
      ∙ sym (ap (λ (t : Tune Event). t.messages) (played_alone items section) ∙ append-nil (sounding is_message (onsets_after 0 items) 0 section))

  rows_many : span.messages ≡ length (span_rows items span 0)
  rows_many =
      ap (λ (one : Span). one.messages) is ∙ sym (span_counts voice body ready.reads section 0)
      ∙ ap (λ (one : Span). length (span_rows items one 0)) (sym is)

  lasts_are : span.lasts ≡ tune.end
  unfolding all_played sum span_of
  lasts_are =
      ap (λ (one : Span). one.lasts) is ∙ sym (ap (λ (t : Tune Event). t.end) (played_alone items section) ∙ add-zero (lasts_in (onsets_after 0 items) section))

  pub stream_playable : Playable (items_of voice body) (length body) span
  stream_playable = record { section = section; is = is }

  module _ (least : ℕ) (shorter : least ≡ min (length steps) (length words)) where
    short : least < span.messages → heard voice false header room body seek ≡ refused 15 header
    short h = tune_short _ header room tune stream_is _ rows_are span.messages rows_many (omega arith)

    pub stream_short : least < span.messages → refused 15 header ≡ play_answer (heard voice false header (min (length steps) (length words)) body seek)
    stream_short h = refused_answer _ 15 header (short h)

    pub stream_short_steps : least < span.messages → steps ≡ steps_table steps (heard voice false header (min (length steps) (length words)) body seek)
    stream_short_steps h = refused_steps _ 15 header (short h) steps

    pub stream_short_words : least < span.messages → words ≡ words_table words (heard voice false header (min (length steps) (length words)) body seek)
    stream_short_words h = refused_words _ 15 header (short h) words

  module _ (steps-room : span.messages ≤ length steps) (words-room : span.messages ≤ length words) where
    pub stream_answer : (Ok (record { count = span.messages; end = span.lasts })) ≡ play_answer (heard voice false header (min (length steps) (length words)) body seek)
    stream_answer = tune_answer _ header room tune stream_is _ rows_are span.messages rows_many span.lasts lasts_are (omega arith)

    pub stream_steps : (m : List ℕ) → m ≡ sets steps 0 (steps_of (span_rows (items_of voice body) span 0))
        → m ≡ steps_table steps (heard voice false header (min (length steps) (length words)) body seek)
    stream_steps m e = tune_steps _ header room tune stream_is _ rows_are span.messages rows_many steps m (omega arith) (omega arith) e

    pub stream_words : (m : List ℕ) → m ≡ sets words 0 (words_of (span_rows (items_of voice body) span 0))
        → m ≡ words_table words (heard voice false header (min (length steps) (length words)) body seek)
    stream_words m e = tune_words _ header room tune stream_is _ rows_are span.messages rows_many words m (omega arith) (omega arith) e

pub ruleset stream_played = (stream_playable, stream_short, stream_short_steps, stream_short_words, steps_have_room, words_have_room, stream_answer, stream_steps, stream_words)
