-- What is played of an order list: 17 where there is none, and otherwise the rows of its letters, up to the one in whose section playing stops.
use Prim.Native.Nat.{ℕ, ◌<◌, ◌≤◌, min}
use mathlib.Core.Path.{◌≡◌, refl, sym, ◌∙◌, ap, subst}
use mathlib.Core.Bool.{true}
use mathlib.Core.List.{List, map}
use Rattle.std.specs.Prelude.{None, Some, Ok}
use lib.ListN.{length, take}
use lib.Seq.{sets}
use native.Mathlib.Omega.{arith}
use Rattle.model.specs.Words.{Checked, refused}
use Rattle.model.specs.Item.{is_fine, body_of, items_of}
use Rattle.model.specs.Play.{Tune}
use Rattle.model.specs.Order.{order_of}
use Rattle.model.specs.Answer.{play_answer, steps_table, words_table}
use Rattle.model.specs.declared.Voice.{Voice}
use Rattle.model.specs.declared.Event.{Event}
use Rattle.model.specs.declared.Span.{Span}
use Rattle.model.specs.declared.FoundSpans.{FoundSpans}
use Rattle.model.specs.declared.Total.{Total}
use Rattle.model.specs.declared.PlayAnswer.{PlayAnswer}
use Rattle.sections.specs.Spans.{Items, steps_of, words_of}
use Rattle.playing.specs.Performing.{entries_said, Ready, letter_section, Spanned, messages_together, lasts_together, total_of, Heard, Found, rows_together, tune_together, fitted, played, heard}
use Rattle.playing.proofs.Played.{refused_answer, refused_steps, refused_words, tune_short, tune_answer, tune_steps, tune_words}
use Rattle.playing.proofs.Together.{together_is, rows_count, short_enough}

module _ (voice : Voice) (header : ℕ) (body seek steps words : List ℕ) where
  abbrev items : Items
  items = items_of voice body

  abbrev room : ℕ
  room = min (length steps) (length words)

  -- no order list
  module _ (none_there : order_of true (items_of voice body) (entries_said true seek) ≡ None) where
    no_order : heard voice true header room body seek ≡ refused 17 header
    unfolding heard played
    no_order = rw none_there

    pub unordered_answer : refused 17 header ≡ play_answer (heard voice true header (min (length steps) (length words)) body seek)
    unordered_answer = refused_answer _ 17 header no_order

    pub unordered_steps : steps ≡ steps_table steps (heard voice true header (min (length steps) (length words)) body seek)
    unordered_steps = refused_steps _ 17 header no_order steps

    pub unordered_words : words ≡ words_table words (heard voice true header (min (length steps) (length words)) body seek)
    unordered_words = refused_words _ 17 header no_order words

  -- the letters up to where playing stops
  module _ (ready : Ready voice true body seek) (letters : List ℕ)
      (order : order_of true (items_of voice body) (entries_said true seek) ≡ Some (map (letter_section (items_of voice body) (entries_said true seek)) letters))
      (found : FoundSpans) (finds : Found (items_of voice body) (length body) (entries_said true seek) letters found) where
    pub found_within : found.letters ≤ length letters
    found_within = finds.within

    module _ (front : List ℕ) (are : front ≡ take found.letters letters) where
      pub found_heard : Heard (items_of voice body) (length body) found.spans front
      found_heard = subst (Heard items (length body) found.spans) (sym are) finds.heard

      order_is : fitted header room (tune_together items found.spans front) ≡ heard voice true header room body seek
      unfolding heard played
      order_is =
          ap (fitted header room)
          (together_is voice body ready.reads (entries_said true seek) found.spans letters front (are ∙ finds.are)
          (subst (Spanned items (length body) (entries_said true seek) found.spans) (sym are) finds.spanned))
          ∙ sym (rw order refl)

      pub order_answer : (r : Checked PlayAnswer) → r ≡ play_answer (fitted header (min (length steps) (length words)) (tune_together (items_of voice body) found.spans front))
          → r ≡ play_answer (heard voice true header (min (length steps) (length words)) body seek)
      order_answer r e = e ∙ ap play_answer order_is

      pub order_steps : (m : List ℕ) → m ≡ steps_table steps (fitted header (min (length steps) (length words)) (tune_together (items_of voice body) found.spans front))
          → m ≡ steps_table steps (heard voice true header (min (length steps) (length words)) body seek)
      order_steps m e = e ∙ ap (steps_table steps) order_is

      pub order_words : (m : List ℕ) → m ≡ words_table words (fitted header (min (length steps) (length words)) (tune_together (items_of voice body) found.spans front))
          → m ≡ words_table words (heard voice true header (min (length steps) (length words)) body seek)
      order_words m e = e ∙ ap (words_table words) order_is

pub ruleset order_played = (unordered_answer, unordered_steps, unordered_words, found_within, found_heard, order_answer, order_steps, order_words)

-- LETTERS BY A TABLE of spans

module _ (spans : List Span) (letters : List ℕ) (total : Total) (is : total ≡ total_of spans letters) (least steps words : ℕ) (shorter : least ≡ min steps words)
    (enough : total.count ≤ least) where
  pub spans_steps_room : messages_together spans letters ≤ steps
  unfolding total_of
  spans_steps_room = omega (arith, ap (λ (x : Total). x.count) is)

  pub spans_words_room : messages_together spans letters ≤ words
  unfolding total_of
  spans_words_room = omega (arith, ap (λ (x : Total). x.count) is)

module _ (voice : Voice) (header : ℕ) (body steps words : List ℕ) (spans : List Span) (letters : List ℕ) (reads : is_fine (body_of voice body) ≡ true)
    (h : Heard (items_of voice body) (length body) spans letters) where
  pub spans_short_enough : lasts_together spans letters ≤ 4611686018427387904
  spans_short_enough = short_enough spans letters h.short h.listed

  abbrev tune : Tune Event
  tune = tune_together (items_of voice body) spans letters

  abbrev outcome : Checked (Tune Event)
  outcome = fitted header (min (length steps) (length words)) tune

  rows_are : rows_together (items_of voice body) spans 0 letters ≡ tune.messages
  unfolding tune_together
  rows_are = refl

  module _ (total : Total) (is : total ≡ total_of spans letters) (least : ℕ) (shorter : least ≡ min (length steps) (length words)) where
    count_is : total.count ≡ messages_together spans letters
    unfolding total_of
    count_is = ap (λ (x : Total). x.count) is

    many : total.count ≡ length (rows_together (items_of voice body) spans 0 letters)
    many = count_is ∙ sym (rows_count voice body reads spans 0 letters h.playable)

    end_is : total.end ≡ tune.end
    unfolding total_of tune_together
    end_is = ap (λ (x : Total). x.end) is

    short : least < total.count → outcome ≡ refused 15 header
    short few = tune_short _ header (min (length steps) (length words)) tune refl _ rows_are total.count many (omega arith)

    pub spans_short : least < total.count → refused 15 header ≡ play_answer (fitted header (min (length steps) (length words)) (tune_together (items_of voice body) spans letters))
    spans_short few = refused_answer _ 15 header (short few)

    pub spans_short_steps : least < total.count
        → steps ≡ steps_table steps (fitted header (min (length steps) (length words)) (tune_together (items_of voice body) spans letters))
    spans_short_steps few = refused_steps _ 15 header (short few) steps

    pub spans_short_words : least < total.count
        → words ≡ words_table words (fitted header (min (length steps) (length words)) (tune_together (items_of voice body) spans letters))
    spans_short_words few = refused_words _ 15 header (short few) words

    module _ (enough : total.count ≤ least) where
      pub spans_answer : (Ok (record { count = total.count; end = total.end }))
          ≡ play_answer (fitted header (min (length steps) (length words)) (tune_together (items_of voice body) spans letters))
      spans_answer = tune_answer _ header (min (length steps) (length words)) tune refl _ rows_are total.count many total.end end_is (omega arith)

      pub spans_steps : (m : List ℕ) → m ≡ sets steps 0 (steps_of (rows_together (items_of voice body) spans 0 letters))
          → m ≡ steps_table steps (fitted header (min (length steps) (length words)) (tune_together (items_of voice body) spans letters))
      spans_steps m e = tune_steps _ header (min (length steps) (length words)) tune refl _ rows_are total.count many steps m (omega arith) (omega arith) e

      pub spans_words : (m : List ℕ) → m ≡ sets words 0 (words_of (rows_together (items_of voice body) spans 0 letters))
          → m ≡ words_table words (fitted header (min (length steps) (length words)) (tune_together (items_of voice body) spans letters))
      spans_words m e = tune_words _ header (min (length steps) (length words)) tune refl _ rows_are total.count many words m (omega arith) (omega arith) e

pub ruleset spans_played =
    (spans_short_enough, spans_short, spans_short_steps, spans_short_words, spans_steps_room, spans_words_room, spans_answer, spans_steps, spans_words)
