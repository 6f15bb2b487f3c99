-- FLATTENED FROM ITS BODIES: what a track's order writes is the plain form of what the track plays, 17 where there is no order. For phrases
-- by the spans of the letters up to where playing stops, for a stream by its one span.
use Prim.Native.Nat.{ℕ, ◌+◌, ◌<◌, ◌≤◌}
use mathlib.Core.Bool.{true, false}
use mathlib.Core.List.{List, [], ◌∷◌, ◌++◌, map}
use Rattle.std.specs.Prelude.{None, Some}
use mathlib.Core.Path.{◌≡◌, refl, sym, ◌∙◌, ap, ap₂, subst}
use lib.ListN.{length, take, replicate}
use native.Mathlib.Nat.{zero-add}
use native.Mathlib.Omega.{arith}
use Rattle.model.specs.Words.{sum, ◌otherwise◌, Checked, refused}
use Rattle.model.specs.Bytes.{◌!◌}
use Rattle.model.specs.Item.{items_of}
use Rattle.model.specs.Seek.{start_point, stop_point}
use Rattle.model.specs.Play.{At, Section, Tune, played_from, all_played, tune_of, retold}
use Rattle.model.specs.Word.{is_message}
use Rattle.model.specs.Order.{stream_section, order_of}
use Rattle.model.specs.Plain.{bytes_of, plain_after, plain_items, plain_form}
use Rattle.model.specs.Content.{handy_phone}
use Rattle.model.specs.Answer.{flatten_answer, flatten_room}
use Rattle.model.specs.declared.Voice.{Voice}
use Rattle.model.specs.declared.Event.{Event}
use Rattle.model.specs.declared.Span.{Span}
use Rattle.model.specs.declared.FoundSpans.{FoundSpans}
use Rattle.sections.specs.Spans.{Items, span_of, span_rows, Playable, Small, SpanRises}
use Rattle.sections.proofs.Stretches.{span_sounds}
use Rattle.sections.proofs.Tunes.{stream_section_rises}
use Rattle.sections.proofs.WholeStream.{played_alone}
use Rattle.playing.specs.Performing.{entries_said, Ready, span_at, letter_section, Spanned, AllPlayable, AllShort, AllRise, lasts_together, rows_together, tune_together, Heard, Found}
use Rattle.playing.proofs.Bounded.{span_rises}
use Rattle.playing.proofs.Together.{together_is}
use Rattle.flattening.specs.Parts.{told}
use Rattle.flattening.specs.Orders.{order_bytes, fitted}
use Rattle.flattening.specs.Flattening.{sections_plain, flattened, bodies_flattened}
use Rattle.flattening.proofs.Flattened.{refused_answer, refused_room}

-- what is written of spans that play what sections play is the plain form of the sections
order_plain : (body : List ℕ) (items : Items) (spans : List Span) (letters : List ℕ) (sections : List Section)
    → tune_together items spans letters ≡ tune_of is_message items sections → order_bytes body items spans 0 0 letters ≡ sections_plain body items sections
unfolding order_bytes told sections_plain plain_form plain_items retold tune_together
order_plain body items spans letters sections plays =
    ap (λ (end : ℕ). bytes_of handy_phone (plain_after handy_phone 0 (told body (rows_together items spans 0 letters)) end)) (zero-add _)
    ∙ ap (λ (tune : Tune Event). bytes_of handy_phone (plain_after handy_phone 0 (told body tune.messages) tune.end)) plays

module _ (voice : Voice) (header : ℕ) (body seek room : List ℕ) where
  abbrev items : Items
  items = items_of voice body

  -- no order list
  module _ (none_there : order_of true (items_of voice body) (entries_said true seek) ≡ None) where
    no_order : bodies_flattened voice true header (length room) body seek ≡ refused 17 header
    unfolding bodies_flattened flattened
    no_order = rw none_there

    pub unordered_answer : refused 17 header ≡ flatten_answer (bodies_flattened voice true header (length room) body seek)
    unordered_answer = refused_answer _ 17 header no_order

    pub unordered_room : room ≡ flatten_room room (bodies_flattened voice true header (length room) body seek)
    unordered_room = refused_room _ 17 header no_order room

  -- PHRASES, by the spans of the letters up to where playing stops
  module _ (ready : Ready voice true body seek) (letters : List ℕ) (found : FoundSpans)
      (finds : Found (items_of voice body) (length body) (entries_said true seek) letters found) where
    pub phrases_within : found.letters ≤ length letters
    phrases_within = finds.within

    module _ (front : List ℕ) (are : front ≡ take found.letters letters) where
      heard : Heard items (length body) found.spans front
      heard = subst (Heard items (length body) found.spans) (sym are) finds.heard

      pub phrases_few : length front ≤ 65536
      phrases_few = heard.listed

      pub phrases_playable : AllPlayable (items_of voice body) (length body) found.spans front
      phrases_playable = heard.playable

      pub phrases_short : AllShort found.spans front
      phrases_short = heard.short

      pub phrases_rise : AllRise (items_of voice body) found.spans front
      phrases_rise = heard.rise

      module _ (order : order_of true (items_of voice body) (entries_said true seek) ≡ Some (map (letter_section (items_of voice body) (entries_said true seek)) letters)) where
        phrases_are : fitted header (length room) (order_bytes body items found.spans 0 0 front) ≡ bodies_flattened voice true header (length room) body seek
        unfolding bodies_flattened flattened
        phrases_are =
            ap (fitted header (length room))
            (order_plain body items found.spans front (map (letter_section items (entries_said true seek)) letters)
            (together_is voice body ready.reads (entries_said true seek) found.spans letters front (are ∙ finds.are)
            (subst (Spanned items (length body) (entries_said true seek) found.spans) (sym are) finds.spanned)))
            ∙ sym (rw order refl)

        pub phrases_answer : (r : Checked ℕ)
            → r ≡ flatten_answer (fitted header (length room) (order_bytes body (items_of voice body) found.spans 0 0 front))
            → r ≡ flatten_answer (bodies_flattened voice true header (length room) body seek)
        phrases_answer r e = e ∙ ap flatten_answer phrases_are

        pub phrases_room : (m : List ℕ)
            → m ≡ flatten_room room (fitted header (length room) (order_bytes body (items_of voice body) found.spans 0 0 front))
            → m ≡ flatten_room room (bodies_flattened voice true header (length room) body seek)
        phrases_room m e = e ∙ ap (flatten_room room) phrases_are

  -- A STREAM, by its one span
  module _ (ready : Ready voice false body seek) (span : Span)
      (is : span ≡ span_of (items_of voice body) (length body)
      (stream_section (items_of voice body) (start_point (entries_said false seek) otherwise 0) (stop_point (entries_said false seek)))) where
    abbrev section : Section
    section = stream_section items (start_point (entries_said false seek) otherwise 0) (stop_point (entries_said false seek))

    one_letter : (P : ℕ → Type 0) → P 0 → (i : ℕ) → i < length {A = ℕ} (replicate 1 0) → P (replicate 1 0 ! i)
    one_letter P p i h = let first : i ≡ 0 = omega arith in rw first p

    pub stream_playable : AllPlayable (items_of voice body) (length body) (replicate 256 span) (replicate 1 0)
    stream_playable = one_letter (λ letter. Playable items (length body) (span_at (replicate 256 span) letter)) (record { section = section; is = is })

    pub stream_short : length body ≤ 65536 → Small (length body) span → AllShort (replicate 256 span) (replicate 1 0)
    stream_short small bound = one_letter (λ letter. (span_at (replicate 256 span) letter).lasts ≤ 1082064896) (let h = bound.short in omega arith)

    pub stream_rise : AllRise (items_of voice body) (replicate 256 span) (replicate 1 0)
    stream_rise =
        one_letter
        (λ letter. SpanRises items (span_at (replicate 256 span) letter))
        (span_rises voice body ready.reads section (stream_section_rises items (start_point (entries_said false seek) otherwise 0) (stop_point (entries_said false seek))) span is)

    -- one letter plays what the section does
    stream_tune : tune_together items (replicate 256 span) (replicate 1 0) ≡ tune_of is_message items (section ∷ [])
    unfolding tune_together rows_together lasts_together all_played played_from sum span_of
    stream_tune =
        ap₂ (λ (messages : List (At Event)) (end : ℕ). record { messages = messages ++ []; end = end + 0 })
        (ap (λ (one : Span). span_rows items one 0) is ∙ span_sounds voice body ready.reads section 0) (ap (λ (one : Span). one.lasts) is)
        ∙ sym (played_alone items section)

    stream_are : fitted header (length room) (order_bytes body items (replicate 256 span) 0 0 (replicate 1 0)) ≡ bodies_flattened voice false header (length room) body seek
    unfolding bodies_flattened flattened order_of
    stream_are = ap (fitted header (length room)) (order_plain body items (replicate 256 span) (replicate 1 0) (section ∷ []) stream_tune)

    pub stream_answer : (r : Checked ℕ)
        → r ≡ flatten_answer (fitted header (length room) (order_bytes body (items_of voice body) (replicate 256 span) 0 0 (replicate 1 0)))
        → r ≡ flatten_answer (bodies_flattened voice false header (length room) body seek)
    stream_answer r e = e ∙ ap flatten_answer stream_are

    pub stream_room : (m : List ℕ)
        → m ≡ flatten_room room (fitted header (length room) (order_bytes body (items_of voice body) (replicate 256 span) 0 0 (replicate 1 0)))
        → m ≡ flatten_room room (bodies_flattened voice false header (length room) body seek)
    stream_room m e = e ∙ ap (flatten_room room) stream_are

pub ruleset track_flattened = (unordered_answer, unordered_room, phrases_within, phrases_few, phrases_playable, phrases_short, phrases_rise, phrases_answer, phrases_room, stream_playable, stream_short, stream_rise, stream_answer, stream_room)
