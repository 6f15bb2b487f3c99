-- What is heard of a track and what its listing says of it: its steps are early, its words say its messages, and its rows in two tables are
-- listed as the messages themselves.
use Prim.Native.Nat.{ℕ, zero, suc, ◌+◌, ◌*◌, ◌<◌, ◌≤◌, min}
use mathlib.Core.List.{List, [], ◌∷◌, ◌++◌, map}
use mathlib.Core.Path.{◌≡◌, refl, sym, ◌∙◌, ap, ap₂, subst}
use lib.ListN.{length, drop, length-append, length-map}
use lib.Seq.{sets}
use native.Mathlib.Omega.{arith}
use borrow.Author.Tests.{ltb-false}
use Rattle.sections.specs.Spans.{Rising}
use Rattle.model.specs.Words.{◌<?◌, Checked, refused}
use Rattle.std.specs.Prelude.{Ok, Err}
use Rattle.model.specs.Bytes.{◌!◌}
use Rattle.model.specs.Play.{At, Tune}
use Rattle.model.specs.Word.{word_of, InWord}
use Rattle.model.specs.Order.{tune_in}
use Rattle.model.specs.Answer.{written_over, memory_after, play_of, play_answer, steps_table, words_table}
use Rattle.model.specs.Listing.{lines_of}
use Rattle.model.specs.ListingText.{bytes, lines_text, listing_text}
use Rattle.model.specs.declared.Event.{Event}
use Rattle.model.specs.declared.PlayAnswer.{PlayAnswer}
use Rattle.model.specs.declared.Refusal.{Refusal}
use Rattle.model.proofs.Outcomes.{then_fine, bind_fine}
use Rattle.inverse.proofs.WordBack.{word_back}
use Rattle.items.proofs.Standing.{body_stands}
use Rattle.sections.proofs.Small.{lasting_short}
use Rattle.sections.proofs.Throughout.{OfMessages, of_tune, body_in_word}
use Rattle.sections.proofs.Lengths.{tune_short}
use Rattle.model.proofs.Outcomes.{not_refused}
use Rattle.plain.proofs.NamedTracks.{Readable, named_reads}
use Rattle.playing.proofs.Theorems.{PlayMade, play_made, steps_rise}
use Rattle.lines.specs.Fields.{messages_in, rows_text, tune_text, tune_listed, play_listed, Early}
use Rattle.lines.proofs.Rowing.{pair_fields}

-- WORDS say their events
rows_say : (messages : List (At Event)) (steps words : List ℕ) → OfMessages InWord messages
    → messages_in (length messages) (map (λ at. at.step) messages ++ steps) (map (λ at. word_of at.event) messages ++ words) ≡ messages
unfolding messages_in
rows_say [] steps words all = refl
rows_say (at ∷ messages) steps words all =
    ap₂ (λ (event : Event) (rest : List (At Event)). record { step = at.step; event = event } ∷ rest) (word_back at.event all.1)
    (rows_say messages steps words all.2)

-- STEPS are not past the end
steps_early : (low high : ℕ) (messages : List (At Event)) (rest : List ℕ) → Rising low high messages
    → (i : ℕ) → i < length messages → (map (λ at. at.step) messages ++ rest) ! i ≤ high
steps_early low high [] rest rises i h = absurd (omega arith)
steps_early low high (at ∷ messages) rest rises zero h = rising_low at.step high messages rises.1
  where
    rising_low : (low high : ℕ) (messages : List (At Event)) → Rising low high messages → low ≤ high
    rising_low low high [] r = r
    rising_low low high (at ∷ messages) r = let later = rising_low at.step high messages r.1 in let here = r.0 in omega arith
steps_early low high (at ∷ messages) rest rises (suc i) h = steps_early at.step high messages rest rises.1 i (omega arith)

-- A PLAY that is accepted
module _ (buffer : List ℕ) (n row room : ℕ) (tune : Tune Event) (e : play_of buffer n row room ≡ Ok tune) where
  pub few_rows : length tune.messages ≤ room
  unfolding play_of
  few_rows =
      let a = bind_fine _ _ tune e in
      let b = then_fine _ _ tune a.2 in
      let last : Ok a.0.tune ≡ Ok tune = b.1 in
      let same : a.0.tune ≡ tune = cc in
      subst (λ (t : Tune Event). length t.messages ≤ room) same
      (ltb-false room (length a.0.tune.messages) (not_refused (room <? length a.0.tune.messages) 15 _ _ b.0))

  module _ (bytes : (k : ℕ) → buffer ! k < 256) where
    made : PlayMade buffer n row tune
    made = play_made buffer n row room tune e

    readable : Readable made.track
    readable = named_reads buffer n row made.file made.track bytes made.reads made.names

    pub early_end : tune.end ≤ 70914205024256
    early_end =
        let track = made.track in
        let stands = body_stands track.voice track.body track.items readable.reads in
        let short = lasting_short track.voice track.body readable.bytes readable.small 0 track.items stands in
        let small = readable.small in
        subst (λ (t : Tune Event). t.end ≤ 70914205024256) (sym made.is)
        (tune_short track made.sections made.orders (omega arith) readable.few)

    pub in_words : OfMessages InWord tune.messages
    unfolding tune_in
    in_words =
        let track = made.track in
        subst (λ (t : Tune Event). OfMessages InWord t.messages) (sym made.is)
        (of_tune InWord track.items (body_in_word track.voice track.body readable.bytes readable.small track.items readable.reads) made.sections)

-- THE LISTING of the rows that a play left in two tables
module _ (tune : Tune Event) (all : OfMessages InWord tune.messages) (base : ℕ) (steps words : List ℕ) where
  rows_listed : tune_text base (length tune.messages) (written_over steps (map (λ at. at.step) tune.messages))
      (written_over words (map (λ at. word_of at.event) tune.messages)) tune.end
      ≡ listing_text (Ok (tune_listed base tune))
  unfolding tune_text rows_text listing_text tune_listed written_over bytes
  rows_listed =
      let head = bytes "step ms ch kind value gate\n" in
      ap₂ (λ (messages : List (At Event)) (last : List ℕ). head ++ lines_text (lines_of base (0 ∷ 0 ∷ 0 ∷ 0 ∷ []) messages) ++ last)
      (rows_say tune.messages (drop (length (map (λ at. at.step) tune.messages)) steps) (drop (length (map (λ at. word_of at.event) tune.messages)) words) all)
      (sym (pair_fields (bytes "end") tune.end (tune.end * base)))

-- an answer says what was played
answer_fine : (o : Checked (Tune Event)) (played : PlayAnswer) → play_answer o ≡ Ok played
    → (tune : Tune Event) × (o ≡ Ok tune) × (played.count ≡ length tune.messages) × (played.end ≡ tune.end)
unfolding play_answer
answer_fine (Ok tune) played e =
    let same : ◌≡◌ {A = PlayAnswer} (record { count = length tune.messages; end = tune.end }) played = cc in
    (tune, refl, sym (ap (λ (p : PlayAnswer). p.count) same), sym (ap (λ (p : PlayAnswer). p.end) same))
answer_fine (Err why) played e = let z : ◌≡◌ {A = ℕ} 0 1 = cc in absurd (omega arith)

answer_refused : (o : Checked (Tune Event)) (why : Refusal) → play_answer o ≡ Err why → o ≡ Err why
unfolding play_answer
answer_refused (Ok tune) why e = let z : ◌≡◌ {A = ℕ} 0 1 = cc in absurd (omega arith)
answer_refused (Err told) why e = cc

module _ (input : List ℕ) (row base : ℕ) (steps₀ words₀ : List ℕ) where
  abbrev outcome : Checked (Tune Event)
  outcome = play_of input (length input) row (min (length steps₀) (length words₀))

  module _ (a : Checked PlayAnswer) (is : a ≡ play_answer (play_of input (length input) row (min (length steps₀) (length words₀)))) where
    module _ (why : Refusal) (e : a ≡ Err why) where
      listed_refused : listing_text (Err why) ≡ listing_text (play_listed base outcome)
      unfolding play_listed
      listed_refused = ap (λ (o : Checked (Tune Event)). listing_text (play_listed base o)) (sym (answer_refused outcome why (sym is ∙ e)))

      pub refused_next : (r : ℕ) → r ≡ length (listing_text (Err why))
          → r ≡ length (listing_text (play_listed base (play_of input (length input) row (min (length steps₀) (length words₀)))))
      refused_next r h = h ∙ ap length listed_refused

      pub refused_written : (l m : List ℕ) → m ≡ sets l 0 (listing_text (Err why))
          → m ≡ sets l 0 (listing_text (play_listed base (play_of input (length input) row (min (length steps₀) (length words₀)))))
      refused_written l m h = h ∙ ap (sets l 0) listed_refused

    module _ (played : PlayAnswer) (e : a ≡ Ok played) where
      told : (tune : Tune Event) × (outcome ≡ Ok tune) × (played.count ≡ length tune.messages) × (played.end ≡ tune.end)
      told = answer_fine outcome played (sym is ∙ e)

      few : played.count ≤ min (length steps₀) (length words₀)
      few = let t = told in omega (arith, t.2, few_rows input (length input) row _ t.0 t.1)

      pub played_room : (most : ℕ) → length steps₀ ≤ 4096 → 500000 ≤ most → 73 + 118 * played.count ≤ most
      played_room most h k = omega (arith, few)

      pub played_short : (r : ℕ) → length steps₀ ≤ 4096 → r ≤ 73 + 118 * played.count → r ≤ 500000
      played_short r h k = omega (arith, few)

      module _ (steps words : List ℕ) (s : steps ≡ steps_table steps₀ (play_of input (length input) row (min (length steps₀) (length words₀))))
          (w : words ≡ words_table words₀ (play_of input (length input) row (min (length steps₀) (length words₀)))) where
        steps_are : steps ≡ written_over steps₀ (map (λ at. at.step) told.0.messages)
        unfolding steps_table memory_after
        steps_are = s ∙ ap (steps_table steps₀) told.1

        words_are : words ≡ written_over words₀ (map (λ at. word_of at.event) told.0.messages)
        unfolding words_table memory_after
        words_are = w ∙ ap (words_table words₀) told.1

        pub played_steps : played.count ≤ length steps
        unfolding written_over
        played_steps =
            let front = map (λ at. at.step) told.0.messages in
            omega (arith, told.2, ap length steps_are, length-append front (drop (length front) steps₀), length-map told.0.messages (λ at. at.step))

        pub played_words : played.count ≤ length words
        unfolding written_over
        played_words =
            let front = map (λ at. word_of at.event) told.0.messages in
            omega (arith, told.2, ap length words_are, length-append front (drop (length front) words₀), length-map told.0.messages (λ at. word_of at.event))

        module _ (bytes : (k : ℕ) → input ! k < 256) where
          pub played_end : played.end ≤ 368934881474191032
          played_end = let t = told in omega (arith, t.3, early_end input (length input) row _ t.0 t.1 bytes)

          pub played_early : Early played.count steps
          unfolding written_over
          played_early i h =
              let t = told in
              let rises = steps_rise input (length input) row _ t.0 t.1 in
              let last = early_end input (length input) row _ t.0 t.1 bytes in
              let step = steps_early 0 t.0.end t.0.messages (drop (length (map (λ at. at.step) t.0.messages)) steps₀) rises i (omega (arith, t.2)) in
              omega (arith, ap (λ (l : List ℕ). l ! i) steps_are)

          played_text : tune_text base played.count steps words played.end ≡ listing_text (play_listed base outcome)
          unfolding play_listed
          played_text =
              let t = told in
              ap₂ (λ (n last : ℕ). tune_text base n steps words last) t.2 t.3
              ∙ ap₂ (λ (x y : List ℕ). tune_text base (length t.0.messages) x y t.0.end) steps_are words_are
              ∙ rows_listed t.0 (in_words input (length input) row _ t.0 t.1 bytes) base steps₀ words₀
              ∙ ap (λ (o : Checked (Tune Event)). listing_text (play_listed base o)) (sym t.1)

          pub played_next : (r : ℕ) → r ≡ length (tune_text base played.count steps words played.end)
              → r ≡ length (listing_text (play_listed base (play_of input (length input) row (min (length steps₀) (length words₀)))))
          played_next r h = h ∙ ap length played_text

          pub played_written : (l m : List ℕ) → m ≡ sets l 0 (tune_text base played.count steps words played.end)
              → m ≡ sets l 0 (listing_text (play_listed base (play_of input (length input) row (min (length steps₀) (length words₀)))))
          played_written l m h = h ∙ ap (sets l 0) played_text

pub ruleset unheard = (refused_next, refused_written)

pub ruleset heard = (played_room, played_short, played_steps, played_words, played_end, played_early, played_next, played_written)
