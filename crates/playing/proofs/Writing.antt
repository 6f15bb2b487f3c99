-- THE ROWS of an order list, one section after the other: the invariant of `write_letters`'s loop, that what is still to be stored makes the
-- whole, and what each turn and the end make of it.
use Prim.Native.Nat.{ℕ, zero, suc, ◌+◌, ◌<◌, ◌≤◌}
use mathlib.Core.Bool.{true}
use mathlib.Core.List.{List, [], ◌∷◌, ◌++◌, map, map-append}
use mathlib.Core.Path.{◌≡◌, refl, sym, ◌∙◌, ap, subst}
use mir.Syntax.{w64}
use mir.Val.{Fits}
use lib.ListN.{length, get_or, set, drop, replicate, length-map, length-set, length-replicate}
use lib.Seq.{drop-cons, drop-length, get_or-set_same, get_or-set_other, sets, length-sets}
use native.Mathlib.Omega.{arith}
use borrow.Author.Tests.{eqb-true, eqb-false}
use Rattle.std.specs.Prelude.{Option, None, Some}
use Rattle.model.specs.Words.{◌≡?◌}
use Rattle.model.specs.Bytes.{◌!◌}
use Rattle.model.specs.Item.{body_of, is_fine, items_of}
use Rattle.model.specs.Play.{At}
use Rattle.model.specs.Word.{word_of}
use Rattle.model.specs.declared.Voice.{Voice}
use Rattle.model.specs.declared.Event.{Event}
use Rattle.model.specs.declared.Span.{Span}
use Rattle.sections.specs.declared.Standing.{Standing}
use Rattle.sections.specs.Spans.{span_rows, steps_of, words_of, Playable}
use Rattle.sections.specs.Again.{standing_at, Stored, StoredWhereKnown}
use Rattle.model.proofs.Tests.{by_test}
use Rattle.model.proofs.Stores.{sets_append}
use Rattle.sections.proofs.Stretches.{span_counts}
use Rattle.sections.proofs.PlayedAgain.{stored_kept, stored_new}
use Rattle.playing.specs.Performing.{span_at, AllPlayable, AllRise, messages_together, lasts_together, rows_together}

-- a playable span has as many rows as it says
pub rows_many : (voice : Voice) (s : List ℕ) (before : ℕ) (span : Span) → is_fine (body_of voice s) ≡ true → Playable (items_of voice s) (length s) span
    → length (span_rows (items_of voice s) span before) ≡ span.messages
rows_many voice s before span reads playable =
    subst (λ (x : Span). length (span_rows (items_of voice s) x before) ≡ x.messages) (sym playable.is) (span_counts voice s reads playable.section before)

-- a table that is filled with its default, and so with nothing known
replicate_default : {A : Type 0} (n slot : ℕ) (value : A) → get_or (replicate n value) slot value ≡ value
replicate_default zero slot value = refl
replicate_default (suc n) zero value = refl
replicate_default (suc n) (suc slot) value = replicate_default n slot value

pub none_known : {A : Type 0} (n slot : ℕ) (value : A) → get_or (replicate n None) slot None ≡ Some value → ⊥
none_known {A} n slot value is =
    let none : ◌≡◌ {A = Option A} None (Some value) = sym (replicate_default n slot None) ∙ is in
    let z : ◌≡◌ {A = ℕ} 0 1 = cc in
    omega arith

-- a column of rows is stored in two parts
column_stored : (column : At Event → ℕ) (l m : List ℕ) (at many : ℕ) (first second : List (At Event)) → m ≡ sets l at (map column first) → length first ≡ many
    → sets m (at + many) (map column second) ≡ sets l at (map column (first ++ second))
column_stored column l m at many first second e long =
    let place : at + many ≡ at + length (map column first) = omega (arith, long, length-map first column) in
    ap (λ (x : List ℕ). sets x (at + many) (map column second)) e
    ∙ ap (λ (n : ℕ). sets (sets l at (map column first)) n (map column second)) place
    ∙ sets_append l at (map column first) (map column second)
    ∙ ap (sets l at) (sym (map-append column first second))

module _ (voice : Voice) (s : List ℕ) (spans : List Span) (letters : List ℕ) where
  pub record Writing (l m out outs : List ℕ) (standings : List (Option Standing)) (at before i : ℕ) : Type 0 where
    pub bytes : (k : ℕ) → letters ! k < 256
    pub reads : is_fine (body_of voice s) ≡ true
    pub playable : AllPlayable (items_of voice s) (length s) spans letters
    pub rises : AllRise (items_of voice s) spans letters
    pub slots : length standings ≡ 256
    pub known : (slot : ℕ) → StoredWhereKnown (items_of voice s) (span_at spans slot) (get_or standings slot None) out outs at before
    pub listed : length letters ≤ 65536
    pub within : i ≤ length letters
    pub fits : at + messages_together spans (drop i letters) < 18446744073709551616
    pub early : before + lasts_together spans (drop i letters) ≤ 4611686018427387904
    pub same_steps : length out ≡ length l
    pub same_words : length outs ≡ length m
    pub room_steps : at + messages_together spans (drop i letters) ≤ length out
    pub room_words : at + messages_together spans (drop i letters) ≤ length outs
    pub steps : sets out at (steps_of (rows_together (items_of voice s) spans before (drop i letters)))
        ≡ sets l 0 (steps_of (rows_together (items_of voice s) spans 0 letters))
    pub words : sets outs at (words_of (rows_together (items_of voice s) spans before (drop i letters)))
        ≡ sets m 0 (words_of (rows_together (items_of voice s) spans 0 letters))

  pub write_starts : (l m : List ℕ) → ((k : ℕ) → letters ! k < 256) → is_fine (body_of voice s) ≡ true
      → AllPlayable (items_of voice s) (length s) spans letters → AllRise (items_of voice s) spans letters
      → length letters ≤ 65536 → lasts_together spans letters ≤ 4611686018427387904 → messages_together spans letters ≤ length l
      → messages_together spans letters ≤ length m → length l < 18446744073709551616 → Writing l m l m (replicate 256 None) 0 0 0
  write_starts l m bytes reads playable rises listed early room rooms fits =
      record {
        bytes = bytes;
        reads = reads;
        playable = playable;
        rises = rises;
        slots = length-replicate {A = Option Standing} 256 None;
        known = λ slot standing is. absurd (none_known 256 slot standing is);
        listed = listed;
        within = omega arith;
        fits = omega arith;
        early = omega arith;
        same_steps = refl;
        same_words = refl;
        room_steps = omega arith;
        room_words = omega arith;
        steps = refl;
        words = refl;
      }

  module _ (l m out outs : List ℕ) (standings : List (Option Standing)) (at before i : ℕ) (w : Writing l m out outs standings at before i) where
    -- nothing is left to be stored
    none_left : length letters ≤ i → drop i letters ≡ []
    none_left past = let end : i ≡ length letters = omega (arith, w.within) in ap (λ (n : ℕ). drop n letters) end ∙ drop-length letters

    pub write_steps : length letters ≤ i → out ≡ sets l 0 (steps_of (rows_together (items_of voice s) spans 0 letters))
    unfolding rows_together steps_of
    write_steps past = ap (λ (x : List ℕ). sets out at (steps_of (rows_together (items_of voice s) spans before x))) (sym (none_left past)) ∙ w.steps

    pub write_words : length letters ≤ i → outs ≡ sets m 0 (words_of (rows_together (items_of voice s) spans 0 letters))
    unfolding rows_together words_of
    write_words past = ap (λ (x : List ℕ). sets outs at (words_of (rows_together (items_of voice s) spans before x))) (sym (none_left past)) ∙ w.words

    module _ (here : i < length letters) where
      -- the span of the letter at hand
      abbrev span : Span
      span = span_at spans (letters ! i)

      next : drop i letters ≡ letters ! i ∷ drop (i + 1) letters
      next = let on : suc i ≡ i + 1 = omega arith in drop-cons letters i 0 here ∙ ap (λ (n : ℕ). letters ! i ∷ drop n letters) on

      messages_next : messages_together spans (drop i letters) ≡ span.messages + messages_together spans (drop (i + 1) letters)
      unfolding messages_together
      messages_next = ap (messages_together spans) next

      lasts_next : lasts_together spans (drop i letters) ≡ span.lasts + lasts_together spans (drop (i + 1) letters)
      unfolding lasts_together
      lasts_next = ap (lasts_together spans) next

      pub write_playable : Playable (items_of voice s) (length s) (span_at spans (letters ! i))
      write_playable = w.playable i here

      pub write_early : before + (span_at spans (letters ! i)).lasts ≤ 4611686018427387904
      write_early = omega (arith, w.early, lasts_next)

      pub write_known : StoredWhereKnown (items_of voice s) (span_at spans (letters ! i)) (get_or standings (letters ! i) None) out outs at before
      write_known = w.known (letters ! i)

      pub write_room_steps : at + (span_at spans (letters ! i)).messages ≤ length out
      write_room_steps = omega (arith, w.room_steps, messages_next)

      pub write_room_words : at + (span_at spans (letters ! i)).messages ≤ length outs
      write_room_words = omega (arith, w.room_words, messages_next)

      pub write_at_fits : Fits w64 (at + (span_at spans (letters ! i)).messages)
      write_at_fits = record { fits = omega (arith, w.fits, messages_next) }

      pub write_before_fits : Fits w64 (before + (span_at spans (letters ! i)).lasts)
      write_before_fits = record { fits = omega (arith, w.early, lasts_next) }

      abbrev here_rows : List (At Event)
      here_rows = span_rows (items_of voice s) span before

      abbrev later_rows : List (At Event)
      later_rows = rows_together (items_of voice s) spans (before + span.lasts) (drop (i + 1) letters)

      abbrev at_next : ℕ
      at_next = at + span.messages

      abbrev before_next : ℕ
      before_next = before + span.lasts

      abbrev steps_next : List ℕ
      steps_next = sets out at (steps_of here_rows)

      abbrev words_next : List ℕ
      words_next = sets outs at (words_of here_rows)

      -- what is known of where a span's rows stand, one letter on
      still_known : (slot : ℕ) → StoredWhereKnown (items_of voice s) (span_at spans slot) (get_or standings slot None) steps_next words_next at_next before_next
      still_known slot =
          stored_kept (items_of voice s) (span_at spans slot) out outs at before (get_or standings slot None) (steps_of here_rows) (words_of here_rows)
          at_next before_next (omega arith) (omega arith) (w.known slot)

      now_known : StoredWhereKnown (items_of voice s) span (Some (standing_at at before)) steps_next words_next at_next before_next
      now_known standing is =
          let same : ◌≡◌ {A = Standing} (standing_at at before) standing = cc in
          subst (λ (x : Standing). Stored (items_of voice s) span x steps_next words_next at_next before_next) same
          (stored_new (items_of voice s) span out outs at before (rows_many voice s before span w.reads write_playable) write_room_steps write_room_words
          (w.rises i here before))

      known_next : (slot : ℕ)
          → StoredWhereKnown (items_of voice s) (span_at spans slot) (get_or (set standings (letters ! i) (Some (standing_at at before))) slot None) steps_next words_next at_next before_next
      known_next slot =
          by_test (slot ≡? letters ! i)
          (λ t. let e = eqb-true slot (letters ! i) t in
          rw (e, get_or-set_same standings (letters ! i) (Some (standing_at at before)) None (omega (arith, w.slots, w.bytes i))) now_known)
          (λ t. let e = eqb-false slot (letters ! i) t in rw (get_or-set_other standings (letters ! i) slot (Some (standing_at at before)) None e) (still_known slot))

      rows_next : rows_together (items_of voice s) spans before (drop i letters) ≡ here_rows ++ later_rows
      unfolding rows_together
      rows_next = ap (rows_together (items_of voice s) spans before) next

      pub write_turns : (m₁ m₂ : List ℕ) → m₁ ≡ sets out at (steps_of (span_rows (items_of voice s) (span_at spans (letters ! i)) before))
          → m₂ ≡ sets outs at (words_of (span_rows (items_of voice s) (span_at spans (letters ! i)) before))
          → Writing l m m₁ m₂ (set standings (letters ! i) (Some (standing_at at before))) (at + (span_at spans (letters ! i)).messages) (before + (span_at spans (letters ! i)).lasts) (i + 1)
      unfolding steps_of words_of
      write_turns m₁ m₂ p q =
          let many = rows_many voice s before span w.reads write_playable in
          let long₁ : length m₁ ≡ length out = ap length p ∙ length-sets out at (steps_of here_rows) in
          let long₂ : length m₂ ≡ length outs = ap length q ∙ length-sets outs at (words_of here_rows) in
          record {
            bytes = w.bytes;
            reads = w.reads;
            playable = w.playable;
            rises = w.rises;
            slots = length-set standings (letters ! i) (Some (standing_at at before)) ∙ w.slots;
            known = λ slot. rw (p, q) (known_next slot);
            listed = w.listed;
            within = omega arith;
            fits = omega (arith, w.fits, messages_next);
            early = omega (arith, w.early, lasts_next);
            same_steps = long₁ ∙ w.same_steps;
            same_words = long₂ ∙ w.same_words;
            room_steps = omega (arith, w.room_steps, messages_next, long₁);
            room_words = omega (arith, w.room_words, messages_next, long₂);
            steps =
                column_stored (λ row. row.step) out m₁ at span.messages here_rows later_rows p many
                ∙ ap (λ (rows : List (At Event)). sets out at (steps_of rows)) (sym rows_next)
                ∙ w.steps;
            words =
                column_stored (λ row. word_of row.event) outs m₂ at span.messages here_rows later_rows q many
                ∙ ap (λ (rows : List (At Event)). sets outs at (words_of rows)) (sym rows_next)
                ∙ w.words;
          }

pub ruleset writing = (write_steps, write_words, write_playable, write_early, write_known, write_room_steps, write_room_words, write_at_fits, write_before_fits, write_turns)
