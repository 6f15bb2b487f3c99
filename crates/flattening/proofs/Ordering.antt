-- The plain form of an order, span after span: the invariant of `write_order`'s loop, that what is still to be stored makes the whole, and
-- what each turn and the end make of it.
use Prim.Native.Nat.{ℕ, suc, ◌+◌, ◌-◌, ◌<◌, ◌≤◌}
use mathlib.Core.List.{List, [], ◌∷◌, ◌++◌, map, map-append}
use mathlib.Core.Path.{◌≡◌, refl, sym, ◌∙◌, ap, ap₂, subst}
use mir.Syntax.{w64}
use mir.Val.{Fits}
use lib.ListN.{length, get_or, drop, set, replicate, length-append, length-set, length-replicate}
use lib.Seq.{drop-cons, drop-length, get_or-set_same, get_or-set_other, sets, length-sets}
use native.Mathlib.Nat.{add-zero, zero-add}
use native.Mathlib.Omega.{arith}
use borrow.Author.Tests.{eqb-true, eqb-false}
use Rattle.std.specs.Prelude.{Option, None, Some}
use Rattle.model.specs.Words.{◌≡?◌}
use Rattle.model.specs.Bytes.{◌!◌}
use Rattle.model.specs.Item.{items_of, Item.end_mark}
use Rattle.model.specs.Play.{At}
use Rattle.model.specs.Plain.{item_bytes, bytes_of, rest, plain_after}
use Rattle.model.specs.Content.{Content, content_of, handy_phone}
use Rattle.model.specs.declared.Voice.{Voice}
use Rattle.model.specs.declared.Event.{Event}
use Rattle.model.specs.declared.Span.{Span}
use Rattle.model.specs.declared.Shape.{Shape}
use Rattle.model.proofs.Tests.{by_test}
use Rattle.model.proofs.Stores.{sets_append}
use Rattle.sections.specs.Spans.{Items, span_rows, Playable, SpanRises}
use Rattle.plain.proofs.PlainItems.{bytes_append}
use Rattle.playing.proofs.Writing.{none_known}
use Rattle.playing.specs.Performing.{span_at, AllPlayable, lasts_together, rows_together, AllRise}
use Rattle.flattening.specs.Parts.{told, part_bytes, part_last, span_shape, span_bytes, Written, WrittenWhereKnown}
use Rattle.flattening.specs.Orders.{order_bytes, shape_at, AllShaped}
use Rattle.flattening.proofs.Joining.{plain_bytes}
use Rattle.flattening.proofs.Shapes.{last_within}
use Rattle.flattening.proofs.WrittenAgain.{written_kept, span_bytes_within, span_written}

-- the first letter's messages, and what is left after them
module _ (s : List ℕ) (items : Items) (spans : List Span) (past before letter : ℕ) (letters : List ℕ) where
  abbrev span : Span
  span = span_at spans letter

  abbrev rows : List (At Event)
  rows = span_rows items span before

  pub order_first : order_bytes s items spans past before (letter ∷ letters)
      ≡ part_bytes s past rows ++ order_bytes s items spans (part_last s past rows) (before + span.lasts) letters
  unfolding order_bytes rows_together lasts_together part_bytes part_last told
  order_first =
      let later = rows_together items spans (before + span.lasts) letters in
      let tell : At Event → At Content = λ at. record { step = at.step; event = content_of s at.event } in
      let end : before + (span.lasts + lasts_together spans letters) ≡ before + span.lasts + lasts_together spans letters = omega arith in
      ap₂ (λ (messages : List (At Content)) (e : ℕ). bytes_of handy_phone (plain_after handy_phone past messages e)) (map-append tell rows later) end
      ∙ plain_bytes past (map tell rows) (map tell later) (before + span.lasts + lasts_together spans letters)

-- after the last letter: the rest and the end mark
pub order_none : (s : List ℕ) (items : Items) (spans : List Span) (past before : ℕ)
    → order_bytes s items spans past before [] ≡ bytes_of handy_phone (rest handy_phone (before - past)) ++ (0 ∷ 0 ∷ 0 ∷ 0 ∷ [])
unfolding order_bytes rows_together lasts_together told plain_after bytes_of item_bytes
order_none s items spans past before =
    ap (λ (e : ℕ). bytes_of handy_phone (rest handy_phone (e - past) ++ (end_mark ∷ []))) (add-zero before)
    ∙ bytes_append Content handy_phone (rest handy_phone (before - past)) (end_mark ∷ [])

pub order_none_length : (s : List ℕ) (items : Items) (spans : List Span) (past before : ℕ)
    → length (order_bytes s items spans past before []) ≡ length (bytes_of handy_phone (rest handy_phone (before - past))) + 4
order_none_length s items spans past before =
    ap length (order_none s items spans past before) ∙ length-append (bytes_of handy_phone (rest handy_phone (before - past))) (0 ∷ 0 ∷ 0 ∷ 0 ∷ [])

-- the letter at a position, and what is left after it
letter_next : (letters : List ℕ) (i : ℕ) → i < length letters → drop i letters ≡ letters ! i ∷ drop (i + 1) letters
letter_next letters i here = let on : suc i ≡ i + 1 = omega arith in drop-cons letters i 0 here ∙ ap (λ (n : ℕ). letters ! i ∷ drop n letters) on

module _ (s : List ℕ) (items : Items) (spans : List Span) (letters : List ℕ) (past before i : ℕ) (here : i < length letters) where
  abbrev rows_next : List (At Event)
  rows_next = span_rows items (span_at spans (letters ! i)) before

  abbrev left_then : List ℕ
  left_then = order_bytes s items spans (part_last s past rows_next) (before + (span_at spans (letters ! i)).lasts) (drop (i + 1) letters)

  order_next : order_bytes s items spans past before (drop i letters) ≡ part_bytes s past rows_next ++ left_then
  order_next =
      ap (order_bytes s items spans past before) (letter_next letters i here) ∙ order_first s items spans past before (letters ! i) (drop (i + 1) letters)

  pub order_next_length : length (order_bytes s items spans past before (drop i letters)) ≡ length (part_bytes s past rows_next) + length left_then
  order_next_length = ap length order_next ∙ length-append (part_bytes s past rows_next) left_then

module _ (voice : Voice) (s : List ℕ) (spans : List Span) (shapes : List Shape) (letters : List ℕ) where
  abbrev items : Items
  items = items_of voice s

  pub record Storing (l out : List ℕ) (places : List (Option ℕ)) (at before past i : ℕ) : Type 0 where
    pub bytes : (k : ℕ) → letters ! k < 256
    pub playable : AllPlayable (items_of voice s) (length s) spans letters
    pub rises : AllRise (items_of voice s) spans letters
    pub shaped : AllShaped s (items_of voice s) spans shapes letters
    pub slots : length places ≡ 256
    pub known : (slot : ℕ) → WrittenWhereKnown (span_bytes s (items_of voice s) (span_at spans slot)) (get_or places slot None) out at
    pub listed : length letters ≤ 65536
    pub within : i ≤ length letters
    pub early : past ≤ before
    pub late : before + lasts_together spans (drop i letters) ≤ 4611686018427387904
    pub same : length out ≡ length l
    pub room : length (order_bytes s (items_of voice s) spans 0 0 letters) ≤ length out
    pub size : at + length (order_bytes s (items_of voice s) spans past before (drop i letters)) ≡ length (order_bytes s (items_of voice s) spans 0 0 letters)
    pub whole : sets out at (order_bytes s (items_of voice s) spans past before (drop i letters)) ≡ sets l 0 (order_bytes s (items_of voice s) spans 0 0 letters)

  pub store_starts : (l : List ℕ) → ((k : ℕ) → letters ! k < 256) → AllPlayable (items_of voice s) (length s) spans letters → AllRise (items_of voice s) spans letters
      → AllShaped s (items_of voice s) spans shapes letters → length letters ≤ 65536 → lasts_together spans letters ≤ 4611686018427387904 → length (order_bytes s (items_of voice s) spans 0 0 letters) ≤ length l
      → Storing l l (replicate 256 None) 0 0 0 0
  store_starts l bytes playable rises shaped listed late room =
      record {
        bytes = bytes;
        playable = playable;
        rises = rises;
        shaped = shaped;
        slots = length-replicate {A = Option ℕ} 256 None;
        known = λ slot place is. absurd (none_known 256 slot place is);
        listed = listed;
        within = omega arith;
        early = omega arith;
        late = omega arith;
        same = refl;
        room = room;
        size = zero-add _;
        whole = refl;
      }

  module _ (l out : List ℕ) (places : List (Option ℕ)) (at before past i : ℕ) (w : Storing l out places at before past i) where
    pub store_slots : letters ! i < length places
    store_slots = omega (arith, w.bytes i, w.slots)

    pub store_known : WrittenWhereKnown (span_bytes s (items_of voice s) (span_at spans (letters ! i))) (get_or places (letters ! i) None) out at
    store_known = w.known (letters ! i)

    -- after the last letter
    module _ (over : length letters ≤ i) where
      none_left : drop i letters ≡ []
      none_left = let end : i ≡ length letters = omega (arith, w.within) in ap (λ (n : ℕ). drop n letters) end ∙ drop-length letters

      left_is : order_bytes s items spans past before (drop i letters) ≡ bytes_of handy_phone (rest handy_phone (before - past)) ++ (0 ∷ 0 ∷ 0 ∷ 0 ∷ [])
      left_is = ap (order_bytes s items spans past before) none_left ∙ order_none s items spans past before

      left_long : length (order_bytes s items spans past before (drop i letters)) ≡ length (bytes_of handy_phone (rest handy_phone (before - past))) + 4
      left_long = ap (λ (l : List ℕ). length (order_bytes s items spans past before l)) none_left ∙ order_none_length s items spans past before

      pub store_rest_room : at + length (bytes_of handy_phone (rest handy_phone (before - past))) ≤ length out
      store_rest_room = omega (arith, left_long, w.size, w.room)

      module _ (end : ℕ) (rested : end ≡ at + length (bytes_of handy_phone (rest handy_phone (before - past)))) where
        pub store_mark_room : (m : List ℕ) → length m ≡ length out → end + 4 ≤ length m
        store_mark_room m kept = omega (arith, left_long, w.size, w.room)

        pub store_size : (n : ℕ) → n ≡ end + 4 → n ≡ length (order_bytes s (items_of voice s) spans 0 0 letters)
        store_size n e = omega (arith, left_long, w.size)

        pub store_ends : (m k : List ℕ) → m ≡ sets out at (bytes_of handy_phone (rest handy_phone (before - past))) → k ≡ sets m end (0 ∷ 0 ∷ 0 ∷ 0 ∷ [])
            → k ≡ sets l 0 (order_bytes s (items_of voice s) spans 0 0 letters)
        store_ends m k p q =
            q ∙ ap₂ (λ (x : List ℕ) (n : ℕ). sets x n (0 ∷ 0 ∷ 0 ∷ 0 ∷ [])) p rested
            ∙ sets_append out at (bytes_of handy_phone (rest handy_phone (before - past))) (0 ∷ 0 ∷ 0 ∷ 0 ∷ [])
            ∙ ap (sets out at) (sym left_is) ∙ w.whole

    -- before it
    module _ (here : i < length letters) where
      abbrev span_here : Span
      span_here = span_at spans (letters ! i)

      abbrev rows_here : List (At Event)
      rows_here = span_rows (items_of voice s) (span_at spans (letters ! i)) before

      lasts_next : lasts_together spans (drop i letters) ≡ span_here.lasts + lasts_together spans (drop (i + 1) letters)
      unfolding lasts_together
      lasts_next = ap (lasts_together spans) (letter_next letters i here)

      pub store_playable : Playable (items_of voice s) (length s) (span_at spans (letters ! i))
      store_playable = w.playable i here

      pub store_shape : shape_at shapes (letters ! i) ≡ span_shape s (items_of voice s) (span_at spans (letters ! i))
      store_shape = w.shaped i here

      pub store_rises : SpanRises (items_of voice s) (span_at spans (letters ! i))
      store_rises = w.rises i here

      pub store_late : before + (span_at spans (letters ! i)).lasts ≤ 4611686018427387904
      store_late = omega (arith, w.late, lasts_next)

      pub store_room : at + length (part_bytes s past (span_rows (items_of voice s) (span_at spans (letters ! i)) before)) ≤ length out
      store_room = omega (arith, order_next_length s items spans letters past before i here, w.size, w.room)

      pub store_before_fits : Fits w64 (before + (span_at spans (letters ! i)).lasts)
      store_before_fits = record { fits = omega (arith, w.late, lasts_next) }

      module _ (told_at : ℕ) (a : told_at ≡ at + length (part_bytes s past (span_rows (items_of voice s) (span_at spans (letters ! i)) before))) where
        shape_bytes : (shape_at shapes (letters ! i)).bytes ≡ (span_shape s items span_here).bytes
        shape_bytes = ap (λ (x : Shape). x.bytes) store_shape

        pub store_bytes_low : (shape_at shapes (letters ! i)).bytes ≤ told_at
        store_bytes_low = omega (arith, shape_bytes, a, span_bytes_within s items span_here before past)

        -- where a span's bytes are known to stand, one letter on
        still_known : (slot : ℕ)
            → WrittenWhereKnown (span_bytes s items (span_at spans slot)) (get_or places slot None) (sets out at (part_bytes s past rows_here)) told_at
        still_known slot =
            written_kept (span_bytes s items (span_at spans slot)) (get_or places slot None) out at (part_bytes s past rows_here) told_at (omega (arith, a)) (w.known slot)

        abbrev place_here : ℕ
        place_here = told_at - (shape_at shapes (letters ! i)).bytes

        now_known : WrittenWhereKnown (span_bytes s items span_here) (Some place_here) (sets out at (part_bytes s past rows_here)) told_at
        now_known place is =
            let same : place_here ≡ place = cc in
            subst (λ (p : ℕ). Written (span_bytes s items span_here) p (sets out at (part_bytes s past rows_here)) told_at) same
            (rw (shape_bytes, a) (span_written s items span_here before past out at store_room))

        known_next : (slot : ℕ)
            → WrittenWhereKnown (span_bytes s items (span_at spans slot)) (get_or (set places (letters ! i) (Some place_here)) slot None)
            (sets out at (part_bytes s past rows_here)) told_at
        known_next slot =
            by_test (slot ≡? letters ! i)
            (λ t. let e = eqb-true slot (letters ! i) t in rw (e, get_or-set_same places (letters ! i) (Some place_here) None store_slots) now_known)
            (λ t. let e = eqb-false slot (letters ! i) t in rw (get_or-set_other places (letters ! i) slot (Some place_here) None e) (still_known slot))

        pub store_turns : (m : List ℕ) (told-past : ℕ)
            → told-past ≡ part_last s past (span_rows (items_of voice s) (span_at spans (letters ! i)) before)
            → m ≡ sets out at (part_bytes s past (span_rows (items_of voice s) (span_at spans (letters ! i)) before))
            → Storing l m (set places (letters ! i) (Some (told_at - (shape_at shapes (letters ! i)).bytes))) told_at (before + (span_at spans (letters ! i)).lasts) told-past (i + 1)
        store_turns m told-past p e =
            let long : length m ≡ length out = ap length e ∙ length-sets out at (part_bytes s past rows_here) in
            let later : ℕ → List ℕ = λ last. order_bytes s items spans last (before + span_here.lasts) (drop (i + 1) letters) in
            let stored : sets m told_at (later told-past) ≡ sets out at (order_bytes s items spans past before (drop i letters)) =
            ap (λ (x : ℕ). sets m told_at (later x)) p
            ∙ ap₂ (λ (x : List ℕ) (n : ℕ). sets x n (later (part_last s past rows_here))) e a
            ∙ sets_append out at (part_bytes s past rows_here) (later (part_last s past rows_here))
            ∙ ap (sets out at) (sym (order_next s items spans letters past before i here)) in
            let sized : told_at + length (later told-past) ≡ at + length (order_bytes s items spans past before (drop i letters)) =
            ap₂ (λ (n x : ℕ). n + length (later x)) a p ∙ omega (arith, order_next_length s items spans letters past before i here) in
            record {
              bytes = w.bytes;
              playable = w.playable;
              rises = w.rises;
              shaped = w.shaped;
              slots = length-set places (letters ! i) (Some place_here) ∙ w.slots;
              known = λ slot. rw e (known_next slot);
              listed = w.listed;
              within = omega arith;
              early = omega (arith, p, last_within s past before (before + span_here.lasts) rows_here w.early (w.rises i here before));
              late = omega (arith, w.late, lasts_next);
              same = long ∙ w.same;
              room = omega (arith, w.room, long);
              size = sized ∙ w.size;
              whole = stored ∙ w.whole;
            }

pub ruleset storing = (store_slots, store_known, store_rest_room, store_mark_room, store_size, store_ends, store_playable, store_shape, store_rises, store_late, store_room, store_before_fits, store_bytes_low, store_turns)
