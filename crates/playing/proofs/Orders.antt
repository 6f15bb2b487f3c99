-- The order list of a track with phrases: where its letters stand in the seek body, which of them are played, and that each has a phrase.
use Prim.Native.Nat.{ℕ, zero, suc, ◌+◌, ◌-◌, ◌<◌, ◌≤◌}
use mathlib.Core.Path.{◌≡◌, refl, sym, ◌∙◌, ap, ap₂, subst}
use mathlib.Core.Bool.{true, false, not, false≢true}
use mathlib.Core.List.{List, [], ◌∷◌, map}
use Rattle.std.specs.Prelude.{Option, None, Some}
use lib.ListN.{length, take, drop, length-take, length-drop}
use lib.Seq.{take-nil, take-take, drop-drop}
use native.Mathlib.Nat.{sub-zero}
use native.Mathlib.Omega.{arith}
use borrow.Author.Tests.{ltb-false, eqb-false, not-true, not-false}
use Rattle.model.specs.Words.{◌≡?◌, is_some, ◌otherwise◌, first_said, Placed, passed}
use Rattle.model.specs.Bytes.{◌!◌, part}
use Rattle.model.specs.Item.{Item, is_fine, items_of}
use Rattle.model.specs.Seek.{Entry, seek_of, start_point, stop_point, phrase_of, order_list, order_place, points_said}
use Rattle.model.specs.Points.{is_address, points_hold, is_position, letters_named, order_holds}
use Rattle.model.specs.Order.{phrase_section, letters_played, phrase_order, order_of}
use Rattle.model.specs.Track.{point_width, points_of}
use Rattle.model.specs.declared.Voice.{Voice}
use Rattle.model.specs.declared.Event.{Event}
use Rattle.model.specs.declared.Points.{Points}
use Rattle.model.proofs.Parts.{part_at}
use Rattle.model.proofs.Tests.{by_test, if_true, if_false}
use Rattle.seek.proofs.Standing.{all_entries}
use Rattle.seek.proofs.Naming.{Ordered, ordered}
use Rattle.playing.specs.Performing.{entries_said, Ready, last_position, Listed, letter_section, Named}
use Rattle.playing.proofs.Said.{both_pass}
use Rattle.playing.proofs.Streams.{start_holds, stop_holds, said_or, some_said, none_said}

-- every letter of a list that passed its rule has a phrase
named_all : (entries : List (Placed Entry)) (at : ℕ) (letters : List ℕ) → letters_named entries at letters ≡ passed → Named entries letters
unfolding letters_named
named_all entries at [] h i k = absurd (omega arith)
named_all entries at (letter ∷ letters) h zero k =
    by_test (is_some (phrase_of letter entries)) (λ t. t) (λ t. let q = sym (if_false _ _ _ t) ∙ h in let z : ◌≡◌ {A = ℕ} 0 1 = cc in absurd (omega arith))
named_all entries at (letter ∷ letters) h (suc i) k =
    by_test (is_some (phrase_of letter entries))
    (λ t. named_all entries (at + 1) letters (sym (if_true _ _ _ t) ∙ h) i (omega arith))
    (λ t. let q = sym (if_false _ _ _ t) ∙ h in let z : ◌≡◌ {A = ℕ} 0 1 = cc in absurd (omega arith))

-- a part of a part
drop_of_take : (a n : ℕ) (l : List ℕ) → drop a (take n l) ≡ take (n - a) (drop a l)
drop_of_take zero n l = ap (λ (k : ℕ). take k l) (sym (sub-zero n))
drop_of_take (suc a) zero l = let none_left : 0 ≡ 0 - suc a = omega arith in ap (λ (k : ℕ). take k (drop (suc a) l)) none_left
drop_of_take (suc a) (suc n) [] = sym (take-nil (suc n - suc a))
drop_of_take (suc a) (suc n) (x ∷ l) = let same : n - a ≡ suc n - suc a = omega arith in drop_of_take a n l ∙ ap (λ (k : ℕ). take k (drop a l)) same

pub part_of_part : (s : List ℕ) (place many from size : ℕ) → from + size ≤ many → part (part s place many) from size ≡ part s (place + from) size
part_of_part s place many from size h =
    ap (take size) (drop_of_take from many (drop place s)) ∙ take-take size (many - from) (drop from (drop place s)) (omega arith)
    ∙ ap (take size) (drop-drop from place s)

some_list : (o : Option (List ℕ)) → is_some o ≡ true → o ≡ Some (o otherwise [])
unfolding is_some ◌otherwise◌
some_list None h = absurd (false≢true h)
some_list (Some l) h = refl

no_list : (o : Option (List ℕ)) → is_some o ≡ false → o ≡ None
unfolding is_some
no_list None h = refl
no_list (Some l) h = absurd (false≢true (sym h))

module _ (voice : Voice) (body seek : List ℕ) (ready : Ready voice true body seek) (points : Points) (said : points ≡ points_said (entries_said true seek)) where
  abbrev items : List (Placed (Item Event))
  items = items_of voice body

  abbrev entries : List (Placed Entry)
  entries = entries_said true seek

  has_list_lem : points.ordered ≡ is_some (order_list entries)
  unfolding points_said
  has_list_lem = ap (λ (p : Points). p.ordered) said

  -- without an order list there is no order
  pub unordered : not points.ordered ≡ true → order_of true (items_of voice body) (entries_said true seek) ≡ None
  unfolding order_of phrase_order
  unordered h = rw (no_list (order_list entries) (sym has_list_lem ∙ not-true _ h))

  module _ (flag : not points.ordered ≡ false) where
    has : points.ordered ≡ true
    has = not-false _ flag

    abbrev list : List ℕ
    list = order_list entries otherwise []

    listed : order_list entries ≡ Some list
    listed = some_list (order_list entries) (sym has_list_lem ∙ has)

    some_bytes : (length seek ≡? 0) ≡ false
    unfolding entries_said order_list first_said is_some
    some_bytes =
        by_test (length seek ≡? 0)
        (λ h.
        let nothing : entries_said true seek ≡ [] = if_true _ _ _ h in
        let q : is_some (order_list entries) ≡ false = ap (λ (e : List (Placed Entry)). is_some (order_list e)) nothing in
        absurd (false≢true (sym q ∙ sym has_list_lem ∙ has)))
        (λ h. h)

    entries_all : entries_said true seek ≡ all_entries true seek
    unfolding entries_said
    entries_all = if_false _ _ _ some_bytes

    formed : is_fine (seek_of (point_width true) seek) ≡ true
    formed = let other = eqb-false (length seek) 0 some_bytes in ready.formed (omega arith)

    stands : Ordered seek (all_entries true seek) (all_entries true seek)
    stands = ordered true seek formed points (said ∙ ap points_said entries_all)

    list_stands : Ordered seek entries entries
    list_stands = subst (λ (e : List (Placed Entry)). Ordered seek e e) (sym entries_all) stands

    placed_at : points.order ≡ (order_place entries otherwise 0)
    unfolding points_said
    placed_at = ap (λ (p : Points). p.order) said

    many : points.letters ≡ length list
    unfolding points_said
    many = ap (λ (p : Points). p.letters) said

    rules : (points_hold (is_address items (length body)) (is_position entries) entries ≡ passed) × (order_holds entries ≡ passed)
    unfolding points_of
    rules = both_pass _ _ ready.holds

    all_named : Named entries list
    unfolding order_holds
    all_named = named_all entries (order_place entries otherwise 0) list (sym list_stands.is ∙ rules.1)

    position : (value : ℕ) → is_position entries value ≡ true → value ≤ length list
    unfolding is_position
    position value h = ltb-false (length list) value (not-true _ h)

    started : points.start ≡ (start_point entries otherwise 0)
    unfolding points_said
    started = ap (λ (p : Points). p.start) said

    start_low : (start_point entries otherwise 0) ≤ length list
    start_low =
        said_or (λ (value : ℕ). value ≤ length list) (start_point entries) (λ value e. position value (start_holds _ _ entries rules.0 value e)) (omega arith)

    -- where the letters that are played end
    stop_is : points.stops ≡ is_some (stop_point entries)
    unfolding points_said
    stop_is = ap (λ (p : Points). p.stops) said

    record Last : Type 0 where
      is : last_position points ≡ (stop_point entries otherwise length list)
      low : last_position points ≤ length list
      from : points.start ≤ last_position points

    last_stopped : points.stops ≡ true → Last
    unfolding last_position points_said ◌otherwise◌
    last_stopped h =
        let v = some_said (stop_point entries) (sym stop_is ∙ h) in
        let value : points.stop ≡ v.0 = ap (λ (p : Points). p.stop) said ∙ ap (λ (o : Option ℕ). o otherwise 0) v.1 in
        let last : last_position points ≡ v.0 = if_true _ _ _ h ∙ value in
        let k = stop_holds _ _ entries rules.0 v.0 v.1 in
        let low = position v.0 k.0 in
        let above = k.1 in
        record {
          is = last ∙ sym (ap (λ (o : Option ℕ). o otherwise length list) v.1);
          low = omega arith;
          from = omega (arith, started);
        }

    last_open : points.stops ≡ false → Last
    unfolding last_position ◌otherwise◌
    last_open h =
        let v = none_said (stop_point entries) (sym stop_is ∙ h) in
        let last : last_position points ≡ length list = if_false _ _ _ h ∙ many in
        record {
          is = last ∙ sym (ap (λ (o : Option ℕ). o otherwise length list) v);
          low = omega arith;
          from = omega (arith, started, start_low);
        }

    last : Last
    last = by_test points.stops last_stopped last_open

    pub order_listed : Listed seek points
    order_listed =
        record {
          inside = omega (arith, placed_at, many, list_stands.fits);
          small = ready.few;
          from = last.from;
          to = omega (arith, many, last.low);
        }

    -- the letters that are played
    module _ (letters : List ℕ) (cut : letters ≡ part seek (points.order + points.start) (last_position points - points.start)) where
      played_are : letters ≡ part list points.start (last_position points - points.start)
      played_are =
          cut ∙ ap (λ (n : ℕ). part seek (n + points.start) (last_position points - points.start)) placed_at
          ∙ sym (part_of_part seek (order_place entries otherwise 0) (length list) points.start (last_position points - points.start) (omega (arith, last.low, last.from)))
          ∙ ap (λ (l : List ℕ). part l points.start (last_position points - points.start)) (sym list_stands.stands)

      pub order_few : length letters ≤ 65536
      order_few = let h = ready.few in rw cut (simp (length-take, length-drop) (omega arith))

      pub order_named : Named (entries_said true seek) letters
      order_named i h =
          let long : length letters ≡ last_position points - points.start = ap length played_are ∙ simp (length-take, length-drop) (omega (arith, last.low, last.from)) in
          let short : i < last_position points - points.start = omega arith in
          let inside : points.start + i < length list = omega (arith, last.low) in
          let is : letters ! i ≡ list ! (points.start + i) = ap (λ (l : List ℕ). l ! i) played_are ∙ part_at list points.start (last_position points - points.start) i short in
          rw is (all_named (points.start + i) inside)

      pub order_sections : order_of true (items_of voice body) (entries_said true seek) ≡ Some (map (letter_section (items_of voice body) (entries_said true seek)) letters)
      unfolding order_of phrase_order letters_played letter_section
      order_sections =
          rw listed
          (ap (λ (l : List ℕ). Some (map (λ letter. phrase_section items (phrase_of letter entries)) l))
          (ap₂ (λ (n k : ℕ). part list n (k - n)) (sym started) (sym last.is) ∙ sym played_are))

pub ruleset orders = (unordered, order_listed, order_few, order_named, order_sections)
