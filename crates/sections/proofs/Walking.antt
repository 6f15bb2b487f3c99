-- A BODY WALKED up to a place: what is known of it from the items that are left, how one item more changes that, and that at an address
-- it is what the definition says.
use Prim.Native.Nat.{ℕ, ◌+◌, ◌<◌, ◌≤◌}
use mathlib.Core.Bool.{true}
use mathlib.Core.List.{List, [], ◌∷◌, ◌++◌, append_assoc}
use mathlib.Core.Path.{◌≡◌, refl, sym, ◌∙◌, ap}
use lib.ListN.{length}
use native.Mathlib.Nat.{add-zero, zero-add, add_assoc}
use native.Mathlib.Omega.{arith}
use borrow.Author.Tests.{lt-ltb, le-ltb, ltb-true, eqb-true, eqb-false}
use Rattle.model.specs.Words.{when◌then◌else◌, ◌<?◌, ◌≡?◌, keep, sum, Placed}
use Rattle.model.specs.Item.{Item, duration_of, lasting, body_of, is_fine, items_of}
use Rattle.model.specs.Play.{At, Onsets, onsets_after, with_message, messages_of, is_below}
use Rattle.model.specs.Points.{is_address, time_of}
use Rattle.model.specs.Word.{is_message}
use Rattle.model.specs.declared.Voice.{Voice}
use Rattle.model.specs.declared.Event.{Event}
use Rattle.model.specs.declared.Reached.{Reached}
use Rattle.model.proofs.Tests.{by_test}
use Rattle.model.proofs.Picking.{keep_append}
use Rattle.items.proofs.Addresses.{is_there, time_in, placed_at, stands_ahead, passed_by_lem, timed_by, reads_to_items}
use Rattle.items.proofs.Standing.{body_stands}
use Rattle.sections.specs.Spans.{Items, messages_after, Rest, since, place_of}
use Rattle.sections.specs.Reaching.{messages_to, items_to, reached_of, at_head, passed_by}
use Rattle.sections.proofs.Places.{Standing, place_stands}
use Rattle.sections.proofs.Stretches.{none_kept}

pub record Walking (voice : Voice) (s : List ℕ) (r : Reached) (rest : Items) : Type 0 where
  pub stands : Standing voice s r.at rest
  pub few : r.messages ≤ r.at
  pub theres : (address : ℕ) → r.at ≤ address → is_there rest (length s) address ≡ is_address (items_of voice s) (length s) address
  pub times : (address : ℕ) → r.at ≤ address → r.time + time_in rest address ≡ time_of (items_of voice s) address
  pub heards : (address : ℕ) → r.at ≤ address
      → r.messages + length (messages_after r.time (items_to address rest)) ≡ length (messages_after 0 (items_to address (items_of voice s)))
  pub sinces : (time : ℕ) → r.time < time → since time 0 (items_of voice s) ≡ since time r.time rest
  pub earlies : (time : ℕ) → r.time < time → messages_to time 0 (items_of voice s) ≡ r.messages + messages_to time r.time rest
  pub first : place_of (length s) (since r.time 0 (items_of voice s)).items ≡ r.first
  pub past : (since r.time 0 (items_of voice s)).past ≡ r.past
  pub passed : messages_to r.time 0 (items_of voice s) ≡ r.passed
  pub begun : r.first ≤ r.at
  pub split : items_of voice s ≡ items_to r.at (items_of voice s) ++ rest

-- at time 0 all is still to come
since_all : (past : ℕ) (items : Items) → since 0 past items ≡ record { past = past; items = items }
unfolding since when◌then◌else◌
since_all past [] = refl
since_all past (item ∷ items) = let late : 0 ≤ past + duration_of item.what = omega arith in simp le-ltb

none_early : (past : ℕ) (items : Items) → messages_to 0 past items ≡ 0
unfolding is_below messages_of
none_early past items = ap (λ (l : Onsets Event). length (messages_of is_message l)) (none_kept 0 past items (omega arith))

-- items from a place on have places from there on
none_to : (voice : Voice) (s : List ℕ) (address at : ℕ) (items : Items) → Standing voice s at items → address ≤ at → items_to address items ≡ []
unfolding keep when◌then◌else◌
none_to voice s address at [] st h = refl
none_to voice s address at (item ∷ items) st h =
    let a = stands_ahead voice s at item st.0 st.1 in
    let late : address ≤ item.place = omega (arith, placed_at voice s at item st.0 st.1) in
    simp le-ltb (none_to voice s address st.0 items st.2 (omega arith))

-- items before an address are before a later one
to_later : (address later : ℕ) (items : Items) → address ≤ later → items_to later (items_to address items) ≡ items_to address items
unfolding keep when◌then◌else◌
to_later address later [] h = refl
to_later address later (item ∷ items) h =
    by_test (item.place <? address)
    (λ t.
    let before : item.place < later = omega (arith, ltb-true item.place address t) in
    simp (t, lt-ltb) (ap (λ (rest : Items). item ∷ rest) (to_later address later items h)))
    (λ t. simp t (to_later address later items h))

-- up to a later address
pub split_later : (at address : ℕ) (all rest : Items) → at ≤ address → all ≡ items_to at all ++ rest → items_to address all ≡ items_to at all ++ items_to address rest
split_later at address all rest h split =
    ap (items_to address) split
    ∙ keep_append (λ item. item.place <? address) (items_to at all) rest
    ∙ ap (λ (front : Items). front ++ items_to address rest) (to_later at address all h)

module _ (voice : Voice) (s : List ℕ) where
  abbrev all : Items
  all = items_of voice s

  pub walking_starts : is_fine (body_of voice s) ≡ true
      → Walking voice s at_head all
  unfolding is_address time_of
  walking_starts fine =
      let st = body_stands voice s all (reads_to_items voice s fine) in
      record {
        stands = st;
        few = omega arith;
        theres = λ address h. refl;
        times = λ address h. zero-add _;
        heards = λ address h. zero-add _;
        sinces = λ time h. refl;
        earlies = λ time h. sym (zero-add _);
        first = ap (λ (l : Rest). place_of (length s) l.items) (since_all 0 all) ∙ place_stands voice s 0 all st;
        past = ap (λ (l : Rest). l.past) (since_all 0 all);
        passed = none_early 0 all;
        begun = omega arith;
        split = sym (ap (λ (front : Items). front ++ all) (none_to voice s 0 0 all st (omega arith)));
      }

  -- what is reached is what the definition says
  pub walking_is : (r : Reached) (rest : Items) → Walking voice s r rest → r ≡ reached_of all (length s) r.at
  unfolding reached_of messages_of onsets_after lasting sum
  walking_is r rest w =
      let none = none_to voice s r.at r.at rest w.stands (omega arith) in
      let time : time_of all r.at ≡ r.time =
      sym (w.times r.at (omega arith)) ∙ ap (λ (l : Items). r.time + lasting l) none ∙ add-zero r.time in
      let heard : length (messages_after 0 (items_to r.at all)) ≡ r.messages =
      sym (w.heards r.at (omega arith)) ∙ ap (λ (l : Items). r.messages + length (messages_after r.time l)) none ∙ add-zero r.messages in
      rw (time, heard, w.first, w.past, w.passed) refl

  -- one item further
  module _ (r : Reached) (item : Placed (Item Event)) (rest : Items) (w : Walking voice s r (item ∷ rest)) (duration heard : ℕ)
      (takes : duration_of item.what ≡ duration) (one : heard ≤ 1)
      (says : (onset : ℕ) (l : List (At Event)) → length (with_message is_message onset item.what l) ≡ heard + length l) where
    abbrev next : ℕ
    next = w.stands.0

    here : item.place ≡ r.at
    here = placed_at voice s r.at item next w.stands.1

    ahead : r.at < next
    ahead = (stands_ahead voice s r.at item next w.stands.1).0

    theres_next : (address : ℕ) → next ≤ address → is_there rest (length s) address ≡ is_address all (length s) address
    theres_next address h = sym (passed_by_lem item rest address (length s) (omega (arith, here, ahead))) ∙ w.theres address (omega (arith, ahead))

    times_next : (address : ℕ) → next ≤ address → r.time + duration + time_in rest address ≡ time_of all address
    times_next address h =
        let t = timed_by item rest address (omega (arith, here, ahead)) in
        let u = w.times address (omega (arith, ahead)) in
        omega (arith, takes)

    heards_next : (address : ℕ) → next ≤ address
        → r.messages + heard + length (messages_after (r.time + duration) (items_to address rest)) ≡ length (messages_after 0 (items_to address all))
    unfolding keep onsets_after messages_of when◌then◌else◌
    heards_next address h =
        let before : item.place < address = omega (arith, here, ahead) in
        let first : items_to address (item ∷ rest) ≡ item ∷ items_to address rest = simp lt-ltb in
        let u = w.heards address (omega (arith, ahead)) in
        let v = says (r.time + duration) (messages_after (r.time + duration) (items_to address rest)) in
        add_assoc r.messages heard _
        ∙ ap (λ (n : ℕ). r.messages + n)
        (sym v
        ∙ ap (λ (d : ℕ). length (with_message is_message (r.time + d) item.what (messages_after (r.time + d) (items_to address rest)))) (sym takes)
        ∙ ap (λ (l : Items). length (messages_after r.time l)) (sym first))
        ∙ u

    sinces_next : (time : ℕ) → r.time + duration < time → since time 0 all ≡ since time (r.time + duration) rest
    unfolding since when◌then◌else◌
    sinces_next time h =
        let early : r.time + duration_of item.what < time = omega (arith, takes) in
        let step : since time r.time (item ∷ rest) ≡ since time (r.time + duration_of item.what) rest = simp lt-ltb in
        w.sinces time (omega arith) ∙ step ∙ ap (λ (d : ℕ). since time (r.time + d) rest) takes

    earlies_next : (time : ℕ) → r.time + duration < time → messages_to time 0 all ≡ r.messages + heard + messages_to time (r.time + duration) rest
    unfolding keep onsets_after messages_of when◌then◌else◌
    earlies_next time h =
        let early : r.time + duration_of item.what < time = omega (arith, takes) in
        let l = messages_of is_message (keep (λ at. at.step <? time) (onsets_after (r.time + duration_of item.what) rest)) in
        let step : messages_to time r.time (item ∷ rest) ≡ length (with_message is_message (r.time + duration_of item.what) item.what l) = simp lt-ltb in
        w.earlies time (omega arith)
        ∙ ap (λ (n : ℕ). r.messages + n) (step ∙ says (r.time + duration_of item.what) l ∙ ap (λ (d : ℕ). heard + messages_to time (r.time + d) rest) takes)
        ∙ sym (add_assoc r.messages heard _)

    -- the items before the next place are those before this one, and this
    pub behind_next : items_to next all ≡ items_to r.at all ++ (item ∷ [])
    unfolding keep when◌then◌else◌
    behind_next =
        let before : item.place < next = omega (arith, here, ahead) in
        let one : items_to next (item ∷ rest) ≡ item ∷ [] =
        simp lt-ltb (ap (λ (l : Items). item ∷ l) (none_to voice s next next rest w.stands.2 (omega arith))) in
        split_later r.at next all (item ∷ rest) (omega (arith, ahead)) w.split ∙ ap (λ (l : Items). items_to r.at all ++ l) one

    split_next : all ≡ items_to next all ++ rest
    split_next =
        w.split ∙ sym (append_assoc (items_to r.at all) (item ∷ []) rest) ∙ ap (λ (front : Items). front ++ rest) (sym behind_next)

    moved : (time first past passed : ℕ) → r.time + duration ≡ time → first ≤ r.at
        → place_of (length s) (since time 0 all).items ≡ first → (since time 0 all).past ≡ past → messages_to time 0 all ≡ passed
        → Walking voice s (record { at = next; time = time; messages = r.messages + heard; first = first; past = past; passed = passed }) rest
    moved time first past passed e b f p m =
        record {
          stands = w.stands.2;
          few = omega (arith, w.few, ahead);
          theres = theres_next;
          times = λ address h. rw e at (times_next address h);
          heards = λ address h. rw e at (heards_next address h);
          sinces = λ t h. rw e at (sinces_next t (omega arith));
          earlies = λ t h. rw e at (earlies_next t (omega arith));
          first = f;
          past = p;
          passed = m;
          begun = omega (arith, ahead);
          split = split_next;
        }

    -- an item that takes time begins what is not before its onset
    since_here : (duration ≡ 0 → ⊥) → since (r.time + duration) 0 all ≡ record { past = r.time; items = item ∷ rest }
    unfolding since when◌then◌else◌
    since_here long =
        let late : r.time + duration ≤ r.time + duration_of item.what = omega (arith, takes) in
        w.sinces (r.time + duration) (omega arith) ∙ simp le-ltb

    early_here : (duration ≡ 0 → ⊥) → messages_to (r.time + duration) 0 all ≡ r.messages
    unfolding keep onsets_after messages_of is_below when◌then◌else◌
    early_here long =
        let late : r.time + duration ≤ r.time + duration_of item.what = omega (arith, takes) in
        let none = none_kept (r.time + duration) (r.time + duration_of item.what) rest late in
        let step : messages_to (r.time + duration) r.time (item ∷ rest) ≡ 0 = simp (le-ltb, none) in
        w.earlies (r.time + duration) (omega arith) ∙ ap (λ (n : ℕ). r.messages + n) step ∙ add-zero r.messages

    pub walking_on : Walking voice s (passed_by r duration heard next) rest
    unfolding passed_by place_of when◌then◌else◌
    walking_on =
        by_test (duration ≡? 0)
        (λ t. let z = eqb-true duration 0 t in simp t (moved r.time r.first r.past r.passed (omega arith) w.begun w.first w.past w.passed))
        (λ t.
        let long = eqb-false duration 0 t in
        let l = since_here long in
        simp t
        (moved (r.time + duration) r.at r.time r.messages refl (omega arith)
        (ap (λ (x : Rest). place_of (length s) x.items) l ∙ here) (ap (λ (x : Rest). x.past) l) (early_here long)))
