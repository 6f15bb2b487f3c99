-- The search for an address: the invariant of `is_address_from`'s loop, and what each way out of it and each turn makes of it.
use Prim.Native.Nat.{ℕ, ◌+◌, ◌-◌, ◌<◌, ◌≤◌}
use mathlib.Core.List.{List, [], ◌∷◌}
use mathlib.Core.Bool.{Bool, true, false, false≢true}
use mathlib.Core.Path.{◌≡◌, refl, sym, ◌∙◌, ap, subst}
use lib.ListN.{length}
use native.Mathlib.Decide.{dec_lt}
use native.Mathlib.Omega.{arith}
use borrow.Author.Tests.{eq-eqb, ne_eqb, eqb-true, eqb-false, lt-ltb}
use Rattle.model.specs.Words.{when◌then◌else◌, ◌or◌, ◌<?◌, ◌≡?◌, any, keep, sum, Placed, Step.met, Step.stuck, Checked, refused}
use Rattle.std.specs.Prelude.{Ok, Err}
use Rattle.model.specs.Item.{Item, Item.timed, Item.end_mark, duration_of, lasting, item_at, item_met, item_step, body_of, is_fine, items_of}
use Rattle.model.specs.Points.{is_address}
use Rattle.model.specs.declared.Voice.{Voice}
use Rattle.model.specs.declared.Event.{Event}
use Rattle.model.specs.declared.ReadItem.{ReadItem}
use Rattle.model.specs.declared.ReadItem.TheVariants.{Timed, EndMark}
use Rattle.model.proofs.Tests.{by_test}
use Rattle.model.proofs.Walks.{GoesOn, Stand, fine_found}
use Rattle.items.specs.Passing.{EndsAt}
use Rattle.items.proofs.Standing.{body_stands}
use Rattle.items.proofs.Ahead.{ItemAhead, item_ahead, item_goes}

abbrev Items : Type 0
Items = List (Placed (Item Event))

abbrev Standing : Voice → List ℕ → ℕ → Items → Type 0
Standing voice s at items = Stand (length s) (item_step voice s) at items

-- an item that stands at a place has that place, and ends past it, by three bytes or more, and within the body
met_at : (at end : ℕ) (j : Checked ReadItem) (item : Placed (Item Event)) (next : ℕ) → item_met at j ≡ met item next → item.place ≡ at
unfolding item_met
met_at at end (Ok (Timed duration event n)) item next e = let same : ◌≡◌ {A = Placed (Item Event)} (record { place = at; what = timed duration event }) item = cc in ap (λ (i : Placed (Item Event)). i.place) (sym same)
met_at at end (Ok (EndMark n)) item next e = let same : ◌≡◌ {A = Placed (Item Event)} (record { place = at; what = end_mark }) item = cc in ap (λ (i : Placed (Item Event)). i.place) (sym same)
met_at at end (Err why) item next e = let z : ◌≡◌ {A = ℕ} 0 1 = cc in absurd (omega arith)

met_far : (at end : ℕ) (j : Checked ReadItem) (item : Placed (Item Event)) (next : ℕ) → ItemAhead at end j → item_met at j ≡ met item next → at + 3 ≤ next
unfolding item_met
met_far at end (Ok (Timed duration event n)) item next a e = let same : n ≡ next = cc in omega arith
met_far at end (Ok (EndMark n)) item next a e = let same : n ≡ next = cc in omega arith
met_far at end (Err why) item next a e = let z : ◌≡◌ {A = ℕ} 0 1 = cc in absurd (omega arith)

met_ends : (at : ℕ) (j : Checked ReadItem) (item : Placed (Item Event)) (next place : ℕ) → item_met at j ≡ met item next → EndsAt place j → next ≡ place
unfolding item_met EndsAt
met_ends at (Ok (Timed duration event n)) item next place e h = let same : n ≡ next = cc in omega arith
met_ends at (Ok (EndMark n)) item next place e h = let same : n ≡ next = cc in omega arith
met_ends at (Err why) item next place e h = let z : ◌≡◌ {A = ℕ} 0 1 = cc in absurd (omega arith)

module _ (voice : Voice) (s : List ℕ) (at : ℕ) (item : Placed (Item Event)) (next : ℕ) (e : item_step voice s at ≡ met item next) where
  pub placed_at : item.place ≡ at
  unfolding item_step
  placed_at = met_at at (length s) (item_at voice s at) item next e

  pub stands_ahead : (at < next) × (next ≤ length s)
  stands_ahead = subst (GoesOn (length s) at) e (item_goes voice s at)

  pub stands_far : at + 3 ≤ next
  unfolding item_step
  stands_far = met_far at (length s) (item_at voice s at) item next (item_ahead voice s at) e

-- what is read at a place is met there, and ends nearer to the body's end
module _ (voice : Voice) (s : List ℕ) (at : ℕ) (i : Checked ReadItem) (is : i ≡ item_at voice s at) where
  module _ (duration next : ℕ) (event : Event) (e : i ≡ Ok (Timed duration event next)) where
    pub timed_met : item_step voice s at ≡ met (record { place = at; what = timed duration event }) next
    unfolding item_step item_met
    timed_met = ap (item_met at) (sym is ∙ e)

    pub timed_nears : length s - next < length s - at
    timed_nears = omega (arith, stands_ahead voice s at _ next timed_met)

  module _ (next : ℕ) (e : i ≡ Ok (EndMark next)) where
    pub mark_met : item_step voice s at ≡ met (record { place = at; what = end_mark }) next
    unfolding item_step item_met
    mark_met = ap (item_met at) (sym is ∙ e)

    pub mark_nears : length s - next < length s - at
    mark_nears = omega (arith, stands_ahead voice s at _ next mark_met)

  pub refused_stuck : (number place : ℕ) → i ≡ refused number place → item_step voice s at ≡ stuck number place
  unfolding item_step item_met
  refused_stuck number place e = ap (item_met at) (sym is ∙ e)

-- the two halves of what is asked of an address, of the items from some place on
abbrev pub is_there : Items → ℕ → ℕ → Bool
is_there items size address = any (λ item. item.place ≡? address) items or (size ≡? address)

abbrev pub time_in : Items → ℕ → ℕ
time_in items address = lasting (keep (λ item. item.place <? address) items)

-- a walk that has not passed the address: the items from its place on tell whether it is one
pub record Reaching (voice : Voice) (s : List ℕ) (address at : ℕ) : Type 0 where
  pub rest : List (Placed (Item Event))
  pub stands : Stand (length s) (item_step voice s) at rest
  pub within : at ≤ length s
  pub there : is_there rest (length s) address ≡ is_address (items_of voice s) (length s) address

-- a body that reads reads to its items
pub reads_to_items : (voice : Voice) (s : List ℕ) → is_fine (body_of voice s) ≡ true → body_of voice s ≡ Ok (items_of voice s)
unfolding items_of
reads_to_items voice s h = fine_found (body_of voice s) h

-- items from a place on have places from there on
pub none_there : (voice : Voice) (s : List ℕ) (address at : ℕ) (items : Items) → Standing voice s at items → address < at → at ≤ length s
    → is_there items (length s) address ≡ false
unfolding any ◌or◌
none_there voice s address at [] st h within = let other : length s ≡ address → ⊥ = λ e. omega arith in simp ne_eqb
none_there voice s address at (item ∷ rest) st h within =
    let a = stands_ahead voice s at item st.0 st.1 in
    let other : item.place ≡ address → ⊥ = λ e. omega (arith, placed_at voice s at item st.0 st.1) in
    simp ne_eqb (none_there voice s address st.0 rest st.2 (omega arith) a.1)

pub one_there : (voice : Voice) (s : List ℕ) (at : ℕ) (items : Items) → Standing voice s at items → is_there items (length s) at ≡ true
unfolding any ◌or◌
one_there voice s at [] st = let e : length s ≡ at = omega arith in simp eq-eqb
one_there voice s at (item ∷ rest) st = let e : item.place ≡ at = placed_at voice s at item st.0 st.1 in simp eq-eqb

-- as the head of a body that reads
pub head_there : (voice : Voice) (s : List ℕ) → is_fine (body_of voice s) ≡ true → is_address (items_of voice s) (length s) 0 ≡ true
unfolding is_address
head_there voice s h = one_there voice s 0 (items_of voice s) (body_stands voice s (items_of voice s) (reads_to_items voice s h))

none_past : (voice : Voice) (s : List ℕ) (address at : ℕ) (items : Items) → Standing voice s at items → at < address → length s ≤ at
    → is_there items (length s) address ≡ false
unfolding any ◌or◌
none_past voice s address at [] st before past = let other : length s ≡ address → ⊥ = λ e. omega arith in simp ne_eqb
none_past voice s address at (item ∷ rest) st before past =
    let a = stands_ahead voice s at item st.0 st.1 in
    absurd (omega arith)

-- an item before the address is passed by, and its duration counts
pub passed_by_lem : (item : Placed (Item Event)) (rest : Items) (address size : ℕ) → item.place < address
    → is_there (item ∷ rest) size address ≡ is_there rest size address
unfolding any ◌or◌
passed_by_lem item rest address size h = let other : item.place ≡ address → ⊥ = λ e. omega arith in simp ne_eqb

pub timed_by : (item : Placed (Item Event)) (rest : Items) (address : ℕ) → item.place < address
    → time_in (item ∷ rest) address ≡ duration_of item.what + time_in rest address
unfolding keep lasting sum when◌then◌else◌
timed_by item rest address h = simp lt-ltb

-- A WALK UP TO AN ADDRESS

module _ (voice : Voice) (s : List ℕ) (address at : ℕ) (r : Reaching voice s address at) where
  reach_there : at ≡ address → is_there r.rest (length s) address ≡ true
  reach_there e = ap (is_there r.rest (length s)) (sym e) ∙ one_there voice s at r.rest r.stands

  reach_past : address ≤ at → (at ≡ address → ⊥) → is_there r.rest (length s) address ≡ false
  reach_past h e = none_there voice s address at r.rest r.stands (omega arith) r.within

  reach_over : at < address → length s ≤ at → is_there r.rest (length s) address ≡ false
  reach_over before past = none_past voice s address at r.rest r.stands before past

  pub reach_ends : address ≤ at → (at ≡? address) ≡ is_address (items_of voice s) (length s) address
  reach_ends h =
      by_test (at ≡? address) (λ e. e ∙ sym (reach_there (eqb-true at address e)) ∙ r.there)
      (λ e. e ∙ sym (reach_past h (eqb-false at address e)) ∙ r.there)

  pub reach_runs_out : at < address → length s ≤ at → false ≡ is_address (items_of voice s) (length s) address
  reach_runs_out before past = sym (reach_over before past) ∙ r.there

  -- one item further
  module _ (next : ℕ) (before : at < address) (here : at < length s) (ends : EndsAt next (item_at voice s at)) where
    further : Reaching voice s address next × (length s - next < length s - at)
    unfolding item_step
    further = go r.rest r.stands r.there
      where
        go : (items : Items) → Standing voice s at items → is_there items (length s) address ≡ is_address (items_of voice s) (length s) address
            → Reaching voice s address next × (length s - next < length s - at)
        go [] st same = absurd (omega arith)
        go (item ∷ rest) st same =
            let on : st.0 ≡ next = met_ends at (item_at voice s at) item st.0 next st.1 ends in
            let a = stands_ahead voice s at item st.0 st.1 in
            let below : item.place < address = omega (arith, placed_at voice s at item st.0 st.1) in (
              record {
                rest = rest;
                stands = subst (λ (n : ℕ). Standing voice s n rest) on st.2;
                within = omega arith;
                there = sym (passed_by_lem item rest address (length s) below) ∙ same;
              },
              omega arith,
            )

    pub reach_passes : Reaching voice s address next
    reach_passes = further.0

    pub reach_nears : length s - next < length s - at
    reach_nears = further.1

-- the walk may start at an address that is not past the one that is asked for

module _ (voice : Voice) (s : List ℕ) (from address : ℕ) (order : from ≤ address) where
  reach_stays : (items : Items) (at : ℕ) → Standing voice s at items → at ≤ length s
      → is_there items (length s) address ≡ is_address (items_of voice s) (length s) address → at ≡ from → Reaching voice s address from
  reach_stays items at st within same here = subst (Reaching voice s address) here (record { rest = items; stands = st; within = within; there = same })

  walks_to : (items : Items) (at : ℕ) → Standing voice s at items → at ≤ from → at ≤ length s → is_there items (length s) from ≡ true
      → is_there items (length s) address ≡ is_address (items_of voice s) (length s) address → Reaching voice s address from
  walks_to [] at st near within known same =
      elim (dec_lt at from) [
        | yes before ↦ absurd (false≢true (sym (none_past voice s from at [] st before (omega arith)) ∙ known))
        | no q ↦ reach_stays [] at st within same (omega arith)
      ]
  walks_to (item ∷ rest) at st near within known same =
      elim (dec_lt at from) [
        | yes before ↦
            let a = stands_ahead voice s at item st.0 st.1 in
            let below : item.place < from = omega (arith, placed_at voice s at item st.0 st.1) in
            let still = sym (passed_by_lem item rest from (length s) below) ∙ known in
            elim (dec_lt from st.0) [
              | yes past ↦ absurd (false≢true (sym (none_there voice s from st.0 rest st.2 past a.1) ∙ still))
              | no q ↦ walks_to rest st.0 st.2 (omega arith) a.1 still (sym (passed_by_lem item rest address (length s) (omega arith)) ∙ same)
            ]
        | no q ↦ reach_stays (item ∷ rest) at st within same (omega arith)
      ]

  pub reach_starts : is_fine (body_of voice s) ≡ true → is_address (items_of voice s) (length s) from ≡ true → Reaching voice s address from
  unfolding is_address
  reach_starts h known =
      walks_to (items_of voice s) 0 (body_stands voice s (items_of voice s) (reads_to_items voice s h)) (omega arith) (omega arith) known refl

pub ruleset reaching = (reach_starts, reach_ends, reach_runs_out, reach_passes, reach_nears)
