-- Places that a walk through a body REACHES, over items and end marks alike: they are reached in every body with the same bytes before them; what
-- stands there decides whether the body reads; and a body that is refused is empty, or refused for the item at one of them.
use Prim.Native.Nat.{ℕ, suc, ◌+◌, ◌<◌, ◌≤◌}
use mathlib.Core.Bool.{true}
use mathlib.Core.List.{List, [], ◌∷◌}
use mathlib.Core.Logic.{◌⊎◌, inl, inr}
use mathlib.Core.Path.{◌≡◌, refl, sym, ◌∙◌, ap, ap₂}
use lib.ListN.{length}
use native.Mathlib.Omega.{arith}
use borrow.Author.Tests.{eqb-true}
use Rattle.model.specs.Words.{◌≡?◌, Placed, Checked, Step.met, Step.stuck, walk_to, unasked, refused}
use Rattle.std.specs.Prelude.{Ok, Err}
use Rattle.model.specs.Item.{Item, Item.timed, Item.end_mark, item_at, item_met, item_step, body_of, is_fine, found}
use Rattle.model.specs.declared.Voice.{Voice}
use Rattle.model.specs.declared.Event.{Event}
use Rattle.model.specs.declared.ReadItem.{ReadItem}
use Rattle.model.specs.declared.ReadItem.TheVariants.{Timed, EndMark}
use Rattle.model.proofs.Tests.{if_all}
use Rattle.model.proofs.Walks.{Stand, stand_first, stand_never_stuck, refused_tells, fine_found, same_number, same_place}
use Rattle.items.proofs.Standing.{body_stands, body_reads_to}
use Rattle.items.proofs.Addresses.{stands_ahead, refused_stuck}
use Rattle.faults.proofs.Agreement.{Agree, agree_fewer}
use Rattle.faults.proofs.Exact.{Seen.ends}
use Rattle.faults.proofs.Timed.{item_seen}
use Rattle.faults.proofs.Items.{read_stays}

pub data Reached (voice : Voice) (s : List ℕ) : ℕ → Type 0 where
  head : Reached voice s 0
  after : {at next : ℕ} {item : Placed (Item Event)} → Reached voice s at → item_step voice s at ≡ met item next → Reached voice s next

-- what is met at a place is what is seen to end there, and what the walk is stuck at is what is refused
met_seen : (at : ℕ) (i : Checked ReadItem) (item : Placed (Item Event)) (next : ℕ) → item_met at i ≡ met item next → item_seen i ≡ ends next
unfolding item_met
met_seen at (Ok (Timed duration event n)) item next e = let same : n ≡ next = cc in ap ends same
met_seen at (Ok (EndMark n)) item next e = let same : n ≡ next = cc in ap ends same
met_seen at (Err why) item next e = let w : ◌≡◌ {A = ℕ} 0 1 = cc in absurd (omega arith)

seen_met : (at : ℕ) (i : Checked ReadItem) (next : ℕ) → item_seen i ≡ ends next → (item : Placed (Item Event)) × (item_met at i ≡ met item next)
unfolding item_met
seen_met at (Ok (Timed duration event n)) next e = let same : n ≡ next = cc in (record { place = at; what = timed duration event }, rw same)
seen_met at (Ok (EndMark n)) next e = let same : n ≡ next = cc in (record { place = at; what = end_mark }, rw same)
seen_met at (Err why) next e = let w : ◌≡◌ {A = ℕ} 0 1 = cc in absurd (omega arith)

stuck_refused : (at : ℕ) (i : Checked ReadItem) (number place : ℕ) → item_met at i ≡ stuck number place → i ≡ refused number place
unfolding item_met
stuck_refused at (Ok (Timed duration event n)) number place e = let w : ◌≡◌ {A = ℕ} 0 1 = cc in absurd (omega arith)
stuck_refused at (Ok (EndMark n)) number place e = let w : ◌≡◌ {A = ℕ} 0 1 = cc in absurd (omega arith)
stuck_refused at (Err why) number place e =
    let number_is : why.number ≡ number = cc in
    let place_is : why.place ≡ place = cc in
    ap₂ (λ (n p : ℕ). refused {A = ReadItem} n p) number_is place_is

module _ (voice : Voice) (s t : List ℕ) where
  met_stays : (at : ℕ) (item : Placed (Item Event)) (next : ℕ) → item_step voice s at ≡ met item next → Agree next s t → item_step voice t at ≡ met item next
  unfolding item_step
  met_stays at item next e a =
      let ahead = stands_ahead voice s at item next e in
      ap (item_met at) (read_stays voice s at (omega arith) next (met_seen at (item_at voice s at) item next e) t a) ∙ e

  pub reached_stays : (at : ℕ) → Agree at s t → Reached voice s at → Reached voice t at
  reached_stays at a head = head
  reached_stays at a (after {at = before} {item} r e) =
      let ahead = stands_ahead voice s before item at e in
      after (reached_stays before (agree_fewer before at s t (omega arith) a) r) (met_stays before item at e a)

abbrev Items : Type 0
Items = List (Placed (Item Event))

module _ (voice : Voice) (s : List ℕ) where
  -- A BODY THAT IS READ: what stands from a reached place on stands from the head on behind other items, and the other way round

  reached_whole : (at : ℕ) → Reached voice s at → (rest : Items) → Stand (length s) (item_step voice s) at rest → 0 < length s
      → is_fine (body_of voice s) ≡ true
  unfolding is_fine
  reached_whole at head rest stand some = ap is_fine (body_reads_to voice s rest some stand)
  reached_whole at (after {at = before} {item} r e) rest stand some = reached_whole before r (item ∷ rest) (at, e, stand) some

  reached_rest : (all : Items) → Stand (length s) (item_step voice s) 0 all → (at : ℕ) → Reached voice s at
      → (rest : Items) × Stand (length s) (item_step voice s) at rest
  reached_rest all stand at head = (all, stand)
  reached_rest all stand at (after {at = before} {item} r e) =
      let here = reached_rest all stand before r in
      let ahead = stands_ahead voice s before item at e in
      let next = stand_first (length s) (item_step voice s) before here.0 here.1 (omega arith) item at e in
      (next.0, next.2)

  -- a body that ends at a reached place, or where the item there does, is read

  pub reached_fine : Reached voice s (length s) → 0 < length s → is_fine (body_of voice s) ≡ true
  reached_fine r = reached_whole (length s) r [] refl

  pub ended_fine : (at : ℕ) → Reached voice s at → item_seen (item_at voice s at) ≡ ends (length s) → is_fine (body_of voice s) ≡ true
  unfolding item_step
  ended_fine at r e =
      let m = seen_met at (item_at voice s at) (length s) e in
      let ahead = stands_ahead voice s at m.0 (length s) m.1 in
      reached_fine (after r m.1) (omega arith)

  -- and one with a refused item there is not
  pub refused_not_fine : (at : ℕ) → Reached voice s at → at < length s → (number place : ℕ) → item_at voice s at ≡ refused number place
      → is_fine (body_of voice s) ≡ true → ⊥
  refused_not_fine at r here number place e reads =
      let rest = reached_rest (found (body_of voice s)) (body_stands voice s _ (fine_found (body_of voice s) reads)) at r in
      stand_never_stuck (length s) (item_step voice s) at rest.0 rest.1 here number place (refused_stuck voice s at _ refl number place e)

  -- A REFUSED BODY: it is empty, or refused for the item at a reached place
  abbrev pub Empty : ℕ → ℕ → Type 0
  Empty number place = (length s ≡ 0) × (number ≡ 11) × (place ≡ 0)

  abbrev pub ItemRefused : ℕ → ℕ → Type 0
  ItemRefused number place = (at : ℕ) × Reached voice s at × (at < length s) × (item_at voice s at ≡ refused number place)

  -- where a walk has come, with turns enough for what is left
  abbrev Came : ℕ → ℕ → Type 0
  Came turns at = Reached voice s at × (at ≤ length s) × (length s < at + turns)

  pub body_told : (number place : ℕ) → body_of voice s ≡ refused number place → Empty number place ⊎ ItemRefused number place
  unfolding body_of walk_to item_step
  body_told number place =
      if_all (λ (c : Checked Items). c ≡ refused number place → Empty number place ⊎ ItemRefused number place) (length s ≡? 0) _ _
      (λ h e. inl (eqb-true (length s) 0 h, sym (same_number 11 0 number place e), sym (same_place 11 0 number place e)))
      (λ h e.
      inr (refused_tells 11 (length s) (item_step voice s) unasked Came ItemRefused
      (λ turns at next item before c is passed. let ahead = stands_ahead voice s at item next is in (after c.0 is, ahead.1, omega arith))
      (λ at c. absurd (omega arith))
      (λ turns at n there c here is. (at, c.0, here, stuck_refused at (item_at voice s at) n there is))
      (λ turns at next n there item before c is q. let w : ◌≡◌ {A = ℕ} 0 1 = cc in absurd (omega arith))
      (suc (length s)) 0 [] number place (head, omega arith, omega arith) e))
