-- Where the items of a section's span stand in a body, and how much time is past before them. The body's elements are bytes.
use Prim.Native.Nat.{ℕ, ◌+◌, ◌*◌, ◌<◌, ◌≤◌}
use mathlib.Core.List.{List, [], ◌∷◌}
use mathlib.Core.Path.{◌≡◌, refl, sym, ap, subst}
use lib.ListN.{length}
use native.Mathlib.Omega.{arith}
use borrow.Author.Tests.{le-leb, lt-leb}
use Rattle.model.specs.Words.{when◌then◌else◌, ◌<?◌, keep, Placed, Step.met, Checked}
use Rattle.model.specs.Bytes.{◌!◌}
use Rattle.model.specs.Item.{Item, Item.timed, Item.end_mark, duration_of, item_at, item_met, item_step}
use Rattle.model.specs.declared.Voice.{Voice}
use Rattle.model.specs.declared.Event.{Event}
use Rattle.std.specs.Prelude.{Ok, Err}
use Rattle.model.specs.declared.ReadItem.{ReadItem}
use Rattle.model.specs.declared.ReadItem.TheVariants.{Timed, EndMark}
use Rattle.model.proofs.Tests.{by_test}
use Rattle.model.proofs.Walks.{Stand}
use Rattle.items.proofs.Addresses.{placed_at, stands_ahead}
use Rattle.sections.specs.Spans.{Items, Rest, since, place_of, items_from}
use Rattle.sections.proofs.InWords.{ItemInWord, item_in_word}

abbrev pub Standing : Voice → List ℕ → ℕ → Items → Type 0
Standing voice s at items = Stand (length s) (item_step voice s) at items

module _ (voice : Voice) (s : List ℕ) where
  pub stands_within : (at : ℕ) (items : Items) → Standing voice s at items → at ≤ length s
  stands_within at [] st = omega arith
  stands_within at (item ∷ items) st = let a = stands_ahead voice s at item st.0 st.1 in omega arith

  -- the first item's place is where the items stand
  pub place_stands : (at : ℕ) (items : Items) → Standing voice s at items → place_of (length s) items ≡ at
  unfolding place_of
  place_stands at [] st = sym st
  place_stands at (item ∷ items) st = placed_at voice s at item st.0 st.1

  -- the items not before a time stand further on
  since_stands : (time past at : ℕ) (items : Items) → Standing voice s at items
      → (there : ℕ) × (at ≤ there) × Standing voice s there (since time past items).items
  unfolding since when◌then◌else◌
  since_stands time past at [] st = (at, omega arith, st)
  since_stands time past at (item ∷ items) st =
      by_test (past + duration_of item.what <? time)
      (λ t.
      let a = stands_ahead voice s at item st.0 st.1 in
      let r = since_stands time (past + duration_of item.what) st.0 items st.2 in
      simp t (r.0, omega arith, r.2))
      (λ t. simp t (at, omega arith, st))

  module _ (time past at : ℕ) (items : Items) (st : Standing voice s at items) where
    pub first_stands : Standing voice s (place_of (length s) (since time past items).items) (since time past items).items
    first_stands =
        let r = since_stands time past at items st in
        subst (λ (n : ℕ). Standing voice s n (since time past items).items) (sym (place_stands r.0 (since time past items).items r.2)) r.2

    pub first_ahead : at ≤ place_of (length s) (since time past items).items
    first_ahead =
        let r = since_stands time past at items st in
        subst (λ (n : ℕ). at ≤ n) (sym (place_stands r.0 (since time past items).items r.2)) r.1

  -- all items stand from where the first does
  all_from : (place at : ℕ) (items : Items) → Standing voice s at items → place ≤ at → items_from place items ≡ items
  unfolding items_from keep when◌then◌else◌
  all_from place at [] st h = refl
  all_from place at (item ∷ items) st h =
      let a = stands_ahead voice s at item st.0 st.1 in
      let there : place ≤ item.place = omega (arith, placed_at voice s at item st.0 st.1) in
      simp le-leb (ap (λ (rest : Items). item ∷ rest) (all_from place st.0 items st.2 (omega arith)))

  pub from_since : (time past at : ℕ) (items : Items) → Standing voice s at items
      → items_from (place_of (length s) (since time past items).items) items ≡ (since time past items).items
  unfolding items_from keep since when◌then◌else◌
  from_since time past at [] st = refl
  from_since time past at (item ∷ items) st =
      by_test (past + duration_of item.what <? time)
      (λ t.
      let a = stands_ahead voice s at item st.0 st.1 in
      let f = first_ahead time (past + duration_of item.what) st.0 items st.2 in
      let early : item.place < place_of (length s) (since time (past + duration_of item.what) items).items =
      omega (arith, placed_at voice s at item st.0 st.1) in
      let on : ◌≡◌ {A = Rest} (since time past (item ∷ items)) (since time (past + duration_of item.what) items) = simp t in
      subst (λ (rest : Rest). items_from (place_of (length s) rest.items) (item ∷ items) ≡ rest.items)
      (sym on)
      (simp lt-leb (from_since time (past + duration_of item.what) st.0 items st.2)))
      (λ t.
      let here : ◌≡◌ {A = Rest} (since time past (item ∷ items)) (record { past = past; items = item ∷ items }) = simp t in
      subst (λ (rest : Rest). items_from (place_of (length s) rest.items) (item ∷ items) ≡ rest.items)
      (sym here)
      (all_from (place_of (length s) (item ∷ items)) at (item ∷ items) st (omega (arith, place_stands at (item ∷ items) st))))

  -- an item takes at most the longest duration
  module _ (bytes : (k : ℕ) → s ! k < 256) (small : length s ≤ 65536) where
    met_short : (at : ℕ) (j : Checked ReadItem) (item : Placed (Item Event)) (next : ℕ) → ItemInWord j → item_met at j ≡ met item next → duration_of item.what ≤ 16511
    unfolding item_met duration_of
    met_short at (Ok (Timed duration event n)) item next h e =
        let same : ◌≡◌ {A = Placed (Item Event)} (record { place = at; what = timed duration event }) item = cc in
        subst (λ (i : Placed (Item Event)). duration_of i.what ≤ 16511) same h.0
    met_short at (Ok (EndMark n)) item next h e =
        let same : ◌≡◌ {A = Placed (Item Event)} (record { place = at; what = end_mark }) item = cc in
        subst (λ (i : Placed (Item Event)). duration_of i.what ≤ 16511) same (omega arith)
    met_short at (Err why) item next h e = let z : ◌≡◌ {A = ℕ} 0 1 = cc in absurd (omega arith)

    pub item_short : (at : ℕ) (item : Placed (Item Event)) (next : ℕ) → item_step voice s at ≡ met item next → duration_of item.what ≤ 16511
    unfolding item_step
    item_short at item next e = met_short at (item_at voice s at) item next (item_in_word s bytes small voice at) e

    pub past_small : (time past at : ℕ) (items : Items) → Standing voice s at items → past ≤ 16511 * at
        → (since time past items).past ≤ 16511 * place_of (length s) (since time past items).items
    unfolding since when◌then◌else◌
    past_small time past at [] st h = omega (arith, place_stands at [] st)
    past_small time past at (item ∷ items) st h =
        by_test (past + duration_of item.what <? time)
        (λ t.
        let a = stands_ahead voice s at item st.0 st.1 in
        let d = item_short at item st.0 st.1 in
        simp t (past_small time (past + duration_of item.what) st.0 items st.2 (omega arith)))
        (λ t. simp t (omega (arith, place_stands at (item ∷ items) st)))
