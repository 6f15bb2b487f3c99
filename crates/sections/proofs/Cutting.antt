-- The items up to an end mark, from a section's first item on: cutting a body at the first mark from a place on leaves where a section begins as
-- it is, if that is not behind the place.
use Prim.Native.Nat.{ℕ, ◌+◌, ◌<◌, ◌≤◌}
use mathlib.Core.Bool.{true, false}
use mathlib.Core.List.{List, [], ◌∷◌}
use mathlib.Core.Path.{◌≡◌, refl, ap}
use lib.ListN.{length}
use native.Mathlib.Omega.{arith}
use borrow.Author.Tests.{leb-false}
use Rattle.model.specs.Words.{when◌then◌else◌, ◌or◌, ◌<?◌, ◌≤?◌, any, keep, through}
use Rattle.model.specs.Item.{duration_of, body_of, is_fine, items_of}
use Rattle.model.specs.declared.Voice.{Voice}
use Rattle.model.specs.declared.Span.{Span}
use Rattle.model.proofs.Tests.{by_test}
use Rattle.model.proofs.Picking.{through_none}
use Rattle.items.proofs.Addresses.{placed_at, stands_ahead, reads_to_items}
use Rattle.items.proofs.Standing.{body_stands}
use Rattle.sections.specs.Spans.{Items, since, place_of, items_from, mark_from, items_through, span_rows}
use Rattle.sections.proofs.Places.{Standing, first_ahead}
use Rattle.sections.proofs.Marks.{not_from}

pub from_through : (first marks : ℕ) (items : Items) → first ≤ marks → items_through marks (items_from first items) ≡ items_from first (items_through marks items)
unfolding items_from keep through when◌then◌else◌
from_through first marks [] h = refl
from_through first marks (item ∷ items) h =
    by_test (first ≤? item.place)
    (λ t.
    by_test (mark_from marks item) (λ m. simp (t, m))
    (λ m. simp (t, m) (ap (λ (rest : Items). item ∷ rest) (from_through first marks items h))))
    (λ t.
    let early : item.place < marks = omega (arith, leb-false first item.place t) in
    simp (t, not_from marks item early) (from_through first marks items h))

module _ (voice : Voice) (s : List ℕ) where
  pub since_through : (marks time past at : ℕ) (items : Items) → Standing voice s at items → place_of (length s) (since time past items).items ≤ marks
      → since time past (items_through marks items) ≡ record { past = (since time past items).past; items = items_through marks (since time past items).items }
  unfolding since through place_of when◌then◌else◌
  since_through marks time past at [] st h = refl
  since_through marks time past at (item ∷ items) st h =
      by_test (past + duration_of item.what <? time)
      (λ t.
      let a = stands_ahead voice s at item st.0 st.1 in
      let f = first_ahead voice s time (past + duration_of item.what) st.0 items st.2 in
      let later : place_of (length s) (since time (past + duration_of item.what) items).items ≤ marks = simp t at h in
      let early : item.place < marks = omega (arith, placed_at voice s at item st.0 st.1) in
      simp (t, not_from marks item early) (since_through marks time (past + duration_of item.what) st.0 items st.2 later))
      (λ t. by_test (mark_from marks item) (λ m. simp (t, m)) (λ m. simp (t, m)))

  -- no mark stands at the body's end
  none_at_size : (at : ℕ) (items : Items) → Standing voice s at items → any (mark_from (length s)) items ≡ false
  unfolding any ◌or◌
  none_at_size at [] st = refl
  none_at_size at (item ∷ items) st =
      let a = stands_ahead voice s at item st.0 st.1 in
      let early : item.place < length s = omega (arith, placed_at voice s at item st.0 st.1) in
      rw (not_from (length s) item early) (none_at_size st.0 items st.2)

  module _ (fine : is_fine (body_of voice s) ≡ true) where
    pub uncut : items_through (length s) (items_of voice s) ≡ items_of voice s
    uncut = through_none (mark_from (length s)) (items_of voice s) (none_at_size 0 (items_of voice s) (body_stands voice s (items_of voice s) (reads_to_items voice s fine)))

    pub uncut_rows : (span : Span) (before : ℕ) → span_rows (items_through (length s) (items_of voice s)) span before ≡ span_rows (items_of voice s) span before
    uncut_rows span before = ap (λ (items : Items). span_rows items span before) uncut
