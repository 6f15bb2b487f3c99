-- THE MARK THAT A SECTION REACHES, over lists of items alone: where a section has a stop, the first mark from its start address on counts if its
-- onset is below that; onsets never fall, so no later one can count if it does not. Nothing here asks what a mark lasts.
use Prim.Native.Nat.{ℕ, ◌+◌, ◌-◌, ◌<◌, ◌≤◌}
use mathlib.Core.Bool.{true, false}
use mathlib.Core.List.{[], ◌∷◌, ◌++◌}
use Rattle.std.specs.Prelude.{None, Some}
use mathlib.Core.Path.{◌≡◌, refl, sym, ◌∙◌, ap}
use native.Mathlib.Nat.{add_assoc, add-zero, zero-add}
use native.Mathlib.Omega.{arith}
use borrow.Author.Tests.{le-ltb, lt-ltb, lt-leb}
use Rattle.model.specs.Words.{when◌then◌else◌, ◌and◌, ◌or◌, ◌≤?◌, any, first, through, sum, Placed}
use Rattle.model.specs.Item.{Item, duration_of, is_mark, lasting}
use Rattle.model.specs.Play.{At, Onsets, onsets_after, Section, is_below, is_within, reaches, lasts_to, lasts_in}
use Rattle.model.specs.declared.Event.{Event}
use Rattle.model.proofs.Tests.{by_test}
use Rattle.model.proofs.Picking.{through_on}
use Rattle.sections.specs.Spans.{Items, mark_from, items_through}

-- lists put together

pub lasting_append : (front rest : Items) → lasting (front ++ rest) ≡ lasting front + lasting rest
unfolding lasting sum
lasting_append [] rest = sym (zero-add (lasting rest))
lasting_append (item ∷ front) rest = omega (arith, lasting_append front rest)

pub onsets_append : (past : ℕ) (front rest : Items)
    → onsets_after past (front ++ rest) ≡ onsets_after past front ++ onsets_after (past + lasting front) rest
unfolding onsets_after lasting sum
onsets_append past [] rest = ap (λ (n : ℕ). onsets_after n rest) (sym (add-zero past))
onsets_append past (item ∷ front) rest =
    ap (λ (l : Onsets Event). record { step = past + duration_of item.what; event = item } ∷ l)
    (onsets_append (past + duration_of item.what) front rest
    ∙ ap (λ (n : ℕ). onsets_after (past + duration_of item.what) front ++ onsets_after n rest) (add_assoc past (duration_of item.what) (lasting front)))

-- what is cut off is not longer
pub through_lasting : (place : ℕ) (items : Items) → lasting (items_through place items) ≤ lasting items
unfolding through lasting sum when◌then◌else◌
through_lasting place [] = omega arith
through_lasting place (item ∷ items) =
    let rest = through_lasting place items in
    by_test (mark_from place item) (λ t. simp t (omega arith)) (λ t. simp t (omega arith))

pub lasting_on : (place : ℕ) (item : Placed (Item Event)) (items : Items) → mark_from place item ≡ false
    → lasting (items_through place (item ∷ items)) ≡ duration_of item.what + lasting (items_through place items)
unfolding lasting sum
lasting_on place item items h = ap lasting (through_on (mark_from place) item items h)

-- a mark before a place is none from there on
pub not_from : (place : ℕ) (item : Placed (Item Event)) → item.place < place → mark_from place item ≡ false
unfolding mark_from ◌and◌
not_from place item h = by_test (is_mark item.what) (λ t. simp (t, lt-leb)) (λ t. simp t)

-- WITH A STOP

module _ (section : Section) (bound : ℕ) (stops : section.to ≡ Some bound) where
  -- a mark counts where it stands from the start address on and is below the bound
  reaches_below : (item : Placed (Item Event)) (onset : ℕ) → onset < bound
      → reaches section (record { step = onset; event = item }) ≡ mark_from section.address item
  unfolding reaches mark_from is_below ◌and◌
  reaches_below item onset h =
      rw stops
      (by_test (is_mark item.what)
      (λ t. by_test (section.address ≤? item.place) (λ u. simp (t, u, lt-ltb)) (λ u. simp (t, u)))
      (λ t. simp t))

  reaches_none : (item : Placed (Item Event)) (onset : ℕ) → bound ≤ onset → reaches section (record { step = onset; event = item }) ≡ false
  unfolding reaches is_below ◌and◌
  reaches_none item onset h =
      rw stops
      (by_test (is_mark item.what)
      (λ t. by_test (section.address ≤? item.place) (λ u. simp (t, u, le-ltb)) (λ u. simp (t, u)))
      (λ t. simp t))

  reaches_not : (item : Placed (Item Event)) (onset : ℕ) → mark_from section.address item ≡ false
      → reaches section (record { step = onset; event = item }) ≡ false
  unfolding reaches mark_from ◌and◌
  reaches_not item onset h =
      by_test (is_mark item.what)
      (λ t. let u : (section.address ≤? item.place) ≡ false = simp t at h in simp (t, u))
      (λ t. simp t)

  late_unreached : (past : ℕ) (items : Items) → bound ≤ past → any (reaches section) (onsets_after past items) ≡ false
  unfolding any onsets_after ◌or◌
  late_unreached past [] h = refl
  late_unreached past (item ∷ items) h =
      let over : bound ≤ past + duration_of item.what = omega arith in
      rw (reaches_none item (past + duration_of item.what) over) (late_unreached (past + duration_of item.what) items over)

  -- the first mark in front is not below the bound, or there is none and all in front lasts up to the bound
  pub unreached : (past : ℕ) (front rest : Items) → bound ≤ past + lasting (items_through section.address front)
      → any (reaches section) (onsets_after past (front ++ rest)) ≡ false
  unfolding any onsets_after through lasting sum ◌or◌ when◌then◌else◌
  unreached past [] rest h = late_unreached past rest (omega arith)
  unreached past (item ∷ front) rest h =
      let onset = past + duration_of item.what in
      by_test (mark_from section.address item)
      (λ t.
      let over : bound ≤ past + (duration_of item.what + 0) = simp t at h in
      rw (reaches_none item onset (omega arith)) (late_unreached onset (front ++ rest) (omega arith)))
      (λ t.
      let on : bound ≤ past + (duration_of item.what + lasting (items_through section.address front)) = simp t at h in
      rw (reaches_not item onset t) (unreached onset front rest (omega arith)))

  -- what is cut at a mark that is reached: the items up to it, and its onset
  pub record Cut (past : ℕ) (front rest : Items) : Type 0 where
    pub items : through (reaches section) (onsets_after past (front ++ rest)) ≡ onsets_after past (items_through section.address front)
    pub mark : At (Placed (Item Event))
    pub is : first (reaches section) (onsets_after past (front ++ rest)) ≡ Some mark
    pub onset : mark.step ≡ past + lasting (items_through section.address front)

  pub reached : (past : ℕ) (front rest : Items) → bound ≡ past + lasting front
      → past + lasting (items_through section.address front) < bound → Cut past front rest
  unfolding first onsets_after through lasting sum when◌then◌else◌
  reached past [] rest e h = absurd (omega arith)
  reached past (item ∷ front) rest e h =
      let onset = past + duration_of item.what in
      by_test (mark_from section.address item)
      (λ t.
      let under : past + (duration_of item.what + 0) < bound = simp t at h in
      let r = reaches_below item onset (omega arith) ∙ t in
      record {
        items = simp (r, t);
        mark = record { step = onset; event = item };
        is = simp r;
        onset = simp t (omega arith);
      })
      (λ t.
      let on : past + (duration_of item.what + lasting (items_through section.address front)) < bound = simp t at h in
      let r = reaches_not item onset t in
      let c = reached onset front rest (omega arith) (omega arith) in
      record {
        items = simp (r, t) (ap (λ (l : Onsets Event). record { step = onset; event = item } ∷ l) c.items);
        mark = c.mark;
        is = simp r c.is;
        onset = c.onset ∙ add_assoc past (duration_of item.what) _ ∙ ap (λ (n : ℕ). past + n) (sym (lasting_on section.address item front t));
      })

-- WITHOUT A STOP any mark from the start address on counts

module _ (section : Section) (stops : section.to ≡ None) where
  reaches_any : (item : Placed (Item Event)) (onset : ℕ) → reaches section (record { step = onset; event = item }) ≡ mark_from section.address item
  unfolding reaches mark_from is_below ◌and◌
  reaches_any item onset =
      rw stops
      (by_test (is_mark item.what) (λ t. by_test (section.address ≤? item.place) (λ u. simp (t, u)) (λ u. simp (t, u))) (λ t. simp t))

  pub open_through : (past : ℕ) (items : Items)
      → through (reaches section) (onsets_after past items) ≡ onsets_after past (items_through section.address items)
  unfolding through onsets_after when◌then◌else◌
  open_through past [] = refl
  open_through past (item ∷ items) =
      let onset = past + duration_of item.what in
      rw (reaches_any item onset)
      (by_test (mark_from section.address item) (λ t. simp t)
      (λ t. simp t (ap (λ (l : Onsets Event). record { step = onset; event = item } ∷ l) (open_through onset items))))

  open_lasts : (past : ℕ) (items : Items) → section.lasts ≡ past + lasting items - section.from
      → lasts_to section (first (reaches section) (onsets_after past items)) ≡ past + lasting (items_through section.address items) - section.from
  unfolding first through onsets_after lasting sum lasts_to when◌then◌else◌
  open_lasts past [] e = e
  open_lasts past (item ∷ items) e =
      let onset = past + duration_of item.what in
      rw (reaches_any item onset)
      (by_test (mark_from section.address item) (λ t. simp t (omega arith))
      (λ t. simp t (open_lasts onset items (omega arith) ∙ omega arith)))

  pub lasts_through : (items : Items) → section.lasts ≡ lasting items - section.from
      → lasts_in (onsets_after 0 items) section ≡ lasting (items_through section.address items) - section.from
  unfolding lasts_in
  lasts_through items e = open_lasts 0 items (omega arith) ∙ omega arith

-- WHAT A SECTION LASTS, whatever it reaches

module _ (section : Section) where
  lasts_before : (past : ℕ) (items : Items) → section.lasts ≤ past + lasting items
      → lasts_to section (first (reaches section) (onsets_after past items)) ≤ past + lasting items
  unfolding first onsets_after lasting sum lasts_to when◌then◌else◌
  lasts_before past [] h = h
  lasts_before past (item ∷ items) h =
      let onset = past + duration_of item.what in
      let rest = lasts_before onset items (omega arith) in
      by_test (reaches section (record { step = onset; event = item })) (λ t. simp t (omega arith)) (λ t. simp t (omega arith))

  -- not longer than all items, if it would not without a mark
  pub lasts_within : (items : Items) → section.lasts ≤ lasting items → lasts_in (onsets_after 0 items) section ≤ lasting items
  unfolding lasts_in
  lasts_within items h = omega (arith, lasts_before 0 items (omega arith))

  -- not shorter than what is past
  lasts_after : (low past : ℕ) (items : Items) → low ≤ past → low - section.from ≤ section.lasts
      → low - section.from ≤ lasts_to section (first (reaches section) (onsets_after past items))
  unfolding first onsets_after lasts_to when◌then◌else◌
  lasts_after low past [] h k = k
  lasts_after low past (item ∷ items) h k =
      let onset = past + duration_of item.what in
      by_test (reaches section (record { step = onset; event = item })) (λ t. simp t (omega arith)) (λ t. simp t (lasts_after low onset items (omega arith) k))

  -- nothing that is within it and not cut off is past its end
  abbrev pub Ended : ℕ → Onsets Event → Type 0
  Ended lasts [] = Unit
  Ended lasts (at ∷ l) = (is_within section at.step ≡ true → at.step - section.from ≤ lasts) × Ended lasts l

  pub through_ended : (past : ℕ) (items : Items)
      → ((onset : ℕ) → onset ≤ past + lasting items → is_within section onset ≡ true → onset - section.from ≤ section.lasts)
      → Ended (lasts_to section (first (reaches section) (onsets_after past items))) (through (reaches section) (onsets_after past items))
  unfolding first through onsets_after lasting sum lasts_to when◌then◌else◌
  through_ended past [] whole = tt
  through_ended past (item ∷ items) whole =
      let onset = past + duration_of item.what in
      by_test (reaches section (record { step = onset; event = item })) (λ t. simp t ((λ w. omega arith), tt))
      (λ t.
      simp t (
        (λ w. lasts_after onset onset items (omega arith) (whole onset (omega arith) w)),
        through_ended onset items (λ later h w. whole later (omega arith) w),
      ))
