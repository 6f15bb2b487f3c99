-- One walk of a sequence body: the invariant of `read_body`'s loop, and what each way out of it and each turn makes of it.
use Prim.Native.Nat.{ℕ, ◌+◌, ◌*◌, ◌<◌, ◌≤◌}
use mathlib.Core.List.{List, [], ◌∷◌}
use mathlib.Core.Bool.{Bool, true}
use mathlib.Core.Path.{◌≡◌, refl, sym, ◌∙◌, ap, ap₂, subst}
use lib.ListN.{length}
use native.Mathlib.Nat.{add-zero, zero-add}
use native.Mathlib.Omega.{arith}
use mir.Val.{Fits}
use mir.Syntax.{w64}
use borrow.Author.Tests.{eq-eqb, ne_eqb}
use Rattle.model.specs.Words.{when◌then◌else◌, sum, Placed, Checked, Step.met, walk_to, in_turn, unasked, refused}
use Rattle.std.specs.Prelude.{Ok, Err}
use Rattle.model.specs.declared.Refusal.{Refusal}
use Rattle.model.specs.Bytes.{◌!◌}
use Rattle.model.specs.Item.{Item, Item.timed, Item.end_mark, duration_of, lasting, item_at, item_step, body_of, body_answer}
use Rattle.model.specs.declared.Voice.{Voice}
use Rattle.model.specs.declared.Event.{Event}
use Rattle.model.specs.declared.ReadItem.{ReadItem}
use Rattle.model.specs.declared.ReadItem.TheVariants.{Timed, EndMark}
use Rattle.model.specs.declared.WalkedBody.{WalkedBody}
use Rattle.model.proofs.Walks.{with_first, Left, left_starts, left_ends, left_stuck, left_next}
use Rattle.items.specs.Passing.{is_short}
use Rattle.items.proofs.Passing.{Short, short_stands}
use Rattle.items.proofs.Addresses.{stands_ahead, timed_met, timed_nears, mark_met, mark_nears, refused_stuck}

abbrev Items : Type 0
Items = List (Placed (Item Event))

-- the answer for a body of which so many items, that last so long, are read, and what is left is found
unfoldable pub onto : ℕ → ℕ → Checked (List (Placed (Item Event))) → Checked WalkedBody
onto count lasts (Ok items) = Ok (record { count = (count + length items); duration = lasts + lasting items })
onto count lasts (Err why) = Err why

abbrev walked : ℕ → ℕ → Checked WalkedBody
walked count duration = Ok (record { count = count; duration = duration })

onto_none : (found : Checked Items) → onto 0 0 found ≡ body_answer found
unfolding onto body_answer
onto_none (Ok items) = simp zero-add
onto_none (Err why) = refl

onto_nil : (count lasts : ℕ) → onto count lasts (Ok []) ≡ Ok (record { count = count; duration = lasts })
unfolding onto lasting sum
onto_nil count lasts = simp add-zero

onto_first : (count lasts : ℕ) (item : Placed (Item Event)) (found : Checked Items)
    → onto count lasts (with_first item found) ≡ onto (count + 1) (lasts + duration_of item.what) found
unfolding onto with_first lasting sum
onto_first count lasts item (Ok items) = ap₂ walked (omega arith) (omega arith)
onto_first count lasts item (Err why) = refl

pub record Reading (voice : Voice) (s : List ℕ) (at count lasts : ℕ) : Type 0 where
  pub before : List (Placed (Item Event))
  pub left : Checked (List (Placed (Item Event)))
  pub walk : Left 11 (length s) (item_step voice s) unasked at before left
  pub few : count ≤ at
  pub small : lasts ≤ 4294967296 * at
  pub same : onto count lasts left ≡ body_answer (body_of voice s)

pub body_empty : (voice : Voice) (s : List ℕ) → length s ≡ 0 → refused 11 0 ≡ body_answer (body_of voice s)
unfolding body_of when◌then◌else◌ body_answer
body_empty voice s h = simp eq-eqb

pub body_starts : (voice : Voice) (s : List ℕ) → (length s ≡ 0 → ⊥) → Reading voice s 0 0 0
unfolding body_of when◌then◌else◌
body_starts voice s h =
    record {
      before = [];
      left = in_turn unasked [] (walk_to 11 (length s) (item_step voice s) 0);
      walk = left_starts 11 (length s) (item_step voice s) unasked 0 (omega arith);
      few = omega arith;
      small = omega arith;
      same = onto_none _ ∙ simp ne_eqb;
    }

module _ (voice : Voice) (s : List ℕ) (at count lasts : ℕ) (r : Reading voice s at count lasts) where
  pub body_ends_lem : length s ≤ at → Ok (record { count = count; duration = lasts }) ≡ body_answer (body_of voice s)
  body_ends_lem h =
      sym (onto_nil count lasts) ∙ ap (onto count lasts) (sym (left_ends _ _ _ _ at r.before r.left r.walk h)) ∙ r.same

  -- one item further
  further : (what : Item Event) (next : ℕ) → at < length s → item_step voice s at ≡ met (record { place = at; what = what }) next
      → duration_of what < 4294967296 → Reading voice s next (count + 1) (lasts + duration_of what)
  further what next here e short =
      let item : Placed (Item Event) = record { place = at; what = what } in
      let ahead = stands_ahead voice s at item next e in
      let n = left_next _ _ _ _ at r.before r.left r.walk item next here e ahead refl in
      record {
        before = item ∷ r.before;
        left = n.0;
        walk = n.1;
        few = omega (arith, r.few);
        small = omega (arith, r.small);
        same = sym (onto_first count lasts item n.0) ∙ ap (onto count lasts) (sym n.2) ∙ r.same;
      }

  module _ (i : Checked ReadItem) (here : at < length s) (is : i ≡ item_at voice s at) where
    pub body_refused : (why : Refusal) → i ≡ Err why → Err why ≡ body_answer (body_of voice s)
    unfolding onto
    body_refused why e =
        let stuck_here = refused_stuck voice s at i is why.number why.place e in
        ap (onto count lasts) (sym (left_stuck _ _ _ _ at r.before r.left r.walk why.number why.place here stuck_here)) ∙ r.same

    pub body_reads : (duration next : ℕ) (event : Event) → i ≡ Ok (Timed duration event next) → duration < 4294967296
        → Reading voice s next (count + 1) (lasts + duration)
    unfolding duration_of
    body_reads duration next event e short = further (timed duration event) next here (timed_met voice s at i is duration next event e) short

    pub body_marks : (next : ℕ) → i ≡ Ok (EndMark next) → Reading voice s next (count + 1) lasts
    unfolding duration_of
    body_marks next e =
        subst (Reading voice s next (count + 1)) (add-zero lasts) (further end_mark next here (mark_met voice s at i is next e) (omega arith))

  -- a short note or wave
  module _ (told : Bool) (here : at < length s) (found : told ≡ true) (so : told ≡ is_short voice s at) where
    short : Short voice s at
    short = short_stands voice s at (sym so ∙ found)

    pub short_within : at + 3 ≤ length s
    short_within = short.within

    pub short_widens : Fits w64 (s ! at)
    short_widens = record { fits = omega (arith, short.one) }

    pub short_adds : length s ≤ 65536 → Fits w64 (lasts + s ! at)
    short_adds few = record { fits = omega (arith, short.one, r.small) }

    pub body_shorts : Reading voice s (at + 3) (count + 1) (lasts + s ! at)
    body_shorts = body_reads (item_at voice s at) here refl (s ! at) (at + 3) _ short.is (omega (arith, short.one))

pub ruleset reading =
    (body_empty, body_starts, body_ends_lem, body_refused, timed_nears, body_reads, mark_nears, body_marks, short_within, short_widens, short_adds, body_shorts)
