-- The rules of points and phrases: what a front that came to a number says of it, row by row, and the invariant of `judge_rows`'s loop.
use Prim.Native.Nat.{ℕ, ◌+◌, ◌/◌, ◌<◌, ◌≤◌}
use mathlib.Core.List.{List, ◌∷◌}
use mathlib.Core.Bool.{Bool, true, false, not}
use mathlib.Core.Path.{◌≡◌, refl, sym, ◌∙◌, ap}
use lib.ListN.{length}
use borrow.Author.Tests.{lt-ltb, le-ltb, ne_eqb}
use Rattle.model.specs.Words.{when◌then◌else◌, ◌and◌, ◌<?◌, ◌≤?◌, ◌≡?◌}
use Rattle.model.specs.Points.{is_span}
use Rattle.model.proofs.Tests.{first_false, flag_on, flag_off, not_on, not_off}
use Rattle.entries.specs.declared.address.Cursor.{Cursor}
use Rattle.entries.specs.declared.points.Judged.{Judged}
use Rattle.entries.specs.declared.row.Row.{Row}
use Rattle.entries.specs.Places.{is_place, Stands, Front, AllGiven, Came}
use Rattle.entries.specs.Rows.{row_at, rows_in}
use Rattle.entries.specs.Rules.{Says, is_point, row_holds, rows_hold}
use Rattle.entries.proofs.RowsLeft.{left, left_all, left_next, left_over}
use Rattle.entries.proofs.Reaching.{front_none}

pub and_true : (a b : Bool) → b ≡ true → (a and b) ≡ a
unfolding ◌and◌
and_true true b h = h
and_true false b h = refl

pub and_false : (a b : Bool) → b ≡ false → (a and b) ≡ false
unfolding ◌and◌
and_false true b h = h
and_false false b h = refl

-- IN ORDER
module _ (known : Bool) (from to : ℕ) where
  pub ordered_off : to < from → false ≡ (known and not (to <? from))
  ordered_off h = sym (and_false known _ (not_off _ (lt-ltb to from h)))

  pub ordered_on : from ≤ to → known ≡ (known and not (to <? from))
  ordered_on h = sym (and_true known _ (not_on _ (le-ltb to from h)))

pub ruleset ordering = (ordered_off, ordered_on)

-- ADDRESSES
module _ (source items : List ℕ) where
  -- what `is_address` answers of a number that a front came to
  abbrev Answers : Cursor → ℕ → Bool → Type 0
  Answers cursor address told = (cursor.place < address → is_place items address ≡ false) → told ≡ is_place items address

  met : (cursor : Cursor) (address : ℕ) (told : Bool) → Came source items cursor address → Answers cursor address told → AllGiven source items → told ≡ is_place items address
  met cursor address told came answers all = answers (came.beyond all)

  pub came_stands : (cursor : Cursor) (address : ℕ) → Came source items cursor address → Stands items cursor
  came_stands cursor address came = came.front.stands

  pub came_front : (cursor : Cursor) (address : ℕ) → Came source items cursor address → Front source items cursor
  came_front cursor address came = came.front

  pub says_point : (cursor : Cursor) (value : ℕ) (told : Bool) → Came source items cursor value
      → ((cursor.place < value → is_place items value ≡ false) → told ≡ is_place items value)
      → Says source items (record { holds = told; front = cursor }) (is_place items value)
  says_point cursor value told came answers = record { front = came.front; so = met cursor value told came answers }

  module _ (first : Cursor) (from to : ℕ) (starts : Bool) (came : Came source items first from)
      (answers : (first.place < from → is_place items from ≡ false) → starts ≡ is_place items from) where
    pub says_unstarted : not starts ≡ true → Says source items (record { holds = false; front = first }) (is_span (is_place items) from to)
    unfolding is_span
    says_unstarted off =
        record { front = came.front; so = λ all. sym (first_false _ _ (flag_off (met first from starts came answers all) off)) }

    pub says_span : (last : Cursor) (ends holds : Bool) → not starts ≡ false → Came source items last to
        → ((last.place < to → is_place items to ≡ false) → ends ≡ is_place items to) → holds ≡ (ends and not (to <? from))
        → Says source items (record { holds = holds; front = last }) (is_span (is_place items) from to)
    unfolding is_span ◌and◌
    says_span last ends holds on later told is =
        record {
          front = later.front;
          so = λ all.
              let a : is_place items from ≡ true = flag_on (met first from starts came answers all) on in
              let b = met last to ends later told all in
              is ∙ ap (λ (t : Bool). t and not (to <? from)) b ∙ sym (ap (λ (t : Bool). t and is_place items to and not (to <? from)) a);
        }

pub ruleset said_places = (came_stands, came_front, says_point, says_unstarted, says_span)

-- ROWS
module _ (phrases : Bool) (source items : List ℕ) (started listed : ℕ) (row : Row) where
  module _ (judged : Judged) (front : Front source items judged.front) where
    says_plain : judged.holds ≡ row_holds phrases items started listed row → Says source items judged (row_holds phrases items started listed row)
    says_plain e = record { front = front; so = λ all. e }

  pub says_order : (cursor : Cursor) → Front source items cursor → row.kind ≡ 3
      → Says source items (record { holds = true; front = cursor }) (row_holds phrases items started listed row)
  unfolding row_holds when◌then◌else◌
  says_order cursor front k = says_plain _ front (simp k)

  pub says_phrase : (judged : Judged) → row.kind ≡ 2 → Says source items judged (is_span (is_place items) row.from row.to)
      → Says source items judged (row_holds phrases items started listed row)
  unfolding row_holds when◌then◌else◌
  says_phrase judged k says = record { front = says.front; so = λ all. simp k (says.so all) }

  module _ (listing : row.kind ≡ 3 → ⊥) (phrase : row.kind ≡ 2 → ⊥) (early : Bool) (is : early ≡ ((row.kind ≡? 1) and (row.from <? started))) where
    pub says_early : (cursor : Cursor) → Front source items cursor → early ≡ true
        → Says source items (record { holds = false; front = cursor }) (row_holds phrases items started listed row)
    unfolding row_holds when◌then◌else◌
    says_early cursor front h = says_plain _ front (let e = sym is ∙ h in simp (ne_eqb, e))

    module _ (late : early ≡ false) where
      pub says_position : (cursor : Cursor) (holds : Bool) → Front source items cursor → phrases ≡ true → holds ≡ (row.from ≤? listed)
          → Says source items (record { holds = holds; front = cursor }) (row_holds phrases items started listed row)
      unfolding row_holds is_point when◌then◌else◌
      says_position cursor holds front p h = says_plain _ front (let e = sym is ∙ late in simp (ne_eqb, e, p) h)

      pub says_address : (judged : Judged) → phrases ≡ false → Says source items judged (is_place items row.from)
          → Says source items judged (row_holds phrases items started listed row)
      unfolding row_holds is_point when◌then◌else◌
      says_address judged p says = record { front = says.front; so = λ all. let e = sym is ∙ late in simp (ne_eqb, e, p) (says.so all) }

pub ruleset said_rows = (says_order, says_phrase, says_early, says_position, says_address)

-- THE LOOP
pub record Holding (phrases : Bool) (source items : List ℕ) (started listed : ℕ) (numbers : List ℕ) (count : ℕ) (cursor : Cursor) (i : ℕ) : Type 0 where
  pub stands : Front source items cursor
  pub same : AllGiven source items → rows_hold phrases items started listed (left numbers count i) ≡ rows_hold phrases items started listed (rows_in numbers)

module _ (phrases : Bool) (source items : List ℕ) (started listed : ℕ) (numbers : List ℕ) (count : ℕ) where
  pub holding_starts : count ≡ length numbers / 4 → Holding phrases source items started listed numbers count (record { index = 0; place = 0 }) 0
  holding_starts counted =
      record { stands = front_none source items; same = λ all. ap (rows_hold phrases items started listed) (left_all numbers count counted) }

  module _ (cursor : Cursor) (i : ℕ) (r : Holding phrases source items started listed numbers count cursor i) where
    pub holding_front : Front source items cursor
    holding_front = r.stands

    pub holding_ends : count ≤ i → Says source items (record { holds = true; front = cursor }) (rows_hold phrases items started listed (rows_in numbers))
    unfolding rows_hold
    holding_ends past =
        record { front = r.stands; so = λ all. ap (rows_hold phrases items started listed) (sym (left_over numbers count i past)) ∙ r.same all }

    module _ (row : Row) (judged : Judged) (here : i < count) (is : row ≡ row_at numbers i) (says : Says source items judged (row_holds phrases items started listed row)) where
      splits : AllGiven source items
          → (row_holds phrases items started listed row and rows_hold phrases items started listed (left numbers count (i + 1)))
          ≡ rows_hold phrases items started listed (rows_in numbers)
      unfolding rows_hold
      splits all =
          ap (λ (a : Row). rows_hold phrases items started listed (a ∷ left numbers count (i + 1))) is
          ∙ ap (rows_hold phrases items started listed) (sym (left_next numbers count i here))
          ∙ r.same all

      pub holding_refuses : not judged.holds ≡ true
          → Says source items (record { holds = false; front = judged.front }) (rows_hold phrases items started listed (rows_in numbers))
      holding_refuses h = record { front = says.front; so = λ all. sym (first_false _ _ (flag_off (says.so all) h)) ∙ splits all }

      pub holding_goes_on : not judged.holds ≡ false → Holding phrases source items started listed numbers count judged.front (i + 1)
      unfolding ◌and◌
      holding_goes_on h = record { stands = says.front; same = λ all. rw (flag_on (says.so all) h) at (splits all) }

pub ruleset holding = (holding_starts, holding_front, holding_ends, holding_refuses, holding_goes_on)
