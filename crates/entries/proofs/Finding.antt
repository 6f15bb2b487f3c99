-- Rows looked for by their kind: the invariants of `start_value`'s and `has_list`'s loops, and what each way out of them and each turn makes of them.
use Prim.Native.Nat.{ℕ, ◌+◌, ◌/◌, ◌<◌, ◌≤◌}
use mathlib.Core.List.{List, ◌∷◌}
use mathlib.Core.Bool.{true, false}
use mathlib.Core.Path.{◌≡◌, sym, ◌∙◌, ap}
use lib.ListN.{length}
use borrow.Author.Tests.{eq-eqb, ne_eqb}
use Rattle.model.specs.Words.{when◌then◌else◌, ◌or◌, ◌≡?◌}
use Rattle.model.proofs.Tests.{if_true, if_false}
use Rattle.entries.specs.declared.row.Row.{Row}
use Rattle.entries.specs.Rows.{row_at, rows_in}
use Rattle.entries.specs.Rules.{started_in, has_list}
use Rattle.entries.proofs.RowsLeft.{left, left_all, left_next, left_over}

pub record Starting (numbers : List ℕ) (count i : ℕ) : Type 0 where
  pub same : started_in (left numbers count i) ≡ started_in (rows_in numbers)

pub record Listing (numbers : List ℕ) (count i : ℕ) : Type 0 where
  pub same : has_list (left numbers count i) ≡ has_list (rows_in numbers)

module _ (numbers : List ℕ) (count : ℕ) where
  pub starting_begins : count ≡ length numbers / 4 → Starting numbers count 0
  starting_begins counted = record { same = ap started_in (left_all numbers count counted) }

  pub listing_begins : count ≡ length numbers / 4 → Listing numbers count 0
  listing_begins counted = record { same = ap has_list (left_all numbers count counted) }

  module _ (i : ℕ) where
    module _ (r : Starting numbers count i) where
      pub starting_ends : count ≤ i → 0 ≡ started_in (rows_in numbers)
      unfolding started_in
      starting_ends past = ap started_in (sym (left_over numbers count i past)) ∙ r.same

      module _ (row : Row) (here : i < count) (is : row ≡ row_at numbers i) where
        splits : (when row.kind ≡? 0 then row.from else started_in (left numbers count (i + 1))) ≡ started_in (rows_in numbers)
        unfolding started_in
        splits =
            ap (λ (a : Row). started_in (a ∷ left numbers count (i + 1))) is ∙ ap started_in (sym (left_next numbers count i here)) ∙ r.same

        pub starting_finds : row.kind ≡ 0 → row.from ≡ started_in (rows_in numbers)
        starting_finds k = sym (if_true (row.kind ≡? 0) _ _ (eq-eqb _ 0 k)) ∙ splits

        pub starting_goes_on : (row.kind ≡ 0 → ⊥) → Starting numbers count (i + 1)
        starting_goes_on k = record { same = sym (if_false (row.kind ≡? 0) _ _ (ne_eqb _ 0 k)) ∙ splits }

    module _ (r : Listing numbers count i) where
      pub listing_ends : count ≤ i → false ≡ has_list (rows_in numbers)
      unfolding has_list
      listing_ends past = ap has_list (sym (left_over numbers count i past)) ∙ r.same

      module _ (row : Row) (here : i < count) (is : row ≡ row_at numbers i) where
        parts : ((row.kind ≡? 3) or has_list (left numbers count (i + 1))) ≡ has_list (rows_in numbers)
        unfolding has_list
        parts = ap (λ (a : Row). has_list (a ∷ left numbers count (i + 1))) is ∙ ap has_list (sym (left_next numbers count i here)) ∙ r.same

        pub listing_finds : row.kind ≡ 3 → true ≡ has_list (rows_in numbers)
        unfolding ◌or◌
        listing_finds k = rw (eq-eqb _ 3 k) at parts

        pub listing_goes_on : (row.kind ≡ 3 → ⊥) → Listing numbers count (i + 1)
        unfolding ◌or◌
        listing_goes_on k = record { same = rw (ne_eqb _ 3 k) at parts }

pub ruleset starting = (starting_begins, starting_ends, starting_finds, starting_goes_on)

pub ruleset listing = (listing_begins, listing_ends, listing_finds, listing_goes_on)
