-- The form of given entries, checked row by row: the invariant of `has_form`'s loop, and what each way out of it and each turn makes of it.
use Prim.Native.Nat.{ℕ, ◌+◌, ◌/◌, ◌<◌, ◌≤◌}
use mathlib.Core.List.{List, [], ◌∷◌}
use mathlib.Core.Bool.{Bool, true, false, false≢true}
use mathlib.Core.Path.{◌≡◌, refl, sym, ◌∙◌, ap, subst}
use lib.ListN.{length, get_or, set, length-set, replicate, length-replicate}
use native.Mathlib.Omega.{arith}
use borrow.Author.Tests.{lt-ltb, le-ltb}
use Rattle.model.specs.Words.{◌<?◌, any, Placed, Checked}
use Rattle.std.specs.Prelude.{Ok, Err}
use Rattle.model.specs.Item.{is_fine}
use Rattle.model.specs.Seek.{Entry, rank}
use Rattle.model.specs.SeekBytes.{entries_given}
use Rattle.model.proofs.Tests.{flag_on, flag_off}
use Rattle.model.proofs.Outcomes.{fine_some}
use Rattle.seek.proofs.Ordering.{slot, tagged, ranked, Remembered, remember, none_flagged, in_order_passes, in_order_twice, in_order_late}
use Rattle.entries.specs.declared.row.Row.{Row}
use Rattle.entries.specs.Rows.{row_at, row_given, slot_of}
use Rattle.entries.proofs.RowsLeft.{left, left_all, left_next, left_over}
use Rattle.entries.proofs.RowIs.{RowIs, row_is, row_known, row_rank, row_slot}
use Rattle.entries.proofs.RowsGiven.{ahead, rows_given, size_of, formed, given_formed, formed_none, formed_fault, formed_stops, formed_next}

pub record Forming (phrases : Bool) (letters numbers : List ℕ) (count : ℕ) (seen : List Bool) (highest i : ℕ) : Type 0 where
  pub place : ℕ
  pub before : List (Placed Entry)
  pub long : length seen ≡ 256
  pub remembered : Remembered before seen highest
  pub same : formed phrases place before (rows_given phrases letters (left numbers count i)) ≡ is_fine (entries_given phrases letters numbers)

module _ (phrases : Bool) (letters numbers : List ℕ) (count : ℕ) where
  pub form_starts : count ≡ length numbers / 4 → Forming phrases letters numbers count (replicate 256 false) 0 0
  unfolding any
  form_starts counted =
      record {
        place = 0;
        before = [];
        long = length-replicate 256 false;
        remembered = record { tags = λ entry k. sym (none_flagged 256 (slot entry)); ranks = λ n. sym (le-ltb n 0 (omega arith)) };
        same = ap (λ (rows : List Row). formed phrases 0 [] (rows_given phrases letters rows)) (left_all numbers count counted) ∙ given_formed phrases letters numbers;
      }

  module _ (seen : List Bool) (highest i : ℕ) (r : Forming phrases letters numbers count seen highest i) where
    pub form_ends : count ≤ i → true ≡ is_fine (entries_given phrases letters numbers)
    unfolding rows_given
    form_ends past =
        sym (formed_none phrases r.place r.before)
        ∙ ap (λ (rows : List Row). formed phrases r.place r.before (rows_given phrases letters rows)) (sym (left_over numbers count i past))
        ∙ r.same

    module _ (row : Row) (here : i < count) (is : row ≡ row_at numbers i) where
      turned : (one : Checked Entry) → row_given phrases letters row ≡ one
          → formed phrases r.place r.before (ahead one (rows_given phrases letters (left numbers count (i + 1)))) ≡ is_fine (entries_given phrases letters numbers)
      unfolding rows_given
      turned one e =
          ap (λ (o : Checked Entry). formed phrases r.place r.before (ahead o (rows_given phrases letters (left numbers count (i + 1)))))
          (sym e ∙ ap (row_given phrases letters) is)
          ∙ ap (λ (rows : List Row). formed phrases r.place r.before (rows_given phrases letters rows)) (sym (left_next numbers count i here))
          ∙ r.same

      pub form_faulty : is_fine (row_given phrases letters row) ≡ false → false ≡ is_fine (entries_given phrases letters numbers)
      unfolding is_fine
      form_faulty h = go (row_given phrases letters row) refl
        where
          go : (one : Checked Entry) → row_given phrases letters row ≡ one → false ≡ is_fine (entries_given phrases letters numbers)
          go (Ok entry) e = absurd (false≢true (sym h ∙ ap is_fine e))
          go (Err why) e = sym (formed_fault phrases r.place r.before why.number why.place _) ∙ turned (Err why) e

      module _ (fits : is_fine (row_given phrases letters row) ≡ true) where
        the_entry : Entry
        the_entry = (fine_some (row_given phrases letters row) fits).0

        given : row_given phrases letters row ≡ Ok the_entry
        unfolding the_entry
        given = (fine_some (row_given phrases letters row) fits).1

        entry_is : RowIs letters row the_entry
        entry_is = row_is phrases letters row the_entry given

        abbrev now_placed : Placed Entry
        now_placed = record { place = r.place; what = the_entry }

        ranked_here : ranked r.before (rank the_entry) ≡ (row.kind <? highest)
        ranked_here = r.remembered.ranks (rank the_entry) ∙ ap (λ (n : ℕ). n <? highest) (row_rank letters row the_entry entry_is)

        pub form_late : row.kind < highest → false ≡ is_fine (entries_given phrases letters numbers)
        form_late h =
            sym (formed_stops phrases r.place r.before the_entry 12 r.place _
            (in_order_late r.before now_placed (ranked_here ∙ lt-ltb row.kind highest h)))
            ∙ turned (Ok the_entry) given

        module _ (slotted : ℕ) (in-slot : slotted ≡ slot_of row) where
          slot_here : slot the_entry ≡ slotted
          slot_here = row_slot letters row the_entry entry_is ∙ sym in-slot

          tagged_here : tagged r.before the_entry ≡ get_or seen slotted false
          tagged_here =
              r.remembered.tags the_entry (row_known letters row the_entry entry_is) ∙ ap (λ (n : ℕ). get_or seen n false) slot_here

          pub form_twice : get_or seen slotted false ≡ true → false ≡ is_fine (entries_given phrases letters numbers)
          form_twice h =
              sym (formed_stops phrases r.place r.before the_entry 12 r.place _ (in_order_twice r.before now_placed (tagged_here ∙ h)))
              ∙ turned (Ok the_entry) given

          pub form_goes_on : slotted < 256 → get_or seen slotted false ≡ false → highest ≤ row.kind
              → Forming phrases letters numbers count (set seen slotted true) row.kind (i + 1)
          form_goes_on small first up =
              let rank_here = row_rank letters row the_entry entry_is in
              let slots = slot_here in
              record {
                place = r.place + size_of phrases the_entry;
                before = now_placed ∷ r.before;
                long = length-set seen slotted true ∙ r.long;
                remembered =
                    subst (λ (k : ℕ). Remembered (now_placed ∷ r.before) (set seen k true) row.kind) slots
                    (subst (Remembered (now_placed ∷ r.before) (set seen (slot the_entry) true)) rank_here
                    (remember r.before seen highest r.remembered now_placed (row_known letters row the_entry entry_is) (omega (arith, r.long)) (omega arith)));
                same =
                    sym (formed_next phrases r.place r.before the_entry _
                    (in_order_passes r.before now_placed (tagged_here ∙ first) (ranked_here ∙ le-ltb row.kind highest up)))
                    ∙ turned (Ok the_entry) given;
              }

pub ruleset forming = (form_starts, form_ends, form_faulty, form_late, form_twice, form_goes_on, flag_on, flag_off)
