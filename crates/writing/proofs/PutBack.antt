-- Demand 2, "a written sequence reads back as exactly the items it was written from", for ONE ITEM that was put into lent memory:
-- it is read at its place, whatever the memory held and holds around it.
use Prim.Native.Nat.{ℕ, ◌+◌, ◌-◌, ◌≤◌}
use mathlib.Core.Bool.{true, not}
use mathlib.Core.List.{List, ◌++◌, append_assoc}
use mathlib.Core.Path.{◌≡◌, refl, sym, ◌∙◌, subst}
use lib.ListN.{length, take, drop}
use lib.Seq.{sets, sets-eq, length-take-le}
use native.Mathlib.Omega.{arith}
use borrow.Author.Tests.{le-leb, ltb-false, leb-true, not-false}
use Rattle.model.specs.Words.{◌<?◌, ◌≤?◌}
use Rattle.model.specs.Item.{Item, Item.timed}
use Rattle.model.specs.Plain.{item_bytes}
use Rattle.model.specs.Content.{Content, content_of, handy_phone}
use Rattle.model.specs.Writing.{event_fits, item_fits, timed_bytes, put_answer, memory_after_put, put_memory}
use Rattle.model.specs.declared.Voice.{Voice}
use Rattle.model.specs.declared.Event.{Event}
use Rattle.std.specs.Prelude.{Result, Ok, Err}
use Rattle.model.specs.declared.Unwritten.{Unwritten}
use Rattle.model.specs.declared.Unwritten.TheVariants.{Full, Unfit}
use Rattle.model.proofs.Tests.{if_all, both_true}
use Rattle.writing.proofs.ContentFits.{HasBytes, content_fits_lem}
use Rattle.writing.proofs.ReadBack.{ReadsTimed, Reads, written_reads}

-- bytes stored at a place, as a front, the bytes and a rest
stored_reads : (voice : Voice) (l : List ℕ) (at : ℕ) (what : Item Content) → item_fits voice what ≡ true → at + length (item_bytes handy_phone what) ≤ length l
    → Reads voice (sets l at (item_bytes handy_phone what)) at what
stored_reads voice l at what fits room =
    let bytes = item_bytes handy_phone what in
    let rest = drop (at + length bytes) l in
    let split = sets-eq bytes l at room ∙ append_assoc (take at l) bytes rest in
    let front : length (take at l) ≡ at = length-take-le at l (omega arith) in
    subst (λ (s : List ℕ). Reads voice s at what) (sym split)
    (subst (λ (n : ℕ). Reads voice (take at l ++ (bytes ++ rest)) n what) front (written_reads voice (take at l) rest what fits))

module _ (voice : Voice) (source : List ℕ) (value : ℕ) (event : Event) (narrow : HasBytes event) (l : List ℕ) (at : ℕ) where
  -- what is told by an answer, if it is that all was done
  abbrev Told : Result ℕ Unwritten → Type 0
  Told (Ok next) = (next ≡ at + length (timed_bytes source value event)) × ReadsTimed voice (memory_after_put l at (timed_bytes source value event) (Ok next)) at value (content_of source event)
  Told (Err Full) = Unit
  Told (Err Unfit) = Unit

  done_told : value ≤ 16511 → event_fits voice source event ≡ true → at ≤ length l → length (timed_bytes source value event) ≤ length l - at
      → Told (Ok (at + length (timed_bytes source value event)))
  unfolding timed_bytes memory_after_put item_fits
  done_told h fits within room = (
    refl,
    stored_reads voice l at (timed value (content_of source event))
        (both_true (value ≤? 16511) _ (le-leb value 16511 h) (content_fits_lem voice source event narrow fits))
        (omega arith),
  )

  answer_told : Told (put_answer voice source value event (length l) at)
  unfolding put_answer
  answer_told =
      let size = length (timed_bytes source value event) in
      if_all Told (not (value ≤? 16511)) _ _ (λ a. tt)
      (λ a. if_all Told (not (event_fits voice source event)) _ _ (λ b. tt)
      (λ b. if_all Told (length l <? at) _ _ (λ c. tt)
      (λ c. if_all Told (length l - at <? size) _ _ (λ d. tt)
      (λ d. done_told (leb-true value 16511 (not-false (value ≤? 16511) a)) (not-false (event_fits voice source event) b) (ltb-false (length l) at c) (ltb-false (length l - at) size d)))))

  module _ (next : ℕ) (done : put_answer voice source value event (length l) at ≡ Ok next) where
    pub put_next : next ≡ at + length (timed_bytes source value event)
    put_next = (subst Told done answer_told).0

    pub put_reads : ReadsTimed voice (put_memory voice source value event l at) at value (content_of source event)
    unfolding put_memory
    put_reads = rw done (subst Told done answer_told).1
