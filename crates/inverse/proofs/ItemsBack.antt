-- Demand 2, "a written sequence reads back as exactly the items it was written from", for a list of items that `write_items` wrote into lent memory: the bytes that
-- it reports are a body, and its items are those that were given.
use Prim.Native.Nat.{ℕ}
use mathlib.Core.List.{List}
use mathlib.Core.Path.{◌≡◌, refl, sym, ◌∙◌}
use lib.ListN.{length, take}
use lib.Seq.{take_at}
use Rattle.model.specs.Words.{Placed, Checked}
use Rattle.std.specs.Prelude.{Ok}
use Rattle.model.specs.Item.{Item, body_of}
use Rattle.model.specs.Plain.{bytes_of}
use Rattle.model.specs.Content.{Content, contents_in, handy_phone}
use Rattle.model.specs.Writing.{items_given}
use Rattle.model.specs.Answer.{written_over, memory_after, within_room, write_items_of, write_room}
use Rattle.model.specs.declared.Voice.{Voice}
use Rattle.model.specs.declared.Event.{Event}
use Rattle.model.proofs.Outcomes.{bind_fine, past_fine}
use Rattle.inverse.proofs.GivenFit.{given_fit}
use Rattle.inverse.proofs.WrittenReads.{sequence_reads}

-- the bytes that were written, at the front of the memory afterwards
pub front : (memory : List ℕ) (outcome : Checked (List ℕ)) (bytes : List ℕ) → outcome ≡ Ok bytes → take (length bytes) (write_room memory outcome) ≡ bytes
unfolding write_room memory_after written_over
front memory outcome bytes e = rw e (take_at bytes _ (length bytes) refl)

module _ (voice : Voice) (source numbers memory bytes : List ℕ) (wrote : write_items_of voice source numbers (length memory) ≡ Ok bytes) where
  pub items_read_back : (all : List (Item Content)) × (items_given voice source numbers ≡ Ok all)
      × (placed : List (Placed (Item Event)))
      × (body_of voice (take (length bytes) (write_room memory (write_items_of voice source numbers (length memory)))) ≡ Ok placed)
      × (contents_in (take (length bytes) (write_room memory (write_items_of voice source numbers (length memory)))) placed ≡ all)
  unfolding write_items_of within_room
  items_read_back =
      let given = bind_fine (items_given voice source numbers) _ bytes wrote in
      let are : bytes_of handy_phone given.0 ≡ bytes = let e = past_fine _ 24 0 _ bytes given.2 in cc in
      let fit = given_fit voice source numbers given.0 given.1 in
      let back = sequence_reads voice given.0 fit.0 fit.1 in
      let stored : take (length bytes) (write_room memory (write_items_of voice source numbers (length memory))) ≡ bytes_of handy_phone given.0 =
      front memory _ bytes wrote ∙ sym are in
      (given.0, given.1, back.0, rw stored back.1, rw stored back.2)
