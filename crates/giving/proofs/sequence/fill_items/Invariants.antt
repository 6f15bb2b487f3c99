-- `giving::sequence::fill_items` meets its contract.
use Prim.Native.Nat.{◌-◌}
use lib.ListN.{length}
use Rattle.giving.proofs.ItemsGiven.{Giving}
use Rattle.giving.proofs.sequence.fill_items.Given as goal

abbrev pub invariant-loop-at : goal.invariant-loop-at
invariant-loop-at l = Giving l.voice l.body l.initial.table l.table l.at l.place

abbrev pub decreases-loop-at : goal.decreases-loop-at
decreases-loop-at l = length l.body - l.at
