-- `giving::seek_entries::fill_entries` meets its contract.
use Prim.Native.Nat.{◌-◌}
use lib.ListN.{length}
use Rattle.giving.proofs.Seeking.{Storing}
use Rattle.giving.proofs.seek_entries.fill_entries.Given as goal

abbrev pub invariant-loop-at : goal.invariant-loop-at
invariant-loop-at l = Storing l.phrases l.s l.initial.table l.table l.at l.place

abbrev pub decreases-loop-at : goal.decreases-loop-at
decreases-loop-at l = length l.s - l.at
