-- `chunks::list::check_list` meets its contract.
use Prim.Native.Nat.{◌-◌}
use Rattle.chunks.proofs.Lists.{Checking}
use Rattle.chunks.proofs.list.check_list.Given as goal

abbrev pub invariant-loop-at : goal.invariant-loop-at
invariant-loop-at l = Checking l.list l.s l.start l.end l.links l.at

abbrev pub decreases-loop-at : goal.decreases-loop-at
decreases-loop-at l = l.end - l.at
