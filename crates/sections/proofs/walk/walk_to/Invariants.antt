-- `sections::walk::walk_to` meets its contract.
use Prim.Native.Nat.{◌-◌}
use lib.ListN.{length}
use Rattle.sections.proofs.Nearing.{Nearing}
use Rattle.sections.proofs.walk.walk_to.Given as goal

abbrev pub invariant-loop-now : goal.invariant-loop-now
invariant-loop-now l = Nearing l.voice l.body l.initial.now.at l.marks l.address l.now

abbrev pub decreases-loop-now : goal.decreases-loop-now
decreases-loop-now l = length l.body - l.now.at
