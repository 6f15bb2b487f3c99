-- `read_points` is what the entries say. The loop's invariant is `Pointing`.
use Prim.Native.Nat.{◌-◌}
use lib.ListN.{length}
use Rattle.seek.proofs.Saying.{Pointing}
use Rattle.seek.proofs.said.read_points.Given as goal

abbrev pub invariant-loop-at : goal.invariant-loop-at
invariant-loop-at l = Pointing l.phrases l.s l.points l.at

abbrev pub decreases-loop-at : goal.decreases-loop-at
decreases-loop-at l = length l.s - l.at
