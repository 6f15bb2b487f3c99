-- `first_track` walks to the first readable track.
use Prim.Native.Nat.{◌-◌}
use Rattle.lines.proofs.Firsts.{Nearing}
use Rattle.lines.proofs.first.first_track.Given as goal

abbrev pub invariant-loop-at : goal.invariant-loop-at
invariant-loop-at l = Nearing l.s l.end l.row l.at

abbrev pub decreases-loop-at : goal.decreases-loop-at
decreases-loop-at l = l.end - l.at
