-- `reading::find::find_track` meets its contract.
use Prim.Native.Nat.{◌-◌}
use Rattle.reading.proofs.Finding.{Finding}
use Rattle.reading.proofs.find.find_track.Given as goal

abbrev pub invariant-loop-at : goal.invariant-loop-at
invariant-loop-at l = Finding l.s l.row l.end l.k l.at

abbrev pub decreases-loop-at : goal.decreases-loop-at
decreases-loop-at l = l.end - l.at
