-- `reading::tops::check_tops` meets its contract.
use Prim.Native.Nat.{◌-◌}
use Rattle.reading.proofs.AllTops.{Topping}
use Rattle.reading.proofs.tops.check_tops.Given as goal

abbrev pub invariant-loop-at : goal.invariant-loop-at
invariant-loop-at l = Topping l.s l.start l.end l.rows l.at

abbrev pub decreases-loop-at : goal.decreases-loop-at
decreases-loop-at l = l.end - l.at
