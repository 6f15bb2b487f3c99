-- `reading::row::fill_tops` meets its contract.
use Prim.Native.Nat.{◌-◌}
use Rattle.reading.proofs.AllRows.{Rowing}
use Rattle.reading.proofs.row.fill_tops.Given as goal

abbrev pub invariant-loop-at : goal.invariant-loop-at
invariant-loop-at l = Rowing l.s l.end l.initial.rows l.rows l.row l.at

abbrev pub decreases-loop-at : goal.decreases-loop-at
decreases-loop-at l = l.end - l.at
