-- `reading::row::fill_parts` meets its contract.
use Prim.Native.Nat.{◌-◌}
use Rattle.reading.proofs.Filling.{Filling}
use Rattle.reading.proofs.row.fill_parts.Given as goal

abbrev pub invariant-loop-at : goal.invariant-loop-at
invariant-loop-at l = Filling l.s l.start l.end l.container l.initial.rows l.rows l.k l.row l.at

abbrev pub decreases-loop-at : goal.decreases-loop-at
decreases-loop-at l = l.end - l.at
