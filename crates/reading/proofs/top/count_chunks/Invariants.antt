-- `reading::top::count_chunks` meets its contract.
use Prim.Native.Nat.{◌-◌}
use Rattle.reading.proofs.OneTop.{Counting}
use Rattle.reading.proofs.top.count_chunks.Given as goal

abbrev pub invariant-loop-at : goal.invariant-loop-at
invariant-loop-at l = Counting l.s l.start l.end l.count l.at

abbrev pub decreases-loop-at : goal.decreases-loop-at
decreases-loop-at l = l.end - l.at
