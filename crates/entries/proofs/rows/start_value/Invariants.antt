-- `start_value` looks for the start point. The loop's invariant is `Starting`.
use Prim.Native.Nat.{◌-◌}
use Rattle.entries.proofs.Finding.{Starting}
use Rattle.entries.proofs.rows.start_value.Given as goal

abbrev pub invariant-loop-i : goal.invariant-loop-i
invariant-loop-i l = Starting l.entries l.count l.i

abbrev pub decreases-loop-i : goal.decreases-loop-i
decreases-loop-i l = l.count - l.i
