-- `has_list` looks for an order list. The loop's invariant is `Listing`.
use Prim.Native.Nat.{◌-◌}
use Rattle.entries.proofs.Finding.{Listing}
use Rattle.entries.proofs.rows.has_list.Given as goal

abbrev pub invariant-loop-i : goal.invariant-loop-i
invariant-loop-i l = Listing l.entries l.count l.i

abbrev pub decreases-loop-i : goal.decreases-loop-i
decreases-loop-i l = l.count - l.i
