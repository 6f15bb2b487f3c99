-- `reach` tells whether a number is an address. The loop's invariant is `Reaching`.
use Rattle.entries.proofs.Reaching.{Reaching}
use Prim.Native.Nat.{◌-◌}
use Rattle.entries.proofs.address.reach.Given as goal

abbrev pub invariant-loop-index : goal.invariant-loop-index
invariant-loop-index l = Reaching l.items l.count l.address l.index l.place

abbrev pub decreases-loop-index : goal.decreases-loop-index
decreases-loop-index l = l.count - l.index
