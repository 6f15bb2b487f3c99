-- `name_letters` flags every letter that has a phrase. The loop's invariant is `Marking`.
use Prim.Native.Nat.{◌-◌}
use lib.ListN.{length}
use Rattle.seek.proofs.Naming.{Marking}
use Rattle.seek.proofs.order.name_letters.Given as goal

abbrev pub invariant-loop-at : goal.invariant-loop-at
invariant-loop-at l = Marking l.phrases l.s l.flags l.at

abbrev pub decreases-loop-at : goal.decreases-loop-at
decreases-loop-at l = length l.s - l.at
