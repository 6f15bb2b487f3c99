-- `is_address_from` tells the addresses of a body from one of them on. The loop's invariant is `Reaching`.
use Prim.Native.Nat.{◌-◌}
use lib.ListN.{length}
use Rattle.items.proofs.Addresses.{Reaching}
use Rattle.items.proofs.reach.is_address_from.Given as goal

abbrev pub invariant-loop-at : goal.invariant-loop-at
invariant-loop-at l = Reaching l.voice l.s l.address l.at

abbrev pub decreases-loop-at : goal.decreases-loop-at
decreases-loop-at l = length l.s - l.at
