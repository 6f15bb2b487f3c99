-- `advance` goes on item by item. The loop's invariant is the front itself.
use Prim.Native.Nat.{◌-◌}
use Rattle.entries.specs.Places.{Front}
use Rattle.entries.proofs.address.advance.Given as goal

abbrev pub invariant-loop-index : goal.invariant-loop-index
invariant-loop-index l = Front l.source l.items (record { index = l.index; place = l.place })

abbrev pub decreases-loop-index : goal.decreases-loop-index
decreases-loop-index l = l.count - l.index
