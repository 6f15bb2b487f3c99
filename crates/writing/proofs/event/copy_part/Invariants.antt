-- `copy_part` leaves the stretch at its place: in each turn, what is still to be stored makes the whole.
use Prim.Native.Nat.{◌-◌}
use Rattle.writing.proofs.Stores.{Copied}
use Rattle.writing.proofs.event.copy_part.Given as goal

abbrev pub invariant-loop-i : goal.invariant-loop-i
invariant-loop-i l = Copied l.initial.out l.source l.out l.at l.from l.count l.i

abbrev pub decreases-loop-i : goal.decreases-loop-i
decreases-loop-i l = l.count - l.i
