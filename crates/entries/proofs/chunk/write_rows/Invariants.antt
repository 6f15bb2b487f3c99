-- `write_rows` leaves the bytes of all rows at their place. The loop's invariant is `Filling`: what is still to be stored makes the whole.
use Prim.Native.Nat.{◌-◌}
use Rattle.entries.proofs.Filling.{Filling}
use Rattle.entries.proofs.chunk.write_rows.Given as goal

abbrev pub invariant-loop-i : goal.invariant-loop-i
invariant-loop-i l = Filling l.phrases l.letters l.entries l.count l.at l.initial.out l.out l.next l.i

abbrev pub decreases-loop-i : goal.decreases-loop-i
decreases-loop-i l = l.count - l.i
