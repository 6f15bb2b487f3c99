-- `name_letters` flags every letter that has a phrase. The loop's invariant is `Marking`.
use Prim.Native.Nat.{◌-◌}
use Rattle.entries.proofs.Naming.{Marking}
use Rattle.entries.proofs.letters.name_letters.Given as goal

abbrev pub invariant-loop-i : goal.invariant-loop-i
invariant-loop-i l = Marking l.entries l.count l.flags l.i

abbrev pub decreases-loop-i : goal.decreases-loop-i
decreases-loop-i l = l.count - l.i
