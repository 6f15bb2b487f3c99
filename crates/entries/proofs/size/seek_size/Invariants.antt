-- `seek_size` adds up the rows. The loop's invariant is `Sizing`.
use Prim.Native.Nat.{◌-◌}
use Rattle.entries.proofs.Sizing.{Sizing}
use Rattle.entries.proofs.size.seek_size.Given as goal

abbrev pub invariant-loop-i : goal.invariant-loop-i
invariant-loop-i l = Sizing l.phrases l.letters l.entries l.count l.size l.i

abbrev pub decreases-loop-i : goal.decreases-loop-i
decreases-loop-i l = l.count - l.i
