-- The invariant and the measure of `arranging::all::check_tracks`'s loop.
use Prim.Native.Nat.{◌-◌}
use Rattle.arranging.proofs.Checking.{Checking}
use Rattle.arranging.proofs.all.check_tracks.Given as goal

abbrev pub invariant-loop-i : goal.invariant-loop-i
invariant-loop-i l = Checking l.numbers l.bytes l.count l.p l.q l.size l.i

abbrev pub decreases-loop-i : goal.decreases-loop-i
decreases-loop-i l = l.count - l.i
