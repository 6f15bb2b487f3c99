-- The invariant and the measure of `arranging::all::write_tracks`'s loop.
use Prim.Native.Nat.{◌-◌}
use Rattle.arranging.proofs.Filling.{Filling}
use Rattle.arranging.proofs.all.write_tracks.Given as goal

abbrev pub invariant-loop-i : goal.invariant-loop-i
invariant-loop-i l = Filling l.numbers l.bytes l.count l.at l.initial.out l.out l.p l.q l.next l._i

abbrev pub decreases-loop-i : goal.decreases-loop-i
decreases-loop-i l = l.count - l._i
