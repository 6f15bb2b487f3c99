-- The invariant and the measure of `arranging::tables::count_tracks`'s loop.
use Prim.Native.Nat.{◌-◌}
use lib.ListN.{length}
use Rattle.arranging.proofs.Counting.{Counting}
use Rattle.arranging.proofs.tables.count_tracks.Given as goal

abbrev pub invariant-loop-p : goal.invariant-loop-p
invariant-loop-p l = Counting l.numbers l.bytes l.seen l.count l.p l.q

abbrev pub decreases-loop-p : goal.decreases-loop-p
decreases-loop-p l = length l.numbers - l.p
