-- `chunks::search::has_chunk` meets its contract.
use Prim.Native.Nat.{◌-◌}
use Rattle.model.specs.Track.{has_one}
use Rattle.chunks.proofs.Searches.{Remaining}
use Rattle.chunks.proofs.search.has_chunk.Given as goal

abbrev pub invariant-loop-at : goal.invariant-loop-at
invariant-loop-at l = Remaining (has_one l.wanted) l.s l.start l.end l.at

abbrev pub decreases-loop-at : goal.decreases-loop-at
decreases-loop-at l = l.end - l.at
