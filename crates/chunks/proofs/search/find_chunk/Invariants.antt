-- `chunks::search::find_chunk` meets its contract.
use Prim.Native.Nat.{◌-◌}
use Rattle.model.specs.Track.{part_named}
use Rattle.model.specs.Bytes.{number}
use Rattle.chunks.proofs.Searches.{Remaining}
use Rattle.chunks.proofs.search.find_chunk.Given as goal

abbrev pub invariant-loop-at : goal.invariant-loop-at
invariant-loop-at l = Remaining (part_named (number 4 l.id 0)) l.s l.start l.end l.at

abbrev pub decreases-loop-at : goal.decreases-loop-at
decreases-loop-at l = l.end - l.at
