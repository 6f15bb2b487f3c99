-- `chunks::list::find_link` meets its contract.
use Prim.Native.Nat.{◌-◌}
use Rattle.chunks.specs.Kept.{link_count}
use Rattle.chunks.proofs.Trees.{Descending}
use Rattle.chunks.proofs.list.find_link.Given as goal

abbrev pub invariant-loop-ahead : goal.invariant-loop-ahead
invariant-loop-ahead l = Descending l.s l.links l.id l.link l.bits l.ahead

abbrev pub decreases-loop-ahead : goal.decreases-loop-ahead
decreases-loop-ahead l = link_count - l.link
