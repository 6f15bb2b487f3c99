-- `check_entries` answers for the rules, entry by entry. The loop's invariant is `Holding`.
use Prim.Native.Nat.{◌-◌}
use lib.ListN.{length}
use Rattle.model.specs.Item.{items_of}
use Rattle.seek.proofs.Holding.{Holding}
use Rattle.seek.proofs.points.check_entries.Given as goal

abbrev pub invariant-loop-at : goal.invariant-loop-at
invariant-loop-at l = Holding l.phrases (items_of l.voice l.body) (length l.body) l.s l.at

abbrev pub decreases-loop-at : goal.decreases-loop-at
decreases-loop-at l = length l.s - l.at
