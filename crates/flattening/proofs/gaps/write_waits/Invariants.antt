-- `flattening::gaps::write_waits` meets its contract.
use Rattle.flattening.proofs.Waiting.{Waiting}
use Rattle.flattening.proofs.gaps.write_waits.Given as goal

abbrev pub invariant-loop-more : goal.invariant-loop-more
invariant-loop-more l = Waiting l.initial.out l.at l.gap l.out l.place l.more

abbrev pub decreases-loop-more : goal.decreases-loop-more
decreases-loop-more l = l.more
