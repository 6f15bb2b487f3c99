-- `find_phrase` is the phrase of a letter. The loop's invariant is `Searching`.
use Prim.Native.Nat.{◌-◌}
use lib.ListN.{length}
use Rattle.seek.proofs.Saying.{Searching}
use Rattle.seek.proofs.said.find_phrase.Given as goal

abbrev pub invariant-loop-at : goal.invariant-loop-at
invariant-loop-at l = Searching l.phrases l.s l.letter l.at

abbrev pub decreases-loop-at : goal.decreases-loop-at
decreases-loop-at l = length l.s - l.at
