-- `check_form` answers for the form of a seek body. The loop's invariant is `Forming`.
use Prim.Native.Nat.{◌-◌}
use lib.ListN.{length}
use Rattle.seek.proofs.Ordering.{Forming}
use Rattle.seek.proofs.form.check_form.Given as goal

abbrev pub invariant-loop-at : goal.invariant-loop-at
invariant-loop-at l = Forming l.phrases l.s l.seen l.highest l.at

abbrev pub decreases-loop-at : goal.decreases-loop-at
decreases-loop-at l = length l.s - l.at
