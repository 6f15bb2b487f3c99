-- `check_letters` answers for the letters of the order list. The loop's invariant is `Lettering`.
use Rattle.seek.proofs.Naming.{Lettering}
use Rattle.seek.proofs.order.check_letters.Given as goal

abbrev pub invariant-loop-at : goal.invariant-loop-at
invariant-loop-at l = Lettering l.phrases l.s l.end l.at
