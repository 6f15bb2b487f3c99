-- `check_from` finds the first fault, or adds the items up. The loop's invariant is `Checking`.
use Rattle.writing.proofs.Checking.{Checking}
use Rattle.writing.proofs.list.check_from.Given as goal

abbrev pub invariant-loop-i : goal.invariant-loop-i
invariant-loop-i l = Checking l.voice l.source l.items l.size l.i
