-- `has_form` answers for the form of given entries. The loop's invariant is `Forming`.
use Prim.Native.Nat.{◌-◌}
use Rattle.entries.proofs.Forming.{Forming}
use Rattle.entries.proofs.form.has_form.Given as goal

abbrev pub invariant-loop-i : goal.invariant-loop-i
invariant-loop-i l = Forming l.phrases l.letters l.entries l.count l.seen l.highest l.i

abbrev pub decreases-loop-i : goal.decreases-loop-i
decreases-loop-i l = l.count - l.i
