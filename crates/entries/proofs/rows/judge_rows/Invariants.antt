-- `judge_rows` answers for all rows. The loop's invariant is `Holding`.
use Rattle.entries.proofs.Holding.{Holding}
use Prim.Native.Nat.{◌-◌}
use Rattle.entries.proofs.rows.judge_rows.Given as goal

abbrev pub invariant-loop-i : goal.invariant-loop-i
invariant-loop-i l = Holding l.phrases l.source l.items l.started l.listed l.entries l.count l.front l.i

abbrev pub decreases-loop-i : goal.decreases-loop-i
decreases-loop-i l = l.count - l.i
