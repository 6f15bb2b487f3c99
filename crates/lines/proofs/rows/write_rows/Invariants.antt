-- `write_rows` writes line after line: in each turn, what is still to be written makes the whole.
use Rattle.lines.proofs.Rowing.{Rowing}
use Rattle.lines.proofs.rows.write_rows.Given as goal

abbrev pub invariant-loop-i : goal.invariant-loop-i
invariant-loop-i l = Rowing l.initial.out l.at l.steps l.words l.count l.milliseconds l.out l.shifts l.place l.i
