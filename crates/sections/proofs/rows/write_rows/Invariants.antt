-- `sections::rows::write_rows` meets its contract.
use Prim.Native.Nat.{◌-◌}
use lib.ListN.{length}
use Rattle.sections.proofs.Rowing.{Rowing}
use Rattle.sections.proofs.rows.write_rows.Given as goal

abbrev pub invariant-loop-place : goal.invariant-loop-place
invariant-loop-place l =
    Rowing l.voice l.body l.span l.marks l.before l.initial.steps l.initial.words l.at l.end l.steps l.words l.row l.place l.time

abbrev pub decreases-loop-place : goal.decreases-loop-place
decreases-loop-place l = length l.body - l.place
