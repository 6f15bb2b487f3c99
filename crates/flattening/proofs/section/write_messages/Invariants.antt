-- `flattening::section::write_messages` meets its contract.
use Prim.Native.Nat.{◌-◌}
use lib.ListN.{length}
use Rattle.flattening.proofs.Telling.{Telling}
use Rattle.flattening.proofs.section.write_messages.Given as goal

abbrev pub invariant-loop-place : goal.invariant-loop-place
invariant-loop-place l =
    Telling l.voice l.body l.span l.before l.past l.initial.out l.at l.out l.here l.last l.count l.place l.time

abbrev pub decreases-loop-place : goal.decreases-loop-place
decreases-loop-place l = length l.body - l.place
