-- `flattening::section::shape_of` meets its contract.
use Prim.Native.Nat.{◌-◌}
use lib.ListN.{length}
use Rattle.flattening.proofs.Shaping.{Shaping}
use Rattle.flattening.proofs.section.shape_of.Given as goal

abbrev pub invariant-loop-place : goal.invariant-loop-place
invariant-loop-place l =
    Shaping l.voice l.body l.span l.outline l.count l.place l.time

abbrev pub decreases-loop-place : goal.decreases-loop-place
decreases-loop-place l = length l.body - l.place
