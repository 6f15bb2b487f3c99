-- `letters_in_front` counts the letters from a place on. The loop's invariant says that those counted and those in front make them all.
use Prim.Native.Nat.{◌-◌}
use lib.ListN.{length}
use Rattle.seek.proofs.Letters.{Counting}
use Rattle.seek.proofs.entry.letters_in_front.Given as goal

abbrev pub invariant-loop-count : goal.invariant-loop-count
invariant-loop-count l = Counting l.s l.at l.count

abbrev pub decreases-loop-count : goal.decreases-loop-count
decreases-loop-count l = length l.s - l.count
