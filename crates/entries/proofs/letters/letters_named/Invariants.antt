-- `letters_named` tells whether each letter has a phrase. The loop's invariant is `Lettering`.
use Prim.Native.Nat.{◌-◌}
use lib.ListN.{length}
use Rattle.entries.specs.Rows.{rows_in}
use Rattle.entries.proofs.Naming.{Lettering}
use Rattle.entries.proofs.letters.letters_named.Given as goal

abbrev pub invariant-loop-letter : goal.invariant-loop-letter
invariant-loop-letter l = Lettering (rows_in l.entries) l.letters l.letter-index

abbrev pub decreases-loop-letter : goal.decreases-loop-letter
decreases-loop-letter l = length l.letters - l.letter-index
