-- The letters up to a place are stored, and what is still to be stored makes the whole.
use Rattle.giving.proofs.EntriesGiven.{Copying}
use Rattle.giving.proofs.seek_entries.copy_letters.Given as goal

abbrev pub invariant-loop-i : goal.invariant-loop-i
invariant-loop-i l = Copying l.s l.from l.count l.initial.letters l.letters l.i
