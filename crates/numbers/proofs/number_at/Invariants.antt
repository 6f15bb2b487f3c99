-- The number so far is that of the bytes so far.
use Rattle.std.specs.Prelude.{◌≡◌}
use Rattle.model.specs.Bytes.{number}
use Rattle.numbers.proofs.number_at.Given as goal

abbrev pub invariant-loop-i : goal.invariant-loop-i
invariant-loop-i g l = l.number ≡ number l.i l.s l.at
