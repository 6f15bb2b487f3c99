-- The bytes from a place on are the same, so that those before it decide.
use Rattle.std.specs.Prelude.{◌≡◌}
use Rattle.model.specs.Words.{◌≡?◌}
use Rattle.model.specs.Bytes.{number}
use Rattle.numbers.proofs.stands_at.Given as goal

abbrev pub invariant-loop-i : goal.invariant-loop-i
invariant-loop-i g l = (number g.row.N l.s l.at ≡? number g.row.N l.name 0) ≡ (number l.i l.s l.at ≡? number l.i l.name 0)
