-- The bytes from a place on are stored, so that those before it, of what is left of the number, make the whole.
use mathlib.Core.Path.{◌≡◌}
use lib.Seq.{sets}
use Rattle.model.specs.ChunkBytes.{number_bytes}
use Rattle.entries.proofs.bytes.write_number.Given as goal

abbrev pub invariant-loop-i : goal.invariant-loop-i
invariant-loop-i g l = sets l.out l.at (number_bytes l.i l.left) ≡ sets l.initial.out l.at (number_bytes g.row.N l.number)
