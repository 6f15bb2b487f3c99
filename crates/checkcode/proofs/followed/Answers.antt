-- `followed` is an entry of the tables, which are computed once more here, and are the same.
use mathlib.Core.Path.{refl}
use native.Mathlib.Omega.{arith}
use Rattle.model.specs.Words.{when◌then◌else◌}
use Rattle.model.specs.CheckCode.{bit_step, byte_step, remainder_from}
use Rattle.checkcode.proofs.Remainders.{grown, tables_from, entry}
use Rattle.checkcode.proofs.followed.Goals as goal

pub returns : goal.returns
unfolding grown tables_from remainder_from byte_step bit_step when◌then◌else◌
returns c = entry _ c.args.zeros c.args.byte refl c.requires (omega arith)
