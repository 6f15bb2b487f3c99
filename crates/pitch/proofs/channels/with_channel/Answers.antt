-- `with_channel` changes one channel.
use mathlib.Core.Path.{sym}
use lib.Seq.{set_out}
use native.Mathlib.Omega.{arith}
use Rattle.pitch.proofs.channels.with_channel.Goals as goal

pub returns-then-at-ge4 : goal.returns-then-at-ge4
returns-then-at-ge4 c = sym (set_out c.args.channels c.args.number c.args.channel (omega arith))
