-- `channel_at` is what the channel has.
use mathlib.Core.Path.{◌∙◌}
use native.Mathlib.Omega.{arith}
use Rattle.model.specs.Channels.{at_first, channel_at}
use Rattle.pitch.proofs.channels.channel_at.Goals as goal

pub returns-in-Some : goal.returns-in-Some
unfolding channel_at
returns-in-Some c = c.in-Some.ensures.lookup.4 (omega arith) at_first

pub returns-in-None : goal.returns-in-None
unfolding channel_at
returns-in-None c = c.at_first.ensures ∙ c.in-None.ensures.lookup.4 (omega arith) at_first
