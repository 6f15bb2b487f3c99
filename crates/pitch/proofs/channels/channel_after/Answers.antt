-- `channel_after` goes by the kind as the definition does.
use Rattle.model.specs.Words.{when◌then◌else◌}
use Rattle.model.specs.Channels.{channel_after}
use Rattle.model.proofs.Tests.{tests}
use Rattle.pitch.proofs.channels.channel_after.Goals as goal

pub returns-in-3 : goal.returns-in-3
unfolding channel_after
returns-in-3 c = search tests

pub returns-in-4 : goal.returns-in-4
unfolding channel_after when◌then◌else◌
returns-in-4 c = rw c.in-4.is

pub returns-in-5 : goal.returns-in-5
unfolding channel_after when◌then◌else◌
returns-in-5 c = rw c.in-5.is

pub returns-in_default : goal.returns-in_default
unfolding channel_after
returns-in_default c = search (tests, c.in_default) depth 9
