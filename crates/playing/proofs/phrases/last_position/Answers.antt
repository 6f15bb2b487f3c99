-- `playing::phrases::last_position` meets its contract.
use Rattle.model.proofs.Tests.{tests}
use Rattle.playing.specs.Performing.{last_position}
use Rattle.playing.proofs.phrases.last_position.Goals as goal

pub returns-then-points : goal.returns-then-points
unfolding last_position
returns-then-points c = search tests

pub returns : goal.returns
unfolding last_position
returns c = search tests
