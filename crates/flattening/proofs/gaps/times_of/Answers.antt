-- `flattening::gaps::times_of` meets its contract.
use Rattle.flattening.proofs.Waiting.{sizes}
use Rattle.flattening.proofs.gaps.times_of.Goals as goal

pub returns-then-gap-eq0-clause-value : goal.returns-then-gap-eq0-clause-value
returns-then-gap-eq0-clause-value c = search sizes

pub returns-clause-value : goal.returns-clause-value
returns-clause-value c = search sizes
