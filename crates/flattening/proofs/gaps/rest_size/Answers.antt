-- `flattening::gaps::rest_size` meets its contract.
use Rattle.flattening.proofs.Waiting.{sizes}
use Rattle.flattening.proofs.gaps.rest_size.Goals as goal

pub returns-then-left-eq0-clause-value : goal.returns-then-left-eq0-clause-value
returns-then-left-eq0-clause-value c = search sizes

pub returns-clause-value : goal.returns-clause-value
returns-clause-value c = search sizes
