-- `flattening::gaps::waits_size` meets its contract.
use Rattle.flattening.proofs.Waiting.{sizes}
use Rattle.flattening.proofs.gaps.waits_size.Goals as goal

pub returns-clause-value : goal.returns-clause-value
returns-clause-value c = search sizes
