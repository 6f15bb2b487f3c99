-- `flattening::section::join` meets its contract.
use Rattle.flattening.proofs.Shaping.{joins}
use Rattle.flattening.proofs.section.join.Goals as goal

pub returns-then-outline-clause-value : goal.returns-then-outline-clause-value
returns-then-outline-clause-value c = search joins

pub returns-clause-value : goal.returns-clause-value
returns-clause-value c = search joins
