-- `flattening::sizes::add_shape` meets its contract.
use Rattle.flattening.proofs.Sizing.{adding}
use Rattle.flattening.proofs.sizes.add_shape.Goals as goal

pub returns-then-shape-clause-value : goal.returns-then-shape-clause-value
returns-then-shape-clause-value c = search adding

pub returns-clause-value : goal.returns-clause-value
returns-clause-value c = search adding
