-- `flattening::section::shape_in` meets its contract.
use Rattle.flattening.proofs.Shaping.{shape_known}
use Rattle.flattening.proofs.section.shape_in.Goals as goal

pub returns : goal.returns
returns c = search shape_known
