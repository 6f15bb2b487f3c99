-- `arranging::tables::find_stretches` meets its contract.
use Rattle.arranging.proofs.Clipping.{apart}
use Rattle.arranging.proofs.tables.find_stretches.Goals as goal

pub returns : goal.returns
returns c = search apart
