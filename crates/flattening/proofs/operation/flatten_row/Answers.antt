-- `flattening::operation::flatten_row` meets its contract.
use mathlib.Core.Path.{◌∙◌}
use Rattle.flattening.proofs.Operations.{rows_flattened}
use Rattle.flattening.proofs.operation.flatten_row.Goals as goal

pub returns-in-Some : goal.returns-in-Some
returns-in-Some c = record { value = search rows_flattened; room_after = search rows_flattened }

pub returns-in-None : goal.returns-in-None
returns-in-None c = record { value = c.refused.ensures ∙ search rows_flattened; room_after = search rows_flattened }
