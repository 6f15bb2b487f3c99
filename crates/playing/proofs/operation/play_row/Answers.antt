-- `playing::operation::play_row` meets its contract.
use Rattle.playing.proofs.Operations.{rows_played}
use mathlib.Core.Path.{◌∙◌}
use Rattle.playing.proofs.operation.play_row.Goals as goal

pub returns-in-Some : goal.returns-in-Some
returns-in-Some c = record { value = search (rows_played); steps_after = search (rows_played); words_after = search (rows_played) }

pub returns-in-None : goal.returns-in-None
returns-in-None c = record { value = c.refused.ensures ∙ search (rows_played); steps_after = search (rows_played); words_after = search (rows_played) }
