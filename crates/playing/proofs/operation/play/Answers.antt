-- `playing::operation::play` meets its contract.
use Rattle.playing.proofs.Operations.{buffers_played}
use mathlib.Core.Path.{◌∙◌}
use borrow.Author.Rules.{rules}
use Rattle.playing.proofs.operation.play.Goals as goal

pub returns-then-buffer-n : goal.returns-then-buffer-n
returns-then-buffer-n c = record { value = c.refused.ensures ∙ search (rules, buffers_played); steps_after = search (rules, buffers_played); words_after = search (rules, buffers_played) }

pub returns-then-n-gt65536 : goal.returns-then-n-gt65536
returns-then-n-gt65536 c = record { value = c.refused-then-n-gt65536.ensures ∙ search (rules, buffers_played); steps_after = search (rules, buffers_played); words_after = search (rules, buffers_played) }

pub returns : goal.returns
returns c = record { value = search (rules, buffers_played); steps_after = search (rules, buffers_played); words_after = search (rules, buffers_played) }
