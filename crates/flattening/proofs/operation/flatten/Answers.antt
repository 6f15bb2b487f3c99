-- `flattening::operation::flatten` meets its contract.
use mathlib.Core.Path.{◌∙◌}
use borrow.Author.Rules.{rules}
use Rattle.flattening.proofs.Operations.{buffers_flattened}
use Rattle.flattening.proofs.operation.flatten.Goals as goal

pub returns-then-buffer-n : goal.returns-then-buffer-n
returns-then-buffer-n c = record { value = c.refused.ensures ∙ search (rules, buffers_flattened); room_after = search (rules, buffers_flattened) }

pub returns-then-n-gt65536 : goal.returns-then-n-gt65536
returns-then-n-gt65536 c = record { value = c.refused-then-n-gt65536.ensures ∙ search (rules, buffers_flattened); room_after = search (rules, buffers_flattened) }

pub returns : goal.returns
returns c = record { value = search (rules, buffers_flattened); room_after = search (rules, buffers_flattened) }
