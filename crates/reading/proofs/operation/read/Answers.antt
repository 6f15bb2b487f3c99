-- `reading::operation::read` meets its contract.
use native.Mathlib.Omega.{arith}
use borrow.Author.Rules.{rules}
use Rattle.std.proofs.lemmas.Grind.{common_steps}
use Rattle.reading.proofs.Whole.{past_refused, past_kept, over_refused, over_kept, whole}
use Rattle.reading.proofs.operation.read.Goals as goal

pub returns-then-buffer-n-clause-value : goal.returns-then-buffer-n-clause-value
returns-then-buffer-n-clause-value c = grind (arith, common_steps, past_refused, over_refused)

pub returns-then-buffer-n-clause-rows_after : goal.returns-then-buffer-n-clause-rows_after
returns-then-buffer-n-clause-rows_after c = grind (arith, common_steps, past_kept, over_kept)

pub returns-clause-value : goal.returns-clause-value
returns-clause-value c = search (rules, whole)

pub returns-clause-rows_after : goal.returns-clause-rows_after
returns-clause-rows_after c = search (rules, whole)
