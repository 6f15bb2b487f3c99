-- `reading::operation::read_stated` meets its contract.
use mathlib.Core.Path.{◌∙◌}
use borrow.Author.Rules.{rules}
use Rattle.model.proofs.Tests.{handed_on}
use Rattle.reading.proofs.Whole.{stated}
use Rattle.reading.proofs.operation.read_stated.Goals as goal

pub returns-in_err-count-clause-value : goal.returns-in_err-count-clause-value
returns-in_err-count-clause-value c = handed_on _ _ _ c.from_residual.ensures.1 (search (rules, stated, c.in_err-count.was))

pub returns-in_err-count-clause-rows_after : goal.returns-in_err-count-clause-rows_after
returns-in_err-count-clause-rows_after c = search (rules, stated, c.in_err-count.was)

pub returns-then-rows-count-clause-value : goal.returns-then-rows-count-clause-value
returns-then-rows-count-clause-value c = c.refused.ensures ∙ search (rules, stated, c.in_ok-count.was)

pub returns-then-rows-count-clause-rows_after : goal.returns-then-rows-count-clause-rows_after
returns-then-rows-count-clause-rows_after c = search (rules, stated, c.in_ok-count.was)

pub fill_rows-requires-clause-s_value : goal.fill_rows-requires-clause-s_value
fill_rows-requires-clause-s_value c = search (rules, stated, c.in_ok-count.was)

pub fill_rows-requires-clause-s_in_bounds : goal.fill_rows-requires-clause-s_in_bounds
fill_rows-requires-clause-s_in_bounds c = search (rules, stated, c.in_ok-count.was)

pub answer_of-requires-clause-s_value : goal.answer_of-requires-clause-s_value
answer_of-requires-clause-s_value c = search (rules, stated, c.in_ok-count.was)

pub answer_of-requires-clause-count_value : goal.answer_of-requires-clause-count_value
answer_of-requires-clause-count_value c = search (rules, stated, c.in_ok-count.was)

pub returns-clause-value : goal.returns-clause-value
returns-clause-value c = search (rules, stated, c.in_ok-count.was)

pub returns-clause-rows_after : goal.returns-clause-rows_after
returns-clause-rows_after c = search (rules, stated, c.in_ok-count.was)
