-- `reading::tops::check_tops` meets its contract.
use borrow.Author.Rules.{rules}
use Rattle.model.proofs.Tests.{handed_on}
use Rattle.reading.proofs.AllTops.{topping}
use Rattle.reading.proofs.tops.check_tops.Goals as goal

pub loop-at-init : goal.loop-at-init
loop-at-init c = search (rules, topping)

pub returns-in_default-clause-value : goal.returns-in_default-clause-value
returns-in_default-clause-value c = search topping

pub check_top-requires-clause-size_in_bounds : goal.check_top-requires-clause-size_in_bounds
check_top-requires-clause-size_in_bounds c = search (rules, topping)

pub returns-in_err-rows-clause-value : goal.returns-in_err-rows-clause-value
returns-in_err-rows-clause-value c = handed_on _ _ _ c.from_residual.ensures.1 (search (topping, c.in_err-rows.was))

pub loop-at-smaller : goal.loop-at-smaller
loop-at-smaller c = search (rules, topping)

pub loop-at-preserved : goal.loop-at-preserved
loop-at-preserved c = search (rules, topping, c.in_ok-rows.was)

pub returns-clause-value : goal.returns-clause-value
returns-clause-value c = search topping
