-- `reading::row::fill_tops` meets its contract.
use borrow.Author.Rules.{rules}
use Rattle.reading.proofs.AllRows.{rowing}
use Rattle.reading.proofs.row.fill_tops.Goals as goal

pub loop-at-init : goal.loop-at-init
loop-at-init c = search (rules, rowing)

pub returns-in_default : goal.returns-in_default
returns-in_default c = search (rules, rowing)

pub fill_top-row-requires-clause-size_in_bounds : goal.fill_top-row-requires-clause-size_in_bounds
fill_top-row-requires-clause-size_in_bounds c = search (rules, rowing)

pub fill_top-row-requires-clause-size_value : goal.fill_top-row-requires-clause-size_value
fill_top-row-requires-clause-size_value c = search (rules, rowing)

pub fill_top-row-requires-clause-size_in_bounds_2 : goal.fill_top-row-requires-clause-size_in_bounds_2
fill_top-row-requires-clause-size_in_bounds_2 c = search (rules, rowing)

pub loop-at-smaller : goal.loop-at-smaller
loop-at-smaller c = search (rules, rowing)

pub loop-at-preserved : goal.loop-at-preserved
loop-at-preserved c = search (rules, rowing)

pub returns : goal.returns
returns c = search (rules, rowing)
