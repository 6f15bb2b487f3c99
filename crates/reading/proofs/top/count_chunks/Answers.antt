-- `reading::top::count_chunks` meets its contract.
use borrow.Author.Rules.{rules}
use Rattle.reading.proofs.OneTop.{countings}
use Rattle.reading.proofs.top.count_chunks.Goals as goal

pub loop-at-init : goal.loop-at-init
loop-at-init c = search (rules, countings)

pub returns-in_default : goal.returns-in_default
returns-in_default c = search (rules, countings)

pub loop-at-smaller : goal.loop-at-smaller
loop-at-smaller c = search (rules, countings)

pub loop-at-preserved : goal.loop-at-preserved
loop-at-preserved c = search (rules, countings)

pub returns : goal.returns
returns c = search (rules, countings)
