-- `reading::row::fill_parts` meets its contract.
use borrow.Author.Rules.{rules}
use Rattle.reading.proofs.Filling.{fills}
use Rattle.reading.proofs.row.fill_parts.Goals as goal

pub loop-at-init : goal.loop-at-init
loop-at-init c = search (rules, fills)

pub returns-in_default-clause-value : goal.returns-in_default-clause-value
returns-in_default-clause-value c = search (rules, fills)

pub returns-in_default-clause-rows_after : goal.returns-in_default-clause-rows_after
returns-in_default-clause-rows_after c = search (rules, fills)

pub overflow_cast-chunk : goal.overflow_cast-chunk
overflow_cast-chunk c = search (rules, fills)

pub loop-at-smaller : goal.loop-at-smaller
loop-at-smaller c = search (rules, fills)

pub loop-at-preserved : goal.loop-at-preserved
loop-at-preserved c = search (rules, fills)

pub returns-clause-value : goal.returns-clause-value
returns-clause-value c = search (rules, fills)

pub returns-clause-rows_after : goal.returns-clause-rows_after
returns-clause-rows_after c = search (rules, fills)
