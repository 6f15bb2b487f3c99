-- `reading::row::fill_top` meets its contract.
use borrow.Author.Rules.{rules}
use Rattle.reading.proofs.TopRows.{own_rows}
use Rattle.reading.proofs.row.fill_top.Goals as goal

pub returns-clause-rows_after : goal.returns-clause-rows_after
returns-clause-rows_after c = search (rules, own_rows)
