-- `judge_row` answers for one row, by its kind.
use Rattle.entries.proofs.Holding.{said_rows}
use borrow.Author.Rules.{rules}
use Rattle.entries.proofs.points.judge_row.Goals as goal

pub returns-then-row-eq3 : goal.returns-then-row-eq3
returns-then-row-eq3 c = search (rules, said_rows)

pub returns-then-row-eq2 : goal.returns-then-row-eq2
returns-then-row-eq2 c = search (rules, said_rows)

pub returns-then-is_early : goal.returns-then-is_early
returns-then-is_early c = search (rules, said_rows)

pub returns-then-phrases : goal.returns-then-phrases
returns-then-phrases c = search (rules, said_rows)

pub returns : goal.returns
returns c = search (rules, said_rows)
