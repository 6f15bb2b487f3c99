use borrow.Author.Rules.{rules}
use Rattle.lines.proofs.Rowing.{pairs}
use Rattle.lines.proofs.rows.write_pair.Goals as goal

pub returns-clause-value : goal.returns-clause-value
returns-clause-value c = search (rules, pairs)
