use borrow.Author.Rules.{rules}
use Rattle.lines.proofs.Lines.{line_joins}
use Rattle.lines.proofs.line.write_line.Goals as goal

pub returns-clause-value : goal.returns-clause-value
returns-clause-value c = search (rules, line_joins)
