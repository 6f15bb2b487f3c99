use borrow.Author.Rules.{rules}
use Rattle.lines.proofs.Names.{name_next}
use Rattle.lines.proofs.name.write_kind.Goals as goal

pub returns-clause-value : goal.returns-clause-value
returns-clause-value c = search (rules, name_next)
