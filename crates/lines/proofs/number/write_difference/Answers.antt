use borrow.Author.Rules.{rules}
use Rattle.lines.proofs.Numbers.{signs}
use Rattle.lines.proofs.number.write_difference.Goals as goal

pub returns-then-up-down-clause-value : goal.returns-then-up-down-clause-value
returns-then-up-down-clause-value c = search (rules, signs)

pub returns-clause-value : goal.returns-clause-value
returns-clause-value c = search (rules, signs)
