use borrow.Author.Rules.{rules}
use Rattle.lines.proofs.Numbers.{closes}
use Rattle.lines.proofs.number.write_number.Goals as goal

pub bounds-out-end : goal.bounds-out-end
bounds-out-end c = search (rules, closes)

pub returns-clause-value : goal.returns-clause-value
returns-clause-value c = search (rules, closes)

pub returns-clause-within : goal.returns-clause-within
returns-clause-within c = search (rules, closes)
