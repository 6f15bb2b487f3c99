-- `sections::rest::write_from` meets its contract.
use Rattle.sections.proofs.Spanning.{reaching}
use borrow.Author.Rules.{rules}
use Rattle.sections.proofs.rest.write_from.Goals as goal

pub walk_to-from-requires-clause-walked : goal.walk_to-from-requires-clause-walked
walk_to-from-requires-clause-walked c = search (rules, reaching)

pub write_on-requires-clause-arrived : goal.write_on-requires-clause-arrived
write_on-requires-clause-arrived c = search (rules, reaching)

pub returns-clause-value : goal.returns-clause-value
returns-clause-value c = search (rules, reaching)
