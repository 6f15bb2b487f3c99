-- `sections::take::take_item` meets its contract.
use Rattle.sections.proofs.Taking.{taking}
use borrow.Author.Rules.{rules}
use Rattle.sections.proofs.take.take_item.Goals as goal

pub returns : goal.returns
returns c = search (rules, taking)
