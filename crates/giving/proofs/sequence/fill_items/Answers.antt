use borrow.Author.Rules.{rules}
use Rattle.giving.proofs.ItemsGiven.{gives}
use Rattle.giving.proofs.sequence.fill_items.Goals as goal

pub loop-at-smaller : goal.loop-at-smaller
loop-at-smaller c = search (rules, gives)

pub returns : goal.returns
returns c = search (rules, gives)
