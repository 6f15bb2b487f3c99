use borrow.Author.Rules.{rules}
use Rattle.items.proofs.Addresses.{reaching}
use Rattle.items.proofs.reach.is_address_from.Goals as goal

pub loop-at-init : goal.loop-at-init
loop-at-init c = search (rules, reaching)

pub returns-then-s-at : goal.returns-then-s-at
returns-then-s-at c = search (rules, reaching)

pub pass_item-at-requires : goal.pass_item-at-requires
pass_item-at-requires c = search (rules, reaching)

pub loop-at-smaller : goal.loop-at-smaller
loop-at-smaller c = search (rules, reaching)

pub loop-at-preserved : goal.loop-at-preserved
loop-at-preserved c = search (rules, reaching)

pub returns : goal.returns
returns c = search (rules, reaching)
