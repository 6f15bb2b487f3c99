use borrow.Author.Rules.{rules}
use Rattle.seek.proofs.Naming.{lettering}
use Rattle.seek.proofs.order.check_letters.Goals as goal

pub loop-at-init : goal.loop-at-init
loop-at-init c = search (rules, lettering)
