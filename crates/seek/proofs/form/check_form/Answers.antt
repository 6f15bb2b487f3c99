use borrow.Author.Rules.{rules}
use Rattle.seek.proofs.Ordering.{forming}
use Rattle.seek.proofs.form.check_form.Goals as goal

pub loop-at-init : goal.loop-at-init
loop-at-init c = search (rules, forming)

pub returns-in_default : goal.returns-in_default
returns-in_default c = search (rules, forming)

pub returns-then-seen-slot : goal.returns-then-seen-slot
returns-then-seen-slot c = search (rules, forming)

pub returns-then-rank-highest : goal.returns-then-rank-highest
returns-then-rank-highest c = search (rules, forming)

pub loop-at-smaller : goal.loop-at-smaller
loop-at-smaller c = search (rules, forming)

pub returns : goal.returns
returns c = search (rules, forming)
