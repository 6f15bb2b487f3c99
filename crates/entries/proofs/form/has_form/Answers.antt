use borrow.Author.Rules.{rules}
use Rattle.entries.proofs.Forming.{forming}
use Rattle.entries.proofs.form.has_form.Goals as goal

pub loop-i-init : goal.loop-i-init
loop-i-init c = search (rules, forming)

pub returns-then-not-row_fits : goal.returns-then-not-row_fits
returns-then-not-row_fits c = search (rules, forming)

pub returns-then-seen-slot : goal.returns-then-seen-slot
returns-then-seen-slot c = search (rules, forming)

pub returns-then-kind-highest : goal.returns-then-kind-highest
returns-then-kind-highest c = search (rules, forming)

pub loop-i-preserved : goal.loop-i-preserved
loop-i-preserved c = search (rules, forming)

pub returns : goal.returns
returns c = search (rules, forming)
