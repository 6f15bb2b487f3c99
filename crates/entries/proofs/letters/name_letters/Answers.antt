use borrow.Author.Rules.{rules}
use Rattle.entries.proofs.Naming.{marking}
use Rattle.entries.proofs.letters.name_letters.Goals as goal

pub loop-i-init : goal.loop-i-init
loop-i-init c = search (rules, marking)

pub loop-i-preserved : goal.loop-i-preserved
loop-i-preserved c = search (rules, marking)

pub returns : goal.returns
returns c = search (rules, marking)
