use borrow.Author.Rules.{rules}
use Rattle.chunks.proofs.Trees.{descending}
use Rattle.chunks.proofs.list.find_link.Goals as goal

pub loop-ahead-init : goal.loop-ahead-init
loop-ahead-init c = search (rules, descending)

pub returns-then-number_at-id : goal.returns-then-number_at-id
returns-then-number_at-id c = search (rules, descending)

pub loop-ahead-preserved : goal.loop-ahead-preserved
loop-ahead-preserved c = search (rules, descending)

pub returns : goal.returns
returns c = search (rules, descending)
