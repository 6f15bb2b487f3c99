use borrow.Author.Rules.{rules}
use Rattle.entries.proofs.Sizing.{sizing}
use Rattle.entries.proofs.size.seek_size.Goals as goal

pub returns-then-count-eq0 : goal.returns-then-count-eq0
returns-then-count-eq0 c = search (rules, sizing)

pub loop-i-init : goal.loop-i-init
loop-i-init c = search (rules, sizing)

pub loop-i-preserved : goal.loop-i-preserved
loop-i-preserved c = search (rules, sizing)

pub returns : goal.returns
returns c = search (rules, sizing)
