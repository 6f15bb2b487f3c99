use borrow.Author.Rules.{rules}
use Rattle.lines.proofs.Rowing.{rowing}
use Rattle.lines.proofs.rows.write_rows.Goals as goal

pub loop-i-init : goal.loop-i-init
loop-i-init c = search (rules, rowing)

pub loop-i-preserved : goal.loop-i-preserved
loop-i-preserved c = search (rules, rowing)
