-- `check_from` adds the items up from those that are checked, to the first that is refused.
use mathlib.Core.Path.{◌∙◌}
use Rattle.writing.proofs.Checking.{checks}
use Rattle.writing.proofs.list.check_from.Goals as goal

pub returns-then-count-eq0 : goal.returns-then-count-eq0
returns-then-count-eq0 c = c.refused.ensures ∙ search checks

pub loop-i-init : goal.loop-i-init
loop-i-init c = search checks

pub returns-in-Err : goal.returns-in-Err
returns-in-Err c = c.refused-in-Err.ensures ∙ search checks

pub loop-i-preserved : goal.loop-i-preserved
loop-i-preserved c = search checks

pub returns : goal.returns
returns c = search checks
