use mathlib.Core.Path.{◌∙◌}
use borrow.Author.Rules.{rules}
use Rattle.items.proofs.Setup.{setting_up}
use Rattle.items.proofs.body.read_setup.Goals as goal

pub returns-then-s-eq0 : goal.returns-then-s-eq0
returns-then-s-eq0 c = c.refused.ensures ∙ search (rules, setting_up)

pub loop-at-init : goal.loop-at-init
loop-at-init c = search (rules, setting_up)

pub read_setup_message-requires : goal.read_setup_message-requires
read_setup_message-requires c = search (rules, setting_up)

pub loop-at-smaller : goal.loop-at-smaller
loop-at-smaller c = search (rules, setting_up)

pub loop-at-preserved : goal.loop-at-preserved
loop-at-preserved c = search (rules, setting_up)

pub returns-in_default : goal.returns-in_default
returns-in_default c = c.refused-in_default.ensures ∙ search (rules, setting_up)

pub returns : goal.returns
returns c = search (rules, setting_up)
