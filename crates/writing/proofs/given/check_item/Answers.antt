-- `check_item` is the definition, check by check.
use mathlib.Core.Path.{◌∙◌}
use Rattle.writing.proofs.GivenItems.{item_checks}
use Rattle.writing.proofs.given.check_item.Goals as goal

pub returns-then-duration-gt16511 : goal.returns-then-duration-gt16511
returns-then-duration-gt16511 c = c.refused.ensures ∙ search item_checks

pub returns-then-duration-ne0 : goal.returns-then-duration-ne0
returns-then-duration-ne0 c = c.refused-then-duration-ne0.ensures ∙ search item_checks

pub returns-then-kind-eq16 : goal.returns-then-kind-eq16
returns-then-kind-eq16 c = search item_checks

pub returns-then-not-is_kind : goal.returns-then-not-is_kind
returns-then-not-is_kind c = c.refused-then-not-is_kind.ensures ∙ search item_checks

pub returns : goal.returns
returns c = search (item_checks, c.check_word.ensures)
