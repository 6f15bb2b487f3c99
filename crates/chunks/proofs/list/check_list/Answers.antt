use mathlib.Core.Path.{◌∙◌}
use borrow.Author.Rules.{rules}
use Rattle.chunks.proofs.Lists.{listing}
use Rattle.chunks.proofs.list.check_list.Goals as goal

pub loop-at-init : goal.loop-at-init
loop-at-init c = search (rules, listing)

pub returns-in_default : goal.returns-in_default
returns-in_default c = c.refused.ensures ∙ search (rules, listing)

pub is_allowed-requires : goal.is_allowed-requires
is_allowed-requires c = search (rules, listing)

pub returns-then-not-is_allowed : goal.returns-then-not-is_allowed
returns-then-not-is_allowed c = c.refused-then-not-is_allowed.ensures ∙ search (rules, listing)

pub returns-then-links-link-gt0 : goal.returns-then-links-link-gt0
returns-then-links-link-gt0 c = c.refused-then-links-link-gt0.ensures ∙ search (rules, listing)

pub overflow_cast-links : goal.overflow_cast-links
overflow_cast-links c = search (rules, listing)

pub loop-at-smaller : goal.loop-at-smaller
loop-at-smaller c = search (rules, listing)

pub loop-at-preserved : goal.loop-at-preserved
loop-at-preserved c = search (rules, listing)

pub returns : goal.returns
returns c = search (rules, listing)
