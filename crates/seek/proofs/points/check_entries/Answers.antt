use borrow.Author.Rules.{rules}
use Rattle.seek.proofs.Holding.{holding}
use mathlib.Core.Path.{◌∙◌}
use Rattle.seek.proofs.points.check_entries.Goals as goal

pub read_known-entry-requires-clause-known_at : goal.read_known-entry-requires-clause-known_at
read_known-entry-requires-clause-known_at c = search (rules, holding)

pub loop-at-smaller : goal.loop-at-smaller
loop-at-smaller c = search (rules, holding)

pub returns-then-not-entry_holds : goal.returns-then-not-entry_holds
returns-then-not-entry_holds c = c.refused.ensures ∙ search (rules, holding)
