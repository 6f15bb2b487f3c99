use borrow.Author.Rules.{rules}
use Rattle.seek.proofs.Naming.{marking}
use Rattle.seek.proofs.order.name_letters.Goals as goal

pub read_known-entry-requires-clause-known_at : goal.read_known-entry-requires-clause-known_at
read_known-entry-requires-clause-known_at c = search (rules, marking)

pub loop-at-smaller : goal.loop-at-smaller
loop-at-smaller c = search (rules, marking)
