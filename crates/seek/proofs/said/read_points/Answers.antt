use borrow.Author.Rules.{rules}
use Rattle.seek.proofs.Saying.{pointing}
use Rattle.seek.proofs.said.read_points.Goals as goal

pub read_known-entry-requires-clause-known_at : goal.read_known-entry-requires-clause-known_at
read_known-entry-requires-clause-known_at c = search (rules, pointing)

pub loop-at-smaller : goal.loop-at-smaller
loop-at-smaller c = search (rules, pointing)

pub returns : goal.returns
returns c = search (rules, pointing)
