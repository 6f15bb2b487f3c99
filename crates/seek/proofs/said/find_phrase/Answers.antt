use borrow.Author.Rules.{rules}
use Rattle.seek.proofs.Saying.{searching}
use Rattle.seek.proofs.said.find_phrase.Goals as goal

pub read_known-entry-requires-clause-known_at : goal.read_known-entry-requires-clause-known_at
read_known-entry-requires-clause-known_at c = search (rules, searching)

pub loop-at-smaller : goal.loop-at-smaller
loop-at-smaller c = search (rules, searching)

pub returns-in-Some : goal.returns-in-Some
returns-in-Some c = search (rules, searching)
