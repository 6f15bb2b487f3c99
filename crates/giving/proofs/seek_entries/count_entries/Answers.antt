use borrow.Author.Rules.{rules}
use Rattle.giving.proofs.Seeking.{entries_counted}
use Rattle.giving.proofs.seek_entries.count_entries.Goals as goal

pub read_known-at-requires-clause-known_at : goal.read_known-at-requires-clause-known_at
read_known-at-requires-clause-known_at c = search (rules, entries_counted)

pub loop-at-smaller : goal.loop-at-smaller
loop-at-smaller c = search (rules, entries_counted)

pub loop-at-preserved : goal.loop-at-preserved
loop-at-preserved c = search (rules, entries_counted)

pub returns : goal.returns
returns c = search (rules, entries_counted)
