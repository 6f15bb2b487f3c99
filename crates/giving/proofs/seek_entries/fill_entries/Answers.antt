use borrow.Author.Rules.{rules}
use Rattle.giving.proofs.Seeking.{entries_stored}
use Rattle.giving.proofs.seek_entries.fill_entries.Goals as goal

pub read_known-entry-requires-clause-known_at : goal.read_known-entry-requires-clause-known_at
read_known-entry-requires-clause-known_at c = search (rules, entries_stored)

pub numbers_of-numbers-requires : goal.numbers_of-numbers-requires
numbers_of-numbers-requires c = search (rules, entries_stored)

pub loop-at-smaller : goal.loop-at-smaller
loop-at-smaller c = search (rules, entries_stored)

pub returns : goal.returns
returns c = search (rules, entries_stored)
