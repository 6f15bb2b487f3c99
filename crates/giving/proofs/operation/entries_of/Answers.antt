use Rattle.giving.proofs.EntriesGiven.{track_entries}
use Rattle.giving.proofs.operation.entries_of.Goals as goal

pub give_entries-requires-clause-inside : goal.give_entries-requires-clause-inside
give_entries-requires-clause-inside c = search (track_entries, c.in_ok-bodies.was)

pub returns-clause-table_after : goal.returns-clause-table_after
returns-clause-table_after c = search (track_entries, c.in_ok-bodies.was)

pub returns-clause-letters_after : goal.returns-clause-letters_after
returns-clause-letters_after c = search (track_entries, c.in_ok-bodies.was)
