use borrow.Author.Rules.{rules}
use Rattle.giving.proofs.EntriesGiven.{entries_given_lem}
use Rattle.giving.proofs.seek_entries.give_said.Goals as goal

pub copy_letters-requires-clause-there : goal.copy_letters-requires-clause-there
copy_letters-requires-clause-there c = search (rules, entries_given_lem)

pub returns-clause-letters_after : goal.returns-clause-letters_after
returns-clause-letters_after c = search (rules, entries_given_lem)
