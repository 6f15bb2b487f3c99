-- `write_given` stores a short note, a mark, or a duration and then its event.
use Rattle.writing.proofs.GivenItems.{given_parts}
use Rattle.writing.proofs.ShortNotes.{short_parts}
use Rattle.model.proofs.Tests.{is_on}
use borrow.Author.Rules.{rules}
use Rattle.writing.proofs.given.write_given.Goals as goal

pub write_short-requires : goal.write_short-requires
write_short-requires c = search (rules, short_parts, is_on)

pub returns-then-is_narrow : goal.returns-then-is_narrow
returns-then-is_narrow c = search (rules, short_parts, is_on)

pub write_end_mark-requires : goal.write_end_mark-requires
write_end_mark-requires c = search (rules, given_parts)

pub returns-then-word-eq16 : goal.returns-then-word-eq16
returns-then-word-eq16 c = search (rules, given_parts)

pub write_item-requires : goal.write_item-requires
write_item-requires c = search (rules, given_parts)

pub returns : goal.returns
returns c = search (rules, given_parts)
