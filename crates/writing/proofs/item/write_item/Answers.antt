-- `write_item` leaves an item at its place, and all else as it was: its duration, and its event after it.
use Rattle.writing.proofs.Items.{parts}
use borrow.Author.Rules.{rules}
use Rattle.writing.proofs.item.write_item.Goals as goal

pub write_duration-middle-requires : goal.write_duration-middle-requires
write_duration-middle-requires c = search (rules, parts)

pub write_event-requires : goal.write_event-requires
write_event-requires c = search (rules, parts)

pub returns : goal.returns
returns c = search (rules, parts)
