-- `write_event` leaves an event at its place, and all else as it was, constructor by constructor.
use Rattle.writing.proofs.Contents.{contents}
use borrow.Author.Rules.{rules}
use Rattle.writing.proofs.event.write_event.Goals as goal

pub bounds-out-at : goal.bounds-out-at
bounds-out-at c = search (rules, contents)

pub bounds-out-at-in-Nop : goal.bounds-out-at-in-Nop
bounds-out-at-in-Nop c = search (rules, contents)

pub write_sound-requires : goal.write_sound-requires
write_sound-requires c = search (rules, contents)

pub write_sound-requires-in-Wave : goal.write_sound-requires-in-Wave
write_sound-requires-in-Wave c = search (rules, contents)

pub write_control-requires : goal.write_control-requires
write_control-requires c = search (rules, contents)

pub write_exclusive-requires : goal.write_exclusive-requires
write_exclusive-requires c = search (rules, contents)

pub returns-in-Nop : goal.returns-in-Nop
returns-in-Nop c = search (rules, contents)

pub returns-in-Note : goal.returns-in-Note
returns-in-Note c = search (rules, contents)

pub returns-in-Wave : goal.returns-in-Wave
returns-in-Wave c = search (rules, contents)

pub returns-in-Control : goal.returns-in-Control
returns-in-Control c = search (rules, contents)

pub returns-in-Exclusive : goal.returns-in-Exclusive
returns-in-Exclusive c = search (rules, contents)
