-- `write_sound` leaves a note or wave at its place, and all else as it was.
use Rattle.writing.proofs.Events.{sounds}
use borrow.Author.Rules.{rules}
use Rattle.writing.proofs.event.write_sound.Goals as goal

pub bounds-out-at : goal.bounds-out-at
bounds-out-at c = search (rules, sounds)

pub write_duration-requires : goal.write_duration-requires
write_duration-requires c = search (rules, sounds)

pub returns : goal.returns
returns c = search (rules, sounds)
