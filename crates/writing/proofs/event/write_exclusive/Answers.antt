-- `write_exclusive` leaves an exclusive of the source at its place, and all else as it was.
use Rattle.writing.proofs.Events.{exclusives}
use borrow.Author.Rules.{rules}
use Rattle.writing.proofs.event.write_exclusive.Goals as goal

pub bounds-out-at : goal.bounds-out-at
bounds-out-at c = search (rules, exclusives)

pub bounds-out-at-2 : goal.bounds-out-at-2
bounds-out-at-2 c = search (rules, exclusives)

pub bounds-out-at-3 : goal.bounds-out-at-3
bounds-out-at-3 c = search (rules, exclusives)

pub copy_part-requires : goal.copy_part-requires
copy_part-requires c = search (rules, exclusives)

pub returns : goal.returns
returns c = search (rules, exclusives)
