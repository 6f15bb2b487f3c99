-- `write_control` leaves a control at its place, and all else as it was.
use Rattle.writing.proofs.Events.{controls}
use borrow.Author.Rules.{rules}
use Rattle.writing.proofs.event.write_control.Goals as goal

pub bounds-out-at : goal.bounds-out-at
bounds-out-at c = search (rules, controls)

pub bounds-out-at-then-kind-lt11 : goal.bounds-out-at-then-kind-lt11
bounds-out-at-then-kind-lt11 c = search (rules, controls)

pub bounds-out-at-then-kind-lt11-2 : goal.bounds-out-at-then-kind-lt11-2
bounds-out-at-then-kind-lt11-2 c = search (rules, controls)

pub returns-then-kind-lt11 : goal.returns-then-kind-lt11
returns-then-kind-lt11 c = search (rules, controls)

pub bounds-out-at-2 : goal.bounds-out-at-2
bounds-out-at-2 c = search (rules, controls)

pub bounds-out-at-3 : goal.bounds-out-at-3
bounds-out-at-3 c = search (rules, controls)

pub returns : goal.returns
returns c = search (rules, controls)
