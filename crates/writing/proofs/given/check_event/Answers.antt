-- `check_event` is the definition, event by event.
use Rattle.writing.proofs.GivenItems.{event_checks}
use Rattle.writing.proofs.given.check_event.Goals as goal

pub returns-in-Nop : goal.returns-in-Nop
returns-in-Nop c = search event_checks

pub returns-in-Note : goal.returns-in-Note
returns-in-Note c = search event_checks

pub returns-in-Wave : goal.returns-in-Wave
returns-in-Wave c = search event_checks

pub returns-in-Control : goal.returns-in-Control
returns-in-Control c = search event_checks

pub returns-in-Exclusive : goal.returns-in-Exclusive
returns-in-Exclusive c = search event_checks
