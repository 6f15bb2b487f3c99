-- `write_duration` leaves the bytes of the definition at its place, and all else as it was.
use Rattle.writing.proofs.Durations.{durations}
use Rattle.writing.proofs.duration.write_duration.Goals as goal

pub bounds-out-at : goal.bounds-out-at
bounds-out-at c = search durations

pub returns-then-value-lt128 : goal.returns-then-value-lt128
returns-then-value-lt128 c = search durations

pub bounds-out-at-2 : goal.bounds-out-at-2
bounds-out-at-2 c = search durations

pub bounds-out-at-3 : goal.bounds-out-at-3
bounds-out-at-3 c = search durations

pub returns : goal.returns
returns c = search durations
