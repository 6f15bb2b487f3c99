-- `write_number` leaves a number's bytes at their place, and all else as it was.
use Rattle.entries.proofs.Numbers.{number_left}
use Rattle.entries.proofs.bytes.write_number.Goals as goal

pub returns-clause-out_after : goal.returns-clause-out_after
returns-clause-out_after g c = number_left _ _ _ _ _ c.loop-i.invariant c.loop-i-test.false
