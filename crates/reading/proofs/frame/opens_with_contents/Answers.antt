-- `reading::frame::opens_with_contents` meets its contract.
use native.Mathlib.Omega.{arith}
use Rattle.reading.proofs.Frames.{opening}
use Rattle.reading.proofs.frame.opens_with_contents.Goals as goal

pub stands_at-requires : goal.stands_at-requires
stands_at-requires c = (omega arith, search opening)

pub returns-then-end-le8 : goal.returns-then-end-le8
returns-then-end-le8 c = search opening

pub returns-in_default : goal.returns-in_default
returns-in_default c = search opening

pub returns-then-stands_at : goal.returns-then-stands_at
returns-then-stands_at c = search opening

pub returns-else-stands_at : goal.returns-else-stands_at
returns-else-stands_at c = search opening
