-- What is still to be done from the remainder gives the remainder of the whole.
use Rattle.std.specs.Prelude.{◌≡◌, drop}
use Rattle.model.specs.CheckCode.{remainder_from}
use Rattle.checkcode.proofs.over_bytes.Given as goal

abbrev pub invariant-loop-byte : goal.invariant-loop-byte
invariant-loop-byte l = remainder_from l.remainder (drop l.byte-index l.s) ≡ remainder_from l.start l.s
