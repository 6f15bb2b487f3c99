-- What is still to be done from the remainder gives the remainder of the whole.
use Rattle.std.specs.Prelude.{◌≡◌, drop}
use Rattle.std.specs.List.{concat}
use Rattle.model.specs.CheckCode.{remainder_from}
use Rattle.checkcode.proofs.over_eights.Given as goal

abbrev pub invariant-loop-eight : goal.invariant-loop-eight
invariant-loop-eight l = remainder_from l.remainder (concat (drop l.eight-index l.eights)) ≡ remainder_from l.start (concat l.eights)
