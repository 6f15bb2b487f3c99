-- `sections::again::copy_steps` meets its contract.
use Rattle.model.specs.Bytes.{part}
use Rattle.sections.specs.Again.{later}
use Rattle.sections.proofs.Copying.{Copying}
use Rattle.sections.proofs.again.copy_steps.Given as goal

abbrev pub invariant-loop-i : goal.invariant-loop-i
invariant-loop-i l = Copying l.initial.steps l.steps (later l.more (part l.initial.steps l.from l.count)) l.at l.i
