-- `sections::again::copy_steps` meets its contract.
use borrow.Author.Rules.{rules}
use Rattle.sections.proofs.Copying.{copy_turns, copy_done}
use Rattle.sections.proofs.again.copy_steps.Goals as goal

pub loop-i-preserved : goal.loop-i-preserved
loop-i-preserved c = search (rules, copy_turns)

pub returns : goal.returns
returns c = search (rules, copy_done)
