-- `flattening::again::write_again` meets its contract.
use Rattle.flattening.proofs.WrittenAgain.{copy_wrote}
use borrow.Author.Rules.{rules}
use Rattle.flattening.proofs.again.write_again.Goals as goal

pub returns-clause-out_after : goal.returns-clause-out_after
returns-clause-out_after c = search (rules, copy_wrote)
