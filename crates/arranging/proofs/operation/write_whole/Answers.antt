-- `arranging::operation::write_whole` meets its contract.
use Rattle.arranging.proofs.Whole.{wholes}
use borrow.Author.Rules.{rules}
use Rattle.arranging.proofs.operation.write_whole.Goals as goal

pub returns : goal.returns
returns c = record { value = search (rules, wholes); out_after = search (rules, wholes) }
