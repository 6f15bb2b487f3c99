-- `arranging::operation::write_bare` meets its contract.
use Rattle.arranging.proofs.Whole.{wholes}
use borrow.Author.Rules.{rules}
use Rattle.arranging.proofs.operation.write_bare.Goals as goal

pub returns : goal.returns
returns c = record { value = search (rules, wholes); out_after = search (rules, wholes) }
