-- `items::pass::pass_read` meets its contract.
use Rattle.items.proofs.Passing.{passing}
use borrow.Author.Rules.{rules}
use Rattle.items.proofs.pass.pass_read.Goals as goal

pub returns-in-Ok-Timed : goal.returns-in-Ok-Timed
returns-in-Ok-Timed c = search (rules, passing)

pub returns-in-Ok-EndMark : goal.returns-in-Ok-EndMark
returns-in-Ok-EndMark c = search (rules, passing)

pub returns-in-Err : goal.returns-in-Err
returns-in-Err c = search (rules, passing)
