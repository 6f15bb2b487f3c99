-- `sections::take::take_read` meets its contract.
use Rattle.sections.proofs.Taking.{taking}
use borrow.Author.Rules.{rules}
use Rattle.sections.proofs.take.take_read.Goals as goal

pub word_of-requires : goal.word_of-requires
word_of-requires c = search (rules, taking)

pub returns-in-Ok-Timed : goal.returns-in-Ok-Timed
returns-in-Ok-Timed c = search (rules, taking)

pub returns-in-Ok-EndMark : goal.returns-in-Ok-EndMark
returns-in-Ok-EndMark c = search (rules, taking)

pub returns-in-Err : goal.returns-in-Err
returns-in-Err c = search (rules, taking)
