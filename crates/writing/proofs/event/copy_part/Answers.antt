use borrow.Author.Rules.{rules}
use Rattle.writing.proofs.Stores.{copies}
use Rattle.writing.proofs.event.copy_part.Goals as goal

pub loop-i-init : goal.loop-i-init
loop-i-init c = search (rules, copies)

pub overflow_add-out : goal.overflow_add-out
overflow_add-out c = search (rules, copies)

pub bounds-source-from : goal.bounds-source-from
bounds-source-from c = search (rules, copies)

pub overflow_add-out-in-loop-i : goal.overflow_add-out-in-loop-i
overflow_add-out-in-loop-i c = search (rules, copies)

pub bounds-out-at : goal.bounds-out-at
bounds-out-at c = search (rules, copies)

pub overflow_add-i : goal.overflow_add-i
overflow_add-i c = search (rules, copies)

pub loop-i-smaller : goal.loop-i-smaller
loop-i-smaller c = search (rules, copies)

pub loop-i-preserved : goal.loop-i-preserved
loop-i-preserved c = search (rules, copies)

pub overflow_add-result : goal.overflow_add-result
overflow_add-result c = search (rules, copies)

pub shape_of-out : goal.shape_of-out
shape_of-out c = search (rules, copies)

pub returns : goal.returns
returns c = search (rules, copies)
