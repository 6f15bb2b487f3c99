use borrow.Author.Rules.{rules}
use Rattle.seek.proofs.Letters.{counting}
use Rattle.seek.proofs.entry.letters_in_front.Goals as goal

pub loop-count-init : goal.loop-count-init
loop-count-init c = search (rules, counting)

pub overflow_sub-s : goal.overflow_sub-s
overflow_sub-s c = search (rules, counting)

pub overflow_add-at : goal.overflow_add-at
overflow_add-at c = search (rules, counting)

pub bounds-s-at : goal.bounds-s-at
bounds-s-at c = search (rules, counting)

pub is_letter-requires : goal.is_letter-requires
is_letter-requires c = search (rules, counting)

pub returns-then-not-is_letter : goal.returns-then-not-is_letter
returns-then-not-is_letter c = search (rules, counting)

pub overflow_add-count : goal.overflow_add-count
overflow_add-count c = search (rules, counting)

pub loop-count-smaller : goal.loop-count-smaller
loop-count-smaller c = search (rules, counting)

pub loop-count-preserved : goal.loop-count-preserved
loop-count-preserved c = search (rules, counting)

pub returns : goal.returns
returns c = search (rules, counting)
