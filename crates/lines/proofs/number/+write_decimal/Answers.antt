-- `write_decimal` writes the digits of the tenth part and one more.
use borrow.Author.Rules.{rules}
use native.Mathlib.Omega.{arith}
use Rattle.lines.proofs.Numbers.{digits}
use Rattle.lines.proofs.number.+write_decimal.Goals as goal

pub bounds-out-at : goal.bounds-out-at
bounds-out-at t c = search (rules, digits)

pub returns-then-number-lt10-clause-value : goal.returns-then-number-lt10-clause-value
returns-then-number-lt10-clause-value t c = search (rules, digits)

pub returns-then-number-lt10-clause-out_after : goal.returns-then-number-lt10-clause-out_after
returns-then-number-lt10-clause-out_after t c = search (rules, digits)

pub write_decimal-last-requires : goal.write_decimal-last-requires
write_decimal-last-requires t c = search (rules, digits)

pub bounds-out-last : goal.bounds-out-last
bounds-out-last t c = search (rules, digits)

pub overflow_add-result-2 : goal.overflow_add-result-2
overflow_add-result-2 t c = omega (arith, bounds-out-last t c)

pub returns-clause-value : goal.returns-clause-value
returns-clause-value t c = search (rules, digits)

pub returns-clause-out_after : goal.returns-clause-out_after
returns-clause-out_after t c = search (rules, digits)
