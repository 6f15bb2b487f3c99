-- `sections::rest::write_on` meets its contract.
use Rattle.sections.proofs.Onward.{onward}
use borrow.Author.Rules.{rules}
use Rattle.sections.proofs.rest.write_on.Goals as goal

pub write_rows-written-requires-clause-begun : goal.write_rows-written-requires-clause-begun
write_rows-written-requires-clause-begun c = search (rules, onward)

pub write_rows-written-requires-clause-first_le_marks : goal.write_rows-written-requires-clause-first_le_marks
write_rows-written-requires-clause-first_le_marks c = search (rules, onward)

pub write_rows-written-requires-clause-before_in_bounds : goal.write_rows-written-requires-clause-before_in_bounds
write_rows-written-requires-clause-before_in_bounds c = search (rules, onward)

pub write_rows-written-requires-clause-before_in_bounds_2 : goal.write_rows-written-requires-clause-before_in_bounds_2
write_rows-written-requires-clause-before_in_bounds_2 c = search (rules, onward)

pub span_written-requires : goal.span_written-requires
span_written-requires c = search (rules, onward)

pub returns : goal.returns
returns c = record { value = search (rules, onward); messages_in_bounds = search (rules, onward); steps_after = search (rules, onward); words_after = search (rules, onward) }
