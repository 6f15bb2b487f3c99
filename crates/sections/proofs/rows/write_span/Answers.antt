-- `sections::rows::write_span` meets its contract.
use Rattle.sections.proofs.Rowing.{row_begins}
use borrow.Author.Rules.{rules}
use Rattle.sections.proofs.rows.write_span.Goals as goal

pub write_rows-requires-clause-begun : goal.write_rows-requires-clause-begun
write_rows-requires-clause-begun c = search (rules, row_begins)

pub write_rows-requires-clause-first_le_marks : goal.write_rows-requires-clause-first_le_marks
write_rows-requires-clause-first_le_marks c = search (rules, row_begins)

pub write_rows-requires-clause-before_in_bounds : goal.write_rows-requires-clause-before_in_bounds
write_rows-requires-clause-before_in_bounds c = search (rules, row_begins)

pub write_rows-requires-clause-before_in_bounds_2 : goal.write_rows-requires-clause-before_in_bounds_2
write_rows-requires-clause-before_in_bounds_2 c = search (rules, row_begins)

pub returns : goal.returns
returns c = record { steps_after = search (rules, row_begins); words_after = search (rules, row_begins) }
