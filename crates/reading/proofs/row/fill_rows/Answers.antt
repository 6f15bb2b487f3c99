-- `reading::row::fill_rows` meets its contract.
use borrow.Author.Rules.{rules}
use Rattle.reading.proofs.FileRows.{file_rows_lem}
use Rattle.reading.proofs.row.fill_rows.Goals as goal

pub number_at-requires : goal.number_at-requires
number_at-requires c = search (rules, file_rows_lem)

pub number_at-requires-2 : goal.number_at-requires-2
number_at-requires-2 c = search (rules, file_rows_lem)

pub put_row-requires : goal.put_row-requires
put_row-requires c = search (rules, file_rows_lem)

pub overflow_sub-s : goal.overflow_sub-s
overflow_sub-s c = search (rules, file_rows_lem)

pub fill_tops-requires-clause-le_end : goal.fill_tops-requires-clause-le_end
fill_tops-requires-clause-le_end c = search (rules, file_rows_lem)

pub fill_tops-requires-clause-end_value : goal.fill_tops-requires-clause-end_value
fill_tops-requires-clause-end_value c = search (rules, file_rows_lem)

pub fill_tops-requires-clause-end_value_2 : goal.fill_tops-requires-clause-end_value_2
fill_tops-requires-clause-end_value_2 c = search (rules, file_rows_lem)

pub fill_tops-requires-clause-end_in_bounds : goal.fill_tops-requires-clause-end_in_bounds
fill_tops-requires-clause-end_in_bounds c = search (rules, file_rows_lem)

pub returns : goal.returns
returns c = search (rules, file_rows_lem)
