-- `reading::top::count_rows` meets its contract.
use borrow.Author.Rules.{rules}
use Rattle.reading.proofs.Finding.{rows_from, rows_fine, row_counts}
use Rattle.reading.proofs.top.count_rows.Goals as goal

pub returns-in_default-clause-result_value : goal.returns-in_default-clause-result_value
returns-in_default-clause-result_value c = search (rules, row_counts)

pub returns-in_default-2-clause-result_value : goal.returns-in_default-2-clause-result_value
returns-in_default-2-clause-result_value c = search (rules, row_counts)

pub returns-clause-result_value : goal.returns-clause-result_value
returns-clause-result_value c = search (rules, row_counts)

pub count_chunks-requires-clause-start_le_end : goal.count_chunks-requires-clause-start_le_end
count_chunks-requires-clause-start_le_end c = search (rules, rows_from)

pub count_chunks-requires-clause-end_value : goal.count_chunks-requires-clause-end_value
count_chunks-requires-clause-end_value c = search (rules, rows_fine)
