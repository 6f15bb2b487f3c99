-- `reading::file::check_file` meets its contract.
use borrow.Author.Rules.{rules}
use Rattle.model.proofs.Tests.{handed_on}
use Rattle.reading.proofs.Files.{files}
use Rattle.reading.proofs.file.check_file.Goals as goal

pub returns-in_err-check_frame : goal.returns-in_err-check_frame
returns-in_err-check_frame c = handed_on _ _ _ c.from_residual.ensures.1 (search (files, c.in_err-check_frame.was))

pub overflow_sub-end : goal.overflow_sub-end
overflow_sub-end c = search (rules, files, c.in_ok-check_frame.was)

pub check_tops-requires-clause-start_le_end : goal.check_tops-requires-clause-start_le_end
check_tops-requires-clause-start_le_end c = (search (files, c.in_ok-check_frame.was), search rules, search rules)

pub check_tops-requires-clause-end_value : goal.check_tops-requires-clause-end_value
check_tops-requires-clause-end_value c = search (files, c.in_ok-check_frame.was)

pub returns-in_err-count : goal.returns-in_err-count
returns-in_err-count c = handed_on _ _ _ c.from_residual-in_err-count.ensures.1 (search (files, c.in_ok-check_frame.was, c.in_err-count.was))

pub returns : goal.returns
returns c = search (files, c.in_ok-check_frame.was, c.in_ok-count.was)
