-- `reading::top::check_opened` meets its contract.
use borrow.Author.Rules.{rules}
use Rattle.model.proofs.Tests.{handed_on}
use Rattle.reading.proofs.OneTop.{opened_from, opened_fine, openings}
use Rattle.reading.proofs.top.check_opened.Goals as goal

pub returns-in_err-check_track-clause-value : goal.returns-in_err-check_track-clause-value
returns-in_err-check_track-clause-value c = handed_on _ _ _ c.from_residual.ensures.1 (search (openings, c.in_err-check_track.was))

pub count_chunks-requires-clause-start_le_end : goal.count_chunks-requires-clause-start_le_end
count_chunks-requires-clause-start_le_end c = (search (opened_from, c.in_ok-check_track.was), search rules, search rules)

pub count_chunks-requires-clause-end_value : goal.count_chunks-requires-clause-end_value
count_chunks-requires-clause-end_value c = search (opened_fine, c.in_ok-check_track.was)

pub returns-clause-value : goal.returns-clause-value
returns-clause-value c = search (openings, c.in_ok-check_track.was)
