-- `reading::frame::check_frame` meets its contract.
use mathlib.Core.Path.{◌∙◌}
use Rattle.model.proofs.Answers.{checks}
use Rattle.model.proofs.Tests.{tests, handed_on, first_true, second_true, neither_true, not_on, not_off}
use Rattle.reading.proofs.Frames.{frame_list_fine, frame_stages, sizes, frame_contents}
use Rattle.reading.proofs.frame.check_frame.Goals.{then-s-lt10-via-then-s-lt10, then-s-lt10-via-else-s-lt10+then-not-stands_at}
use Rattle.reading.proofs.frame.check_frame.Goals as goal

pub returns-then-s-lt10 : goal.returns-then-s-lt10
returns-then-s-lt10 c = c.refused.ensures
    ∙ elim c.then-s-lt10.branch [ then-s-lt10-via-then-s-lt10 w ↦ search (frame_stages, checks, tests, first_true, second_true, neither_true, not_on, not_off, sizes, frame_contents) depth 12 fits 20000 | then-s-lt10-via-else-s-lt10+then-not-stands_at w ↦ search (frame_stages, checks, tests, first_true, second_true, neither_true, not_on, not_off, sizes, frame_contents) depth 12 fits 20000 ]

pub returns-then-number_at-s : goal.returns-then-number_at-s
returns-then-number_at-s c = c.refused-then-number_at-s.ensures ∙ search (frame_stages, checks, tests, first_true, second_true, neither_true, not_on, not_off, sizes, frame_contents) depth 12 fits 20000

pub returns-in_err-check_list : goal.returns-in_err-check_list
returns-in_err-check_list c = handed_on _ _ _ c.from_residual.ensures.1 (search (frame_stages, checks, tests, first_true, second_true, neither_true, not_on, not_off, sizes, frame_contents, c.in_err-check_list.was) depth 12 fits 20000)

pub check_contents-requires-clause-end_value : goal.check_contents-requires-clause-end_value
check_contents-requires-clause-end_value c = search (frame_list_fine, c.in_ok-check_list.was)

pub returns : goal.returns
returns c = search (frame_stages, checks, tests, first_true, second_true, neither_true, not_on, not_off, sizes, frame_contents, c.in_ok-check_list.was) depth 12 fits 20000
