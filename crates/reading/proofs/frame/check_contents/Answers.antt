-- `reading::frame::check_contents` meets its contract.
use mathlib.Core.Path.{◌∙◌}
use Rattle.model.proofs.Answers.{checks, answer_of_fine}
use Rattle.model.proofs.Tests.{flag_on, flag_off}
use Rattle.reading.specs.Stages.{contents_hold}
use Rattle.reading.proofs.frame.check_contents.Goals as goal

pub returns-then-not-opens_with_contents : goal.returns-then-not-opens_with_contents
unfolding contents_hold
returns-then-not-opens_with_contents c = c.refused.ensures ∙ search (checks, answer_of_fine, flag_on, flag_off) depth 9 fits 20000

pub returns-then-not-has_chunk : goal.returns-then-not-has_chunk
unfolding contents_hold
returns-then-not-has_chunk c = c.refused-then-not-has_chunk.ensures ∙ search (checks, answer_of_fine, flag_on, flag_off) depth 9 fits 20000

pub returns : goal.returns
unfolding contents_hold
returns c = search (checks, answer_of_fine, flag_on, flag_off) depth 9 fits 20000
