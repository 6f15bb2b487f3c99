-- `tracks::track::check_after_parts` meets its contract.
use mathlib.Core.Path.{◌∙◌}
use Rattle.model.proofs.Tests.{handed_on}
use Rattle.tracks.proofs.Stages.{missing, part_inside, part_there}
use Rattle.tracks.proofs.track.check_after_parts.Goals as goal

pub returns-in_default : goal.returns-in_default
returns-in_default c = c.refused.ensures ∙ search missing

pub returns-then-not-has_waves : goal.returns-then-not-has_waves
returns-then-not-has_waves c = c.refused-then-not-has_waves.ensures ∙ search missing

pub check_setup-requires-clause-inside : goal.check_setup-requires-clause-inside
check_setup-requires-clause-inside c = search part_inside

pub returns-in_err-check_setup : goal.returns-in_err-check_setup
returns-in_err-check_setup c = handed_on _ _ _ c.from_residual.ensures.1 (search (missing, c.in_err-check_setup.was))

pub check_after_setup-requires-clause-size_in_bounds : goal.check_after_setup-requires-clause-size_in_bounds
check_after_setup-requires-clause-size_in_bounds c = search part_there

pub returns : goal.returns
returns c = search (missing, c.in_ok-check_setup.was)
