-- `tracks::track::check_after_setup` meets its contract.
use Rattle.model.proofs.Tests.{handed_on}
use Rattle.tracks.proofs.Stages.{afters, sequence_fine, part_inside}
use Rattle.tracks.proofs.track.check_after_setup.Goals as goal

pub returns-in_err-check_sequence : goal.returns-in_err-check_sequence
returns-in_err-check_sequence c = handed_on _ _ _ c.from_residual.ensures.1 (search (afters, c.in_err-check_sequence.was))

pub check_seek-requires-clause-body_value : goal.check_seek-requires-clause-body_value
check_seek-requires-clause-body_value c = search (sequence_fine, c.in_ok-check_sequence.was)

pub check_seek-requires-clause-inside : goal.check_seek-requires-clause-inside
check_seek-requires-clause-inside c = search part_inside

pub returns : goal.returns
returns c = search (afters, c.in_ok-check_sequence.was)
