-- `tracks::track::check_track` meets its contract.
use Rattle.model.proofs.Tests.{handed_on}
use Rattle.tracks.proofs.Stages.{opened}
use Rattle.tracks.proofs.track.check_track.Goals as goal

pub returns-in_err-check_fixed : goal.returns-in_err-check_fixed
returns-in_err-check_fixed c = handed_on _ _ _ c.from_residual.ensures.1 (search (opened, c.in_err-check_fixed.was))

pub check_parts-requires-clause-le_size : goal.check_parts-requires-clause-le_size
check_parts-requires-clause-le_size c = search (opened, c.in_ok-check_fixed.was)

pub returns : goal.returns
returns c = search (opened, c.in_ok-check_fixed.was)
