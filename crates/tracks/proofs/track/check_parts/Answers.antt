-- `tracks::track::check_parts` meets its contract.
use Rattle.model.proofs.Tests.{handed_on}
use Rattle.tracks.proofs.Stages.{listed, parts_fine}
use Rattle.tracks.proofs.track.check_parts.Goals as goal

pub returns-in_err-check_list : goal.returns-in_err-check_list
returns-in_err-check_list c = handed_on _ _ _ c.from_residual.ensures.1 (search (listed, c.in_err-check_list.was))

pub check_after_parts-requires-clause-end_value : goal.check_after_parts-requires-clause-end_value
check_after_parts-requires-clause-end_value c = search (parts_fine, c.in_ok-check_list.was)

pub returns : goal.returns
returns c = search (listed, c.in_ok-check_list.was)
