-- `tracks::body::moved_by` meets its contract.
use Rattle.tracks.proofs.Answers.{moved_passed, moved_refused}
use Rattle.tracks.proofs.body.moved_by.Goals as goal

pub returns-in-Ok : goal.returns-in-Ok
returns-in-Ok c = search moved_passed

pub returns-in-Err : goal.returns-in-Err
returns-in-Err c = search moved_refused
