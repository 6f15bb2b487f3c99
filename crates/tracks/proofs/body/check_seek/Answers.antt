-- `tracks::body::check_seek` meets its contract.
use Rattle.tracks.proofs.Bodies.{seeks}
use Rattle.tracks.proofs.body.check_seek.Goals as goal

pub returns-in_default : goal.returns-in_default
returns-in_default c = search seeks

pub moved_by-requires-clause-near : goal.moved_by-requires-clause-near
moved_by-requires-clause-near c = search seeks

pub returns : goal.returns
returns c = search seeks
