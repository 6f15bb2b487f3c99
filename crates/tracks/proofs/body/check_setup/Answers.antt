-- `tracks::body::check_setup` meets its contract.
use Rattle.tracks.proofs.Parts.{setups}
use Rattle.tracks.proofs.body.check_setup.Goals as goal

pub returns-in_default : goal.returns-in_default
returns-in_default c = search setups

pub moved_by-requires-clause-near : goal.moved_by-requires-clause-near
moved_by-requires-clause-near c = search setups

pub returns : goal.returns
returns c = search setups
