-- `tracks::body::check_sequence` meets its contract.
use Rattle.tracks.proofs.Bodies.{sequences}
use Rattle.tracks.proofs.body.check_sequence.Goals as goal

pub moved_by-requires-clause-near : goal.moved_by-requires-clause-near
moved_by-requires-clause-near c = search sequences

pub returns : goal.returns
returns c = search sequences
