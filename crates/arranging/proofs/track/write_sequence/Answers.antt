-- `arranging::track::write_sequence` meets its contract.
use Rattle.arranging.proofs.TrackStores.{sequences}
use borrow.Author.Rules.{rules}
use Rattle.arranging.proofs.track.write_sequence.Goals as goal

pub returns : goal.returns
returns c = search (rules, sequences)
