-- `flattening::bodies::flatten_letters` meets its contract.
use Rattle.flattening.proofs.TrackFlattened.{track_flattened}
use borrow.Author.Rules.{rules}
use Rattle.flattening.proofs.bodies.flatten_letters.Goals as goal

pub returns : goal.returns
returns c = record { value = search (rules, track_flattened); room_after = search (rules, track_flattened) }
