-- `flattening::bodies::flatten_stream` meets its contract.
use Rattle.flattening.proofs.TrackFlattened.{track_flattened}
use borrow.Author.Rules.{rules}
use Rattle.flattening.proofs.bodies.flatten_stream.Goals as goal

pub flatten_order-requires-clause-all_rise : goal.flatten_order-requires-clause-all_rise
flatten_order-requires-clause-all_rise c = search (rules, track_flattened)

pub returns : goal.returns
returns c = record { value = search (rules, track_flattened); room_after = search (rules, track_flattened) }
