-- `flattening::bodies::flatten_phrases` meets its contract.
use Rattle.flattening.proofs.TrackFlattened.{track_flattened}
use Rattle.playing.proofs.Orders.{orders}
use mathlib.Core.Path.{◌∙◌}
use Rattle.flattening.proofs.bodies.flatten_phrases.Goals as goal

pub returns-then-not-points : goal.returns-then-not-points
returns-then-not-points c = record { value = c.refused.ensures ∙ search (orders, track_flattened); room_after = search (orders, track_flattened) }

pub letters_played-requires : goal.letters_played-requires
letters_played-requires c = search orders

pub flatten_letters-requires-clause-named : goal.flatten_letters-requires-clause-named
flatten_letters-requires-clause-named c = search orders

pub flatten_letters-requires-clause-seek_value : goal.flatten_letters-requires-clause-seek_value
flatten_letters-requires-clause-seek_value c = search orders
