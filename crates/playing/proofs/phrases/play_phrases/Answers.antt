-- `playing::phrases::play_phrases` meets its contract.
use Rattle.playing.proofs.Orders.{orders}
use Rattle.playing.proofs.OrderPlayed.{order_played}
use mathlib.Core.Path.{◌∙◌}
use Rattle.playing.proofs.phrases.play_phrases.Goals as goal

pub returns-then-not-points : goal.returns-then-not-points
returns-then-not-points c = record { value = c.refused.ensures ∙ search (orders, order_played); steps_after = search (orders, order_played); words_after = search (orders, order_played) }

pub letters_played-requires : goal.letters_played-requires
letters_played-requires c = search orders

pub play_letters-requires-clause-named : goal.play_letters-requires-clause-named
play_letters-requires-clause-named c = search orders

pub play_letters-requires-clause-seek_value : goal.play_letters-requires-clause-seek_value
play_letters-requires-clause-seek_value c = search orders
