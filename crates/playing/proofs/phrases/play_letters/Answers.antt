-- `playing::phrases::play_letters` meets its contract.
use Rattle.playing.proofs.OrderPlayed.{order_played}
use Rattle.playing.proofs.phrases.play_letters.Goals as goal

pub returns : goal.returns
returns c = record { value = search order_played; steps_after = search order_played; words_after = search order_played }
