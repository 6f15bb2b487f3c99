-- `playing::stream::play_counted` meets its contract.
use Rattle.playing.proofs.Played.{stream_played}
use mathlib.Core.Path.{◌∙◌}
use borrow.Author.Rules.{rules}
use Rattle.playing.proofs.stream.play_counted.Goals as goal

pub returns-then-min-span : goal.returns-then-min-span
returns-then-min-span c = record { value = c.refused.ensures ∙ search stream_played; steps_after = search (rules, stream_played); words_after = search (rules, stream_played) }

pub returns : goal.returns
returns c = record { value = search (rules, stream_played); steps_after = search (rules, stream_played); words_after = search (rules, stream_played) }
