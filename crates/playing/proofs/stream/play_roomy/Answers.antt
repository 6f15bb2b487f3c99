-- `playing::stream::play_roomy` meets its contract.
use Rattle.playing.proofs.Streams.{streaming}
use Rattle.playing.proofs.Played.{stream_played, third_has_room}
use borrow.Author.Rules.{rules}
use Rattle.playing.proofs.stream.play_roomy.Goals as goal

pub write_from-span-requires-clause-start_value : goal.write_from-span-requires-clause-start_value
write_from-span-requires-clause-start_value c = search streaming

pub returns : goal.returns
returns c = record { value = search (rules, streaming, stream_played, third_has_room); steps_after = search (rules, streaming, stream_played, third_has_room); words_after = search (rules, streaming, stream_played, third_has_room) }
