-- `roll::endings::draw_stream` meets its contract.
use Rattle.playing.proofs.Streams.{streaming}
use borrow.Author.Rules.{rules}
use Rattle.roll.proofs.endings.draw_stream.Goals as goal

pub span_between-passage-requires : goal.span_between-passage-requires
span_between-passage-requires c = record { body_len_bound = search rules; body_value = search rules; start_value = search streaming; stop_value = search streaming; start_le_stop = search streaming }
