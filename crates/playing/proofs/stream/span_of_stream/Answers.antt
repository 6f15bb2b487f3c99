-- `playing::stream::span_of_stream` meets its contract.
use Rattle.playing.proofs.Streams.{streaming}
use Rattle.playing.proofs.stream.span_of_stream.Goals as goal

pub span_between-requires-clause-start_value : goal.span_between-requires-clause-start_value
span_between-requires-clause-start_value c = search streaming

pub span_between-requires-clause-stop_value : goal.span_between-requires-clause-stop_value
span_between-requires-clause-stop_value c = search streaming

pub span_between-requires-clause-start_le_stop : goal.span_between-requires-clause-start_le_stop
span_between-requires-clause-start_le_stop c = search streaming

pub returns-then-points : goal.returns-then-points
returns-then-points c = search streaming

pub span_from-requires-clause-start_value : goal.span_from-requires-clause-start_value
span_from-requires-clause-start_value c = search streaming

pub returns : goal.returns
returns c = search streaming
