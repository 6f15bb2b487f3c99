-- `playing::letters::passage_of_letter` meets its contract.
use Rattle.playing.proofs.Phrased.{phrased}
use Rattle.playing.proofs.letters.passage_of_letter.Goals as goal

pub find_phrase-requires-clause-s_value : goal.find_phrase-requires-clause-s_value
find_phrase-requires-clause-s_value c = search phrased

pub span_between-requires-clause-start_value : goal.span_between-requires-clause-start_value
span_between-requires-clause-start_value c = search phrased

pub span_between-requires-clause-stop_value : goal.span_between-requires-clause-stop_value
span_between-requires-clause-stop_value c = search phrased

pub span_between-requires-clause-start_le_stop : goal.span_between-requires-clause-start_le_stop
span_between-requires-clause-start_le_stop c = search phrased

pub returns-in-Some : goal.returns-in-Some
returns-in-Some c = search phrased

pub returns-in-None : goal.returns-in-None
returns-in-None c = search phrased
