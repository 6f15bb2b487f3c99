-- `playing::letters::add_spans` meets its contract.
use Rattle.playing.proofs.LetterSpans.{Adding}
use Rattle.playing.proofs.letters.add_spans.Given as goal

abbrev pub invariant-loop-letter : goal.invariant-loop-letter
invariant-loop-letter l = Adding l.spans l.letters l.total l.letter-index
