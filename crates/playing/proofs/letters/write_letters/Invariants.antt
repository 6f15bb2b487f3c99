-- `playing::letters::write_letters` meets its contract.
use Rattle.playing.proofs.Writing.{Writing}
use Rattle.playing.proofs.letters.write_letters.Given as goal

abbrev pub invariant-loop-letter : goal.invariant-loop-letter
invariant-loop-letter l = Writing l.voice l.body l.spans l.letters l.initial.steps l.initial.words l.steps l.words l.standings l.at l.before l.letter-index
