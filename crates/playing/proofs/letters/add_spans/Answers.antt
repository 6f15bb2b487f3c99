use borrow.Author.Rules.{rules}
use Rattle.playing.proofs.LetterSpans.{adding}
use Rattle.playing.proofs.letters.add_spans.Goals as goal

pub loop-letter-preserved : goal.loop-letter-preserved
loop-letter-preserved c = search (rules, adding)

pub returns : goal.returns
returns c = search (rules, adding)
