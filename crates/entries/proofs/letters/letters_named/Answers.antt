use borrow.Author.Rules.{rules}
use Rattle.entries.proofs.Naming.{lettering}
use Rattle.entries.proofs.letters.letters_named.Goals as goal

pub returns-then-not-is_flagged : goal.returns-then-not-is_flagged
returns-then-not-is_flagged c = search (rules, lettering)

pub loop-letter-preserved : goal.loop-letter-preserved
loop-letter-preserved c = search (rules, lettering)

pub returns : goal.returns
returns c = search (rules, lettering)
