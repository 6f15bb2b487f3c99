-- `judge_phrase` takes the front to both addresses.
use Rattle.entries.proofs.Holding.{said_places}
use borrow.Author.Rules.{rules}
use Rattle.entries.proofs.points.judge_phrase.Goals as goal

pub returns-then-not-is_address : goal.returns-then-not-is_address
returns-then-not-is_address c = search (rules, said_places)

pub returns : goal.returns
returns c = search (rules, said_places)
