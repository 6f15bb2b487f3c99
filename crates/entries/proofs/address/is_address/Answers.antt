-- `is_address` looks at the front, and from the first item on where the number lies behind it.
use Rattle.entries.proofs.Reaching.{address_met}
use borrow.Author.Rules.{rules}
use Rattle.entries.proofs.address.is_address.Goals as goal

pub returns-then-wanted-front : goal.returns-then-wanted-front
returns-then-wanted-front c = λ beyond. search (rules, address_met)
