use borrow.Author.Rules.{rules}
use Rattle.lines.proofs.Listings.{first_tracks}
use Rattle.lines.proofs.operation.list_accepted.Goals as goal

pub returns-in-Some-clause-out_after : goal.returns-in-Some-clause-out_after
returns-in-Some-clause-out_after c = search (rules, first_tracks)
