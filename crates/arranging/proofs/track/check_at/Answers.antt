-- `arranging::track::check_at` meets its contract.
use Rattle.arranging.proofs.Joined.{joining}
use borrow.Author.Rules.{rules}
use Rattle.arranging.proofs.track.check_at.Goals as goal

pub returns : goal.returns
returns c = search (rules, joining)
