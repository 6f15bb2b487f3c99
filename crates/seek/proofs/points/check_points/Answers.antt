-- `check_points` answers for the rules of entries, and then with phrases for those of letters.
use Rattle.seek.proofs.Holding.{rules}
use Rattle.model.proofs.Tests.{handed_on}
use Rattle.seek.proofs.points.check_points.Goals as goal

pub returns-in_err-check_entries : goal.returns-in_err-check_entries
returns-in_err-check_entries c = handed_on _ _ _ c.from_residual.ensures.1 (search (rules, c.in_err-check_entries.was))

pub returns-then-phrases : goal.returns-then-phrases
returns-then-phrases c = search (rules, c.in_ok-check_entries.was)

pub returns : goal.returns
returns c = search (rules, c.in_ok-check_entries.was)
