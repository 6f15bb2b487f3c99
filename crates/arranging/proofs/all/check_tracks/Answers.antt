use borrow.Author.Rules.{rules}
use Rattle.model.proofs.Tests.{handed_on}
use Rattle.arranging.proofs.Checking.{checks}
use Rattle.arranging.proofs.all.check_tracks.Goals as goal

pub find_stretches-parts-requires-clause-p_in_bounds : goal.find_stretches-parts-requires-clause-p_in_bounds
find_stretches-parts-requires-clause-p_in_bounds c = search (rules, checks)

pub find_stretches-parts-requires-clause-q_in_bounds : goal.find_stretches-parts-requires-clause-q_in_bounds
find_stretches-parts-requires-clause-q_in_bounds c = search (rules, checks)

pub returns-in_err-length : goal.returns-in_err-length
returns-in_err-length c = handed_on _ _ _ c.from_residual.ensures.1 (search (checks, c.in_err-length.was))

pub returns : goal.returns
returns c = search (rules, checks)
