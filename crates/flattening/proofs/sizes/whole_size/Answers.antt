-- `flattening::sizes::whole_size` meets its contract.
use Rattle.flattening.proofs.Sizing.{whole_is}
use borrow.Author.Rules.{rules}
use Rattle.flattening.proofs.sizes.whole_size.Goals as goal

pub returns : goal.returns
returns c = search (rules, whole_is)
