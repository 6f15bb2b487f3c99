-- `flattening::gaps::left_of` meets its contract.
use Rattle.flattening.proofs.Waiting.{sizes}
use borrow.Author.Rules.{rules}
use Rattle.flattening.proofs.gaps.left_of.Goals as goal

pub overflow_cast-result : goal.overflow_cast-result
overflow_cast-result c = search (rules, sizes)

pub returns : goal.returns
returns c = record { value = search sizes; upper_bound = search sizes }
