-- `playing::stream::points_of` meets its contract.
use mathlib.Core.Path.{sym, ◌∙◌}
use borrow.Author.Tests.{eqb-true, eqb-false}
use borrow.Author.Rules.{rules}
use Rattle.playing.proofs.Streams.{points_none, points_some}
use Rattle.playing.proofs.stream.points_of.Goals as goal

pub returns-then-is_empty : goal.returns-then-is_empty
returns-then-is_empty c = points_none _ _ (eqb-true _ 0 (sym c.is_empty.ensures ∙ c.if-is_empty.true))

pub returns : goal.returns
returns c = points_some _ _ (eqb-false _ 0 (sym c.is_empty.ensures ∙ c.if-is_empty.false)) _ (search rules)
