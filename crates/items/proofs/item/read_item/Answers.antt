-- An end mark that stands at a place ends within the body, so the place after it is a number that fits.
use native.Mathlib.Omega.{arith}
use mathlib.Core.Path.{sym, ◌∙◌}
use Rattle.items.proofs.Matches.{end_mark_within}
use Rattle.items.proofs.item.read_item.Goals as goal

pub overflow_add-result : goal.overflow_add-result
overflow_add-result c = omega (arith, end_mark_within _ _ (sym c.is_end_mark.ensures ∙ c.if-is_end_mark.true))
