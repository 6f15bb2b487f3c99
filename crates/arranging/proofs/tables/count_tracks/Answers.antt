use borrow.Author.Rules.{rules}
use mathlib.Core.Path.{◌∙◌}
use Rattle.arranging.proofs.Counting.{counts}
use Rattle.arranging.proofs.tables.count_tracks.Goals as goal

pub loop-p-init : goal.loop-p-init
loop-p-init c = search (rules, counts)

pub returns-then-bytes-q-lt7 : goal.returns-then-bytes-q-lt7
returns-then-bytes-q-lt7 c = search (rules, counts)

pub returns-then-seen-number : goal.returns-then-seen-number
returns-then-seen-number c = c.refused.ensures ∙ search (rules, counts)

pub returns : goal.returns
returns c = search (rules, counts)
