use mathlib.Core.Path.{◌∙◌}
use borrow.Author.Rules.{rules}
use Rattle.lines.proofs.Firsts.{nearing}
use Rattle.lines.proofs.first.first_track.Goals as goal

pub returns-in_err-milliseconds : goal.returns-in_err-milliseconds
returns-in_err-milliseconds c = c.from_residual.ensures ∙ search (rules, nearing, c.in_err-milliseconds.was)

pub returns-in-Track : goal.returns-in-Track
returns-in-Track c = search (rules, nearing, c.in_ok-milliseconds.was)

pub loop-at-smaller : goal.loop-at-smaller
loop-at-smaller c = search (rules, nearing, c.in_ok-milliseconds.was)

pub loop-at-preserved : goal.loop-at-preserved
loop-at-preserved c = search (rules, nearing, c.in_ok-milliseconds.was)

pub returns : goal.returns
returns c = search (rules, nearing)
