-- `reading::find::find_track` meets its contract.
use mathlib.Core.Path.{◌∙◌}
use borrow.Author.Rules.{rules}
use Rattle.reading.proofs.Finding.{finding}
use Rattle.reading.proofs.find.find_track.Goals as goal

pub overflow_sub-end : goal.overflow_sub-end
overflow_sub-end c = search (rules, finding)

pub loop-at-init : goal.loop-at-init
loop-at-init c = search (rules, finding)

pub returns-in_err-chunk : goal.returns-in_err-chunk
returns-in_err-chunk c = c.from_residual.ensures ∙ search (rules, finding, c.in_err-chunk.was)

pub track_at-requires-clause-size_in_bounds : goal.track_at-requires-clause-size_in_bounds
track_at-requires-clause-size_in_bounds c = search (rules, finding, c.in_ok-chunk.was)

pub track_at-requires-clause-size_value : goal.track_at-requires-clause-size_value
track_at-requires-clause-size_value c = search (rules, finding, c.in_ok-chunk.was)

pub returns-then-k-row : goal.returns-then-k-row
returns-then-k-row c = search (rules, finding, c.in_ok-chunk.was)

pub count_rows-k-requires-clause-size_in_bounds : goal.count_rows-k-requires-clause-size_in_bounds
count_rows-k-requires-clause-size_in_bounds c = search (rules, finding, c.in_ok-chunk.was)

pub count_rows-k-requires-clause-size_value : goal.count_rows-k-requires-clause-size_value
count_rows-k-requires-clause-size_value c = search (rules, finding, c.in_ok-chunk.was)

pub loop-at-smaller : goal.loop-at-smaller
loop-at-smaller c = search (rules, finding, c.in_ok-chunk.was)

pub loop-at-preserved : goal.loop-at-preserved
loop-at-preserved c = search (rules, finding, c.in_ok-chunk.was)

pub returns : goal.returns
returns c = search (rules, finding)
