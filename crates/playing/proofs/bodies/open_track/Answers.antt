-- `playing::bodies::open_track` meets its contract.
use borrow.Author.Rules.{rules}
use Rattle.playing.proofs.Rows.{rows_named}
use Rattle.playing.proofs.bodies.open_track.Goals as goal

pub returns-in_err-track : goal.returns-in_err-track
returns-in_err-track c = search (rules, rows_named, c.in_err-track.was)

pub open_at-requires-clause-size_in_bounds : goal.open_at-requires-clause-size_in_bounds
open_at-requires-clause-size_in_bounds c = (search (rows_named, c.in_ok-track.was), search rules)

pub open_at-requires-clause-size_value : goal.open_at-requires-clause-size_value
open_at-requires-clause-size_value c = search (rows_named, c.in_ok-track.was)

pub returns : goal.returns
returns c = search (rows_named, c.in_ok-track.was)
