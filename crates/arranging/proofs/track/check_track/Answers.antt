-- `check_track` answers for a track: its fixed bytes, its items, its entries, in that order.
use borrow.Author.Rules.{rules}
use mathlib.Core.Path.{◌∙◌}
use Rattle.arranging.proofs.TrackChecks.{track_checks}
use Rattle.arranging.proofs.track.check_track.Goals as goal

pub returns-then-not-has_fixed : goal.returns-then-not-has_fixed
returns-then-not-has_fixed c = c.refused.ensures ∙ search (rules, track_checks)

pub returns-in-Err : goal.returns-in-Err
returns-in-Err c = c.refused-in-Err.ensures ∙ search (rules, track_checks)

pub returns-in-Ok : goal.returns-in-Ok
returns-in-Ok c = c.refused-in-Ok.ensures ∙ search (rules, track_checks)

pub returns-in-Ok-2 : goal.returns-in-Ok-2
returns-in-Ok-2 c = search (rules, track_checks)
