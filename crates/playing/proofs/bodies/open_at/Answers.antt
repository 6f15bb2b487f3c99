-- `playing::bodies::open_at` meets its contract.
use borrow.Author.Rules.{rules}
use Rattle.playing.proofs.Openings.{openings}
use Rattle.playing.proofs.bodies.open_at.Goals as goal
use Rattle.playing.proofs.bodies.open_at.Goals.{in-Some, in-None}

pub find_part-requires-clause-start_le_end : goal.find_part-requires-clause-start_le_end
find_part-requires-clause-start_le_end c = (search openings, search rules, search rules)

pub find_part-requires-clause-end_value : goal.find_part-requires-clause-end_value
find_part-requires-clause-end_value c = search openings

pub returns-in_err-sequence : goal.returns-in_err-sequence
returns-in_err-sequence c = search (openings, c.in_err-sequence.was)

pub find_part-requires-2-clause-start_le_end : goal.find_part-requires-2-clause-start_le_end
find_part-requires-2-clause-start_le_end c = (search openings, search rules, search rules)

pub find_part-requires-2-clause-end_value : goal.find_part-requires-2-clause-end_value
find_part-requires-2-clause-end_value c = search openings

pub overflow_add-seek : goal.overflow_add-seek
overflow_add-seek c = search (rules, openings, c.in-Some.is)

pub bounds-s-place : goal.bounds-s-place
bounds-s-place c = search (rules, openings)

pub overflow_add-result-3 : goal.overflow_add-result-3
overflow_add-result-3 c = search (rules, openings, c.in_ok-sequence.was)

pub returns : goal.returns
returns c =
    elim c.match-find_part.branch [
      | in-Some w ↦ search (openings, c.in_ok-sequence.was, w.in-Some.is, w.seek-is)
      | in-None w ↦ search (openings, c.in_ok-sequence.was, w.in-None.is, w.seek-is)
    ]
