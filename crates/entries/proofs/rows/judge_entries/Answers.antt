-- `judge_entries` answers for 12, 13 and 14 in turn.
use Rattle.entries.proofs.Judging.{tellings}
use borrow.Author.Rules.{rules}
use Rattle.entries.proofs.rows.judge_entries.Goals as goal

pub returns-then-not-has_form : goal.returns-then-not-has_form
returns-then-not-has_form c = search (rules, tellings)

pub returns-then-not-judged : goal.returns-then-not-judged
returns-then-not-judged c = search (rules, tellings)

pub returns : goal.returns
returns c = search (rules, tellings)
