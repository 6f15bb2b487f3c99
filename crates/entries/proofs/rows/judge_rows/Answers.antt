use native.Mathlib.Omega.{arith}
use borrow.Author.Rules.{rules}
use Rattle.entries.proofs.Holding.{holding, holding_goes_on}
use Rattle.entries.proofs.rows.judge_rows.Goals as goal

pub loop-i-init : goal.loop-i-init
loop-i-init c = search (rules, holding)

pub returns-then-not-judged : goal.returns-then-not-judged
returns-then-not-judged c = search (rules, holding)

pub loop-i-preserved : goal.loop-i-preserved
loop-i-preserved c =
    holding_goes_on _ _ _ _ _ _ _ _ _ c.loop-i.invariant _ _ (omega arith) c.row_at-row.ensures c.judge_row-judged.ensures (search rules)

pub returns : goal.returns
returns c = search (rules, holding)
