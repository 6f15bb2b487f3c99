-- `sections::walk::walk_to` meets its contract.
use borrow.Author.Rules.{rules}
use native.Mathlib.Omega.{arith}
use Rattle.sections.proofs.Nearing.{near_starts, nearing}
use Rattle.sections.proofs.walk.walk_to.Goals as goal

pub loop-now-init : goal.loop-now-init
loop-now-init c =
    near_starts _ _ _ _ _ (λ k. omega (arith, c.type_inv.body k)) (search rules) (search rules) (search rules) (search rules) (search rules)

pub returns-then-body-now-clause-arrived : goal.returns-then-body-now-clause-arrived
returns-then-body-now-clause-arrived c = search (rules, nearing)

pub returns-then-ends_here : goal.returns-then-ends_here
returns-then-ends_here c = record { arrived = search (rules, nearing); at_le_at = search (rules, nearing) }

pub loop-now-smaller : goal.loop-now-smaller
loop-now-smaller c = search (rules, nearing)

pub loop-now-preserved : goal.loop-now-preserved
loop-now-preserved c = search (rules, nearing)

pub returns-clause-arrived : goal.returns-clause-arrived
returns-clause-arrived c = search (rules, nearing)
