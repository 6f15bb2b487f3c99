use borrow.Author.Rules.{rules}
use native.Mathlib.Omega.{arith}
use Rattle.flattening.proofs.Shaping.{shape_starts, shapes, shape_slight, shape_known_ends}
use Rattle.flattening.proofs.section.shape_of.Goals as goal

pub loop-place-init : goal.loop-place-init
loop-place-init c =
    shape_starts _ _ _ _ (search rules) (λ k. omega (arith, c.type_inv.body k)) (search rules) (search rules) (search rules)

pub returns-then-count-eq0 : goal.returns-then-count-eq0
returns-then-count-eq0 c = record { value = search shape_known_ends; bytes_bound = search shape_slight }

pub overflow_sub-time : goal.overflow_sub-time
overflow_sub-time c = search (rules, shapes)

pub join-outline-requires-clause-step_bound : goal.join-outline-requires-clause-step_bound
join-outline-requires-clause-step_bound c = search shapes

pub loop-place-smaller-then-is_message : goal.loop-place-smaller-then-is_message
loop-place-smaller-then-is_message c = search (rules, shapes)

pub loop-place-preserved-then-is_message : goal.loop-place-preserved-then-is_message
loop-place-preserved-then-is_message c = search (rules, shapes)

pub loop-place-smaller-else-is_message : goal.loop-place-smaller-else-is_message
loop-place-smaller-else-is_message c = search (rules, shapes)

pub loop-place-preserved-else-is_message : goal.loop-place-preserved-else-is_message
loop-place-preserved-else-is_message c = search (rules, shapes)

pub loop-place-smaller : goal.loop-place-smaller
loop-place-smaller c = search (rules, shapes)

pub loop-place-preserved : goal.loop-place-preserved
loop-place-preserved c = search (rules, shapes)

pub returns-in_default : goal.returns-in_default
returns-in_default c = record { value = search shape_known_ends; bytes_bound = search shape_slight }

pub returns : goal.returns
returns c = record { value = search shape_known_ends; bytes_bound = search shape_slight }
