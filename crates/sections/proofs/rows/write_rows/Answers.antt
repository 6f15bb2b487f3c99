-- `sections::rows::write_rows` meets its contract.
use borrow.Author.Rules.{rules}
use native.Mathlib.Omega.{arith}
use Rattle.sections.proofs.Rowing.{rows_start, row_turns, row_ends}
use Rattle.sections.proofs.rows.write_rows.Goals as goal

pub loop-place-init : goal.loop-place-init
loop-place-init c =
    rows_start _ _ _ _ _ _ _ _ _ (λ k. omega (arith, c.type_inv.body k))
    (search rules) (search rules) (search rules) (search rules) (search rules) (search rules) (search rules) (search rules)

pub returns-then-row-end-clause-steps_after : goal.returns-then-row-end-clause-steps_after
returns-then-row-end-clause-steps_after c = search (rules, row_ends)

pub returns-then-row-end-clause-words_after : goal.returns-then-row-end-clause-words_after
returns-then-row-end-clause-words_after c = search (rules, row_ends)

pub overflow_sub-time : goal.overflow_sub-time
overflow_sub-time c = search (rules, row_turns)

pub write_row-requires : goal.write_row-requires
write_row-requires c = record { row_in_bounds = search row_turns; row_in_bounds_2 = search row_turns }

pub returns-then-ends_here : goal.returns-then-ends_here
returns-then-ends_here c = record { steps_after = search (rules, row_ends); words_after = search (rules, row_ends); ended = search (rules, row_ends) }

pub loop-place-smaller-then-item-ne0 : goal.loop-place-smaller-then-item-ne0
loop-place-smaller-then-item-ne0 c = search (rules, row_turns)

pub loop-place-preserved-then-item-ne0 : goal.loop-place-preserved-then-item-ne0
loop-place-preserved-then-item-ne0 c = search (rules, row_turns)

pub loop-place-smaller : goal.loop-place-smaller
loop-place-smaller c = search (rules, row_turns)

pub loop-place-preserved : goal.loop-place-preserved
loop-place-preserved c = search (rules, row_turns)

pub returns : goal.returns
returns c = record { steps_after = search (rules, row_ends); words_after = search (rules, row_ends); ended = search (rules, row_ends) }
