use borrow.Author.Rules.{rules}
use native.Mathlib.Omega.{arith}
use Rattle.flattening.proofs.Telling.{tell_starts, tells, tell_ends}
use Rattle.flattening.proofs.section.write_messages.Goals as goal

pub loop-place-init : goal.loop-place-init
loop-place-init c =
    tell_starts _ _ _ _ _ _ _ (λ k. omega (arith, c.type_inv.body k))
    (search rules) (search rules) (search rules) (search rules) (search rules) (search rules)

pub returns-then-count-eq0 : goal.returns-then-count-eq0
returns-then-count-eq0 c = record { at_value = search tell_ends; past_value = search tell_ends; out_after = search tell_ends }

pub overflow_sub-step : goal.overflow_sub-step
overflow_sub-step c = search (rules, tells)

pub write_message-here-requires : goal.write_message-here-requires
write_message-here-requires c = record { event_value = search tells; event_in_bounds = search tells }

pub loop-place-smaller-then-is_message : goal.loop-place-smaller-then-is_message
loop-place-smaller-then-is_message c = search (rules, tells)

pub loop-place-preserved-then-is_message : goal.loop-place-preserved-then-is_message
loop-place-preserved-then-is_message c = search (rules, tells)

pub loop-place-smaller-else-is_message : goal.loop-place-smaller-else-is_message
loop-place-smaller-else-is_message c = search (rules, tells)

pub loop-place-preserved-else-is_message : goal.loop-place-preserved-else-is_message
loop-place-preserved-else-is_message c = search (rules, tells)

pub loop-place-smaller : goal.loop-place-smaller
loop-place-smaller c = search (rules, tells)

pub loop-place-preserved : goal.loop-place-preserved
loop-place-preserved c = search (rules, tells)

pub returns-in_default : goal.returns-in_default
returns-in_default c = record { at_value = search tell_ends; past_value = search tell_ends; out_after = search tell_ends }

pub returns : goal.returns
returns c = record { at_value = search tell_ends; past_value = search tell_ends; out_after = search tell_ends }
