use borrow.Author.Rules.{rules}
use native.Mathlib.Omega.{arith}
use Rattle.flattening.proofs.Ordering.{store_starts, storing}
use Rattle.flattening.proofs.order.write_order.Goals as goal

pub loop-letter-init : goal.loop-letter-init
loop-letter-init c =
    store_starts _ _ _ _ _ _ (λ k. omega (arith, c.type_inv.letters k))
    (search rules) (search rules) (search rules) (search rules) (search rules) (search rules)

pub write_section-told-requires-clause-lasts_bound : goal.write_section-told-requires-clause-lasts_bound
write_section-told-requires-clause-lasts_bound c = search storing

pub write_section-told-requires-clause-before_in_bounds : goal.write_section-told-requires-clause-before_in_bounds
write_section-told-requires-clause-before_in_bounds c = search storing

pub write_section-told-requires-clause-written_where_known : goal.write_section-told-requires-clause-written_where_known
write_section-told-requires-clause-written_where_known c = search storing

pub overflow_sub-places : goal.overflow_sub-places
overflow_sub-places c = search (rules, storing)

pub overflow_add-before : goal.overflow_add-before
overflow_add-before c = search (rules, storing)

pub loop-letter-preserved : goal.loop-letter-preserved
loop-letter-preserved c = search (rules, storing)

pub write_rest-end-requires : goal.write_rest-end-requires
write_rest-end-requires c = search (rules, storing)

pub write_end_mark-requires : goal.write_end_mark-requires
write_end_mark-requires c = search (rules, storing)

pub returns : goal.returns
returns c = record { value = search storing; out_after = search storing }
