use borrow.Author.Rules.{rules}
use native.Mathlib.Omega.{arith}
use Rattle.playing.proofs.Writing.{write_starts, writing}
use Rattle.playing.proofs.letters.write_letters.Goals as goal

pub loop-letter-init : goal.loop-letter-init
loop-letter-init c =
    write_starts _ _ _ _ _ _ (λ k. omega (arith, c.shared_slice_known-2-1.given k)) (search rules) (search rules) (search rules) (search rules)
    (search rules) (search rules) (search rules) (search rules)

pub write_section-requires-clause-lasts_bound : goal.write_section-requires-clause-lasts_bound
write_section-requires-clause-lasts_bound c = search writing

pub write_section-requires-clause-messages_in_bounds : goal.write_section-requires-clause-messages_in_bounds
write_section-requires-clause-messages_in_bounds c = search writing

pub write_section-requires-clause-messages_in_bounds_2 : goal.write_section-requires-clause-messages_in_bounds_2
write_section-requires-clause-messages_in_bounds_2 c = search writing

pub write_section-requires-clause-stored_where_known : goal.write_section-requires-clause-stored_where_known
write_section-requires-clause-stored_where_known c = search writing

pub overflow_add-at : goal.overflow_add-at
overflow_add-at c = search (rules, writing)

pub overflow_add-before : goal.overflow_add-before
overflow_add-before c = search (rules, writing)

pub loop-letter-preserved : goal.loop-letter-preserved
loop-letter-preserved c = search (rules, writing)

pub returns : goal.returns
returns c = search (rules, writing)
