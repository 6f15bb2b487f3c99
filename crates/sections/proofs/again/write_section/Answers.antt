-- `sections::again::write_section` meets its contract.
use borrow.Author.Rules.{rules}
use Rattle.sections.proofs.PlayedAgain.{again}
use Rattle.sections.proofs.again.write_section.Goals as goal

pub overflow_sub-before : goal.overflow_sub-before
overflow_sub-before c = search (rules, again, c.requires.stored_where_known)

pub copy_steps-requires-clause-count_bound : goal.copy_steps-requires-clause-count_bound
copy_steps-requires-clause-count_bound c = search (rules, again, c.requires.stored_where_known)

pub returns-clause-steps_after : goal.returns-clause-steps_after
returns-clause-steps_after c = search (rules, again, c.requires.stored_where_known)

pub returns-clause-words_after : goal.returns-clause-words_after
returns-clause-words_after c = search (rules, again, c.requires.stored_where_known)
