-- `sections::span::passage_on` meets its contract.
use Rattle.sections.proofs.Spanning.{spanning}
use borrow.Author.Rules.{rules}
use Rattle.sections.proofs.span.passage_on.Goals as goal

pub passage_to-requires : goal.passage_to-requires
passage_to-requires c = record { passed_le_messages = search (rules, spanning); time_le_time = search (rules, spanning); passed_le_passed = search (rules, spanning); time_le_time_2 = search (rules, spanning) }

pub returns : goal.returns
returns c = search (rules, spanning)
