-- `sections::span::span_rest` meets its contract.
use Rattle.sections.proofs.Spanning.{reaching, spanning}
use borrow.Author.Rules.{rules}
use Rattle.sections.proofs.span.span_rest.Goals as goal

pub walk_to-to-requires-clause-address_value : goal.walk_to-to-requires-clause-address_value
walk_to-to-requires-clause-address_value c = search (rules, reaching)

pub walk_to-to-requires-clause-at_le_address : goal.walk_to-to-requires-clause-at_le_address
walk_to-to-requires-clause-at_le_address c = search (rules, reaching)

pub span_to-requires : goal.span_to-requires
span_to-requires c = record { passed_le_messages = search (rules, spanning); time_le_time = search (rules, spanning) }

pub returns : goal.returns
returns c = search (rules, spanning)
