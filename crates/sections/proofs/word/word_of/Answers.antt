-- `sections::word::word_of` meets its contract.
use Rattle.sections.proofs.Words.{words}
use borrow.Author.Rules.{rules}
use Rattle.sections.proofs.word.word_of.Goals as goal

pub returns-in-Nop : goal.returns-in-Nop
returns-in-Nop c = search (rules, words)

pub returns-in-Note : goal.returns-in-Note
returns-in-Note c = search (rules, words)

pub returns-in-Wave : goal.returns-in-Wave
returns-in-Wave c = search (rules, words)

pub returns-in-Control : goal.returns-in-Control
returns-in-Control c = search (rules, words)

pub returns-in-Exclusive : goal.returns-in-Exclusive
returns-in-Exclusive c = search (rules, words)
