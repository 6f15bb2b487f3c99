-- `flattening::section::write_message` meets its contract.
use Rattle.flattening.proofs.Telling.{message}
use borrow.Author.Rules.{rules}
use Rattle.flattening.proofs.section.write_message.Goals as goal

pub write_waits-middle-requires : goal.write_waits-middle-requires
write_waits-middle-requires c = search (rules, message)

pub write_item-requires : goal.write_item-requires
write_item-requires c = search (rules, message)

pub returns : goal.returns
returns c = search (rules, message)
