-- `sections::take::take_sound` meets its contract.
use Rattle.sections.proofs.Taking.{taking}
use borrow.Author.Rules.{rules}
use Rattle.sections.proofs.take.take_sound.Goals as goal

pub sound_word-requires : goal.sound_word-requires
sound_word-requires c = search (rules, taking)

pub returns-in-Ok : goal.returns-in-Ok
returns-in-Ok c = search (rules, taking)

pub returns-in-Err : goal.returns-in-Err
returns-in-Err c = search (rules, taking)
