-- `write_list` stores the items one behind the other, and all else stays as it was.
use borrow.Author.Rules.{rules}
use Rattle.writing.proofs.Filling.{fills}
use Rattle.writing.proofs.list.write_list.Goals as goal

pub loop-item-init : goal.loop-item-init
loop-item-init c = search (rules, fills)

pub write_given-next-requires : goal.write_given-next-requires
write_given-next-requires c = let turn = c.in-Some.ensures.steps in record { word_value = search fills; word_in_bounds = search fills }

pub loop-item-preserved : goal.loop-item-preserved
loop-item-preserved c = let turn = c.in-Some.ensures.steps in search (rules, fills)

pub returns : goal.returns
returns c = let end = c.in-None.ensures.steps in record { value_2 = search fills; out_after = search fills }
