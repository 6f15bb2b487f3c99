-- `roll::draw` meets its contract.
use Rattle.playing.proofs.RowPerformed.{stated_fine}
use borrow.Author.Rules.{rules}
use Rattle.roll.proofs.draw.Goals as goal

pub draw_first-requires : goal.draw_first-requires
draw_first-requires c = search (rules, stated_fine)
