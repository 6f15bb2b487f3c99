-- `roll::draw_row` meets its contract.
use Rattle.playing.proofs.RowPerformed.{row_inside}
use borrow.Author.Rules.{rules}
use Rattle.roll.proofs.draw_row.Goals as goal

pub draw_opened-requires : goal.draw_opened-requires
draw_opened-requires c = search (rules, row_inside)
