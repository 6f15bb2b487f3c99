-- `roll::borders::draw_borders` meets its contract.
use Rattle.playing.proofs.Operations.{bodies_ready}
use borrow.Author.Rules.{rules}
use Rattle.roll.proofs.borders.draw_borders.Goals as goal

pub draw_phrases-requires : goal.draw_phrases-requires
draw_phrases-requires c = search (rules, bodies_ready)

pub draw_stream-requires : goal.draw_stream-requires
draw_stream-requires c = search (rules, bodies_ready)
