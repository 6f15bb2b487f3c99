-- `roll::borders::draw_phrases` meets its contract.
use Rattle.playing.proofs.Orders.{orders}
use borrow.Author.Rules.{rules}
use Rattle.roll.proofs.borders.draw_phrases.Goals as goal

pub letters_played-requires : goal.letters_played-requires
letters_played-requires c = search orders

pub draw_planned-requires : goal.draw_planned-requires
draw_planned-requires c = record { ready = search rules; letters_len_bound = search orders; named = search orders }
