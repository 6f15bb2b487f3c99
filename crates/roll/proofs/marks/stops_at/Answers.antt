-- `roll::marks::stops_at` meets its contract.
use Rattle.playing.proofs.LetterSpans.{named_here}
use borrow.Author.Rules.{rules}
use Rattle.roll.proofs.marks.stops_at.Goals as goal

pub passage_of_letter-requires : goal.passage_of_letter-requires
passage_of_letter-requires c = record { ready = search rules; seek_value = search (rules, named_here) }
