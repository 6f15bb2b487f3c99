-- `roll::marks::count_whole` meets its contract.
use borrow.Author.Rules.{rules}
use Rattle.roll.proofs.marks.count_whole.Goals as goal

pub stops_at-requires : goal.stops_at-requires
stops_at-requires c = record { ready = search rules; named = search rules; i_in_bounds = search rules }
