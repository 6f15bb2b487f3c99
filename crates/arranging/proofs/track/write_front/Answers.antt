-- `arranging::track::write_front` meets its contract.
use Rattle.arranging.proofs.TrackStores.{fronts}
use borrow.Author.Rules.{rules}
use Rattle.arranging.proofs.track.write_front.Goals as goal

pub write_seek-requires : goal.write_seek-requires
write_seek-requires c = record { entries_value = search rules; entries_in_bounds = search (rules, fronts); entries_len_bound = search fronts }

pub returns : goal.returns
returns c = record { value = search (rules, fronts); out_after = search (rules, fronts) }
