-- `arranging::track::write_inside` meets its contract.
use Rattle.arranging.proofs.TrackStores.{insides}
use borrow.Author.Rules.{rules}
use Rattle.arranging.proofs.track.write_inside.Goals as goal

pub write_front-sequence-requires : goal.write_front-sequence-requires
write_front-sequence-requires c = record { head_len = search rules; entries_value = search insides; letters_in_bounds = search insides; letters_len_bound = search insides }

pub write_sequence-requires : goal.write_sequence-requires
write_sequence-requires c = record { value = search insides; in_bounds = search (rules, insides); len_bound = search insides }

pub returns : goal.returns
returns c = record { value = search (rules, insides); out_after = search (rules, insides) }
