-- `arranging::all::write_tracks` meets its contract.
use borrow.Author.Rules.{rules}
use Rattle.arranging.proofs.Filling.{fills}
use Rattle.arranging.proofs.all.write_tracks.Goals as goal

pub find_stretches-parts-requires : goal.find_stretches-parts-requires
find_stretches-parts-requires c = search (rules, fills)

pub write_at-next-requires : goal.write_at-next-requires
write_at-next-requires c = record { apart = search rules; q_value = search fills; q_in_bounds = search fills; q_len_bound = search fills }

pub returns : goal.returns
returns c = search (rules, fills)
