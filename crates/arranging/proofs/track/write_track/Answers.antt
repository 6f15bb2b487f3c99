-- `arranging::track::write_track` meets its contract.
use Rattle.arranging.proofs.TrackStores.{track_parts}
use borrow.Author.Rules.{rules}
use Rattle.arranging.proofs.track.write_track.Goals as goal

pub write_inside-end-requires : goal.write_inside-end-requires
write_inside-end-requires c = record { head_len = search rules; source_value = search rules; source_in_bounds = search track_parts; source_len_bound = search track_parts }

pub close_chunk-requires : goal.close_chunk-requires
close_chunk-requires c = record { at_bound = (search track_parts, search (rules, track_parts)); end_bound = search track_parts }

pub returns : goal.returns
returns c = record { value = search (rules, track_parts); out_after = search (rules, track_parts) }
