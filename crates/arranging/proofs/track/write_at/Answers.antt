-- `arranging::track::write_at` meets its contract.
use Rattle.arranging.proofs.Joined.{joining}
use borrow.Author.Rules.{rules}
use Rattle.arranging.proofs.track.write_at.Goals as goal

pub write_track-requires : goal.write_track-requires
write_track-requires c = record { head_len = search joining; source_value = search joining; source_in_bounds = search joining; source_len_bound = search joining }

pub returns : goal.returns
returns c = search (rules, joining)
