-- `flattening::gaps::write_gap` meets its contract.
use Rattle.flattening.proofs.Waiting.{gaps}
use borrow.Author.Rules.{rules}
use Rattle.flattening.proofs.gaps.write_gap.Goals as goal

pub write_waits-middle-requires : goal.write_waits-middle-requires
write_waits-middle-requires c = search (rules, gaps)

pub write_duration-requires-clause-value_in_bounds : goal.write_duration-requires-clause-value_in_bounds
write_duration-requires-clause-value_in_bounds c = search (rules, gaps)

pub returns : goal.returns
returns c = record { value = search gaps; out_after = search gaps }
