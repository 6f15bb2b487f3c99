-- `flattening::again::write_section` meets its contract.
use Rattle.flattening.proofs.WrittenAgain.{again}
use Rattle.flattening.proofs.again.write_section.Goals as goal

pub write_again-requires-clause-lead_le_lasts : goal.write_again-requires-clause-lead_le_lasts
write_again-requires-clause-lead_le_lasts c = search again

pub write_again-requires-clause-tail_le_lasts : goal.write_again-requires-clause-tail_le_lasts
write_again-requires-clause-tail_le_lasts c = search again

pub write_again-requires-clause-bytes_bound : goal.write_again-requires-clause-bytes_bound
write_again-requires-clause-bytes_bound c = search (again, c.requires.written_where_known)

pub write_again-requires-clause-bytes_in_bounds : goal.write_again-requires-clause-bytes_in_bounds
write_again-requires-clause-bytes_in_bounds c = search again

pub returns-then-shape : goal.returns-then-shape
returns-then-shape c = record { at_value = search again; past_value = search again; out_after = search (again, c.requires.written_where_known) }

pub returns : goal.returns
returns c = record { at_value = search again; past_value = search again; out_after = search again }
