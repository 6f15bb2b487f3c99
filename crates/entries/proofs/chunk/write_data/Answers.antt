-- `write_data` leaves a row's data at its place, by its kind.
use Rattle.entries.proofs.RowStores.{data_stores}
use borrow.Author.Rules.{rules}
use Rattle.entries.proofs.chunk.write_data.Goals as goal

pub write_pair-requires : goal.write_pair-requires
write_pair-requires c = search (rules, data_stores)

pub returns-then-row-eq2 : goal.returns-then-row-eq2
returns-then-row-eq2 c = search (rules, data_stores)

pub copy_part-requires : goal.copy_part-requires
copy_part-requires c = search (rules, data_stores)

pub returns-then-row-eq3 : goal.returns-then-row-eq3
returns-then-row-eq3 c = search (rules, data_stores)

pub write_point-requires : goal.write_point-requires
write_point-requires c = search (rules, data_stores)

pub returns : goal.returns
returns c = search (rules, data_stores)
