-- `write_row` leaves a row's bytes at their place: its tag, and its data after it.
use Rattle.entries.proofs.RowStores.{row_stores}
use borrow.Author.Rules.{rules}
use Rattle.entries.proofs.chunk.write_row.Goals as goal

pub write_tag-next-requires : goal.write_tag-next-requires
write_tag-next-requires c = search (rules, row_stores)

pub write_data-requires : goal.write_data-requires
write_data-requires c = search (rules, row_stores)

pub returns : goal.returns
returns c = search (rules, row_stores)
