-- `write_seek` leaves the seek chunk at its place: the entries with their commas, and the header over the first.
use Rattle.entries.proofs.ChunkStores.{chunk_stores}
use borrow.Author.Rules.{rules}
use Rattle.entries.proofs.chunk.write_seek.Goals as goal

pub returns-then-entries-eq0 : goal.returns-then-entries-eq0
returns-then-entries-eq0 c = search (rules, chunk_stores)

pub write_rows-end-requires : goal.write_rows-end-requires
write_rows-end-requires c = search (rules, chunk_stores)

pub overflow_sub-end-2 : goal.overflow_sub-end-2
overflow_sub-end-2 c = search (rules, chunk_stores)

pub write_header-requires : goal.write_header-requires
write_header-requires c = search (rules, chunk_stores)

pub returns : goal.returns
returns c = search (rules, chunk_stores)
