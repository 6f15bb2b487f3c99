use borrow.Author.Rules.{rules}
use Rattle.entries.proofs.Filling.{fills}
use Rattle.entries.proofs.chunk.write_rows.Goals as goal

pub loop-i-init : goal.loop-i-init
loop-i-init c = search (rules, fills)

pub write_row-next-requires : goal.write_row-next-requires
write_row-next-requires c = search (rules, fills)

pub loop-i-preserved : goal.loop-i-preserved
loop-i-preserved c = search (rules, fills)

pub returns : goal.returns
returns c = search (rules, fills)
