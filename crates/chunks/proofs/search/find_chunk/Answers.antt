use borrow.Author.Rules.{rules}
use Rattle.chunks.proofs.Searches.{finding, remaining}
use Rattle.chunks.proofs.search.find_chunk.Goals as goal

pub loop-at-init : goal.loop-at-init
loop-at-init c = search (rules, finding, remaining)

pub stands_at-requires : goal.stands_at-requires
stands_at-requires c = search (rules, finding, remaining, c.in_ok-chunk.was)

pub returns-then-stands_at : goal.returns-then-stands_at
returns-then-stands_at c = search (rules, finding, remaining, c.in_ok-chunk.was)

pub loop-at-smaller : goal.loop-at-smaller
loop-at-smaller c = search (rules, finding, remaining, c.in_ok-chunk.was)

pub loop-at-preserved : goal.loop-at-preserved
loop-at-preserved c = search (rules, finding, remaining, c.in_ok-chunk.was)

pub returns : goal.returns
returns c = search (rules, finding, remaining)

pub returns-in_err-chunk : goal.returns-in_err-chunk
returns-in_err-chunk c = search (rules, finding, remaining, c.in_err-chunk.was)
