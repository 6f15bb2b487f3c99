use borrow.Author.Rules.{rules}
use Rattle.chunks.proofs.Searches.{having, remaining}
use Rattle.chunks.proofs.search.has_chunk.Goals as goal

pub loop-at-init : goal.loop-at-init
loop-at-init c = search (rules, having, remaining)

pub returns-in_default : goal.returns-in_default
returns-in_default c = search (rules, having, remaining)

pub is_wanted-requires : goal.is_wanted-requires
is_wanted-requires c = search (rules, having, remaining)

pub returns-then-is_wanted : goal.returns-then-is_wanted
returns-then-is_wanted c = search (rules, having, remaining)

pub loop-at-smaller : goal.loop-at-smaller
loop-at-smaller c = search (rules, having, remaining)

pub loop-at-preserved : goal.loop-at-preserved
loop-at-preserved c = search (rules, having, remaining)

pub returns : goal.returns
returns c = search (rules, having, remaining)
