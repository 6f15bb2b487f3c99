use borrow.Author.Rules.{rules}
use Rattle.flattening.proofs.Waiting.{waiting}
use Rattle.flattening.proofs.gaps.write_waits.Goals as goal

pub write_wait-place-requires : goal.write_wait-place-requires
write_wait-place-requires c = search (rules, waiting)

pub loop-more-preserved : goal.loop-more-preserved
loop-more-preserved c = search (rules, waiting)

pub returns : goal.returns
returns c = search (rules, waiting)
