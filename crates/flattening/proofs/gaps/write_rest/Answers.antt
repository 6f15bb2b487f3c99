-- `flattening::gaps::write_rest` meets its contract.
use Rattle.flattening.proofs.Waiting.{rests}
use borrow.Author.Rules.{rules}
use Rattle.flattening.proofs.gaps.write_rest.Goals as goal

pub write_waits-place-requires : goal.write_waits-place-requires
write_waits-place-requires c = search (rules, rests)

pub returns-then-left-eq0 : goal.returns-then-left-eq0
returns-then-left-eq0 c = search (rules, rests)

pub write_duration-middle-requires : goal.write_duration-middle-requires
write_duration-middle-requires c = search (rules, rests)

pub write_nop-requires : goal.write_nop-requires
write_nop-requires c = search (rules, rests)

pub returns : goal.returns
returns c = search (rules, rests)
