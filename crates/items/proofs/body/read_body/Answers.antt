use borrow.Author.Rules.{rules}
use Rattle.model.proofs.Tests.{handed_on}
use Rattle.items.proofs.Reading.{reading}
use Rattle.items.proofs.body.read_body.Goals as goal

pub returns-then-s-eq0 : goal.returns-then-s-eq0
returns-then-s-eq0 c = search (rules, reading)

pub loop-at-init : goal.loop-at-init
loop-at-init c = search (rules, reading)

pub is_short-requires : goal.is_short-requires
is_short-requires c = search (rules, reading)

pub bounds-s-at : goal.bounds-s-at
bounds-s-at c = search (rules, reading)

pub overflow_add-count : goal.overflow_add-count
overflow_add-count c = search (rules, reading)

pub overflow_cast-lasts : goal.overflow_cast-lasts
overflow_cast-lasts c = search (rules, reading)

pub overflow_add-lasts : goal.overflow_add-lasts
overflow_add-lasts c = search (rules, reading)

pub overflow_add-at : goal.overflow_add-at
overflow_add-at c = search (rules, reading)

pub loop-at-smaller-then-is_short : goal.loop-at-smaller-then-is_short
loop-at-smaller-then-is_short c = search (rules, reading)

pub loop-at-preserved-then-is_short : goal.loop-at-preserved-then-is_short
loop-at-preserved-then-is_short c = search (rules, reading)

pub read_item-requires : goal.read_item-requires
read_item-requires c = search (rules, reading)

pub enum_known-duration : goal.enum_known-duration
enum_known-duration c = search (rules, reading)

pub overflow_add-count-in-Timed : goal.overflow_add-count-in-Timed
overflow_add-count-in-Timed c = search (rules, reading, c.in_ok-duration.was)

pub overflow_cast-lasts-in-Timed : goal.overflow_cast-lasts-in-Timed
overflow_cast-lasts-in-Timed c = search (rules, reading, c.in_ok-duration.was)

pub overflow_add-lasts-in-Timed : goal.overflow_add-lasts-in-Timed
overflow_add-lasts-in-Timed c = search (rules, reading, c.in_ok-duration.was)

pub loop-at-smaller-in-Timed : goal.loop-at-smaller-in-Timed
loop-at-smaller-in-Timed c = search (rules, reading, c.in_ok-duration.was)

pub loop-at-preserved-in-Timed : goal.loop-at-preserved-in-Timed
loop-at-preserved-in-Timed c = search (rules, reading, c.in_ok-duration.was)

pub enum_known-next : goal.enum_known-next
enum_known-next c = search (rules, reading)

pub overflow_add-count-in-EndMark : goal.overflow_add-count-in-EndMark
overflow_add-count-in-EndMark c = search (rules, reading, c.in_ok-duration.was)

pub loop-at-smaller : goal.loop-at-smaller
loop-at-smaller c = search (rules, reading)

pub loop-at-preserved : goal.loop-at-preserved
loop-at-preserved c = search (rules, reading)

pub returns-in_err-duration : goal.returns-in_err-duration
returns-in_err-duration c = handed_on _ _ _ c.from_residual.ensures.1 (search (rules, reading, c.in_err-duration.was))

pub returns : goal.returns
returns c = search (rules, reading)
