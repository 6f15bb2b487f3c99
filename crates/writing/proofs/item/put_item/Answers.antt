-- `put_item` answers and leaves what the definitions say, from the tests that led to each answer.
use Rattle.model.proofs.Tests.{flag_on}
use Rattle.model.specs.Writing.{put_memory}
use Rattle.writing.proofs.Items.{answers, memories, all_written, has_room}
use borrow.Author.Rules.{rules}
use Rattle.writing.proofs.item.put_item.Goals as goal

pub returns-then-duration-gt16511 : goal.returns-then-duration-gt16511
unfolding put_memory
returns-then-duration-gt16511 c = record { value = search answers; out_after = search (answers, memories) }

pub returns-then-not-event_fits : goal.returns-then-not-event_fits
unfolding put_memory
returns-then-not-event_fits c = record { value = search answers; out_after = search (answers, memories) }

pub returns-then-out-at : goal.returns-then-out-at
unfolding put_memory
returns-then-out-at c = record { value = search answers; out_after = search (answers, memories) }

pub returns-then-out-at-2 : goal.returns-then-out-at-2
unfolding put_memory
returns-then-out-at-2 c = record { value = search answers; out_after = search (answers, memories) }

pub write_item-requires : goal.write_item-requires
write_item-requires c = record { duration_bound = search rules; event_value = search flag_on; event_in_bounds = search has_room }

pub returns : goal.returns
returns c = record { value = search answers; out_after = search all_written }
