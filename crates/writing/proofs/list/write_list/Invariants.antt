-- `write_list` stores the items one behind the other. The loop's invariant is `Filling`.
use Rattle.writing.proofs.Filling.{Filling}
use Rattle.writing.proofs.list.write_list.Given as goal

abbrev pub invariant-loop-item : goal.invariant-loop-item
invariant-loop-item l = Filling l.voice l.source l.items l.at l.initial.out l.out l.next l.item-iterator.size l.item-iterator.rest.now
