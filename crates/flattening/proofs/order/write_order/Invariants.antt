-- `flattening::order::write_order` meets its contract.
use Rattle.flattening.proofs.Ordering.{Storing}
use Rattle.flattening.proofs.order.write_order.Given as goal

abbrev pub invariant-loop-letter : goal.invariant-loop-letter
invariant-loop-letter l =
    Storing l.voice l.body l.spans l.shapes l.letters l.initial.out l.out l.places l.at l.before l.past l.letter-index
