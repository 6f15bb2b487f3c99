-- `flattening::sizes::measure_order` meets its contract.
use lib.ListN.{length}
use Rattle.model.specs.Item.{items_of}
use Rattle.flattening.proofs.Sizing.{Measuring}
use Rattle.flattening.proofs.sizes.measure_order.Given as goal

abbrev pub invariant-loop-letter : goal.invariant-loop-letter
invariant-loop-letter l =
    Measuring l.body (items_of l.voice l.body) (length l.body) l.spans l.letters l.shapes l.known l.size l.letter-index
