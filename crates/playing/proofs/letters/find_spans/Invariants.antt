-- `playing::letters::find_spans` meets its contract.
use mathlib.Core.Bool.{true}
use lib.ListN.{length}
use Rattle.model.specs.Item.{items_of}
use Rattle.playing.specs.Performing.{entries_said}
use Rattle.playing.proofs.LetterSpans.{Finding}
use Rattle.playing.proofs.letters.find_spans.Given as goal

abbrev pub invariant-loop-i : goal.invariant-loop-i
invariant-loop-i l =
    Finding (items_of l.voice l.body) (length l.body) (entries_said true l.seek) l.letters l.spans l.known l.i
