use borrow.Author.Rules.{rules}
use mathlib.Core.Bool.{true, not}
use mathlib.Core.Path.{ap}
use lib.ListN.{length}
use native.Mathlib.Omega.{arith}
use Rattle.model.specs.Bytes.{◌!◌}
use Rattle.model.specs.Item.{items_of}
use Rattle.playing.specs.Performing.{entries_said, no_span}
use Rattle.playing.proofs.Tables.{Known, known_before, known_now}
use Rattle.playing.proofs.LetterSpans.{PassedBy, passage_goes_on, find_starts, finding}
use Rattle.playing.proofs.letters.find_spans.Goals as goal
use Rattle.playing.proofs.letters.find_spans.Goals.{then-not-known-slot+else-passage, else-not-known-slot}

pub loop-i-init : goal.loop-i-init
loop-i-init c =
    find_starts _ _ _ _ _ (λ k. omega (arith, c.type_inv.body k))
    (λ k. omega (arith, c.type_inv.letters k)) (search rules) (search rules) (search rules)

pub returns-then-passage : goal.returns-then-passage
returns-then-passage c = search (rules, finding)

pub loop-i-preserved : goal.loop-i-preserved
loop-i-preserved c =
    let inv = c.loop-i.invariant in
    let known : Known no_span (PassedBy (items_of c.args.voice c.args.body.now) (length c.args.body.now) (entries_said true c.args.seek.now))
    (c.args.letters.now ! c.loop-i.i) c.loop-i.known c.if-not-known-slot.spans c.if-not-known-slot.known =
    elim c.if-not-known-slot.branch [
      | then-not-known-slot+else-passage w ↦
          known_now no_span _ _ _ _ inv.table _ _ _ (inv.bytes _)
          (passage_goes_on _ _ _ _ _ w.passage_of_letter-passage.ensures w.if-passage.false) w.spans-is w.known-is
      | else-not-known-slot w ↦ known_before no_span _ _ _ _ inv.table _ _ (ap not w.if-not-known-slot.false) w.spans-is w.known-is
    ] in
    search (rules, finding)

pub returns : goal.returns
returns c = search (rules, finding)
