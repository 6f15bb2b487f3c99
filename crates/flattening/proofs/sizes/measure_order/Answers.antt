use borrow.Author.Rules.{rules}
use mathlib.Core.Bool.{not}
use mathlib.Core.Path.{ap}
use native.Mathlib.Omega.{arith}
use Rattle.model.specs.Bytes.{◌!◌}
use Rattle.model.specs.Item.{items_of}
use Rattle.playing.proofs.Tables.{Known, known_before, known_now}
use Rattle.flattening.specs.Orders.{no_shape}
use Rattle.flattening.proofs.Sizing.{ShapeOf, measure_starts, measure_gap, measure_slight, measure_turns, measuring}
use Rattle.flattening.proofs.sizes.measure_order.Goals as goal
use Rattle.flattening.proofs.sizes.measure_order.Goals.{then-not-known-slot, else-not-known-slot}

pub loop-letter-init : goal.loop-letter-init
loop-letter-init c =
    measure_starts _ _ _ _ _ _ (λ k. omega (arith, c.type_inv.letters k))
    (search rules) (search rules) (search rules) (search rules)

pub add_shape-size-requires : goal.add_shape-size-requires
add_shape-size-requires c =
    let inv = c.loop-letter.invariant in
    let known : Known no_shape (ShapeOf c.args.body.now (items_of c.args.voice c.args.body.now) c.args.spans)
    (c.args.letters.now ! c.loop-letter.letter-index) c.loop-letter.known c.if-not-known-slot.shapes c.if-not-known-slot.known =
    elim c.if-not-known-slot.branch [
      | then-not-known-slot w ↦
          known_now no_shape _ _ _ _ inv.table _ _ _ (inv.bytes _) (w.shape_of.ensures.value, w.shape_of.ensures.bytes_bound) w.shapes-is w.known-is
      | else-not-known-slot w ↦ known_before no_shape _ _ _ _ inv.table _ _ (ap not w.if-not-known-slot.false) w.shapes-is w.known-is
    ] in
    record {
      bytes_bound = search rules;
      gap_bound = measure_gap _ _ _ _ _ _ _ _ _ inv;
      slight = measure_slight _ _ _ _ _ _ _ _ _ inv (search rules) _ _ known;
    }

pub loop-letter-preserved : goal.loop-letter-preserved
loop-letter-preserved c =
    let inv = c.loop-letter.invariant in
    let known : Known no_shape (ShapeOf c.args.body.now (items_of c.args.voice c.args.body.now) c.args.spans)
    (c.args.letters.now ! c.loop-letter.letter-index) c.loop-letter.known c.if-not-known-slot.shapes c.if-not-known-slot.known =
    elim c.if-not-known-slot.branch [
      | then-not-known-slot w ↦
          known_now no_shape _ _ _ _ inv.table _ _ _ (inv.bytes _) (w.shape_of.ensures.value, w.shape_of.ensures.bytes_bound) w.shapes-is w.known-is
      | else-not-known-slot w ↦ known_before no_shape _ _ _ _ inv.table _ _ (ap not w.if-not-known-slot.false) w.shapes-is w.known-is
    ] in
    measure_turns _ _ _ _ _ _ _ _ _ inv (search rules) _ _ known _ (search rules) (search rules)

pub returns : goal.returns
returns c = search (rules, measuring)
