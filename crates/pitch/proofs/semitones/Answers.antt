-- `semitones` counts up or down by the shift, as the definition does.
use native.Mathlib.Omega.{arith}
use Rattle.pitch.proofs.Signed.{kept}
use Rattle.pitch.proofs.Counts.{raised, lowered, down}
use Rattle.pitch.proofs.semitones.Goals as goal

pub returns-then-shift-le4 : goal.returns-then-shift-le4
returns-then-shift-le4 c = search (raised, kept)

pub overflow_sub-shift : goal.overflow_sub-shift
overflow_sub-shift c = omega (arith, down c.args.shift c.requires.shift_value c.if-shift-le4.false)

pub overflow_mul-shift-2 : goal.overflow_mul-shift-2
overflow_mul-shift-2 c = omega (arith, down c.args.shift c.requires.shift_value c.if-shift-le4.false)

pub overflow_add-shift : goal.overflow_add-shift
overflow_add-shift c = omega (arith, down c.args.shift c.requires.shift_value c.if-shift-le4.false)

pub returns : goal.returns
returns c = search (lowered, kept)
