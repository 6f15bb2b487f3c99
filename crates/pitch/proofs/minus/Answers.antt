-- `minus` is the difference of two bytes.
use Rattle.pitch.proofs.Signed.{minus_fits, minus_is}
use Rattle.pitch.proofs.minus.Goals as goal

pub overflow_sub-result : goal.overflow_sub-result
overflow_sub-result c = search minus_fits

pub returns : goal.returns
returns c = search minus_is
