use borrow.Author.Rules.{rules}
use Rattle.entries.proofs.Reaching.{fronts, front_faulty, front_goes_on}
use native.Mathlib.Omega.{arith}
use Rattle.writing.proofs.ShortNotes.{short_length}
use Rattle.model.proofs.Tests.{is_on}
use Rattle.entries.proofs.address.advance.Goals.{then-is_short, else-is_short+else-length-eq0}
use Rattle.entries.proofs.address.advance.Goals as goal

pub returns-then-length-eq0 : goal.returns-then-length-eq0
returns-then-length-eq0 c =
    front_faulty _ _ _ _ _ c.loop-index.invariant (omega arith) _ c.given_length-length.ensures.0 (search rules)

pub loop-index-preserved : goal.loop-index-preserved
loop-index-preserved c =
    let address = c.args.address in
    let front = c.loop-index.invariant in
    elim c.if-is_short.branch [
      | then-is_short w ↦ rw w.place-is (front_goes_on _ _ _ _ address front (omega arith) 3 (short_length _ _ _ _ (is_on c.is_short.ensures w.if-is_short.true)) (λ e. omega arith) (omega arith) (omega arith) (search rules))
      | else-is_short+else-length-eq0 w ↦ let length = w.given_length-length.ensures in rw w.place-is (front_goes_on _ _ _ _ address front (omega arith) _ length.0 w.if-length-eq0.false length.1 (omega arith) (search rules))
    ]

pub returns : goal.returns
returns c = search (rules, fronts)
