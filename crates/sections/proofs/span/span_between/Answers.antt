-- `sections::span::span_between` meets its contract.
use native.Mathlib.Omega.{arith}
use Rattle.sections.proofs.Small.{between_small}
use Rattle.sections.proofs.Spanning.{reaching}
use borrow.Author.Rules.{rules}
use Rattle.sections.proofs.span.span_between.Goals as goal

pub walk_to-from-requires-clause-walked : goal.walk_to-from-requires-clause-walked
walk_to-from-requires-clause-walked c = search (rules, reaching)

pub passage_on-requires-clause-arrived : goal.passage_on-requires-clause-arrived
passage_on-requires-clause-arrived c = search (rules, reaching)

pub returns : goal.returns
returns c =
    let a = c.args in
    record {
      value = search (rules, reaching);
      small = search (rules, reaching, between_small a.voice a.body.now (λ k. omega (arith, c.type_inv.body k)));
    }
