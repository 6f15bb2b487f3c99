-- `sections::span::span_from` meets its contract.
use native.Mathlib.Omega.{arith}
use Rattle.sections.proofs.Small.{stream_small}
use Rattle.sections.proofs.Spanning.{reaching}
use borrow.Author.Rules.{rules}
use Rattle.sections.proofs.span.span_from.Goals as goal

pub walk_to-from-requires-clause-walked : goal.walk_to-from-requires-clause-walked
walk_to-from-requires-clause-walked c = search (rules, reaching)

pub span_rest-requires-clause-arrived : goal.span_rest-requires-clause-arrived
span_rest-requires-clause-arrived c = search (rules, reaching)

pub returns : goal.returns
returns c =
    let a = c.args in
    record {
      value = search (rules, reaching);
      small = search (rules, reaching, stream_small a.voice a.body.now (λ k. omega (arith, c.type_inv.body k)));
    }
