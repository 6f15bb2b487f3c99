-- `list_played` lists what a play leaves in its tables, or its refusal.
use Prim.Native.Nat.{ℕ, ◌<◌}
use native.Mathlib.Omega.{arith}
use Rattle.model.specs.Bytes.{◌!◌}
use Rattle.lines.proofs.Heard.{heard, unheard}
use borrow.Author.Rules.{rules}
use Rattle.lines.proofs.operation.list_played.Goals as goal

pub write_listing-requires : goal.write_listing-requires
write_listing-requires c =
    let bytes : (k : ℕ) → c.args.input.now ! k < 256 = λ k. omega (arith, c.shared_slice_known-1.given k) in
    record { count_in_bounds = (search (rules, heard), search (rules, heard)); count_in_bounds_2 = search (rules, heard); end_bound = (search (rules, heard), search rules); early = search (rules, heard) }

pub returns-in-Err : goal.returns-in-Err
returns-in-Err c = record { value = search (rules, unheard); within = search rules; out_after = search (rules, unheard) }

pub returns-in-Ok : goal.returns-in-Ok
returns-in-Ok c =
    let bytes : (k : ℕ) → c.args.input.now ! k < 256 = λ k. omega (arith, c.shared_slice_known-1.given k) in
    record { value = search (rules, heard); within = search (rules, heard); out_after = search (rules, heard) }
