-- A walk has no more steps than places, so that what it meets can be counted by a number of the file.
use Prim.Native.Nat.{ℕ, ◌+◌, ◌≤◌}
use mathlib.Core.List.{List, [], ◌∷◌}
use mathlib.Core.Path.{subst}
use lib.ListN.{length}
use native.Mathlib.Omega.{arith}
use Rattle.model.specs.Words.{Step, Step.met}
use Rattle.model.proofs.Walks.{GoesOn, Stand}

pub stand_short : {A : Type 0} (end : ℕ) (step : ℕ → Step A) → ((at : ℕ) → GoesOn end at (step at)) → (all : List A) (at : ℕ) → Stand end step at all
    → at + length all ≤ end
stand_short end step goes [] at st = omega arith
stand_short end step goes (one ∷ all) at st =
    let on : GoesOn end at (met one st.0) = subst (GoesOn end at) st.1 (goes at) in
    let rest = stand_short end step goes all st.0 st.2 in
    omega arith
