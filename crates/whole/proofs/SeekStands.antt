-- A SEEK BODY READS to entries exactly where it is not empty and they stand in it one after the other, each in order after those before it.
use Prim.Native.Nat.{ℕ, ◌<◌}
use mathlib.Core.List.{List, []}
use mathlib.Core.Logic.{◌↔◌}
use mathlib.Core.Path.{◌≡◌, sym, ◌∙◌}
use lib.ListN.{length}
use native.Mathlib.Omega.{arith}
use borrow.Author.Tests.{ne_eqb, eqb-false}
use Rattle.model.specs.Words.{◌≡?◌, Placed, walk_to, in_turn}
use Rattle.std.specs.Prelude.{Ok}
use Rattle.model.specs.Seek.{Entry, entry_step, in_order, seek_of}
use Rattle.model.proofs.Tests.{by_test, if_true, if_false}
use Rattle.model.proofs.Walks.{Stand, Pass, stand_iff}
use Rattle.seek.proofs.Ahead.{entry_goes}

pub record SeekStands (width : ℕ) (s : List ℕ) (placed : List (Placed Entry)) : Type 0 where
  pub some : 0 < length s
  pub stands : Stand (length s) (entry_step width s) 0 placed
  pub passes : Pass in_order [] placed

module _ (width : ℕ) (s : List ℕ) (placed : List (Placed Entry)) where
  in_turn_iff : (in_turn in_order [] (walk_to 12 (length s) (entry_step width s) 0) ≡ Ok placed)
      ↔ (Stand (length s) (entry_step width s) 0 placed × Pass in_order [] placed)
  in_turn_iff = stand_iff 12 (length s) (entry_step width s) in_order (λ at h. entry_goes width s at) 0 placed (omega arith)

  pub reads_stands : seek_of width s ≡ Ok placed → SeekStands width s placed
  unfolding seek_of
  reads_stands e =
      by_test (length s ≡? 0)
      (λ h. let q = sym (if_true _ _ _ h) ∙ e in let z : ◌≡◌ {A = ℕ} 0 1 = cc in absurd (omega arith))
      (λ h.
      let b = in_turn_iff.0 (sym (if_false _ _ _ h) ∙ e) in
      record { some = omega (arith, eqb-false (length s) 0 h); stands = b.0; passes = b.1 })

  pub stands_reads : SeekStands width s placed → seek_of width s ≡ Ok placed
  unfolding seek_of
  stands_reads st =
      let there : length s ≡ 0 → ⊥ = λ e. omega arith in
      if_false _ _ _ (ne_eqb (length s) 0 there) ∙ in_turn_iff.1 (st.stands, st.passes)
