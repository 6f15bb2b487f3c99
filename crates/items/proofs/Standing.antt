-- A BODY READS to items exactly where it is not empty and they stand in it one after the other, from its head to its end.
use Prim.Native.Nat.{ℕ, ◌<◌}
use mathlib.Core.List.{List, []}
use mathlib.Core.Bool.{Bool, true, false}
use mathlib.Core.Path.{◌≡◌, refl}
use lib.ListN.{length}
use native.Mathlib.Omega.{arith}
use borrow.Author.Tests.{ne_eqb, eqb-false}
use Rattle.model.specs.Words.{when◌then◌else◌, ◌≡?◌, Placed, walk_to, in_turn, unasked, refused}
use Rattle.std.specs.Prelude.{Ok}
use Rattle.model.specs.Item.{Item, item_step, body_of}
use Rattle.model.specs.declared.Voice.{Voice}
use Rattle.model.specs.declared.Event.{Event}
use Rattle.model.proofs.Walks.{Stand, unasked_pass, stand_iff}
use Rattle.items.proofs.Ahead.{item_goes}

abbrev Items : Type 0
Items = List (Placed (Item Event))

reads_in_turn : (voice : Voice) (s : List ℕ) (items : Items) → body_of voice s ≡ Ok items
    → (0 < length s) × (in_turn unasked [] (walk_to 11 (length s) (item_step voice s) 0) ≡ Ok items)
unfolding body_of when◌then◌else◌
reads_in_turn voice s items e = go (length s ≡? 0) refl e
  where
    go : (t : Bool) → (length s ≡? 0) ≡ t
        → (when t then refused 11 0 else in_turn unasked [] (walk_to 11 (length s) (item_step voice s) 0)) ≡ Ok items
        → (0 < length s) × (in_turn unasked [] (walk_to 11 (length s) (item_step voice s) 0) ≡ Ok items)
    go true h q = let z : ◌≡◌ {A = ℕ} 0 1 = cc in absurd (omega arith)
    go false h q = (omega (arith, eqb-false (length s) 0 h), q)

module _ (voice : Voice) (s : List ℕ) (items : Items) where
  pub body_stands : body_of voice s ≡ Ok items → Stand (length s) (item_step voice s) 0 items
  body_stands e =
      ((stand_iff 11 (length s) (item_step voice s) unasked (λ at h. item_goes voice s at) 0 items (omega arith)).0 (reads_in_turn voice s items e).1).0

  pub body_not_empty : body_of voice s ≡ Ok items → 0 < length s
  body_not_empty e = (reads_in_turn voice s items e).0

  pub body_reads_to : 0 < length s → Stand (length s) (item_step voice s) 0 items → body_of voice s ≡ Ok items
  unfolding body_of when◌then◌else◌
  body_reads_to some stand =
      let there : length s ≡ 0 → ⊥ = λ e. omega arith in
      simp ne_eqb ((stand_iff 11 (length s) (item_step voice s) unasked (λ at h. item_goes voice s at) 0 items (omega arith)).1 (stand, unasked_pass items []))
