-- Checks in turn over a list that is already there: all of it is found, where each thing passes its check.
use mathlib.Core.List.{List, [], ◌∷◌}
use mathlib.Core.Path.{◌≡◌, refl, sym, ◌∙◌, ap}
use Rattle.model.specs.Words.{Checked, ◌>>=◌, ◌>>◌, walk_of, in_turn}
use Rattle.std.specs.Prelude.{Ok}
use Rattle.model.proofs.Outcomes.{then_fine, bind_fine, fine_some}
use Rattle.model.proofs.Walks.{Pass}

module _ {A : Type 0} (check : List A → A → Checked (Unit {0})) where
  pub in_turn_all : (all before found : List A) → in_turn check before (walk_of all) ≡ Ok found → (found ≡ all) × Pass check before all
  unfolding in_turn walk_of
  in_turn_all [] before found e = (cc, tt)
  in_turn_all (a ∷ rest) before found e =
      let t = then_fine (check before a) (in_turn check (a ∷ before) (walk_of rest) >>= λ all. Ok (a ∷ all)) found e in
      let b = bind_fine (in_turn check (a ∷ before) (walk_of rest)) (λ all. Ok (a ∷ all)) found t.1 in
      let r = in_turn_all rest (a ∷ before) b.0 b.1 in
      let same : a ∷ b.0 ≡ found = cc b.2 in
      (sym same ∙ ap (λ (l : List A). a ∷ l) r.0, ((fine_some (check before a) t.0).1, r.1))

  pub all_in_turn : (all before : List A) → Pass check before all → in_turn check before (walk_of all) ≡ Ok all
  unfolding in_turn walk_of ◌>>◌ ◌>>=◌
  all_in_turn [] before p = refl
  all_in_turn (a ∷ rest) before p = rw (p.0, all_in_turn rest (a ∷ before) p.1) refl
