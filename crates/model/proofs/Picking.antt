-- Laws of what a test picks from a list: all that pass it, those up to and with the first that does, the first, and whether one does.
use Prim.Native.Nat.{ℕ, zero, suc, ◌+◌, ◌<◌}
use mathlib.Core.Bool.{Bool, true, false, false≢true}
use mathlib.Core.List.{List, [], ◌∷◌, ◌++◌, map}
use Rattle.std.specs.Prelude.{None, Some}
use mathlib.Core.Path.{◌≡◌, refl, sym, ◌∙◌, ap}
use lib.ListN.{length, take}
use native.Mathlib.Omega.{arith}
use Rattle.model.specs.Words.{when◌then◌else◌, ◌or◌, any, first, keep, through}
use Rattle.model.specs.Bytes.{◌!◌}
use Rattle.model.proofs.Tests.{by_test}

module _ {A : Type 0} (test : A → Bool) where
  pub keep_append : (front rest : List A) → keep test (front ++ rest) ≡ keep test front ++ keep test rest
  unfolding keep when◌then◌else◌
  keep_append [] rest = refl
  keep_append (a ∷ front) rest =
      by_test (test a) (λ t. simp t (ap (λ (l : List A). a ∷ l) (keep_append front rest))) (λ t. simp t (keep_append front rest))

  pub any_none : (a : A) (rest : List A) → any test (a ∷ rest) ≡ false → (test a ≡ false) × (any test rest ≡ false)
  unfolding any ◌or◌
  any_none a rest h =
      by_test (test a) (λ t. absurd (false≢true (sym h ∙ simp t))) (λ t. (t, simp t at h))

  pub any_append : (front rest : List A) → any test front ≡ false → any test (front ++ rest) ≡ any test rest
  unfolding any ◌or◌
  any_append [] rest h = refl
  any_append (a ∷ front) rest h = let k = any_none a front h in rw k.0 (any_append front rest k.1)

  -- where none passes, nothing is cut off
  pub through_none : (l : List A) → any test l ≡ false → through test l ≡ l
  unfolding through when◌then◌else◌
  through_none [] h = refl
  through_none (a ∷ l) h = let k = any_none a l h in rw k.0 (ap (λ (rest : List A). a ∷ rest) (through_none l k.1))

  pub first_none : (l : List A) → any test l ≡ false → first test l ≡ None
  unfolding first when◌then◌else◌
  first_none [] h = refl
  first_none (a ∷ l) h = let k = any_none a l h in rw k.0 (first_none l k.1)

  pub through_append : (front rest : List A) → any test front ≡ false → through test (front ++ rest) ≡ front ++ through test rest
  unfolding through when◌then◌else◌
  through_append [] rest h = refl
  through_append (a ∷ front) rest h =
      let k = any_none a front h in
      rw k.0 (ap (λ (l : List A). a ∷ l) (through_append front rest k.1))

  pub through_here : (a : A) (rest : List A) → test a ≡ true → through test (a ∷ rest) ≡ a ∷ []
  unfolding through when◌then◌else◌
  through_here a rest h = rw h

  pub through_on : (a : A) (rest : List A) → test a ≡ false → through test (a ∷ rest) ≡ a ∷ through test rest
  unfolding through when◌then◌else◌
  through_on a rest h = rw h

  pub any_first : (l : List A) (a : A) → first test l ≡ Some a → any test l ≡ true
  unfolding first any ◌or◌ when◌then◌else◌
  any_first [] a e = let z : ◌≡◌ {A = ℕ} 0 1 = cc in absurd (omega arith)
  any_first (b ∷ l) a e = by_test (test b) (λ t. simp t) (λ t. let rest : first test l ≡ Some a = simp t at e in simp t (any_first l a rest))

-- what is told of each is picked the same
pub through_map : {A B : Type 0} (test : B → Bool) (tell : A → B) (l : List A) → through test (map tell l) ≡ map tell (through (λ a. test (tell a)) l)
unfolding through when◌then◌else◌
through_map test tell [] = refl
through_map {A} {B} test tell (a ∷ l) =
    by_test (test (tell a)) (λ t. simp t) (λ t. simp t (ap (λ (rest : List B). tell a ∷ rest) (through_map test tell l)))

-- by the index of the first that passes
module _ (test : ℕ → Bool) where
  pub through_at : (l : List ℕ) (i : ℕ) → i < length l → ((j : ℕ) → j < i → test (l ! j) ≡ false) → test (l ! i) ≡ true → take (i + 1) l ≡ through test l
  unfolding through when◌then◌else◌
  through_at [] i within before here = absurd (omega arith)
  through_at (a ∷ l) zero within before here = sym (simp here)
  through_at (a ∷ l) (suc i) within before here =
      let on : suc i + 1 ≡ suc (i + 1) = omega arith in
      ap (λ (n : ℕ). take n (a ∷ l)) on
      ∙ ap (λ (rest : List ℕ). a ∷ rest) (through_at l i (omega arith) (λ j h. before (suc j) (omega arith)) here)
      ∙ sym (through_on test a l (before 0 (omega arith)))

  pub through_whole : (l : List ℕ) → ((j : ℕ) → j < length l → test (l ! j) ≡ false) → l ≡ through test l
  unfolding through
  through_whole [] none_here = refl
  through_whole (a ∷ l) none_here =
      ap (λ (rest : List ℕ). a ∷ rest) (through_whole l (λ j h. none_here (suc j) (omega arith))) ∙ sym (through_on test a l (none_here 0 (omega arith)))
