-- A row of score tracks behind the contents chunk, for tracks in whatever form they are given: where no number comes twice, it is a row that a file allows.
use Prim.Native.Nat.{ℕ, ◌+◌, ◌*◌, ◌/◌, ◌<◌}
use mathlib.Core.Bool.{Bool, true, false}
use mathlib.Core.List.{List, [], ◌∷◌, ◌++◌, map}
use mathlib.Core.Path.{◌≡◌, refl, sym, ◌∙◌, ap₂}
use lib.ListN.{length}
use native.Mathlib.Omega.{arith}
use borrow.Author.Tests.{eq-eqb, ne_eqb, eqb-true, eqb-false}
use Rattle.model.specs.Words.{◌or◌, ◌≡?◌, any}
use Rattle.model.specs.Bytes.{CNTI, MTR}
use Rattle.model.specs.Track.{is_track, is_allowed}
use Rattle.model.specs.declared.ListOf.TheVariants as list
use Rattle.model.proofs.Tests.{by_test, first_true}
use Rattle.whole.proofs.ChunkRow.{Bodied, bodied, RowNamed, RowAllowed}

module _ {A : Type 0} (number : A → ℕ) (body : A → List ℕ) where
  unfoldable pub tracks_row : List A → List Bodied
  tracks_row [] = []
  tracks_row (track ∷ tracks) = bodied (MTR * 256 + number track) (body track) ∷ tracks_row tracks

module _ {A : Type 0} (number : A → ℕ) where
  -- each number is a byte and is none of those before it, the latest first
  abbrev pub NumbersOnce : List ℕ → List A → Type 0
  NumbersOnce before [] = Unit
  NumbersOnce before (track ∷ tracks) =
      (number track < 256) × (any (λ earlier. earlier ≡? number track) before ≡ false) × NumbersOnce (number track ∷ before) tracks

-- the IDs of the contents chunk and of the tracks before, the latest first
abbrev ids_before : List ℕ → List ℕ
ids_before before = map (λ number. MTR * 256 + number) before ++ (CNTI ∷ [])

same_test : (a b : ℕ) → (MTR * 256 + a ≡? MTR * 256 + b) ≡ (a ≡? b)
same_test a b =
    by_test (a ≡? b)
    (λ h. let e = eqb-true a b h in eq-eqb (MTR * 256 + a) (MTR * 256 + b) (omega arith) ∙ sym h)
    (λ h. ne_eqb (MTR * 256 + a) (MTR * 256 + b) (λ e. eqb-false a b h (omega arith)) ∙ sym h)

ids_once : (before : List ℕ) (number : ℕ) → any (λ earlier. earlier ≡? MTR * 256 + number) (ids_before before) ≡ any (λ earlier. earlier ≡? number) before
unfolding any ◌or◌
ids_once [] number = rw (ne_eqb CNTI (MTR * 256 + number) (λ e. omega arith))
ids_once (one ∷ before) number = ap₂ (λ (a : Bool) (b : Bool). a or b) (same_test one number) (ids_once before number)

module _ {A : Type 0} (number : A → ℕ) (body : A → List ℕ) where
  tracks_allowed : (tracks : List A) (before : List ℕ) → NumbersOnce number before tracks
      → RowAllowed (is_allowed list.File) (ids_before before) (tracks_row number body tracks)
  unfolding tracks_row is_allowed
  tracks_allowed [] before once = tt
  tracks_allowed (track ∷ tracks) before once =
      (refl, ids_once before (number track) ∙ once.1, tracks_allowed tracks (number track ∷ before) once.2)

  tracks_named : (tracks : List A) (before : List ℕ) → NumbersOnce number before tracks → RowNamed (tracks_row number body tracks)
  unfolding tracks_row
  tracks_named [] before once = tt
  tracks_named (track ∷ tracks) before once = (let small = once.0 in omega arith, tracks_named tracks (number track ∷ before) once.2)

  module _ (contents : List ℕ) (tracks : List A) (once : NumbersOnce number [] tracks) where
    pub tracks_row_allowed : RowAllowed (is_allowed list.File) [] (bodied CNTI contents ∷ tracks_row number body tracks)
    unfolding is_allowed any
    tracks_row_allowed = (refl, refl, tracks_allowed tracks [] once)

    pub tracks_row_named : RowNamed (bodied CNTI contents ∷ tracks_row number body tracks)
    tracks_row_named = (omega arith, tracks_named tracks [] once)

  -- one of them is a track
  pub tracks_row_tracked : (tracks : List A) → 0 < length tracks → NumbersOnce number [] tracks
      → any (λ one. is_track one.id) (tracks_row number body tracks) ≡ true
  unfolding tracks_row any is_track
  tracks_row_tracked [] some once = absurd (omega arith)
  tracks_row_tracked (track ∷ tracks) some once =
      let small = once.0 in
      first_true _ _ (first_true _ _ (eq-eqb ((MTR * 256 + number track) / 256) MTR (omega arith)))
