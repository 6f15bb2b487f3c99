-- Bytes that stand at a place of a list: in these words both halves of demand 2 are proved.
use Prim.Native.Nat.{ℕ, zero, suc, ◌+◌, ◌<◌, ◌≤◌}
use mathlib.Core.List.{List, [], ◌∷◌, ◌++◌}
use mathlib.Core.Path.{◌≡◌, refl, sym, ◌∙◌, ap, subst}
use lib.ListN.{length, length-append}
use lib.Seq.{get_or-append_seam, append_snoc}
use native.Mathlib.Nat.{add-zero}
use native.Mathlib.Numerals.{add-one}
use native.Mathlib.Omega.{arith}
use Rattle.model.specs.Bytes.{◌!◌, part}
use Rattle.model.proofs.Parts.{part_cons}

abbrev pub Stands : List ℕ → ℕ → List ℕ → Type 0
Stands s at [] = Unit
Stands s at (byte ∷ bytes) = (at < length s) × (s ! at ≡ byte) × Stands s (at + 1) bytes

module _ (s : List ℕ) where
  -- two stretches, one after the other
  pub stands_first : (at : ℕ) (first second : List ℕ) → Stands s at (first ++ second) → Stands s at first
  stands_first at [] second st = tt
  stands_first at (byte ∷ first) second st = (st.0, st.1, stands_first (at + 1) first second st.2)

  pub stands_second : (at : ℕ) (first second : List ℕ) → Stands s at (first ++ second) → Stands s (at + length first) second
  stands_second at [] second st = rw add-zero st
  stands_second at (byte ∷ first) second st =
      let p : at + 1 + length first ≡ at + suc (length first) = omega arith in
      subst (λ (n : ℕ). Stands s n second) p (stands_second (at + 1) first second st.2)

  pub stands_both : (at : ℕ) (first second : List ℕ) → Stands s at first → Stands s (at + length first) second → Stands s at (first ++ second)
  stands_both at [] second st su = rw add-zero at su
  stands_both at (byte ∷ first) second st su =
      let p : at + suc (length first) ≡ at + 1 + length first = omega arith in
      (st.0, st.1, stands_both (at + 1) first second st.2 (subst (λ (n : ℕ). Stands s n second) p su))

  -- one byte of those that stand there, and where they end
  pub stands_byte : (at : ℕ) (bytes : List ℕ) (k : ℕ) → k < length bytes → Stands s at bytes → s ! (at + k) ≡ bytes ! k
  stands_byte at [] k h st = absurd (omega arith)
  stands_byte at (byte ∷ bytes) zero h st = rw add-zero st.1
  stands_byte at (byte ∷ bytes) (suc k) h st =
      let p : at + suc k ≡ at + 1 + k = omega arith in
      ap (λ (n : ℕ). s ! n) p ∙ stands_byte (at + 1) bytes k (omega arith) st.2

  pub stands_here : (at : ℕ) (bytes : List ℕ) → 0 < length bytes → Stands s at bytes → at < length s
  stands_here at [] h st = absurd (omega arith)
  stands_here at (byte ∷ bytes) h st = st.0

  pub stands_within : (at : ℕ) (bytes : List ℕ) → at ≤ length s → Stands s at bytes → at + length bytes ≤ length s
  stands_within at [] h st = omega arith
  stands_within at (byte ∷ bytes) h st = let k = st.0 in let r = stands_within (at + 1) bytes (omega arith) st.2 in omega arith

  -- what stands there is the part of the list there
  pub stands_part : (at : ℕ) (bytes : List ℕ) → Stands s at bytes → part s at (length bytes) ≡ bytes
  stands_part at [] st = refl
  stands_part at (byte ∷ bytes) st =
      let e = st.1 in
      part_cons s at (length bytes) st.0 ∙ rw (e, ← add-one) (ap (λ (rest : List ℕ). byte ∷ rest) (stands_part (at + 1) bytes st.2))

  pub part_stands : (at size : ℕ) → at + size ≤ length s → Stands s at (part s at size)
  part_stands at zero h = tt
  part_stands at (suc size) h =
      subst (Stands s at) (sym (part_cons s at size (omega arith)))
      (omega arith, refl, subst (λ (n : ℕ). Stands s (at + 1) (part s n size)) (add-one at) (part_stands (at + 1) size (omega arith)))

-- what stands between a front and a rest
pub stands_between : (front bytes rest : List ℕ) → Stands (front ++ (bytes ++ rest)) (length front) bytes
stands_between front [] rest = tt
stands_between front (byte ∷ bytes) rest =
    let p = length-append front (byte ∷ (bytes ++ rest)) in
    let q : length (front ++ (byte ∷ [])) ≡ length front + 1 = length-append front (byte ∷ []) in
    let s = front ++ (byte ∷ (bytes ++ rest)) in
    let longer = stands_between (front ++ (byte ∷ [])) bytes rest in (
      omega arith,
      get_or-append_seam front byte (bytes ++ rest) 0,
      subst (λ (n : ℕ). Stands s n bytes) q
          (subst (λ (l : List ℕ). Stands l (length (front ++ (byte ∷ []))) bytes) (append_snoc front byte (bytes ++ rest)) longer),
    )
