-- Numbers as bytes: a number that was written in so many bytes reads back as itself, and what was read in so many bytes is written as those bytes. For every
-- width.
use Prim.Native.Nat.{ℕ, zero, suc, ◌+◌, ◌*◌, ◌^◌, ◌/◌, ◌%◌, ◌<◌, ◌≤◌}
use mathlib.Core.List.{List, [], ◌∷◌, ◌++◌, append_assoc}
use mathlib.Core.Path.{◌≡◌, refl, sym, ◌∙◌, ap, ap₂}
use lib.ListN.{length, drop, get_or, length-append, length-drop}
use lib.Seq.{take-suc, get_or-drop, get_or_at}
use native.Mathlib.Nat.{pow-suc}
use native.Mathlib.Omega.{arith}
use Rattle.model.specs.Bytes.{◌!◌, number, part}
use Rattle.model.specs.ChunkBytes.{number_bytes}

pub number_bytes_length : (width n : ℕ) → length (number_bytes width n) ≡ width
unfolding number_bytes
number_bytes_length zero n = refl
number_bytes_length (suc width) n =
    length-append (number_bytes width (n / 256)) (n % 256 ∷ []) ∙ omega (arith, number_bytes_length width (n / 256))

-- what stands from a place on begins with a number's bytes
pub number_back : (width n : ℕ) (s : List ℕ) (at : ℕ) (rest : List ℕ) → n < 256 ^ width → drop at s ≡ number_bytes width n ++ rest → number width s at ≡ n
unfolding number_bytes
number_back zero n s at rest small e = omega arith
number_back (suc width) n s at rest small e =
    let split : drop at s ≡ number_bytes width (n / 256) ++ (n % 256 ∷ rest) = e ∙ append_assoc (number_bytes width (n / 256)) (n % 256 ∷ []) rest in
    let fewer : n / 256 < 256 ^ width = omega (arith, pow-suc 256 width) in
    let high = number_back width (n / 256) s at (n % 256 ∷ rest) fewer split in
    let low : s ! (at + width) ≡ n % 256 =
    sym (get_or-drop at s width 0) ∙ ap (λ (l : List ℕ). get_or l width 0) split
    ∙ get_or_at (number_bytes width (n / 256)) (n % 256) rest 0 width (number_bytes_length width (n / 256)) in
    omega arith

module _ (s : List ℕ) (bytes : (k : ℕ) → s ! k < 256) (at : ℕ) where
  pub number_small : (width : ℕ) → number width s at < 256 ^ width
  number_small zero = omega arith
  number_small (suc width) = omega (arith, number_small width, bytes (at + width), pow-suc 256 width)

  -- so many bytes are those of the number that they make
  pub number_again : (width : ℕ) → at + width ≤ length s → number_bytes width (number width s at) ≡ part s at width
  unfolding number_bytes
  number_again zero h = refl
  number_again (suc width) h =
      let byte = bytes (at + width) in
      let high : (number width s at * 256 + s ! (at + width)) / 256 ≡ number width s at = omega arith in
      let low : (number width s at * 256 + s ! (at + width)) % 256 ≡ s ! (at + width) = omega arith in
      let here : width < length (drop at s) = omega (arith, length-drop at s) in
      rw (high, low)
      (ap₂ (λ (l : List ℕ) (b : ℕ). l ++ (b ∷ [])) (number_again width (omega arith)) (sym (get_or-drop at s width 0))
      ∙ sym (take-suc (drop at s) width 0 here))
