-- Lists whose elements are all below a bound, as bytes and 32-bit numbers are: so are those of their parts.
use Prim.Native.Nat.{ℕ, zero, suc, ◌+◌, ◌-◌, ◌<◌, ◌≤◌}
use mathlib.Core.List.{List, [], ◌∷◌, ◌++◌}
use mathlib.Core.Path.{◌≡◌, ap}
use lib.ListN.{length, take, drop, length-take, get_or-eq_default, get_or-append}
use lib.Seq.{get_or-take, get_or-drop, get_or-append-add}
use native.Mathlib.Decide.{dec_lt}
use native.Mathlib.Omega.{arith}
use Rattle.model.specs.Bytes.{◌!◌, part}

abbrev pub AllBelow : ℕ → List ℕ → Type 0
AllBelow bound s = (k : ℕ) → s ! k < bound

module _ (bound : ℕ) where
  pub drop_below : (place : ℕ) (s : List ℕ) → AllBelow bound s → AllBelow bound (drop place s)
  drop_below place s small k = omega (arith, get_or-drop place s k 0, small (place + k))

  pub take_below : (size : ℕ) (s : List ℕ) → AllBelow bound s → AllBelow bound (take size s)
  take_below size s small k =
      elim (dec_lt k size) [
        | yes h ↦ omega (arith, get_or-take size s k 0 h, small k)
        | no h ↦
            let short : length (take size s) ≤ k = simp length-take (omega arith) in
            let past : length s ≤ length s = omega arith in
            omega (arith, get_or-eq_default (take size s) 0 short, get_or-eq_default s 0 past, small (length s))
      ]

  pub part_below : (place size : ℕ) (s : List ℕ) → AllBelow bound s → AllBelow bound (part s place size)
  part_below place size s small = take_below size (drop place s) (drop_below place s small)

  -- of two lists, one behind the other
  pub behind_below : (front rest : List ℕ) → AllBelow bound (front ++ rest) → AllBelow bound rest
  behind_below front rest small k = omega (arith, get_or-append-add front rest k 0, small (length front + k))

  pub front_below : (front rest : List ℕ) → AllBelow bound (front ++ rest) → AllBelow bound front
  front_below front rest small k =
      elim (dec_lt k (length front)) [
        | yes h ↦ omega (arith, get_or-append front rest 0 k h, small k)
        | no h ↦
            let past : length (front ++ rest) ≤ length (front ++ rest) = omega arith in
            let short : length front ≤ k = omega arith in
            omega (arith, get_or-eq_default front 0 short, get_or-eq_default (front ++ rest) 0 past, small (length (front ++ rest)))
      ]

  pub both_below : (front rest : List ℕ) → AllBelow bound front → AllBelow bound rest → AllBelow bound (front ++ rest)
  both_below front rest small others k =
      elim (dec_lt k (length front)) [
        | yes h ↦ omega (arith, get_or-append front rest 0 k h, small k)
        | no h ↦
            let on : length front + (k - length front) ≡ k = omega arith in
            omega (arith, get_or-append-add front rest (k - length front) 0, others (k - length front), ap (λ (n : ℕ). (front ++ rest) ! n) on)
      ]

  pub four_lists_below : (a b c d : List ℕ) → AllBelow bound a → AllBelow bound b → AllBelow bound c → AllBelow bound d → AllBelow bound (a ++ b ++ c ++ d)
  four_lists_below a b c d h i j k = both_below (a ++ b ++ c) d (both_below (a ++ b) c (both_below a b h i) j) k

  -- element by element
  pub none_below : 0 < bound → AllBelow bound []
  none_below some k = some

  pub one_below : (n : ℕ) (rest : List ℕ) → n < bound → AllBelow bound rest → AllBelow bound (n ∷ rest)
  one_below n rest small others zero = small
  one_below n rest small others (suc k) = others k
