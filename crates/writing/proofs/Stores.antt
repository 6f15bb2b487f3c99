-- What stores leave of lent memory.
use Prim.Native.Nat.{ℕ, suc, ◌+◌, ◌-◌, ◌<◌, ◌≤◌}
use mathlib.Core.List.{List}
use mathlib.Core.Path.{◌≡◌, refl, sym, ◌∙◌, ap}
use lib.ListN.{length, set, get_or, length-set}
use lib.Seq.{sets}
use native.Mathlib.Nat.{add-zero, sub-zero}
use native.Mathlib.Omega.{arith}
use Rattle.model.specs.Bytes.{part}
use Rattle.model.proofs.Parts.{part_cons}

-- a callee kept the length of what a store had left
pub kept_set : (m l : List ℕ) (at byte : ℕ) → length m ≡ length (set l at byte) → length m ≡ length l
kept_set m l at byte h = h ∙ length-set l at byte

-- a stretch of a source, as it is copied: what is still to be stored makes the whole
pub record Copied (l s out : List ℕ) (at from count i : ℕ) : Type 0 where
  pub in_range : i ≤ count
  pub same : length out ≡ length l
  pub rest : sets out (at + i) (part s (from + i) (count - i)) ≡ sets l at (part s from count)

pub start : (l s : List ℕ) (at from count : ℕ) → Copied l s l at from count 0
start l s at from count = record { in_range = omega arith; same = refl; rest = simp (add-zero, sub-zero) }

module _ (l s out : List ℕ) (at from count i : ℕ) (copied : Copied l s out at from count i) where
  pub more : i < count → from + count ≤ length s → Copied l s (set out (at + i) (get_or s (from + i) 0)) at from count (i + 1)
  more h k =
      let left : count - i ≡ suc (count - (i + 1)) = omega arith in
      let there : at + (i + 1) ≡ suc (at + i) = omega arith in
      let here : from + (i + 1) ≡ suc (from + i) = omega arith in
      record {
        in_range = omega arith;
        same = length-set out (at + i) _ ∙ copied.same;
        rest = rw (there, here) (sym (ap (sets out (at + i)) (ap (part s (from + i)) left ∙ part_cons s (from + i) (count - (i + 1)) (omega arith))) ∙ copied.rest);
      }

  pub done : count ≤ i → out ≡ sets l at (part s from count)
  done h = let e : 0 ≡ count - i = omega (arith, copied.in_range) in ap (λ (x : ℕ). sets out (at + i) (part s (from + i) x)) e ∙ copied.rest

pub ruleset copies = (start, more, done)
