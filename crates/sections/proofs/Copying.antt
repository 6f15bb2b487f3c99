-- ROWS COPIED within a table: what is still to be stored makes the whole, and what stands before is kept.
use Prim.Native.Nat.{ℕ, zero, suc, ◌+◌, ◌-◌, ◌<◌, ◌≤◌}
use mathlib.Core.List.{List, [], ◌∷◌, ◌++◌, append_assoc}
use mathlib.Core.Path.{◌≡◌, refl, sym, ◌∙◌, ap, ap₂}
use lib.ListN.{length, take, drop, set, length-set, length-map}
use lib.Seq.{paste, sets, sets-eq, drop-cons, drop-length, get_or-set_other, take-set-le, drop-set-add, drop_at, take-append_seam, length-take-le}
use native.Mathlib.Omega.{arith}
use Rattle.model.specs.Bytes.{◌!◌, part}
use Rattle.model.proofs.Parts.{part_length, part_at}
use Rattle.sections.specs.Again.{later}

-- so many numbers are stored from a place on
pub record Copying (l out numbers : List ℕ) (at i : ℕ) : Type 0 where
  pub in_range : i ≤ length numbers
  pub same : length out ≡ length l
  pub rest : sets out (at + i) (drop i numbers) ≡ sets l at numbers
  pub kept : (k : ℕ) → k < at → out ! k ≡ l ! k

module _ (l out numbers : List ℕ) (at i : ℕ) (c : Copying l out numbers at i) where
  copy_next : (number : ℕ) → i < length numbers → number ≡ numbers ! i → Copying l (set out (at + i) number) numbers at (i + 1)
  copy_next number h is =
      let there : at + (i + 1) ≡ suc (at + i) = omega arith in
      let on : i + 1 ≡ suc i = omega arith in
      record {
        in_range = omega arith;
        same = length-set out (at + i) number ∙ c.same;
        rest =
            ap₂ (λ (n k : ℕ). sets (set out (at + i) number) n (drop k numbers)) there on
            ∙ ap (λ (x : ℕ). sets (set out (at + i) x) (suc (at + i)) (drop (suc i) numbers)) is
            ∙ ap (sets out (at + i)) (sym (drop-cons numbers i 0 h))
            ∙ c.rest;
        kept = λ k below. get_or-set_other out (at + i) k number 0 (λ e. omega arith) ∙ c.kept k below;
      }

  copy_ends : length numbers ≤ i → out ≡ sets l at numbers
  copy_ends past =
      let end : i ≡ length numbers = omega (arith, c.in_range) in
      ap (sets out (at + i)) (sym (ap (λ (n : ℕ). drop n numbers) end ∙ drop-length numbers)) ∙ c.rest

-- a part, its length and its elements
later_length : (more : ℕ) (steps : List ℕ) → length (later more steps) ≡ length steps
unfolding later
later_length more steps = length-map steps (λ step. step + more)

later_at : (more : ℕ) (steps : List ℕ) (i : ℕ) → i < length steps → later more steps ! i ≡ steps ! i + more
unfolding later
later_at more [] i h = absurd (omega arith)
later_at more (step ∷ steps) zero h = refl
later_at more (step ∷ steps) (suc i) h = later_at more steps i (omega arith)

-- what a turn and the end of a copy of steps make of it, each so much later
module _ (l out : List ℕ) (from count more at i : ℕ) (c : Copying l out (later more (part l from count)) at i) (behind : from + count ≤ at) (room : at + count ≤ length l) where
  long : length (later more (part l from count)) ≡ count
  long = later_length more (part l from count) ∙ part_length l from count (omega arith)

  pub copy_turns : i < count → Copying l (set out (at + i) (out ! (from + i) + more)) (later more (part l from count)) at (i + 1)
  copy_turns h =
      let here : out ! (from + i) ≡ part l from count ! i = c.kept (from + i) (omega arith) ∙ sym (part_at l from count i h) in
      let parts = part_length l from count (omega arith) in
      copy_next l out (later more (part l from count)) at i c (out ! (from + i) + more) (omega (arith, long))
      (ap (λ (n : ℕ). n + more) here ∙ sym (later_at more (part l from count) i (omega (arith, parts))))

  pub copy_done : count ≤ i → out ≡ sets l at (later more (part l from count))
  copy_done past = copy_ends l out (later more (part l from count)) at i c (omega (arith, long))

-- a part that is copied as it is
pub part_copied : (l m : List ℕ) (from count at : ℕ) → from + count ≤ at → at + count ≤ length l → m ≡ paste l at (drop from l) (from + count - from)
    → m ≡ sets l at (part l from count)
part_copied l m from count at behind room e =
    let many : from + count - from ≡ count = omega arith in
    let long = part_length l from count (omega arith) in
    e ∙ ap (paste l at (drop from l)) many
    ∙ ap (λ (n : ℕ). take at l ++ part l from count ++ drop (at + n) l) (sym long)
    ∙ sym (sets-eq (part l from count) l at (omega (arith, long)))

-- A PART of a table after more was stored behind it, and the part that was stored

part_set : (l : List ℕ) (from count at number : ℕ) → from + count ≤ at → part (set l at number) from count ≡ part l from count
part_set l from count at number h =
    let there : at ≡ from + (at - from) = omega arith in
    ap (λ (n : ℕ). part (set l n number) from count) there ∙ ap (take count) (drop-set-add from l (at - from) number)
    ∙ take-set-le count (drop from l) (at - from) number (omega arith)

pub part_before : (l : List ℕ) (from count at : ℕ) (numbers : List ℕ) → from + count ≤ at → part (sets l at numbers) from count ≡ part l from count
part_before l from count at [] h = refl
part_before l from count at (number ∷ numbers) h =
    part_before (set l at number) from count (suc at) numbers (omega arith) ∙ part_set l from count at number h

pub part_stored : (l : List ℕ) (at : ℕ) (numbers : List ℕ) (count : ℕ) → length numbers ≡ count → at + count ≤ length l → part (sets l at numbers) at count ≡ numbers
part_stored l at numbers count e room =
    ap (λ (m : List ℕ). part m at count) (sets-eq numbers l at (omega (arith, e)) ∙ append_assoc (take at l) numbers (drop (at + length numbers) l))
    ∙ ap (take count) (drop_at (take at l) (numbers ++ drop (at + length numbers) l) at (length-take-le at l (omega arith)))
    ∙ ap (λ (n : ℕ). take n (numbers ++ drop (at + length numbers) l)) (sym e)
    ∙ take-append_seam numbers (drop (at + length numbers) l)
