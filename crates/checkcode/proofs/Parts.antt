-- The remainder of bytes that are taken part by part.
use Prim.Native.Nat.{ℕ, zero, suc, ◌+◌, ◌*◌, ◌<◌}
use mathlib.Core.List.{List, [], ◌∷◌, ◌++◌}
use mathlib.Core.Path.{◌≡◌, refl, sym, ap, ◌∙◌}
use native.Mathlib.Nat.{zero-mul, suc-mul}
use native.Mathlib.Numerals.{add-one}
use native.Mathlib.Omega.{arith}
use lib.ListN.{length, take, drop, get_or, take-append-drop}
use lib.Seq.{drop-cons, drop-drop}
use Rattle.std.proofs.lemmas.List.{append_assoc}
use Rattle.std.specs.List.{concat}
use Rattle.std.specs.Simd.{first_chunks}
use Rattle.model.specs.Bytes.{◌!◌}
use Rattle.model.specs.CheckCode.{byte_step, remainder_from}

pub one_after_the_other : (r : ℕ) (some others : List ℕ) → remainder_from (remainder_from r some) others ≡ remainder_from r (some ++ others)
unfolding remainder_from
one_after_the_other r [] others = refl
one_after_the_other r (byte ∷ some) others = one_after_the_other (byte_step r byte) some others

pub next_byte : (r : ℕ) (s : List ℕ) (at : ℕ) → at < length s → remainder_from (byte_step r (s ! at)) (drop (at + 1) s) ≡ remainder_from r (drop at s)
unfolding remainder_from
next_byte r s at h = rw (add-one, drop-cons s at 0)

pub next_part : (r : ℕ) (parts : List (List ℕ)) (at : ℕ) → at < length parts → remainder_from (remainder_from r (get_or parts at [])) (concat (drop (at + 1) parts)) ≡ remainder_from r (concat (drop at parts))
next_part r parts at h = rw (add-one, drop-cons parts at []) (one_after_the_other r (get_or parts at []) (concat (drop (suc at) parts)))

-- chunks of one size, one after the other, and what is left
pub chunks_and_rest : (n count : ℕ) (s : List ℕ) → concat (first_chunks n count s) ++ drop (count * n) s ≡ s
chunks_and_rest n zero s = ap (λ (k : ℕ). drop k s) (zero-mul n)
chunks_and_rest n (suc count) s =
    append_assoc (take n s) (concat (first_chunks n count (drop n s))) (drop (suc count * n) s)
    ∙ ap (λ (l : List ℕ). take n s ++ (concat (first_chunks n count (drop n s)) ++ l)) (ap (λ (k : ℕ). drop k s) (omega (arith, suc-mul count n)) ∙ sym (drop-drop (count * n) n s))
    ∙ ap (◌++◌ (take n s)) (chunks_and_rest n count (drop n s))
    ∙ take-append-drop n s
