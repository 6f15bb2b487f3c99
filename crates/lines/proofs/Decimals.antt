-- Decimals: one digit, or those of the tenth part and one more; and how many digits there can be.
use Prim.Native.Nat.{ℕ, zero, suc, ◌*◌, ◌/◌, ◌%◌, ◌<◌, ◌≤◌}
use mathlib.Core.List.{List, [], ◌∷◌, ◌++◌}
use mathlib.Core.Path.{◌≡◌, refl, sym, ◌∙◌, ap}
use lib.ListN.{length, length-append}
use native.Mathlib.Omega.{arith}
use borrow.Author.Tests.{lt-ltb, le-ltb, ltb-true, ltb-false}
use Rattle.model.specs.Words.{◌<?◌}
use Rattle.model.specs.ListingText.{digit, digits_within, decimal}
use Rattle.model.proofs.Tests.{if_true, if_false, by_test}

-- turns that are enough give the same digits
same_digits : (turns others n : ℕ) → n ≤ turns → n ≤ others → digits_within turns n ≡ digits_within others n
unfolding digits_within
same_digits zero zero n h k = refl
same_digits zero (suc others) n h k = sym (if_true (n <? 10) _ _ (lt-ltb n 10 (omega arith)))
same_digits (suc turns) zero n h k = if_true (n <? 10) _ _ (lt-ltb n 10 (omega arith))
same_digits (suc turns) (suc others) n h k =
    by_test (n <? 10)
    (λ t. if_true (n <? 10) _ _ t ∙ sym (if_true (n <? 10) _ _ t))
    (λ t.
    let far = ltb-false n 10 t in
    if_false (n <? 10) _ _ t
    ∙ ap (λ (digits : List ℕ). digits ++ (digit (n % 10) ∷ [])) (same_digits turns others (n / 10) (omega arith) (omega arith))
    ∙ sym (if_false (n <? 10) _ _ t))

pub one_digit : (n : ℕ) → n < 10 → decimal n ≡ digit n ∷ []
unfolding decimal digits_within
one_digit n h = same_digits n (suc n) n (omega arith) (omega arith) ∙ if_true (n <? 10) _ _ (lt-ltb n 10 h)

pub more_digits : (n : ℕ) → 10 ≤ n → decimal n ≡ decimal (n / 10) ++ (digit (n % 10) ∷ [])
unfolding decimal digits_within
more_digits n h =
    same_digits n (suc n) n (omega arith) (omega arith)
    ∙ if_false (n <? 10) _ _ (le-ltb n 10 h)
    ∙ ap (λ (digits : List ℕ). digits ++ (digit (n % 10) ∷ [])) (same_digits n (n / 10) (n / 10) (omega arith) (omega arith))

-- how many digits there can be
abbrev tens : ℕ → ℕ
tens zero = 1
tens (suc k) = 10 * tens k

few_digits : (k n : ℕ) → n < tens (suc k) → length (decimal n) ≤ suc k
few_digits zero n h = omega (arith, ap length (one_digit n (omega arith)))
few_digits (suc k) n h =
    by_test (n <? 10)
    (λ t. omega (arith, ap length (one_digit n (ltb-true n 10 t))))
    (λ t.
    let far = ltb-false n 10 t in
    let rest = few_digits k (n / 10) (omega arith) in
    omega (arith, ap length (more_digits n far), length-append (decimal (n / 10)) (digit (n % 10) ∷ [])))

pub twenty_digits : (n : ℕ) → n < 18446744073709551616 → length (decimal n) ≤ 20
twenty_digits n h = few_digits 19 n (omega arith)
