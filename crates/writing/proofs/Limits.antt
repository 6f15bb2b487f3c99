-- Sums that are limited: what more than 65,536 comes to.
use Prim.Native.Nat.{ℕ, ◌+◌, ◌-◌, ◌^◌, ◌<◌, ◌≤◌, min}
use mathlib.Core.Path.{◌≡◌, sym, ◌∙◌}
use native.Mathlib.Omega.{arith}
use borrow.Author.Tests.{lt-ltb, ltb-true, ltb-false}
use Rattle.model.specs.Words.{when◌then◌else◌, ◌<?◌}
use Rattle.model.proofs.Tests.{by_test, if_true, if_false}
use Rattle.writing.specs.Parts.{limited}

module _ (n : ℕ) where
  pub limited_small : n ≤ 65537 → limited n ≡ n
  unfolding limited when◌then◌else◌
  limited_small h = by_test (65536 <? n) (λ k. let q = ltb-true 65536 n k in simp k (omega arith)) (λ k. simp k)

  pub limited_most : limited n ≤ 65537
  unfolding limited when◌then◌else◌
  limited_most = by_test (65536 <? n) (λ k. simp k (omega arith)) (λ k. let q = ltb-false 65536 n k in simp k (omega arith))

  pub limited_adds : (more : ℕ) → limited (limited n + more) ≡ limited (n + more)
  unfolding limited
  limited_adds more =
      by_test (65536 <? n)
      (λ k.
      let q = ltb-true 65536 n k in
      rw (if_true (65536 <? n) 65537 n k)
      (if_true (65536 <? 65537 + more) 65537 _ (lt-ltb 65536 (65537 + more) (omega arith))
      ∙ sym (if_true (65536 <? n + more) 65537 _ (lt-ltb 65536 (n + more) (omega arith)))))
      (λ k. rw (if_false (65536 <? n) 65537 n k))

-- as the code limits a size, and a sum that stops at the largest number that can be counted

pub least_limited : (n : ℕ) → min n 65537 ≡ limited n
unfolding limited when◌then◌else◌
least_limited n = by_test (65536 <? n) (λ k. let q = ltb-true 65536 n k in simp k (omega arith)) (λ k. let q = ltb-false 65536 n k in simp k (omega arith))

pub saturated_limited : (n : ℕ) → limited (min n (2 ^ 64 - 1)) ≡ limited n
saturated_limited n = sym (least_limited (min n (2 ^ 64 - 1))) ∙ (omega arith) ∙ least_limited n

-- a limited size is over where the size is
pub limited_over : (n limit : ℕ) → limit ≤ 65536 → limit < limited n → limit < n
unfolding limited when◌then◌else◌
limited_over n limit h k = by_test (65536 <? n) (λ q. let over = ltb-true 65536 n q in omega arith) (λ q. simp q at k)

pub limited_exact : (n : ℕ) → limited n ≤ 65536 → limited n ≡ n
unfolding limited when◌then◌else◌
limited_exact n h = by_test (65536 <? n) (λ q. let k = simp q at h in absurd (omega arith)) (λ q. simp q)
