-- Paper, "The plain form": "While a gap exceeds 16,511, a duration of 16,511 with a NOP is written and subtracted." The definition counts
-- by division; here is the sentence itself, of any longest duration over 0. What is left is a duration, and it is 0 only where there is no gap.
use Prim.Native.Nat.{ℕ, suc, ◌+◌, ◌-◌, ◌*◌, ◌/◌, ◌<◌, ◌≤◌}
use mathlib.Core.List.{[], ◌∷◌}
use mathlib.Core.Path.{◌≡◌, ◌∙◌, ap}
use lib.ListN.{replicate}
use native.Mathlib.Nat.{div-add-mod', mod-lt, div-eq_of_lt, div-eq-sub-div}
use native.Mathlib.Omega.{arith}
use Rattle.model.specs.Item.{Item.timed}
use Rattle.model.specs.Plain.{Format, times, left, waits}

module _ (longest gap : ℕ) (some : 0 < longest) where
  pub gap_is : times longest gap * longest + left longest gap ≡ gap
  unfolding times left
  gap_is = omega (arith, div-add-mod' (gap - 1) longest)

  pub left_short : left longest gap ≤ longest
  unfolding times left
  left_short = omega (arith, div-add-mod' (gap - 1) longest, mod-lt (gap - 1) some)

  times_none : gap ≤ longest → times longest gap ≡ 0
  unfolding times
  times_none short = div-eq_of_lt (omega arith)

  times_more : longest < gap → times longest gap ≡ suc (times longest (gap - longest))
  unfolding times
  times_more long =
      let less : gap - 1 - longest ≡ gap - longest - 1 = omega arith in
      let enough : longest ≤ gap - 1 = omega arith in
      div-eq-sub-div some enough ∙ ap (λ (n : ℕ). n / longest + 1) less ∙ omega arith

module _ {E : Type 0} (format : Format E) (gap : ℕ) (some : 0 < format.longest) where
  pub waits_none : gap ≤ format.longest → (waits format gap ≡ []) × (left format.longest gap ≡ gap)
  unfolding waits left
  waits_none short =
      let none = times_none format.longest gap some short in
      (ap (λ (n : ℕ). replicate n (timed format.longest format.nop)) none, omega (arith, ap (λ (n : ℕ). n * format.longest) none))

  pub waits_more : format.longest < gap
      → (waits format gap ≡ timed format.longest format.nop ∷ waits format (gap - format.longest))
      × (left format.longest gap ≡ left format.longest (gap - format.longest))
  unfolding waits
  waits_more long =
      let more = times_more format.longest gap some long in
      let all = gap_is format.longest gap some in
      let rest = gap_is format.longest (gap - format.longest) some in
      (ap (λ (n : ℕ). replicate n (timed format.longest format.nop)) more, omega (arith, ap (λ (n : ℕ). n * format.longest) more))
