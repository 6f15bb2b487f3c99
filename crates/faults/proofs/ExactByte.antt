-- Ticket 1, "the exact byte: the one after the last for a cut item, else the first that cannot stand", of accepted bodies: an accepted body begins
-- with the bytes before that byte, and none begins with those and that byte. Three zeros where an item starts are the one exception: they are
-- refused at the third as a short form's 0, and with a fourth they are an end mark.
use Prim.Native.Nat.{ℕ, ◌+◌, ◌<◌, ◌≤◌}
use mathlib.Core.List.{List}
use mathlib.Core.Logic.{◌⊎◌, ⊎_elim, ⊎_map}
use mathlib.Core.Path.{◌≡◌, subst}
use lib.ListN.{length, take}
use lib.Seq.{take_all}
use native.Mathlib.Omega.{arith}
use Rattle.model.specs.Words.{refused}
use Rattle.model.specs.Item.{body_of}
use Rattle.model.specs.Beginning.{Beginning, ThreeZeros}
use Rattle.model.specs.declared.Voice.{Voice}
use Rattle.faults.proofs.Faulty.{faulty, before_begins, none_begins}

-- a body is refused with 11, 20, 21, 22 or 23
pub refused_with : (voice : Voice) (s : List ℕ) (number place : ℕ) → body_of voice s ≡ refused number place → (number ≡ 11) ⊎ ((20 ≤ number) × (number ≤ 23))
refused_with voice s number place e = ⊎_map (λ h. h.1) (λ f. (f.ahead.0, f.ahead.1)) (faulty voice s number place e)

-- 11: there is nothing in it
pub refused_as_empty : (voice : Voice) (s : List ℕ) (place : ℕ) → body_of voice s ≡ refused 11 place → (length s ≡ 0) × (place ≡ 0)
refused_as_empty voice s place e = ⊎_elim (λ h. (h.0, h.2)) (λ f. absurd (omega (arith, f.ahead))) (faulty voice s 11 place e)

-- 20: nothing is wrong but that bytes are missing after the last
pub cut_short : (voice : Voice) (s : List ℕ) (place : ℕ) → body_of voice s ≡ refused 20 place → (place ≡ length s) × Beginning voice s
cut_short voice s place e =
    ⊎_elim (λ h. absurd (omega arith))
    (λ f.
    let last : place ≡ length s = ⊎_elim (λ c. c.1) (λ w. absurd (omega arith)) f.fault.cause in
    (last, subst (Beginning voice) (take_all place s (omega arith)) (before_begins voice s 20 place f)))
    (faulty voice s 20 place e)

-- 21, 22, 23: the first byte that cannot stand
pub first_that_cannot_stand : (voice : Voice) (s : List ℕ) (number place : ℕ) → body_of voice s ≡ refused number place → 21 ≤ number
    → (place < length s) × Beginning voice (take place s)
    × (((number ≡ 23) × ThreeZeros voice s place × Beginning voice (take (place + 1) s)) ⊎ (Beginning voice (take (place + 1) s) → ⊥))
first_that_cannot_stand voice s number place e high =
    ⊎_elim (λ h. absurd (omega arith))
    (λ f.
    ⊎_elim (λ c. absurd (omega arith))
    (λ w. (
      w.within,
      before_begins voice s number place f,
      none_begins voice s number place f w,
    ))
    f.fault.cause)
    (faulty voice s number place e)
