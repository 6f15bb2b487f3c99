-- Stores before others that are there already: apart they can be done in the other order, and what is stored over is gone.
use Prim.Native.Nat.{ℕ, suc, ◌+◌, ◌<◌, ◌≤◌}
use mathlib.Core.List.{List, [], ◌∷◌, ◌++◌}
use mathlib.Core.Path.{◌≡◌, refl, ◌∙◌, ap}
use lib.ListN.{length, set}
use lib.Seq.{sets, set-set, set_comm}
use native.Mathlib.Decide.{dec_lt}
use native.Mathlib.Omega.{arith}
use Rattle.model.proofs.Stores.{sets_append}

pub set_later : (first l : List ℕ) (at i a : ℕ) → at + length first ≤ i → sets (set l i a) at first ≡ set (sets l at first) i a
set_later [] l at i a h = refl
set_later (b ∷ first) l at i a h =
    ap (λ (x : List ℕ). sets x (suc at) first) (set_comm l i at a b (λ e. omega arith)) ∙ set_later first (set l at b) (suc at) i a (omega arith)

pub sets_later : (second l first : List ℕ) (at from : ℕ) → at + length first ≤ from → sets (sets l from second) at first ≡ sets (sets l at first) from second
sets_later [] l first at from h = refl
sets_later (a ∷ second) l first at from h =
    sets_later second (set l from a) first at (suc from) (omega arith) ∙ ap (λ (x : List ℕ). sets x (suc from) second) (set_later first l at from a h)

set_over : (first l : List ℕ) (at i a : ℕ) → at ≤ i → i < at + length first → sets (set l i a) at first ≡ sets l at first
set_over [] l at i a low high = absurd (omega arith)
set_over (b ∷ first) l at i a low high =
    elim (dec_lt at i) [
      | yes h ↦
          ap (λ (x : List ℕ). sets x (suc at) first) (set_comm l i at a b (λ e. omega arith)) ∙ set_over first (set l at b) (suc at) i a (omega arith) (omega arith)
      | no h ↦
          let e : i ≡ at = omega arith in
          ap (λ (x : List ℕ). sets x (suc at) first) (ap (λ (n : ℕ). set (set l n a) at b) e ∙ set-set l at a b)
    ]

-- a header over the first byte of what was stored behind it
pub header_over : (l header body : List ℕ) (at byte : ℕ) → length header ≡ 8 → sets (sets l (at + 7) (byte ∷ body)) at header ≡ sets l at (header ++ body)
header_over l header body at byte long =
    let behind : suc (at + 7) ≡ at + length header = omega arith in
    sets_later body (set l (at + 7) byte) header at (suc (at + 7)) (omega arith)
    ∙ ap (λ (x : List ℕ). sets x (suc (at + 7)) body) (set_over header l at (at + 7) byte (omega arith) (omega arith))
    ∙ ap (λ (n : ℕ). sets (sets l at header) n body) behind
    ∙ sets_append l at header body
