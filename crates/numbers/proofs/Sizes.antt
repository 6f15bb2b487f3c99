-- Numbers of a few bytes: how large they are, and the first three bytes of four.
use Prim.Native.Nat.{ℕ, zero, suc, ◌+◌, ◌*◌, ◌/◌, ◌<◌}
use mathlib.Core.Bool.{Bool}
use mathlib.Core.Path.{◌≡◌}
use mathlib.Core.List.{List}
use native.Mathlib.Omega.{arith}
use mir.Syntax.{w8}
use mir.Val.{Fits}
use Rattle.model.specs.Words.{◌≡?◌}
use Rattle.model.specs.Bytes.{◌!◌, number}

-- one of up to three bytes leaves room for another
pub small : (s : List ℕ) (at i : ℕ) → ((k : ℕ) → Fits w8 (s ! k)) → i < 4 → number i s at < 16777216
small s at zero fit h = omega arith
small s at (suc zero) fit h = omega (arith, fit (at + 0))
small s at (suc (suc zero)) fit h = omega (arith, fit (at + 0), fit (at + 1))
small s at (suc (suc (suc zero))) fit h = omega (arith, fit (at + 0), fit (at + 1), fit (at + 2))
small s at (suc (suc (suc (suc i)))) fit h = absurd (omega (arith, h))

-- the name of three bytes that an ID begins with
pub family : (s : List ℕ) (at name : ℕ) (z : Bool) → ((k : ℕ) → Fits w8 (s ! k)) → z ≡ (number 3 s at ≡? name) → z ≡ (number 4 s at / 256 ≡? name)
family s at name z fit h = let p : number 4 s at / 256 ≡ number 3 s at = omega (arith, fit (at + 3)) in rw p h
