-- The difference of two bytes, as signed numbers of 32 bits compute it.
use Prim.Native.Nat.{ℕ, zero, suc, ◌-◌, ◌^◌, ◌<◌}
use mathlib.Core.Bool.{Bool, true, false, cond}
use mathlib.Core.Path.{◌≡◌, ◌∙◌}
use native.Mathlib.Omega.{arith}
use lib.Dec.{ltb}
use lib.IntN.{ℤ, pos, negsuc, ◌-ℤ◌}
use lib.Signed.{mag}
use mir.Facts.{to_z_pos, to_z-of_z}
use mir.Syntax.{w8, w32}
use mir.Val.{Fits, SFits, to_z, of_z}

fits : (a b : ℕ) → a < 256 → b < 256 → SFits w32 (pos a -ℤ pos b)
fits a zero h k = record { sfits = omega arith }
fits a (suc b) h k = record { sfits = go (ltb a (suc b)) }
  where
    go : (t : Bool) → mag (cond t (negsuc (suc b - suc a)) (pos (a - suc b))) < 2 ^ 31
    go true = omega arith
    go false = omega arith

as_is : (a : ℕ) → Fits w8 a → to_z w32 a ≡ pos a
as_is a h = to_z_pos w32 (omega arith)

pub minus_fits : (a b : ℕ) → Fits w8 a → Fits w8 b → SFits w32 (to_z w32 a -ℤ to_z w32 b)
minus_fits a b h k = rw (as_is a h, as_is b k) (fits a b (omega arith) (omega arith))

pub minus_is : (a b : ℕ) → Fits w8 a → Fits w8 b → to_z w32 (of_z w32 (to_z w32 a -ℤ to_z w32 b)) ≡ pos a -ℤ pos b
minus_is a b h k = to_z-of_z (minus_fits a b h k) ∙ rw (as_is a h, as_is b k)

-- a signed number that is kept in a field comes back as it is
pub kept : (z y : ℤ) → SFits w32 z → z ≡ y → to_z w32 (of_z w32 z) ≡ y
kept z y f e = to_z-of_z f ∙ e
