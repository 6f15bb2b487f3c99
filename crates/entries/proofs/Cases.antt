-- Small choices that the functions make.
use Prim.Native.Nat.{ℕ, ◌<◌}
use mathlib.Core.Bool.{Bool, true, false}
use mathlib.Core.Path.{◌≡◌, sym}
use native.Mathlib.Omega.{arith}
use mir.Syntax.{w32}
use mir.Val.{Fits}
use borrow.Author.Tests.{le-leb}
use Rattle.model.specs.Words.{◌≤?◌}
use Rattle.model.specs.Seek.{is_letter}
use Rattle.model.specs.SeekBytes.{largest_point}
use Rattle.seek.proofs.Letters.{letter_past}

pub letter_large : (letter : ℕ) → 0xFF < letter → false ≡ is_letter letter
letter_large letter h = letter_past letter (omega arith)

module _ (phrases : Bool) (value : ℕ) where
  pub point_byte : (z : Bool) → phrases ≡ true → z ≡ (value ≤? 0xFF) → z ≡ (value ≤? largest_point phrases)
  point_byte z p e = rw p e

  pub point_number : phrases ≡ false → Fits w32 value → true ≡ (value ≤? largest_point phrases)
  point_number p small = rw p (sym (le-leb value 0xFFFFFFFF (omega arith)))

pub ruleset points_fit = (point_byte, point_number)
