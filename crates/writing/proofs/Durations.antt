-- A duration in memory, by its size: the room it wants, the place after it, and what its stores leave.
use Prim.Native.Nat.{ℕ, ◌+◌, ◌-◌, ◌/◌, ◌%◌, ◌<◌, ◌≤◌}
use mathlib.Core.List.{List, [], ◌∷◌}
use mathlib.Core.Path.{◌≡◌}
use lib.ListN.{length, set, length-set}
use lib.Seq.{sets}
use native.Mathlib.Decide.{dec_lt}
use native.Mathlib.Numerals.{towards_suc}
use native.Mathlib.Omega.{arith}
use borrow.Author.Tests.{le-ltb, lt-ltb}
use Rattle.model.specs.Words.{when◌then◌else◌}
use Rattle.model.specs.Duration.{duration_bytes}

pub one_byte : (value : ℕ) → value < 128 → duration_bytes value ≡ value ∷ []
unfolding duration_bytes when◌then◌else◌
one_byte value h = simp lt-ltb

pub two_bytes : (value : ℕ) → 128 ≤ value → duration_bytes value ≡ ((value - 128) / 128 + 128) ∷ ((value - 128) % 128) ∷ []
unfolding duration_bytes when◌then◌else◌
two_bytes value h = simp le-ltb

pub size_one : (value : ℕ) → value < 128 → 1 ≡ length (duration_bytes value)
size_one value h = rw one_byte

pub size_two : (value : ℕ) → 128 ≤ value → 2 ≡ length (duration_bytes value)
size_two value h = rw two_bytes

pub some_bytes : (value : ℕ) → 0 < length (duration_bytes value)
some_bytes value =
    elim (dec_lt value 128) [
      | yes q ↦ rw one_byte (omega arith)
      | no q ↦ let h : 128 ≤ value = omega arith in rw (two_bytes value h) (omega arith)
    ]

module _ (l : List ℕ) (at value : ℕ) where
  pub room_one : value < 128 → at + length (duration_bytes value) ≤ length l → at < length l
  room_one h k = omega (arith, rw one_byte at k)

  pub room_two : 128 ≤ value → at + length (duration_bytes value) ≤ length l → at < length l
  room_two h k = omega (arith, rw two_bytes at k)

  pub room_next : (byte : ℕ) → 128 ≤ value → at + length (duration_bytes value) ≤ length l → at + 1 < length (set l at byte)
  room_next byte h k = simp length-set (omega (arith, rw two_bytes at k))

  pub next_one : value < 128 → at + 1 ≡ at + length (duration_bytes value)
  next_one h = rw one_byte

  pub next_two : 128 ≤ value → at + 2 ≡ at + length (duration_bytes value)
  next_two h = rw two_bytes

  pub wrote_one : value < 128 → set l at value ≡ sets l at (duration_bytes value)
  wrote_one h = rw one_byte

  pub wrote_two : 128 ≤ value → set (set l at ((value - 128) / 128 + 128)) (at + 1) ((value - 128) % 128) ≡ sets l at (duration_bytes value)
  wrote_two h = rw two_bytes (simp towards_suc)

pub ruleset sizes = (size_one, size_two)

pub ruleset durations = (room_one, room_two, room_next, next_one, next_two, wrote_one, wrote_two)
