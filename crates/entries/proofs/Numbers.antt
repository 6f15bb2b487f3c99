-- Numbers stored byte by byte, the last byte first, and a point by its width.
use Prim.Native.Nat.{ℕ, suc, ◌+◌, ◌-◌, ◌/◌, ◌%◌, ◌<◌, ◌≤◌}
use mathlib.Core.List.{List, [], ◌∷◌, ◌++◌}
use mathlib.Core.Bool.{Bool, true, false}
use mathlib.Core.Path.{◌≡◌, refl, sym, ◌∙◌, ap}
use lib.ListN.{length, set}
use lib.Seq.{sets}
use native.Mathlib.Omega.{arith}
use Rattle.model.specs.Track.{point_width}
use Rattle.model.specs.ChunkBytes.{number_bytes}
use Rattle.model.proofs.Stores.{sets_append}
use Rattle.entries.proofs.NumberBytes.{number_bytes_length}
use Rattle.entries.proofs.Overlaps.{set_later}

-- a byte of a number is stored, and those before it make the whole
module _ (l : List ℕ) (at i n : ℕ) (whole : List ℕ) (same : sets l at (number_bytes i n) ≡ whole) where
  pub number_turns : 0 < i → sets (set l (at + (i - 1)) (n % 256)) at (number_bytes (i - 1) (n / 256)) ≡ whole
  unfolding number_bytes
  number_turns h =
      let high = number_bytes (i - 1) (n / 256) in
      let long : at + (i - 1) ≡ at + length high = ap (λ (k : ℕ). at + k) (sym (number_bytes_length (i - 1) (n / 256))) in
      let one : suc (i - 1) ≡ i = omega arith in
      set_later high l at (at + (i - 1)) (n % 256) (omega arith)
      ∙ ap (λ (k : ℕ). set (sets l at high) k (n % 256)) long
      ∙ sets_append l at high (n % 256 ∷ [])
      ∙ ap (λ (k : ℕ). sets l at (number_bytes k n)) one
      ∙ same

  pub number_left : i ≤ 0 → l ≡ whole
  unfolding number_bytes
  number_left h = let none_left : i ≡ 0 = omega arith in sym (ap (λ (k : ℕ). sets l at (number_bytes k n)) none_left) ∙ same

-- two numbers
module _ (at middle : ℕ) (between : middle ≡ at + 4) where
  pub pair_next : (r : ℕ) → r ≡ middle + 4 → r ≡ at + 8
  pair_next r e = omega arith

  pub pair_wrote : (first second : ℕ) (l k m : List ℕ) → k ≡ sets l at (number_bytes 4 first) → m ≡ sets k middle (number_bytes 4 second)
      → m ≡ sets l at (number_bytes 4 first ++ number_bytes 4 second)
  unfolding number_bytes
  pair_wrote first second l k m e h =
      h ∙ ap (λ (x : List ℕ). sets x middle (number_bytes 4 second)) e
      ∙ ap (λ (n : ℕ). sets (sets l at (number_bytes 4 first)) n (number_bytes 4 second)) between
      ∙ sets_append l at (number_bytes 4 first) (number_bytes 4 second)

pub ruleset pairs = (pair_next, pair_wrote)

-- a point
module _ (phrases : Bool) (at : ℕ) where
  module _ (width : ℕ) (is : point_width phrases ≡ width) where
    pub point_room : (l : List ℕ) → at + point_width phrases ≤ length l → at + width ≤ length l
    point_room l h = rw is at h

    pub point_next : (z : ℕ) → z ≡ at + width → z ≡ at + point_width phrases
    point_next z e = rw is e

    pub point_wrote : (l m : List ℕ) (value : ℕ) → m ≡ sets l at (number_bytes width value) → m ≡ sets l at (number_bytes (point_width phrases) value)
    point_wrote l m value e = rw is e

-- with phrases a byte, in a stream four
pub byte_wide : (phrases : Bool) → phrases ≡ true → point_width phrases ≡ 1
byte_wide phrases p = rw p refl

pub address_wide : (phrases : Bool) → phrases ≡ false → point_width phrases ≡ 4
address_wide phrases p = rw p refl

pub ruleset point_bytes = (point_room, point_next, point_wrote, byte_wide, address_wide)
