-- The remainder's laws. Exclusive or is associative; a bit's step passes through it, and so do a byte's and any number of zero bytes. So
-- the remainder of a row of bytes is the exclusive or of what each byte leaves where zeros follow it.
use Prim.Native.Nat.{ℕ, zero, suc, ◌+◌, ◌*◌, ◌/◌, ◌%◌, ◌<◌, ◌≤◌}
use mathlib.Core.List.{List, ◌∷◌}
use mathlib.Core.Path.{◌≡◌, refl, sym, ap, ap₂, ◌∙◌}
use native.Mathlib.Nat.{add-zero}
use native.Mathlib.Decide.{dec_lt}
use native.Mathlib.Omega.{arith}
use lib.Arith.{bin_ind}
use lib.Bits.{bit_xor, differ, xor_step, xor_shr, xor_mod, xor_comm, xor_lt, xor_block, xor_zero_r}
use lib.ListN.{replicate}
use borrow.Author.Tests.{lt-ltb, le-ltb}
use Rattle.model.specs.Words.{when◌then◌else◌}
use Rattle.model.specs.CheckCode.{bit_step, byte_step, remainder_from}

digit : (x y z : ℕ) → x < 2 → y < 2 → z < 2 → differ (differ x y) z ≡ differ x (differ y z)
digit zero y z hx hy hz = refl
digit (suc zero) zero z hx hy hz = refl
digit (suc zero) (suc zero) zero hx hy hz = refl
digit (suc zero) (suc zero) (suc zero) hx hy hz = refl
digit (suc zero) (suc zero) (suc (suc z)) hx hy hz = absurd (omega arith)
digit (suc zero) (suc (suc y)) z hx hy hz = absurd (omega arith)
digit (suc (suc x)) y z hx hy hz = absurd (omega arith)

bit : (x y : ℕ) → x < 2 → y < 2 → bit_xor x y ≡ differ x y
bit zero y hx hy = refl
bit (suc zero) zero hx hy = refl
bit (suc zero) (suc zero) hx hy = refl
bit (suc zero) (suc (suc y)) hx hy = absurd (omega arith)
bit (suc (suc x)) y hx hy = absurd (omega arith)

odd : (a b : ℕ) → bit_xor a b % 2 ≡ differ (a % 2) (b % 2)
odd a b = xor_mod a b 1 ∙ bit (a % 2) (b % 2) (omega arith) (omega arith)

half : (a b : ℕ) → bit_xor a b / 2 ≡ bit_xor (a / 2) (b / 2)
half a b = xor_shr a b 1

pub xor_assoc : (a b c : ℕ) → bit_xor (bit_xor a b) c ≡ bit_xor a (bit_xor b c)
xor_assoc =
    bin_ind (λ (n : ℕ). (b c : ℕ) → bit_xor (bit_xor n b) c ≡ bit_xor n (bit_xor b c)) (λ b c. refl)
    (λ n ih b c.
    xor_step (bit_xor n b) c
    ∙ ap₂ (λ (x y : ℕ). bit_xor x (c / 2) * 2 + differ y (c % 2)) (half n b) (odd n b)
    ∙ ap₂ (λ (x y : ℕ). x * 2 + y) (ih (b / 2) (c / 2)) (digit (n % 2) (b % 2) (c % 2) (omega arith) (omega arith) (omega arith))
    ∙ ap₂ (λ (x y : ℕ). bit_xor (n / 2) x * 2 + differ (n % 2) y) (sym (half b c)) (sym (odd b c))
    ∙ sym (xor_step n (bit_xor b c)))

exchange : (a b c d : ℕ) → bit_xor (bit_xor a b) (bit_xor c d) ≡ bit_xor (bit_xor a c) (bit_xor b d)
exchange a b c d =
    xor_assoc a b (bit_xor c d)
    ∙ ap (bit_xor a) (sym (xor_assoc b c d) ∙ ap (λ (x : ℕ). bit_xor x d) (xor_comm b c) ∙ xor_assoc c b d)
    ∙ sym (xor_assoc a c (bit_xor b d))

double : (a b : ℕ) → bit_xor a b * 2 ≡ bit_xor (a * 2) (b * 2)
double a b =
    sym (add-zero (bit_xor a b * 2)) ∙ sym (xor_block 1 a b 0 0 (omega arith) (omega arith)) ∙ ap₂ bit_xor (add-zero (a * 2)) (add-zero (b * 2))

pub moved_up : (a b : ℕ) → bit_xor a b * 256 ≡ bit_xor (a * 256) (b * 256)
moved_up a b =
    sym (add-zero (bit_xor a b * 256)) ∙ sym (xor_block 8 a b 0 0 (omega arith) (omega arith)) ∙ ap₂ bit_xor (add-zero (a * 256)) (add-zero (b * 256))

pub low_bit_step : (r : ℕ) → r < 0x8000 → bit_step r ≡ r * 2
unfolding bit_step when◌then◌else◌
low_bit_step r h = rw (lt-ltb r 0x8000 h)

high_bit_step : (r : ℕ) → 0x8000 ≤ r → bit_step r ≡ bit_xor (r * 2) 0x11021
unfolding bit_step when◌then◌else◌
high_bit_step r h = rw (le-ltb r 0x8000 h)

-- with no choice: the highest bit says how often the divisor is subtracted
bit_step_lem : (r : ℕ) → r < 0x10000 → bit_step r ≡ bit_xor (r * 2) (r / 0x8000 * 0x11021)
bit_step_lem r h =
    elim (dec_lt r 0x8000) [
      | yes p ↦ let z : r / 0x8000 ≡ 0 = omega arith in low_bit_step r p ∙ sym (ap (λ (x : ℕ). bit_xor (r * 2) (x * 0x11021)) z ∙ xor_zero_r (r * 2))
      | no q ↦ let o : r / 0x8000 ≡ 1 = omega arith in high_bit_step r (omega arith) ∙ sym (ap (λ (x : ℕ). bit_xor (r * 2) (x * 0x11021)) o)
    ]

divisors : (x y : ℕ) → x < 2 → y < 2 → bit_xor x y * 0x11021 ≡ bit_xor (x * 0x11021) (y * 0x11021)
divisors zero y hx hy = refl
divisors (suc zero) zero hx hy = refl
divisors (suc zero) (suc zero) hx hy = refl
divisors (suc zero) (suc (suc y)) hx hy = absurd (omega arith)
divisors (suc (suc x)) y hx hy = absurd (omega arith)

bit_linear : (a b : ℕ) → a < 0x10000 → b < 0x10000 → bit_step (bit_xor a b) ≡ bit_xor (bit_step a) (bit_step b)
bit_linear a b ha hb =
    bit_step_lem (bit_xor a b) (xor_lt 16 a b ha hb)
    ∙ ap₂ bit_xor (double a b) (ap (λ (x : ℕ). x * 0x11021) (xor_shr a b 15) ∙ divisors (a / 0x8000) (b / 0x8000) (omega arith) (omega arith))
    ∙ exchange (a * 2) (b * 2) (a / 0x8000 * 0x11021) (b / 0x8000 * 0x11021)
    ∙ sym (ap₂ bit_xor (bit_step_lem a ha) (bit_step_lem b hb))

bit_small : (r : ℕ) → r < 0x10000 → bit_step r < 0x10000
bit_small r h =
    elim (dec_lt r 0x8000) [
      | yes p ↦ omega (arith, low_bit_step r p)
      | no q ↦
          let o : r * 2 / 0x10000 ≡ 1 = omega arith in
          let z : bit_xor (r * 2) 0x11021 / 0x10000 ≡ 0 = xor_shr (r * 2) 0x11021 16 ∙ ap (λ (x : ℕ). bit_xor x 1) o in
          omega (arith, high_bit_step r (omega arith))
    ]

abbrev pub steps : ℕ → ℕ → ℕ
steps zero r = r
steps (suc n) r = bit_step (steps n r)

steps_small : (n r : ℕ) → r < 0x10000 → steps n r < 0x10000
steps_small zero r h = h
steps_small (suc n) r h = bit_small (steps n r) (steps_small n r h)

pub steps_linear : (n a b : ℕ) → a < 0x10000 → b < 0x10000 → steps n (bit_xor a b) ≡ bit_xor (steps n a) (steps n b)
steps_linear zero a b ha hb = refl
steps_linear (suc n) a b ha hb =
    ap bit_step (steps_linear n a b ha hb) ∙ bit_linear (steps n a) (steps n b) (steps_small n a ha) (steps_small n b hb)

pub byte_small : (r byte : ℕ) → r < 0x10000 → byte < 256 → byte_step r byte < 0x10000
unfolding byte_step
byte_small r byte h k = steps_small 8 (bit_xor r (byte * 256)) (xor_lt 16 r (byte * 256) h (omega arith))

-- a byte's step of an exclusive or, with an exclusive or of bytes
pub byte_linear : (a b x y : ℕ) → a < 0x10000 → b < 0x10000 → x < 256 → y < 256 → byte_step (bit_xor a b) (bit_xor x y) ≡ bit_xor (byte_step a x) (byte_step b y)
unfolding byte_step
byte_linear a b x y ha hb hx hy =
    ap (steps 8) (ap (bit_xor (bit_xor a b)) (moved_up x y) ∙ exchange a b (x * 256) (y * 256))
    ∙ steps_linear 8 (bit_xor a (x * 256)) (bit_xor b (y * 256)) (xor_lt 16 a (x * 256) ha (omega arith)) (xor_lt 16 b (y * 256) hb (omega arith))

abbrev pub zeros : ℕ → List ℕ
zeros n = replicate n 0

pub zeros_linear : (n a b : ℕ) → a < 0x10000 → b < 0x10000 → remainder_from (bit_xor a b) (zeros n) ≡ bit_xor (remainder_from a (zeros n)) (remainder_from b (zeros n))
unfolding remainder_from
zeros_linear zero a b ha hb = refl
zeros_linear (suc n) a b ha hb =
    ap (λ (r : ℕ). remainder_from r (zeros n)) (byte_linear a b 0 0 ha hb (omega arith) (omega arith))
    ∙ zeros_linear n (byte_step a 0) (byte_step b 0) (byte_small a 0 ha (omega arith)) (byte_small b 0 hb (omega arith))

-- what a byte leaves that so many zero bytes follow
abbrev pub left : ℕ → ℕ → ℕ
left byte n = remainder_from 0 (byte ∷ zeros n)

pub left_linear : (n a b : ℕ) → a < 256 → b < 256 → left (bit_xor a b) n ≡ bit_xor (left a n) (left b n)
unfolding remainder_from
left_linear n a b ha hb =
    ap (λ (r : ℕ). remainder_from r (zeros n)) (byte_linear 0 0 a b (omega arith) (omega arith) ha hb)
    ∙ zeros_linear n (byte_step 0 a) (byte_step 0 b) (byte_small 0 a (omega arith) ha) (byte_small 0 b (omega arith) hb)
