-- What the code computes by the tables: a byte's step, and eight of them.
use Prim.Native.Nat.{ℕ, zero, suc, ◌+◌, ◌*◌, ◌/◌, ◌%◌, ◌<◌}
use mathlib.Core.List.{List, [], ◌∷◌}
use mathlib.Core.Path.{◌≡◌, refl, sym, ap, ap₂, ◌∙◌}
use native.Mathlib.Nat.{add-zero, div-add-mod'}
use native.Mathlib.Omega.{arith}
use lib.Bits.{bit_xor, xor_lt, xor_block, xor_shifted, xor_zero_r}
use lib.ListN.{length, drop, drop_of_length-le, length-replicate}
use lib.Seq.{drop-cons}
use Rattle.model.specs.Bytes.{◌!◌}
use Rattle.model.specs.CheckCode.{bit_step, byte_step, remainder_from}
use Rattle.checkcode.proofs.Linear.{xor_assoc, moved_up, low_bit_step, steps, steps_linear, byte_linear, byte_small, zeros, zeros_linear, left}

-- A BYTE

abbrev doubled : ℕ → ℕ → ℕ
doubled zero low = low
doubled (suc n) low = doubled n low * 2

low_steps : (n low : ℕ) → doubled n low < 0x10000 → steps n low ≡ doubled n low
low_steps zero low h = refl
low_steps (suc n) low h = ap bit_step (low_steps n low (omega arith)) ∙ low_bit_step (doubled n low) (omega arith)

pub step_by_table : (r byte : ℕ) → r < 0x10000 → byte < 256 → bit_xor (left (bit_xor (r / 256) byte) 0) (r % 256 * 256) ≡ byte_step r byte
unfolding byte_step remainder_from
step_by_table r byte h k =
    ap (bit_xor (steps 8 high)) (moved ∙ sym (low_steps 8 (r % 256) (omega arith)))
    ∙ sym (steps_linear 8 high (r % 256) (omega (arith, xor_lt 8 (r / 256) byte (omega arith) k)) (omega arith))
    ∙ ap (steps 8) parts
  where
    high : ℕ
    high = bit_xor (r / 256) byte * 256

    moved : r % 256 * 256 ≡ doubled 8 (r % 256)
    moved = omega arith

    parts : bit_xor high (r % 256) ≡ bit_xor r (byte * 256)
    parts =
        xor_shifted (bit_xor (r / 256) byte) 8 (r % 256) (omega arith)
        ∙ ap (λ (x : ℕ). bit_xor (r / 256) byte * 256 + x) (sym (xor_zero_r (r % 256)))
        ∙ sym (xor_block 8 (r / 256) byte (r % 256) 0 (omega arith) (omega arith))
        ∙ ap₂ bit_xor (div-add-mod' r 256) (add-zero (byte * 256))

-- EIGHT BYTES

abbrev Bytes : List ℕ → Type 0
Bytes [] = Unit {0}
Bytes (byte ∷ bytes) = (byte < 256) × Bytes bytes

-- what stands before some bytes is apart from what they leave
apart : (r : ℕ) (bytes : List ℕ) → r < 0x10000 → Bytes bytes → remainder_from r bytes ≡ bit_xor (remainder_from r (zeros (length bytes))) (remainder_from 0 bytes)
unfolding remainder_from
apart r [] h k = sym (xor_zero_r r)
apart r (byte ∷ bytes) h k =
    ap (λ (x : ℕ). remainder_from x bytes) two
    ∙ apart (bit_xor rest own) bytes (xor_lt 16 rest own rest_small own_small) k.1
    ∙ ap (λ (x : ℕ). bit_xor x (remainder_from 0 bytes)) (zeros_linear (length bytes) rest own rest_small own_small)
    ∙ xor_assoc (remainder_from rest (zeros (length bytes))) (remainder_from own (zeros (length bytes))) (remainder_from 0 bytes)
    ∙ ap (bit_xor (remainder_from rest (zeros (length bytes)))) (sym (apart own bytes own_small k.1))
  where
    rest : ℕ
    rest = byte_step r 0

    own : ℕ
    own = byte_step 0 byte

    rest_small : rest < 0x10000
    rest_small = byte_small r 0 h (omega arith)

    own_small : own < 0x10000
    own_small = byte_small 0 byte (omega arith) k.0

    two : byte_step r byte ≡ bit_xor rest own
    two = ap (λ (x : ℕ). byte_step x byte) (sym (xor_zero_r r)) ∙ byte_linear r 0 0 byte h (omega arith) (omega arith) k.0

zeros_are_bytes : (n : ℕ) → Bytes (zeros n)
zeros_are_bytes zero = tt
zeros_are_bytes (suc n) = (omega arith, zeros_are_bytes n)

first_apart : (byte : ℕ) (bytes : List ℕ) (n : ℕ) → byte < 256 → Bytes bytes → length bytes ≡ n → remainder_from 0 (byte ∷ bytes) ≡ bit_xor (left byte n) (remainder_from 0 bytes)
unfolding remainder_from
first_apart byte bytes n h k e =
    apart (byte_step 0 byte) bytes (byte_small 0 byte (omega arith) h) k ∙ ap (λ (m : ℕ). bit_xor (left byte m) (remainder_from 0 bytes)) e

pub four_by_tables :
    {w x y z : ℕ} (a b c d n : ℕ)
    → a < 256
    → b < 256
    → c < 256
    → d < 256
    → w ≡ left a (n + 3)
    → x ≡ left b (n + 2)
    → y ≡ left c (n + 1)
    → z ≡ left d n
    → bit_xor (bit_xor (bit_xor w x) y) z ≡ remainder_from 0 (a ∷ b ∷ c ∷ d ∷ zeros n)
four_by_tables {w} {x} {y} {z} a b c d n ha hb hc hd hw hx hy hz =
    xor_assoc (bit_xor w x) y z
    ∙ xor_assoc w x (bit_xor y z)
    ∙ ap₂ bit_xor hw (ap₂ bit_xor hx (ap₂ bit_xor hy hz))
    ∙ sym
    (first_apart a (b ∷ c ∷ d ∷ zeros n) (n + 3) ha (hb, (hc, (hd, small))) (omega (arith, size))
    ∙ ap (bit_xor (left a (n + 3)))
    (first_apart b (c ∷ d ∷ zeros n) (n + 2) hb (hc, (hd, small)) (omega (arith, size))
    ∙ ap (bit_xor (left b (n + 2))) (first_apart c (d ∷ zeros n) (n + 1) hc (hd, small) (omega (arith, size)))))
  where
    small : Bytes (zeros n)
    small = zeros_are_bytes n

    size : length (zeros n) ≡ n
    size = length-replicate {A = ℕ} n 0

-- a remainder's high byte is taken into the byte that follows
high_taken_in : (r high byte : ℕ) → byte_step (bit_xor r (high * 256)) byte ≡ byte_step r (bit_xor high byte)
unfolding byte_step
high_taken_in r high byte = ap (steps 8) (xor_assoc r (high * 256) (byte * 256) ∙ ap (bit_xor r) (sym (moved_up high byte)))

-- and so are both of its bytes into the two that follow
taken_in : (r first second : ℕ) (bytes : List ℕ) → r < 0x10000 → first < 256 → remainder_from 0 (bit_xor (r / 256) first ∷ bit_xor (r % 256) second ∷ bytes) ≡ remainder_from r (first ∷ second ∷ bytes)
unfolding remainder_from
taken_in r first second bytes h k =
    ap (λ (x : ℕ). remainder_from x bytes)
    (sym (high_taken_in (byte_step 0 (bit_xor (r / 256) first)) (r % 256) second) ∙ ap (λ (x : ℕ). byte_step x second) (step_by_table r first h k))

-- the last so many bytes, one by one
abbrev listed : List ℕ → ℕ → ℕ → List ℕ
listed s i zero = []
listed s i (suc n) = s ! i ∷ listed s (suc i) n

lists : (s : List ℕ) (i n : ℕ) → length s ≡ i + n → drop i s ≡ listed s i n
lists s i zero h = drop_of_length-le s {i = i} (omega arith)
lists s i (suc n) h = drop-cons s i 0 (omega arith) ∙ ap (λ (rest : List ℕ). s ! i ∷ rest) (lists s (suc i) n (omega arith))

four_small : (a b c d : ℕ) → a < 256 → b < 256 → c < 256 → d < 256 → remainder_from 0 (a ∷ b ∷ c ∷ d ∷ []) < 0x10000
unfolding remainder_from
four_small a b c d ha hb hc hd = byte_small _ d (byte_small _ c (byte_small _ b (byte_small 0 a (omega arith) ha) hb) hc) hd

pub eight_by_tables :
    {x y : ℕ} (s : List ℕ) (r : ℕ)
    → length s ≡ 8
    → ((k : ℕ) → s ! k < 256)
    → r < 0x10000
    → x ≡ remainder_from 0 (bit_xor (r / 256) (s ! 0) ∷ bit_xor (r % 256) (s ! 1) ∷ s ! 2 ∷ s ! 3 ∷ zeros 4)
    → y ≡ remainder_from 0 (s ! 4 ∷ s ! 5 ∷ s ! 6 ∷ s ! 7 ∷ [])
    → bit_xor x y ≡ remainder_from r s
unfolding remainder_from
eight_by_tables s r size small h hx hy =
    ap₂ bit_xor hx hy
    ∙ sym (apart (remainder_from 0 (first ∷ second ∷ s ! 2 ∷ s ! 3 ∷ [])) (listed s 4 4) four (small 4, (small 5, (small 6, (small 7, tt)))))
    ∙ taken_in r (s ! 0) (s ! 1) (listed s 2 6) h (small 0)
    ∙ ap (remainder_from r) (sym (lists s 0 8 size))
  where
    first : ℕ
    first = bit_xor (r / 256) (s ! 0)

    second : ℕ
    second = bit_xor (r % 256) (s ! 1)

    four : remainder_from 0 (first ∷ second ∷ s ! 2 ∷ s ! 3 ∷ []) < 0x10000
    four =
        four_small first second (s ! 2) (s ! 3) (xor_lt 8 (r / 256) (s ! 0) (omega arith) (small 0))
        (xor_lt 8 (r % 256) (s ! 1) (omega arith) (small 1)) (small 2) (small 3)
