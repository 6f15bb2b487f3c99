-- A table of remainders, grown from that of no bits by doubling: a further bit is an exclusive or with what that bit alone leaves. The
-- eight tables are so computed once more, one after the other, and equal what they are compared with.
use Prim.Native.Nat.{ℕ, zero, suc, ◌+◌, ◌-◌, ◌*◌, ◌^◌, ◌<◌, ◌≤◌}
use mathlib.Core.List.{List, [], ◌∷◌, ◌++◌, map}
use mathlib.Core.Path.{◌≡◌, refl, sym, ap, ◌∙◌}
use native.Mathlib.Nat.{one-mul, pow-suc, zero-add, add-zero, add-suc, suc-add}
use native.Mathlib.Decide.{dec_lt}
use native.Mathlib.Omega.{arith}
use lib.Bits.{bit_xor, xor_shifted}
use lib.ListN.{length, length-append, length-map, get_or, get_or-append}
use lib.Seq.{get_or-append-add}
use Rattle.model.specs.Words.{when◌then◌else◌}
use Rattle.model.specs.Bytes.{◌!◌}
use Rattle.model.specs.CheckCode.{bit_step, byte_step, remainder_from}
use Rattle.checkcode.proofs.Linear.{zeros, left, left_linear}

-- what each number of so many bits leaves that so many zero bytes follow
unfoldable pub grown : ℕ → ℕ → List ℕ
grown follow zero = 0 ∷ []
grown follow (suc bits) = let half = grown follow bits in half ++ map (bit_xor (left (2 ^ bits) follow)) half

-- so many tables, the first with so many zero bytes that follow
unfoldable pub tables_from : ℕ → ℕ → List (List ℕ)
tables_from follow zero = []
tables_from follow (suc more) = grown follow 8 ∷ tables_from (suc follow) more

nothing_left : (n : ℕ) → remainder_from 0 (zeros n) ≡ 0
unfolding remainder_from byte_step bit_step when◌then◌else◌
nothing_left zero = refl
nothing_left (suc n) = nothing_left n

mapped_at : (f : ℕ → ℕ) (l : List ℕ) (k : ℕ) → k < length l → map f l ! k ≡ f (l ! k)
mapped_at f [] k h = absurd (omega arith)
mapped_at f (x ∷ l) zero h = refl
mapped_at f (x ∷ l) (suc k) h = mapped_at f l k (omega arith)

grown_length : (follow bits : ℕ) → length (grown follow bits) ≡ 2 ^ bits
unfolding grown
grown_length follow zero = refl
grown_length follow (suc bits) =
    length-append (grown follow bits) _ ∙ omega (arith, length-map (grown follow bits) (bit_xor (left (2 ^ bits) follow)), grown_length follow bits, pow-suc 2 bits)

grown_at : (follow bits byte : ℕ) → 2 ^ bits ≤ 256 → byte < 2 ^ bits → grown follow bits ! byte ≡ left byte follow
unfolding grown remainder_from byte_step bit_step when◌then◌else◌
grown_at follow zero zero h k = sym (nothing_left follow)
grown_at follow zero (suc byte) h k = absurd (omega arith)
grown_at follow (suc bits) byte h k =
    elim (dec_lt byte (2 ^ bits)) [
      | yes p ↦ get_or-append half _ 0 byte (omega (arith, size)) ∙ grown_at follow bits byte (omega (arith, twice)) p
      | no q ↦
          let d : ℕ = byte - 2 ^ bits in
          let e : byte ≡ 2 ^ bits + d = omega arith in
          ap (◌!◌ (grown follow (suc bits))) (e ∙ ap (λ (n : ℕ). n + d) (sym size))
          ∙ get_or-append-add half _ d 0
          ∙ mapped_at (bit_xor (left (2 ^ bits) follow)) half d (omega (arith, size, twice))
          ∙ ap (bit_xor (left (2 ^ bits) follow)) (grown_at follow bits d (omega (arith, twice)) (omega (arith, twice)))
          ∙ sym (left_linear follow (2 ^ bits) d (omega (arith, twice)) (omega (arith, twice)))
          ∙ ap (λ (n : ℕ). left n follow) (joined d (omega (arith, twice)) ∙ sym e)
    ]
  where
    half : List ℕ
    half = grown follow bits

    size : length half ≡ 2 ^ bits
    size = grown_length follow bits

    twice : 2 ^ suc bits ≡ 2 ^ bits * 2
    twice = pow-suc 2 bits

    joined : (d : ℕ) → d < 2 ^ bits → bit_xor (2 ^ bits) d ≡ 2 ^ bits + d
    joined d l = ap (λ (n : ℕ). bit_xor n d) (sym (one-mul (2 ^ bits))) ∙ xor_shifted 1 bits d l ∙ ap (λ (n : ℕ). n + d) (one-mul (2 ^ bits))

tables_at : (follow more table byte : ℕ) → table < more → byte < 256 → get_or (tables_from follow more) table [] ! byte ≡ left byte (follow + table)
unfolding tables_from
tables_at follow zero table byte t b = absurd (omega arith)
tables_at follow (suc more) zero byte t b = grown_at follow 8 byte (omega arith) b ∙ ap (left byte) (sym (add-zero follow))
tables_at follow (suc more) (suc table) byte t b =
    tables_at (suc follow) more table byte (omega arith) b ∙ ap (left byte) (suc-add follow table ∙ sym (add-suc follow table))

pub entry : (tables : List (List ℕ)) (table byte : ℕ) → tables ≡ tables_from 0 8 → table < 8 → byte < 256 → get_or tables table [] ! byte ≡ left byte table
entry tables table byte e t b =
    ap (λ (l : List (List ℕ)). get_or l table [] ! byte) e ∙ tables_at 0 8 table byte t b ∙ ap (left byte) (zero-add table)
