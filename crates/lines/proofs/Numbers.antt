-- Numbers and texts in lent memory: what is written digit by digit, with a sign in front and a byte behind it.
use Prim.Native.Nat.{ℕ, suc, ◌+◌, ◌-◌, ◌/◌, ◌%◌, ◌<◌, ◌≤◌}
use mathlib.Core.List.{List, [], ◌∷◌, ◌++◌}
use mathlib.Core.Path.{◌≡◌, sym, ◌∙◌, ap}
use mir.Val.{Fits}
use mir.Syntax.{w64}
use lib.ListN.{length, set, length-append, length-set}
use lib.Seq.{sets}
use lib.IntN.{pos, ◌-ℤ◌}
use native.Mathlib.Omega.{arith}
use Rattle.model.specs.ListingText.{decimal, signed}
use Rattle.model.proofs.Stores.{sets_append}
use Rattle.pitch.proofs.Counts.{difference_up, difference_down}
use Rattle.writing.proofs.Stores.{kept_set}
use Rattle.lines.specs.Fields.{closed}
use Rattle.lines.proofs.Decimals.{one_digit, more_digits, twenty_digits}

-- A DECIMAL, digit by digit
module _ (l : List ℕ) (at n : ℕ) (room : at + length (decimal n) ≤ length l) where
  module _ (low : n < 10) where
    pub digit_room : at < length l
    digit_room = omega (arith, ap length (one_digit n low))

    pub digit_next : at + 1 ≡ at + length (decimal n)
    digit_next = omega (arith, ap length (one_digit n low))

    pub digit_written : set l at (0x30 + n) ≡ sets l at (decimal n)
    digit_written = sym (ap (sets l at) (one_digit n low))

  module _ (far : 10 ≤ n) where
    one_more : length (decimal n) ≡ length (decimal (n / 10)) + 1
    one_more = ap length (more_digits n far) ∙ length-append (decimal (n / 10)) ((0x30 + n % 10) ∷ [])

    pub tenth_room : at + length (decimal (n / 10)) ≤ length l
    tenth_room = omega (arith, one_more)

    pub tenth_less : (t : ℕ) → n ≡ t → n / 10 < t
    tenth_less t e = omega arith

    module _ (last : ℕ) (is : last ≡ at + length (decimal (n / 10))) where
      pub last_room : (m : List ℕ) → length m ≡ length l → last < length m
      last_room m same = omega (arith, one_more)

      pub last_next : last + 1 ≡ at + length (decimal n)
      last_next = omega (arith, one_more)

      pub digits_written : (m : List ℕ) → m ≡ sets l at (decimal (n / 10)) → set m last (0x30 + n % 10) ≡ sets l at (decimal n)
      digits_written m e =
          ap (λ (x : List ℕ). set x last (0x30 + n % 10)) e
          ∙ ap (λ (x : ℕ). set (sets l at (decimal (n / 10))) x (0x30 + n % 10)) is
          ∙ sets_append l at (decimal (n / 10)) ((0x30 + n % 10) ∷ [])
          ∙ sym (ap (sets l at) (more_digits n far))

pub ruleset digits = (digit_room, digit_next, digit_written, tenth_room, tenth_less, last_room, last_next, digits_written)

-- A FIELD and the byte that closes it
module _ (field : List ℕ) (at close end : ℕ) (is : end ≡ at + length field) where
  pub closed_next : end + 1 ≡ at + length (closed field close)
  unfolding closed
  closed_next = omega (arith, length-append field (close ∷ []))

  pub closed_written : (l m : List ℕ) → m ≡ sets l at field → set m end close ≡ sets l at (closed field close)
  unfolding closed
  closed_written l m e =
      ap (λ (x : List ℕ). set x end close) e
      ∙ ap (λ (x : ℕ). set (sets l at field) x close) is
      ∙ sets_append l at field (close ∷ [])

module _ (n at most : ℕ) (fits : Fits w64 n) (room : at + 21 ≤ most) where
  pub number_room : at + length (decimal n) ≤ most
  number_room = omega (arith, twenty_digits n (omega arith))

  pub number_ends : (end : ℕ) → end ≡ at + length (decimal n) → end + 1 ≤ at + 21
  number_ends end is = omega (arith, twenty_digits n (omega arith))

  pub number_closes : (end kept : ℕ) → end ≡ at + length (decimal n) → kept ≡ most → end < kept
  number_closes end kept is same = omega (arith, twenty_digits n (omega arith))

pub ruleset closes = (closed_next, closed_written, number_room, number_ends, number_closes)

-- A DIFFERENCE, with its sign
module _ (up down : ℕ) where
  minus_signed : up < down → signed (pos up -ℤ pos down) ≡ 0x2D ∷ decimal (down - up)
  unfolding signed
  minus_signed h =
      let one : suc (down - suc up) ≡ down - up = omega arith in
      ap signed (difference_down up down h) ∙ ap (λ (n : ℕ). 0x2D ∷ decimal n) one

  plus_signed : down ≤ up → signed (pos up -ℤ pos down) ≡ decimal (up - down)
  unfolding signed
  plus_signed h = ap signed (difference_up up down h)

  module _ (at close r : ℕ) where
    pub below_next : up < down → r ≡ at + 1 + length (closed (decimal (down - up)) close) → r ≡ at + length (closed (signed (pos up -ℤ pos down)) close)
    unfolding closed
    below_next h e = e ∙ omega (arith, ap (λ (field : List ℕ). length (field ++ (close ∷ []))) (minus_signed h))

    pub above_next : down ≤ up → r ≡ at + length (closed (decimal (up - down)) close) → r ≡ at + length (closed (signed (pos up -ℤ pos down)) close)
    above_next h e = e ∙ ap (λ (field : List ℕ). at + length (closed field close)) (sym (plus_signed h))

    module _ (l m : List ℕ) where
      pub below_written : up < down → m ≡ sets (set l at 0x2D) (at + 1) (closed (decimal (down - up)) close)
          → m ≡ sets l at (closed (signed (pos up -ℤ pos down)) close)
      unfolding closed
      below_written h e =
          let next : at + 1 ≡ suc at = omega arith in
          e
          ∙ ap (λ (n : ℕ). sets (set l at 0x2D) n (closed (decimal (down - up)) close)) next
          ∙ ap (λ (field : List ℕ). sets l at (closed field close)) (sym (minus_signed h))

      pub above_written : down ≤ up → m ≡ sets l at (closed (decimal (up - down)) close) → m ≡ sets l at (closed (signed (pos up -ℤ pos down)) close)
      above_written h e = e ∙ ap (λ (field : List ℕ). sets l at (closed field close)) (sym (plus_signed h))

-- room behind a sign
pub sign_room : (l : List ℕ) (at byte : ℕ) → at + 22 ≤ length l → at + 1 + 21 ≤ length (set l at byte)
sign_room l at byte h = omega (arith, length-set l at byte)

pub ruleset signs = (below_next, above_next, below_written, above_written, sign_room, kept_set)

-- TWO PARTS, one after the other
module _ (one two : List ℕ) (at middle : ℕ) (is : middle ≡ at + length one) where
  pub joined_next : (r : ℕ) → r ≡ middle + length two → r ≡ at + length (one ++ two)
  joined_next r e = omega (arith, length-append one two)

  pub joined_written : (l m last : List ℕ) → m ≡ sets l at one → last ≡ sets m middle two → last ≡ sets l at (one ++ two)
  joined_written l m last p q =
      q ∙ ap (λ (x : List ℕ). sets x middle two) p ∙ ap (λ (n : ℕ). sets (sets l at one) n two) is ∙ sets_append l at one two

pub ruleset joins = (joined_next, joined_written)
