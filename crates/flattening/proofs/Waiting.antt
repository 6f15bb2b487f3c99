-- Gaps and rests in bytes: how many they are, and the loop that writes the waits, where what is still to be written makes the whole.
use Prim.Native.Nat.{ℕ, zero, suc, ◌+◌, ◌-◌, ◌*◌, ◌/◌, ◌<◌, ◌≤◌}
use mathlib.Core.List.{List, [], ◌∷◌, ◌++◌, append-nil}
use mathlib.Core.Path.{◌≡◌, refl, sym, ◌∙◌, ap}
use lib.ListN.{length, replicate, length-append}
use lib.Seq.{sets}
use native.Mathlib.Omega.{arith}
use borrow.Author.Tests.{eq-eqb, ne_eqb, eqb-true, eqb-false}
use Rattle.model.specs.Words.{when◌then◌else◌, ◌≡?◌}
use Rattle.model.specs.Duration.{duration_bytes}
use Rattle.model.specs.Item.{Item, Item.timed}
use Rattle.model.specs.Plain.{item_bytes, bytes_of, times, left, waits, rest}
use Rattle.model.specs.Content.{Content, Content.nop, content_bytes, handy_phone}
use Rattle.model.proofs.Tests.{by_test}
use Rattle.model.proofs.Stores.{sets_append}
use Rattle.plain.proofs.Gaps.{left_short, waits_none, waits_more}
use Rattle.plain.proofs.PlainItems.{bytes_append}
use Rattle.flattening.specs.Parts.{gap_bytes}

abbrev wait_bytes : List ℕ
wait_bytes = 0xFF ∷ 0x7F ∷ 0xFF ∷ 0x00 ∷ []

abbrev waits_bytes : ℕ → List ℕ
waits_bytes gap = bytes_of handy_phone (waits handy_phone gap)

-- how often and how much is left
module _ (gap : ℕ) where
  pub no_times : gap ≡ 0 → 0 ≡ times 16511 gap
  unfolding times
  no_times e = omega arith

  pub some_times : (gap - 1) / 16511 ≡ times 16511 gap
  unfolding times
  some_times = refl

  pub times_within : (gap - 1) / 16511 * 16511 ≤ gap
  times_within = omega arith

  module _ (n : ℕ) (is : n ≡ times 16511 gap) where
    pub left_is : gap - n * 16511 ≡ left 16511 gap
    unfolding left
    left_is = ap (λ (m : ℕ). gap - m * 16511) is

    pub left_small : gap - n * 16511 ≤ 16511
    left_small = rw left_is (left_short 16511 gap (omega arith))

    pub left_fits : gap - n * 16511 < 4294967296
    left_fits = omega (arith, left_small)

-- the waits
wait_first : (items : List (Item Content)) → bytes_of handy_phone (timed 16511 nop ∷ items) ≡ wait_bytes ++ bytes_of handy_phone items
unfolding bytes_of item_bytes duration_bytes content_bytes when◌then◌else◌
wait_first items = refl

repeated_length : (count : ℕ) → length (bytes_of handy_phone (replicate count (timed 16511 nop))) ≡ count * 4
unfolding bytes_of
repeated_length zero = refl
repeated_length (suc count) = ap length (wait_first (replicate count (timed 16511 nop))) ∙ omega (arith, repeated_length count)

waits_length : (gap : ℕ) → length (waits_bytes gap) ≡ times 16511 gap * 4
unfolding waits
waits_length gap = repeated_length (times 16511 gap)

gap_length : (gap : ℕ) → length (gap_bytes gap) ≡ length (waits_bytes gap) + length (duration_bytes (left 16511 gap))
unfolding gap_bytes
gap_length gap = length-append (waits_bytes gap) (duration_bytes (left 16511 gap))

module _ (gap : ℕ) where
  pub waits_sized : (n : ℕ) → n ≡ times 16511 gap → n * 4 ≡ length (waits_bytes gap)
  waits_sized n is = ap (λ (m : ℕ). m * 4) is ∙ sym (waits_length gap)

  pub gap_sized : (n d v : ℕ) → n ≡ length (waits_bytes gap) → v ≡ left 16511 gap → d ≡ length (duration_bytes v) → n + d ≡ length (gap_bytes gap)
  gap_sized n d v p q r = omega (arith, gap_length gap, p, r ∙ ap (λ (x : ℕ). length (duration_bytes x)) q)

  -- a rest that is written with the waits alone, and one with a last part
  rest_none : left 16511 gap ≡ 0 → rest handy_phone gap ≡ waits handy_phone gap
  unfolding rest when◌then◌else◌
  rest_none e = simp eq-eqb

  module _ (v : ℕ) (is : v ≡ left 16511 gap) where
    pub rest_none_sized : (n : ℕ) → v ≡ 0 → n ≡ length (waits_bytes gap) → n ≡ length (bytes_of handy_phone (rest handy_phone gap))
    rest_none_sized n e p = p ∙ ap (λ (items : List (Item Content)). length (bytes_of handy_phone items)) (sym (rest_none (sym is ∙ e)))

    module _ (some : v ≡ 0 → ⊥) where
      rest_bytes : bytes_of handy_phone (rest handy_phone gap) ≡ waits_bytes gap ++ (duration_bytes v ++ (0xFF ∷ 0x00 ∷ []))
      unfolding rest when◌then◌else◌ bytes_of item_bytes content_bytes
      rest_bytes =
          let over : left 16511 gap ≡ 0 → ⊥ = λ e. some (is ∙ e) in
          simp ne_eqb
          (bytes_append Content handy_phone (waits handy_phone gap) (timed (left 16511 gap) nop ∷ [])
          ∙ ap (λ (bytes : List ℕ). waits_bytes gap ++ bytes) (append-nil (duration_bytes (left 16511 gap) ++ (0xFF ∷ 0x00 ∷ [])))
          ∙ ap (λ (x : ℕ). waits_bytes gap ++ (duration_bytes x ++ (0xFF ∷ 0x00 ∷ []))) (sym is))

      rest_length : length (bytes_of handy_phone (rest handy_phone gap)) ≡ length (waits_bytes gap) + (length (duration_bytes v) + 2)
      rest_length =
          ap length rest_bytes ∙ length-append (waits_bytes gap) (duration_bytes v ++ (0xFF ∷ 0x00 ∷ []))
          ∙ ap (λ (n : ℕ). length (waits_bytes gap) + n) (length-append (duration_bytes v) (0xFF ∷ 0x00 ∷ []))

      pub rest_sized : (n d : ℕ) → n ≡ length (waits_bytes gap) → d ≡ length (duration_bytes v) → n + d + 2 ≡ length (bytes_of handy_phone (rest handy_phone gap))
      rest_sized n d p q = omega (arith, rest_length)

pub ruleset sizes = (no_times, some_times, times_within, left_is, left_small, left_fits, waits_sized, gap_sized, rest_none_sized, rest_sized)

-- the waits, written
pub record Waiting (l : List ℕ) (at gap : ℕ) (out : List ℕ) (place more : ℕ) : Type 0 where
  pub same : length out ≡ length l
  pub size : place + length (waits_bytes more) ≡ at + length (waits_bytes gap)
  pub room : at + length (waits_bytes gap) ≤ length out
  pub whole : sets out place (waits_bytes more) ≡ sets l at (waits_bytes gap)

module _ (l : List ℕ) (at gap : ℕ) where
  pub wait_starts : at + length (waits_bytes gap) ≤ length l → Waiting l at gap l at gap
  wait_starts room = record { same = refl; size = refl; room = room; whole = refl }

  module _ (out : List ℕ) (place more : ℕ) (w : Waiting l at gap out place more) where
    module _ (long : 16511 < more) where
      ahead : waits_bytes more ≡ wait_bytes ++ waits_bytes (more - 16511)
      ahead = ap (bytes_of handy_phone) (waits_more handy_phone more (omega arith) long).0 ∙ wait_first (waits handy_phone (more - 16511))

      pub wait_room : place + 4 ≤ length out
      wait_room = omega (arith, ap length ahead, w.size, w.room)

      pub wait_again : (m : List ℕ) (next : ℕ) → next ≡ place + 4 → m ≡ sets out place (0xFF ∷ 0x7F ∷ 0xFF ∷ 0x00 ∷ []) → length m ≡ length out
          → Waiting l at gap m next (more - 16511)
      wait_again m next n e k =
          let stored : sets m next (waits_bytes (more - 16511)) ≡ sets out place (waits_bytes more) =
          rw (e, n, ahead) (sets_append out place wait_bytes (waits_bytes (more - 16511))) in
          record {
            same = k ∙ w.same;
            size = omega (arith, ap length ahead, w.size);
            room = omega (arith, w.room);
            whole = stored ∙ w.whole;
          }

    module _ (short : more ≤ 16511) where
      nothing : waits_bytes more ≡ []
      unfolding bytes_of
      nothing = ap (bytes_of handy_phone) (waits_none handy_phone more (omega arith) short).0

      pub wait_ends : place ≡ at + length (waits_bytes gap)
      wait_ends = omega (arith, ap length nothing, w.size)

      pub wait_whole : out ≡ sets l at (waits_bytes gap)
      wait_whole = ap (sets out place) (sym nothing) ∙ w.whole

pub ruleset waiting = (wait_starts, wait_room, wait_again, wait_ends, wait_whole)

-- a gap, written: the waits, and the duration that is left
module _ (l : List ℕ) (at gap : ℕ) where
  pub gap_waits_room : at + length (gap_bytes gap) ≤ length l → at + length (waits_bytes gap) ≤ length l
  gap_waits_room room = omega (arith, gap_length gap)

  module _ (v middle : ℕ) (is : v ≡ left 16511 gap) (after : middle ≡ at + length (waits_bytes gap)) where
    lasting : length (duration_bytes v) ≡ length (duration_bytes (left 16511 gap))
    lasting = ap (λ (x : ℕ). length (duration_bytes x)) is

    pub gap_duration_room : (k : List ℕ) → at + length (gap_bytes gap) ≤ length l → length k ≡ length l → middle + length (duration_bytes v) ≤ length k
    gap_duration_room k room same = omega (arith, gap_length gap, lasting)

    pub gap_next : (n : ℕ) → n ≡ middle + length (duration_bytes v) → n ≡ at + length (gap_bytes gap)
    gap_next n e = omega (arith, gap_length gap, lasting)

    pub gap_wrote : (k m : List ℕ) → k ≡ sets l at (waits_bytes gap) → m ≡ sets k middle (duration_bytes v) → m ≡ sets l at (gap_bytes gap)
    unfolding gap_bytes
    gap_wrote k m p q = q ∙ rw (p, after, is) (sets_append l at (waits_bytes gap) (duration_bytes (left 16511 gap)))

pub ruleset gaps = (gap_waits_room, gap_duration_room, gap_next, gap_wrote)

-- a rest, written: the waits, and a last part
module _ (l : List ℕ) (at gap : ℕ) where
  module _ (v : ℕ) (is : v ≡ left 16511 gap) where
    module _ (none : v ≡ 0) where
      alone : bytes_of handy_phone (rest handy_phone gap) ≡ waits_bytes gap
      alone = ap (bytes_of handy_phone) (rest_none gap (sym is ∙ none))

      pub rest_none_next : (place : ℕ) → place ≡ at + length (waits_bytes gap) → place ≡ at + length (bytes_of handy_phone (rest handy_phone gap))
      rest_none_next place e = rw alone e

      pub rest_none_wrote : (k : List ℕ) → k ≡ sets l at (waits_bytes gap) → k ≡ sets l at (bytes_of handy_phone (rest handy_phone gap))
      rest_none_wrote k e = rw alone e

    module _ (some : v ≡ 0 → ⊥) (place : ℕ) (after : place ≡ at + length (waits_bytes gap)) where
      pub rest_part_room : (k : List ℕ) → at + length (bytes_of handy_phone (rest handy_phone gap)) ≤ length l → length k ≡ length l
          → place + length (duration_bytes v) ≤ length k
      rest_part_room k room same = omega (arith, rest_length gap v is some)

      module _ (middle : ℕ) (between : middle ≡ place + length (duration_bytes v)) where
        pub rest_nop_room : (k m : List ℕ) → at + length (bytes_of handy_phone (rest handy_phone gap)) ≤ length l → length k ≡ length l → length m ≡ length k
            → middle + 2 ≤ length m
        rest_nop_room k m room same kept = omega (arith, rest_length gap v is some)

        pub rest_next : (n : ℕ) → n ≡ middle + 2 → n ≡ at + length (bytes_of handy_phone (rest handy_phone gap))
        rest_next n e = omega (arith, rest_length gap v is some)

        pub rest_wrote : (k m r : List ℕ) → k ≡ sets l at (waits_bytes gap) → m ≡ sets k place (duration_bytes v) → r ≡ sets m middle (0xFF ∷ 0x00 ∷ [])
            → r ≡ sets l at (bytes_of handy_phone (rest handy_phone gap))
        rest_wrote k m r p q h =
            let both : r ≡ sets k place (duration_bytes v ++ (0xFF ∷ 0x00 ∷ [])) =
            h ∙ rw (q, between) (sets_append k place (duration_bytes v) (0xFF ∷ 0x00 ∷ [])) in
            both ∙ rw (p, after, rest_bytes gap v is some) (sets_append l at (waits_bytes gap) (duration_bytes v ++ (0xFF ∷ 0x00 ∷ [])))

pub left_room : (l : List ℕ) (at gap : ℕ) → at + length (bytes_of handy_phone (rest handy_phone gap)) ≤ length l → at + length (waits_bytes gap) ≤ length l
left_room l at gap room =
    by_test (left 16511 gap ≡? 0)
    (λ t. omega (arith, ap (λ (items : List (Item Content)). length (bytes_of handy_phone items)) (rest_none gap (eqb-true (left 16511 gap) 0 t))))
    (λ t. omega (arith, rest_length gap (left 16511 gap) refl (eqb-false (left 16511 gap) 0 t)))

pub ruleset rests = (rest_none_next, rest_none_wrote, rest_part_room, rest_nop_room, rest_next, rest_wrote, left_room)
