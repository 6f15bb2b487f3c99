-- A stretch of a list that is asked to be longer than the list: what is left.
use Prim.Native.Nat.{ℕ, ◌+◌, ◌-◌, ◌*◌, ◌≤◌, min}
use mathlib.Core.List.{List}
use mathlib.Core.Path.{◌≡◌, refl, sym, ◌∙◌, ap}
use lib.ListN.{length, take, drop, length-drop, drop_of_length-le}
use lib.Seq.{take_all, drop-drop, get_or-drop}
use native.Mathlib.Decide.{dec_lt}
use native.Mathlib.Omega.{arith}
use Rattle.model.specs.Bytes.{◌!◌, part}
use Rattle.model.specs.Tables.{numbers_taken, bytes_taken, first_given}
use Rattle.arranging.specs.declared.tables.Stretches.{Stretches}
use Rattle.arranging.specs.Apart.{Apart}

module _ (l : List ℕ) (at count to : ℕ) (inside : at ≤ length l) (clipped : to ≡ min (at + count) (length l)) where
  pub clip_from : at ≤ to
  clip_from = omega arith

  pub clip_to : to ≤ length l
  clip_to = omega arith

  pub clip_part : part l at (to - at) ≡ part l at count
  clip_part =
      elim (dec_lt (length l) (at + count)) [
        | yes h ↦
            let all : length (drop at l) ≤ to - at = omega (arith, length-drop at l) in
            let more : length (drop at l) ≤ count = omega (arith, length-drop at l) in
            take_all (to - at) (drop at l) all ∙ sym (take_all count (drop at l) more)
        | no h ↦ let same : to - at ≡ count = omega arith in ap (λ (n : ℕ). take n (drop at l)) same
      ]

  pub clip_next : drop to l ≡ drop (at + count) l
  clip_next =
      elim (dec_lt (length l) (at + count)) [
        | yes h ↦
            let end : to ≡ length l = omega arith in
            let past : length l ≤ at + count = omega arith in
            let there : length l ≤ to = omega arith in
            drop_of_length-le l there ∙ sym (drop_of_length-le l past)
        | no h ↦ let same : to ≡ at + count = omega arith in ap (λ (n : ℕ). drop n l) same
      ]

-- the parts of a track, from places that were found so
module _ (numbers bytes : List ℕ) (p q : ℕ) (here : p + 4 ≤ length numbers) (there : q + 7 ≤ length bytes) (r : Stretches) where
  pub apart : (many few long short : ℕ) → many ≡ numbers ! p → few ≡ numbers ! (p + 1) → long ≡ numbers ! (p + 2) → short ≡ numbers ! (p + 3)
      → r.items ≡ min (p + 4 + 4 * many) (length numbers) → r.numbers ≡ min (r.items + 2 * few) (length numbers)
      → r.source ≡ min (q + 7 + long) (length bytes) → r.bytes ≡ min (r.source + short) (length bytes)
      → Apart numbers bytes p q r
  unfolding first_given numbers_taken bytes_taken
  apart many few long short m f l s items last source end =
      let first : drop p numbers ! 0 ≡ many = get_or-drop p numbers 0 0 ∙ ap (λ (n : ℕ). numbers ! n) at_first ∙ sym m in
      let second : drop p numbers ! 1 ≡ few = get_or-drop p numbers 1 0 ∙ sym f in
      let third : drop p numbers ! 2 ≡ long = get_or-drop p numbers 2 0 ∙ sym l in
      let fourth : drop p numbers ! 3 ≡ short = get_or-drop p numbers 3 0 ∙ sym s in
      record {
        entries_from = clip_from numbers (p + 4) (4 * many) r.items here items;
        items_from = clip_from numbers r.items (2 * few) r.numbers behind last;
        numbers_to = clip_to numbers r.items (2 * few) r.numbers behind last;
        letters_from = clip_from bytes (q + 7) long r.source there source;
        source_from = clip_from bytes r.source short r.bytes beyond end;
        bytes_to = clip_to bytes r.source short r.bytes beyond end;
        entries =
            clip_part numbers (p + 4) (4 * many) r.items here items
            ∙ sym (rw first (ap (take (4 * many)) (drop-drop 4 p numbers)));
        items =
            clip_part numbers r.items (2 * few) r.numbers behind last
            ∙ ap (take (2 * few)) items_at
            ∙ sym (rw (first, second) refl);
        letters =
            clip_part bytes (q + 7) long r.source there source
            ∙ sym (rw third (ap (take long) (drop-drop 7 q bytes)));
        source =
            clip_part bytes r.source short r.bytes beyond end
            ∙ ap (take short) source_at
            ∙ sym (rw (third, fourth) refl);
        numbers_next =
            clip_next numbers r.items (2 * few) r.numbers behind last
            ∙ sym (drop-drop (2 * few) r.items numbers)
            ∙ ap (drop (2 * few)) items_at
            ∙ drop-drop (2 * few) (4 + 4 * many) (drop p numbers)
            ∙ sym (rw (first, second) refl);
        bytes_next =
            clip_next bytes r.source short r.bytes beyond end
            ∙ sym (drop-drop short r.source bytes)
            ∙ ap (drop short) source_at
            ∙ drop-drop short (7 + long) (drop q bytes)
            ∙ sym (rw (third, fourth) refl);
      }
    where
      at_first : p + 0 ≡ p
      at_first = omega arith

      behind : r.items ≤ length numbers
      behind = clip_to numbers (p + 4) (4 * many) r.items here items

      beyond : r.source ≤ length bytes
      beyond = clip_to bytes (q + 7) long r.source there source

      items_at : drop r.items numbers ≡ drop (4 + 4 * many) (drop p numbers)
      items_at =
          let same : p + 4 + 4 * many ≡ p + (4 + 4 * many) = omega arith in
          clip_next numbers (p + 4) (4 * many) r.items here items
          ∙ ap (λ (n : ℕ). drop n numbers) same
          ∙ sym (drop-drop (4 + 4 * many) p numbers)

      source_at : drop r.source bytes ≡ drop (7 + long) (drop q bytes)
      source_at =
          let same : q + 7 + long ≡ q + (7 + long) = omega arith in
          clip_next bytes (q + 7) long r.source there source
          ∙ ap (λ (n : ℕ). drop n bytes) same
          ∙ sym (drop-drop (7 + long) q bytes)
