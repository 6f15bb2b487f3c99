-- The tracks counted, and their numbers held against those before: the invariant of `count_tracks`'s loop, and what each way out of it and each turn makes of it.
use Prim.Native.Nat.{ℕ, ◌+◌, ◌-◌, ◌*◌, ◌<◌, ◌≤◌, min}
use mathlib.Core.Bool.{Bool, true, false}
use mathlib.Core.List.{List, [], ◌∷◌}
use mathlib.Core.Path.{◌≡◌, refl, sym, ◌∙◌, ap}
use lib.ListN.{length, get_or, set, length-set, replicate, length-replicate}
use lib.Seq.{get_or-set_same, get_or-set_other, get_or-drop}
use native.Mathlib.Nat.{add-zero}
use native.Mathlib.Omega.{arith}
use borrow.Author.Tests.{eqb-true, eqb-false}
use Rattle.model.specs.Words.{when◌then◌else◌, ◌or◌, ◌≡?◌, any, Checked, ◌>>◌, refused}
use Rattle.std.specs.Prelude.{Ok}
use Rattle.model.specs.Bytes.{◌!◌}
use Rattle.model.specs.Tables.{Given, first_given, once_from, given_in}
use Rattle.model.proofs.Tests.{if_false, by_test, is_on, is_off}
use Rattle.seek.proofs.Ordering.{none_flagged}
use Rattle.arranging.specs.declared.tables.Stretches.{Stretches}
use Rattle.arranging.specs.Apart.{given_at, Apart}
use Rattle.arranging.specs.Stages.{how_many}
use Rattle.arranging.proofs.Clipping.{clip_next, clip_to, apart}
use Rattle.arranging.proofs.Tracks.{Left, left_starts, left_no_numbers, left_no_bytes, left_next}

-- so many tracks stand before those that are left
unfoldable pub counted_from : List ℕ → ℕ → List Given → Checked ℕ
counted_from before count left = do
  once_from before count left
  when count + length left ≡? 0 then refused 7 0 else Ok (count + length left)

abbrev pub met_before : List ℕ → ℕ → Bool
met_before before number = any (λ earlier. earlier ≡? number) before

pub record Counting (numbers bytes : List ℕ) (seen : List Bool) (count p q : ℕ) : Type 0 where
  pub before : List ℕ
  pub long : length seen ≡ 256
  pub flagged : (n : ℕ) → n < 256 → met_before before n ≡ get_or seen n false
  pub left : List Given
  pub from : Left numbers bytes p q left
  pub few : count ≤ p
  pub same : counted_from before count left ≡ how_many (given_in numbers bytes)

module _ (numbers bytes : List ℕ) where
  pub count_starts : (q : ℕ) → q ≡ min (0 + 5) (length bytes) → Counting numbers bytes (replicate 256 false) 0 0 q
  unfolding how_many counted_from any
  count_starts q e =
      let all : 0 + length (given_in numbers bytes) ≡ length (given_in numbers bytes) = omega arith in
      record {
        before = [];
        long = length-replicate 256 false;
        flagged = λ n h. sym (none_flagged 256 n);
        left = given_in numbers bytes;
        from = left_starts numbers bytes q (clip_next bytes 0 5 q (omega arith) e) (clip_to bytes 0 5 q (omega arith) e);
        few = omega arith;
        same = ap (λ (n : ℕ). once_from [] 0 (given_in numbers bytes) >> (when n ≡? 0 then refused 7 0 else Ok n)) all;
      }

  module _ (seen : List Bool) (count p q : ℕ) (r : Counting numbers bytes seen count p q) where
    pub count_inside : p ≤ length numbers
    count_inside = r.from.inside

    pub count_within : q ≤ length bytes
    count_within = r.from.within

    -- no track is left
    over : r.left ≡ [] → (z : Checked ℕ) → z ≡ (when count ≡? 0 then refused 7 0 else Ok count) → z ≡ how_many (given_in numbers bytes)
    unfolding counted_from once_from ◌>>◌ when◌then◌else◌
    over none z e =
        let all = ap (λ (l : List Given). counted_from r.before count l) (sym none) ∙ r.same in
        let sum : count + 0 ≡ count = add-zero count in
        by_test (count ≡? 0)
        (λ h. e ∙ simp h (simp (sum, h) at all))
        (λ h. e ∙ simp h (simp (sum, h) at all))

    pub count_no_numbers : length numbers - p < 4 → (z : Checked ℕ) → z ≡ (when count ≡? 0 then refused 7 0 else Ok count)
        → z ≡ how_many (given_in numbers bytes)
    count_no_numbers h = over (left_no_numbers numbers bytes p q r.left r.from h)

    pub count_no_bytes : length bytes - q < 7 → (z : Checked ℕ) → z ≡ (when count ≡? 0 then refused 7 0 else Ok count)
        → z ≡ how_many (given_in numbers bytes)
    count_no_bytes h = over (left_no_bytes numbers bytes p q r.left r.from h)

    -- a track is left
    module _ (here : 4 ≤ length numbers - p) (there : 7 ≤ length bytes - q) (slot : ℕ) (numbered : slot ≡ bytes ! q) (small : slot < 256)
        (parts : Stretches) (found : Apart numbers bytes p q parts) where
      next : (rest : List Given) × (r.left ≡ given_at numbers bytes p q ∷ rest) × Left numbers bytes parts.numbers parts.bytes rest
      next = left_next numbers bytes p q r.left r.from here there parts found

      number_is : (given_at numbers bytes p q).number ≡ slot
      unfolding first_given
      number_is = let at : q + 0 ≡ q = add-zero q in get_or-drop q bytes 0 0 ∙ ap (λ (n : ℕ). bytes ! n) at ∙ sym numbered

      met : met_before r.before (given_at numbers bytes p q).number ≡ get_or seen slot false
      met = ap (met_before r.before) number_is ∙ r.flagged slot small

      whole : counted_from r.before count (given_at numbers bytes p q ∷ next.0) ≡ how_many (given_in numbers bytes)
      whole = ap (λ (l : List Given). counted_from r.before count l) (sym next.1) ∙ r.same

      again : get_or seen slot false ≡ true → refused 6 count ≡ how_many (given_in numbers bytes)
      unfolding counted_from once_from ◌>>◌ when◌then◌else◌
      again h = let twice = met ∙ h in simp twice at whole

      pub count_nears : length numbers - parts.numbers < length numbers - p
      count_nears = omega (arith, found.entries_from, found.items_from, found.numbers_to)

      pub count_goes_on : get_or seen slot false ≡ false → Counting numbers bytes (set seen slot true) (count + 1) parts.numbers parts.bytes
      unfolding counted_from once_from any ◌or◌
      count_goes_on h =
          let first = met ∙ h in
          let one = given_at numbers bytes p q in
          let rest = next.0 in
          let many : count + length (one ∷ rest) ≡ count + 1 + length rest = omega arith in
          let passes : once_from r.before count (one ∷ rest) ≡ once_from (one.number ∷ r.before) (count + 1) rest = if_false (met_before r.before one.number) _ _ first in
          let on : counted_from (one.number ∷ r.before) (count + 1) rest ≡ how_many (given_in numbers bytes) = rw (passes, many) at whole in
          record {
            before = one.number ∷ r.before;
            long = length-set seen slot true ∙ r.long;
            flagged = flags;
            left = rest;
            from = next.2;
            few = omega (arith, r.few, found.entries_from, found.items_from);
            same = on;
          }
        where
          flags : (n : ℕ) → n < 256 → met_before ((given_at numbers bytes p q).number ∷ r.before) n ≡ get_or (set seen slot true) n false
          flags n k =
              let within : slot < length seen = omega (arith, r.long) in
              rw number_is
              (by_test (slot ≡? n)
              (λ t. let e : n ≡ slot = sym (eqb-true slot n t) in simp t (sym (rw e (get_or-set_same seen slot true false within))))
              (λ t.
              let e : n ≡ slot → ⊥ = λ x. eqb-false slot n t (sym x) in
              simp t (r.flagged n k ∙ sym (get_or-set_other seen slot n true false e))))

    -- that a track is left can be told before its stretches are found
    pub count_again : 4 ≤ length numbers - p → 7 ≤ length bytes - q → (slot : ℕ) → slot ≡ bytes ! q → slot < 256 → get_or seen slot false ≡ true
        → refused 6 count ≡ how_many (given_in numbers bytes)
    count_again here there slot numbered small h =
        let inside = r.from.inside in
        let within = r.from.within in
        let items = min (p + 4 + 4 * numbers ! p) (length numbers) in
        let source = min (q + 7 + numbers ! (p + 2)) (length bytes) in
        let parts : Stretches =
        record {
          items = items;
          numbers = min (items + 2 * numbers ! (p + 1)) (length numbers);
          source = source;
          bytes = min (source + numbers ! (p + 3)) (length bytes);
        } in
        again here there slot numbered small parts
        (apart numbers bytes p q (omega arith) (omega arith) parts _ _ _ _ refl refl refl refl refl refl refl refl) h

pub ruleset counts = (count_starts, count_inside, count_within, count_no_numbers, count_no_bytes, count_again, count_nears, count_goes_on, is_on, is_off)
