-- The tracks that are left in the two tables, from places on: none, or one and those behind it.
use Prim.Native.Nat.{ℕ, zero, suc, ◌+◌, ◌-◌, ◌<◌, ◌≤◌}
use mathlib.Core.Bool.{false}
use mathlib.Core.List.{List, [], ◌∷◌}
use mathlib.Core.Path.{◌≡◌, refl, sym, ◌∙◌, ap, ap₂}
use lib.ListN.{length, drop, length-drop}
use native.Mathlib.Decide.{dec_lt}
use native.Mathlib.Omega.{arith}
use borrow.Author.Tests.{lt-ltb, le-ltb}
use Rattle.model.specs.Words.{◌or◌, ◌<?◌}
use Rattle.model.specs.Tables.{Given, given_from, given_in}
use Rattle.model.proofs.Tests.{if_true, if_false, first_true, second_true, neither_true, by_test}
use Rattle.arranging.specs.declared.tables.Stretches.{Stretches}
use Rattle.arranging.specs.Apart.{given_at, Apart}

-- what is left from two places on, with turns enough
pub record Left (numbers bytes : List ℕ) (p q : ℕ) (left : List Given) : Type 0 where
  pub inside : p ≤ length numbers
  pub within : q ≤ length bytes
  pub turns : ℕ
  pub enough : length numbers - p ≤ turns
  pub is : given_from turns (drop p numbers) (drop q bytes) ≡ left

module _ (numbers bytes : List ℕ) where
  no_fuel : (turns p q : ℕ) → length numbers - p < 4 → given_from turns (drop p numbers) (drop q bytes) ≡ []
  unfolding given_from
  no_fuel zero p q h = refl
  no_fuel (suc turns) p q h =
      let few : length (drop p numbers) < 4 = rw (length-drop p numbers) h in
      if_true ((length (drop p numbers) <? 4) or (length (drop q bytes) <? 7)) [] _ (first_true _ _ (lt-ltb _ 4 few))

  no_bytes : (turns p q : ℕ) → length bytes - q < 7 → given_from turns (drop p numbers) (drop q bytes) ≡ []
  unfolding given_from
  no_bytes zero p q h = refl
  no_bytes (suc turns) p q h =
      let few : length (drop q bytes) < 7 = rw (length-drop q bytes) h in
      by_test (length (drop p numbers) <? 4)
      (λ t. if_true ((length (drop p numbers) <? 4) or (length (drop q bytes) <? 7)) [] _ (first_true _ _ t))
      (λ t. if_true ((length (drop p numbers) <? 4) or (length (drop q bytes) <? 7)) [] _ (second_true _ _ t (lt-ltb _ 7 few)))

  pub left_starts : (q : ℕ) → drop q bytes ≡ drop 5 bytes → q ≤ length bytes → Left numbers bytes 0 q (given_in numbers bytes)
  unfolding given_in
  left_starts q e within =
      record { inside = omega arith; within = within; turns = length numbers; enough = omega arith; is = ap (given_from (length numbers) numbers) e }

  module _ (p q : ℕ) (left : List Given) (l : Left numbers bytes p q left) where
    pub left_no_numbers : length numbers - p < 4 → left ≡ []
    left_no_numbers h = sym l.is ∙ no_fuel l.turns p q h

    pub left_no_bytes : length bytes - q < 7 → left ≡ []
    left_no_bytes h = sym l.is ∙ no_bytes l.turns p q h

    -- one, and those behind it
    module _ (here : 4 ≤ length numbers - p) (there : 7 ≤ length bytes - q) (r : Stretches) (apart : Apart numbers bytes p q r) where
      split : (turns : ℕ) → length numbers - p ≤ turns → given_from turns (drop p numbers) (drop q bytes) ≡ left
          → (rest : List Given) × (left ≡ given_at numbers bytes p q ∷ rest) × Left numbers bytes r.numbers r.bytes rest
      unfolding given_from
      split zero enough is = absurd (omega arith)
      split (suc turns) enough is =
          let many : 4 ≤ length (drop p numbers) = rw (length-drop p numbers) here in
          let long : 7 ≤ length (drop q bytes) = rw (length-drop q bytes) there in
          let test : ((length (drop p numbers) <? 4) or (length (drop q bytes) <? 7)) ≡ false = neither_true _ _ (le-ltb _ 4 many) (le-ltb _ 7 long) in (
            given_from turns (drop r.numbers numbers) (drop r.bytes bytes),
            sym is
                ∙ if_false ((length (drop p numbers) <? 4) or (length (drop q bytes) <? 7)) [] _ test
                ∙ ap₂ (λ (m n : List ℕ). given_at numbers bytes p q ∷ given_from turns m n) (sym apart.numbers_next) (sym apart.bytes_next),
            record {
              inside = apart.numbers_to;
              within = apart.bytes_to;
              turns = turns;
              enough = omega (arith, apart.entries_from, apart.items_from, apart.numbers_to);
              is = refl;
            },
          )

      pub left_next : (rest : List Given) × (left ≡ given_at numbers bytes p q ∷ rest) × Left numbers bytes r.numbers r.bytes rest
      left_next = split l.turns l.enough l.is

    -- by how many are left
    pub left_over : length left ≡ 0 → left ≡ []
    left_over h = go left h
      where
        go : (tracks : List Given) → length tracks ≡ 0 → tracks ≡ []
        go [] e = refl
        go (track ∷ tracks) e = absurd (omega arith)

    some : 0 < length left → left ≡ [] → ⊥
    some h e = let none : length left ≡ 0 = ap length e in omega arith

    pub left_numbers : 0 < length left → p + 4 ≤ length numbers
    left_numbers h =
        let inside = l.inside in
        elim (dec_lt (length numbers - p) 4) [ yes few ↦ absurd (some h (left_no_numbers few)) | no few ↦ omega arith ]

    pub left_bytes : 0 < length left → q + 7 ≤ length bytes
    left_bytes h =
        let inside = l.within in
        elim (dec_lt (length bytes - q) 7) [ yes few ↦ absurd (some h (left_no_bytes few)) | no few ↦ omega arith ]
