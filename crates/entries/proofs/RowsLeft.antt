-- The rows of a table that are left from an index on.
use Prim.Native.Nat.{ℕ, suc, ◌+◌, ◌-◌, ◌*◌, ◌/◌, ◌<◌, ◌≤◌}
use mathlib.Core.List.{List, [], ◌∷◌}
use mathlib.Core.Path.{◌≡◌, ◌∙◌, ap}
use lib.ListN.{length, drop}
use lib.Seq.{get_or-drop, drop-drop}
use native.Mathlib.Nat.{sub-zero}
use native.Mathlib.Omega.{arith}
use Rattle.model.specs.Bytes.{◌!◌}
use Rattle.entries.specs.declared.row.Row.{Row}
use Rattle.entries.specs.Rows.{row_at, rows_from, rows_in}

abbrev pub left : List ℕ → ℕ → ℕ → List Row
left numbers count i = rows_from (count - i) (drop (4 * i) numbers)

module _ (numbers : List ℕ) (count : ℕ) where
  pub left_all : count ≡ length numbers / 4 → left numbers count 0 ≡ rows_in numbers
  unfolding rows_in
  left_all counted = ap (λ (n : ℕ). rows_from n numbers) (sub-zero count ∙ counted)

  module _ (i : ℕ) where
    row_there : row_at (drop (4 * i) numbers) 0 ≡ row_at numbers i
    unfolding row_at
    row_there =
        let at : 4 * i + 0 ≡ 4 * i = omega arith in
        let first : drop (4 * i) numbers ! 0 ≡ numbers ! (4 * i) = get_or-drop (4 * i) numbers 0 0 ∙ ap (λ (n : ℕ). numbers ! n) at in
        let second : drop (4 * i) numbers ! 1 ≡ numbers ! (4 * i + 1) = get_or-drop (4 * i) numbers 1 0 in
        let third : drop (4 * i) numbers ! 2 ≡ numbers ! (4 * i + 2) = get_or-drop (4 * i) numbers 2 0 in
        let fourth : drop (4 * i) numbers ! 3 ≡ numbers ! (4 * i + 3) = get_or-drop (4 * i) numbers 3 0 in
        rw (first, second, third, fourth)

    pub left_next : i < count → left numbers count i ≡ row_at numbers i ∷ left numbers count (i + 1)
    unfolding rows_from
    left_next here =
        let more : count - i ≡ suc (count - (i + 1)) = omega arith in
        let further : 4 * i + 4 ≡ 4 * (i + 1) = omega arith in
        let on : drop 4 (drop (4 * i) numbers) ≡ drop (4 * (i + 1)) numbers = drop-drop 4 (4 * i) numbers ∙ ap (λ (n : ℕ). drop n numbers) further in
        rw (more, row_there, on)

    pub left_over : count ≤ i → left numbers count i ≡ []
    unfolding rows_from
    left_over past = let none : count - i ≡ 0 = omega arith in rw none
