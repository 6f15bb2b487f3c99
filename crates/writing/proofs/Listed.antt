-- The items that a table gives, from an index on.
use Prim.Native.Nat.{ℕ, suc, ◌+◌, ◌-◌, ◌*◌, ◌/◌, ◌<◌, ◌≤◌}
use mathlib.Core.List.{List, [], ◌∷◌, ◌++◌}
use mathlib.Core.Path.{◌≡◌, sym, ◌∙◌, ap}
use lib.ListN.{length, drop}
use lib.Seq.{get_or-drop, drop-drop}
use native.Mathlib.Omega.{arith}
use Rattle.model.specs.Words.{Checked, ◌>>=◌, told_at}
use Rattle.std.specs.Prelude.{Ok, Err}
use Rattle.model.specs.Bytes.{◌!◌}
use Rattle.model.specs.Item.{Item}
use Rattle.model.specs.Content.{Content}
use Rattle.model.specs.Writing.{item_given, items_from}
use Rattle.model.specs.declared.Voice.{Voice}
use Rattle.model.proofs.Outcomes.{bind_fine}

-- an item that is told by its index, and those behind it
unfoldable pub ahead : ℕ → Checked (Item Content) → Checked (List (Item Content)) → Checked (List (Item Content))
ahead index one more = do
  item ← told_at index one
  items ← more
  Ok (item ∷ items)

pub told_fine : {A : Type 0} (index : ℕ) (o : Checked A) (a : A) → told_at index o ≡ Ok a → o ≡ Ok a
unfolding told_at
told_fine index (Ok b) a e = e
told_fine index (Err why) a e = let z : ◌≡◌ {A = ℕ} 0 1 = cc in absurd (omega arith)

-- where they are given, each is
pub ahead_fine : (index : ℕ) (one : Checked (Item Content)) (more : Checked (List (Item Content))) (all : List (Item Content)) → ahead index one more ≡ Ok all
    → (item : Item Content) × (rest : List (Item Content)) × (one ≡ Ok item) × (more ≡ Ok rest) × (all ≡ item ∷ rest)
unfolding ahead
ahead_fine index one more all e =
    let a = bind_fine _ _ all e in
    let b = bind_fine _ _ all a.2 in
    let same : a.0 ∷ b.0 ≡ all = let q = b.2 in cc in
    (a.0, b.0, told_fine index one a.0 a.1, b.1, sym same)

module _ (voice : Voice) (source numbers : List ℕ) (count i : ℕ) where
  abbrev pub from : ℕ → Checked (List (Item Content))
  from k = items_from voice source (count - k) k (drop (2 * k) numbers)

  pub listed_next : i < count → from i ≡ ahead i (item_given voice source (numbers ! (2 * i)) (numbers ! (2 * i + 1))) (from (i + 1))
  unfolding items_from ahead
  listed_next h =
      let left : count - i ≡ suc (count - (i + 1)) = omega arith in
      let at : 2 * i + 0 ≡ 2 * i = omega arith in
      let first : drop (2 * i) numbers ! 0 ≡ numbers ! (2 * i) = get_or-drop (2 * i) numbers 0 0 ∙ ap (λ (n : ℕ). numbers ! n) at in
      let second : drop (2 * i) numbers ! 1 ≡ numbers ! (2 * i + 1) = get_or-drop (2 * i) numbers 1 0 in
      let further : 2 * i + 2 ≡ 2 * (i + 1) = omega arith in
      let on : drop 2 (drop (2 * i) numbers) ≡ drop (2 * (i + 1)) numbers = drop-drop 2 (2 * i) numbers ∙ ap (λ (n : ℕ). drop n numbers) further in
      rw (left, first, second, on)

  pub listed_over : count ≤ i → from i ≡ Ok []
  unfolding items_from
  listed_over h = let none : count - i ≡ 0 = omega arith in rw none

-- a table that begins with a pair gives an item, and what the rest of it gives
module _ (voice : Voice) (source : List ℕ) (index : ℕ) where
  pub listed_pair : (pair behind : List ℕ) → length pair ≡ 2
      → items_from voice source (length (pair ++ behind) / 2) index (pair ++ behind)
      ≡ ahead index (item_given voice source (pair ! 0) (pair ! 1)) (items_from voice source (length behind / 2) (index + 1) behind)
  unfolding items_from ahead
  listed_pair [] behind h = absurd (omega arith)
  listed_pair (a ∷ []) behind h = absurd (omega arith)
  listed_pair (a ∷ b ∷ []) behind h = let one : suc (suc (length behind)) / 2 ≡ suc (length behind / 2) = omega arith in rw one
  listed_pair (a ∷ b ∷ c ∷ more) behind h = absurd (omega arith)

  pub listed_none : (behind : List ℕ) → length behind < 2 → items_from voice source (length behind / 2) index behind ≡ Ok []
  unfolding items_from
  listed_none behind h = let none : length behind / 2 ≡ 0 = omega arith in rw none
