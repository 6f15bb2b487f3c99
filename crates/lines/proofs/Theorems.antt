-- Two results that satisfy the promise of LIST are equal.
use mathlib.Core.List.{List}
use mathlib.Core.Path.{◌≡◌, sym, ◌∙◌}
use Prim.Native.Nat.{ℕ}
use lib.ListN.{length}
use Rattle.model.specs.ListingText.{list_answer, list_memory}
use Rattle.std.specs.Prelude.{Option}

-- what `list` ensures, of its answer and of the memory afterwards
pub record Lists (input memory : List ℕ) (answer : Option ℕ) (after : List ℕ) : Type 0 where
  pub answers : answer ≡ list_answer input (length memory)
  pub leaves : after ≡ list_memory input memory

pub one_result : (input memory : List ℕ) (answer other : Option ℕ) (after left : List ℕ) → Lists input memory answer after → Lists input memory other left
    → (answer ≡ other) × (after ≡ left)
one_result input memory answer other after left one two = (one.answers ∙ sym two.answers, one.leaves ∙ sym two.leaves)
