-- Two results that satisfy the promise of READ are equal: it leaves no choice, neither of the answer nor of what the table holds.
use Prim.Native.Nat.{ℕ}
use mathlib.Core.List.{List}
use mathlib.Core.Path.{◌≡◌, sym, ◌∙◌}
use lib.ListN.{length}
use Rattle.model.specs.Answer.{read_of, read_answer, read_table}
use Rattle.model.specs.Words.{Checked}
use Rattle.model.specs.declared.ReadAnswer.{ReadAnswer}

-- what `read` ensures, of its answer and of the table afterwards
pub record Reads (buffer : List ℕ) (n : ℕ) (table : List ℕ) (answer : Checked ReadAnswer) (after : List ℕ) : Type 0 where
  pub answers : answer ≡ read_answer (read_of buffer n (length table))
  pub leaves : after ≡ read_table table (read_of buffer n (length table))

pub one_result : (buffer : List ℕ) (n : ℕ) (table : List ℕ) (answer other : Checked ReadAnswer) (after others : List ℕ)
    → Reads buffer n table answer after → Reads buffer n table other others → (answer ≡ other) × (after ≡ others)
one_result buffer n table answer other after others one two = (one.answers ∙ sym two.answers, one.leaves ∙ sym two.leaves)
