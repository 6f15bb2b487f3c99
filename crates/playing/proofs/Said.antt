-- Checks that all pass: of things that pass, the first that says something passes too; and an entry that keeps the rules.
use Prim.Native.Nat.{ℕ}
use mathlib.Core.Path.{◌≡◌, refl, ◌∙◌}
use mathlib.Core.Bool.{Bool, true, false}
use mathlib.Core.List.{List, [], ◌∷◌}
use Rattle.std.specs.Prelude.{Option, None, Some, Ok, Err}
use native.Mathlib.Omega.{arith}
use Rattle.model.specs.Words.{when◌then◌else◌, ◌or_else◌, first_said, Checked, passed, ◌>>◌, all_pass, refused}

-- a check after another, where both pass
pub both_pass : (a b : Checked (Unit {0})) → (a >> b) ≡ passed → (a ≡ passed) × (b ≡ passed)
unfolding ◌>>◌
both_pass (Ok u) b e = (refl, e)
both_pass (Err why) b e = let z : ◌≡◌ {A = ℕ} 0 1 = cc in absurd (omega arith)

-- what an entry says that passed its check
first_by : {A B : Type 0} (test : A → Checked (Unit {0})) (says : A → Option B) (entry : A) (entries : List A) (b : B)
    → (all_pass test entries ≡ passed → first_said says entries ≡ Some b → (one : A) × (says one ≡ Some b) × (test one ≡ passed))
    → (c : Checked (Unit {0})) → test entry ≡ c → (o : Option B) → says entry ≡ o → (c >> all_pass test entries) ≡ passed
    → (o or_else first_said says entries) ≡ Some b → (one : A) × (says one ≡ Some b) × (test one ≡ passed)
unfolding ◌>>◌ ◌or_else◌
first_by test says entry entries b others (Ok u) p None q rest k = others rest k
first_by test says entry entries b others (Ok u) p (Some d) q rest k = (entry, q ∙ k, p)
first_by test says entry entries b others (Err why) p o q rest k = let z : ◌≡◌ {A = ℕ} 0 1 = cc in absurd (omega arith)

pub said_by : {A B : Type 0} (test : A → Checked (Unit {0})) (says : A → Option B) (entries : List A) (b : B) → all_pass test entries ≡ passed
    → first_said says entries ≡ Some b → (entry : A) × (says entry ≡ Some b) × (test entry ≡ passed)
unfolding all_pass first_said
said_by test says [] b all e = let z : ◌≡◌ {A = ℕ} 0 1 = cc in absurd (omega arith)
said_by test says (entry ∷ entries) b all e =
    first_by test says entry entries b (said_by test says entries b) (test entry) refl (says entry) refl all e

-- an entry that keeps the rules
pub kept : (holds : Bool) (place : ℕ) → (when holds then passed else refused 13 place) ≡ passed → holds ≡ true
unfolding when◌then◌else◌
kept true place e = refl
kept false place e = let z : ◌≡◌ {A = ℕ} 0 1 = cc in absurd (omega arith)
