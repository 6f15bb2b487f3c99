-- What is read at a place of a seek body ends past the place and within the body, and is what the walk over entries meets there.
use Prim.Native.Nat.{ℕ, ◌+◌, ◌<◌, ◌≤◌}
use mathlib.Core.List.{List}
use mathlib.Core.Bool.{Bool, true, false}
use mathlib.Core.Path.{◌≡◌, refl, subst}
use lib.ListN.{length}
use native.Mathlib.Omega.{arith}
use borrow.Author.Tests.{ltb-false, leb-false}
use Rattle.model.specs.Words.{when◌then◌else◌, Placed, Step, Step.met, Step.stuck}
use Rattle.model.specs.Seek.{Entry, is_letter, data_at, phrase_at, entry_at, entry_of, followed, entry_met, entry_step}
use Rattle.std.specs.Prelude.{Option, Some, None}
use Rattle.model.specs.declared.Read.{Read}
use Rattle.model.specs.declared.SeekEntry.{SeekEntry}
use Rattle.model.specs.declared.SeekEntry.TheVariants.{Start, Stop, Phrase, Order}
use Rattle.model.proofs.Tests.{if_all, and_right}
use Rattle.model.proofs.Walks.{GoesOn}
use Rattle.seek.specs.Next.{past_comma, next_at}
use Rattle.seek.proofs.Letters.{letters_reach}

abbrev pub Sound : ℕ → ℕ → SeekEntry → Type 0
Sound at end (Start value) = Unit
Sound at end (Stop value) = Unit
Sound at end (Phrase letter from to) = is_letter letter ≡ true
Sound at end (Order letters) = at + 3 + letters ≤ end

abbrev pub EntryAhead : ℕ → ℕ → Read SeekEntry → Type 0
EntryAhead at end read = (at < read.next) × (read.next ≤ end) × Sound at end read.what

abbrev pub FoundAhead : ℕ → ℕ → Option (Read SeekEntry) → Type 0
FoundAhead at end (Some read) = EntryAhead at end read
FoundAhead at end None = Unit

module _ (width : ℕ) (s : List ℕ) (at : ℕ) where
  data_ahead : (tagged : ℕ) → at + 3 ≤ length s → FoundAhead at (length s) (data_at width s tagged (at + 3))
  unfolding data_at
  data_ahead tagged room =
      if_all (FoundAhead at (length s)) _ _ _
      (λ h. if_all (FoundAhead at (length s)) _ _ _ (λ i. tt) (λ i. (omega arith, omega (arith, ltb-false), tt)))
      (λ h. if_all (FoundAhead at (length s)) _ _ _
      (λ i. if_all (FoundAhead at (length s)) _ _ _ (λ j. tt) (λ j. (omega arith, omega (arith, ltb-false), tt)))
      (λ i. if_all (FoundAhead at (length s)) _ _ _ (λ j. omega (arith, letters_reach s (at + 3) room)) (λ j. tt)))

  phrase_ahead : (letter : ℕ) → is_letter letter ≡ true → FoundAhead at (length s) (phrase_at s letter (at + 3))
  unfolding phrase_at
  phrase_ahead letter known =
      if_all (FoundAhead at (length s)) _ _ _ (λ h. tt) (λ h. (omega arith, omega (arith, ltb-false), known))

  entry_ahead : FoundAhead at (length s) (entry_at width s at)
  unfolding entry_at
  entry_ahead =
      if_all (FoundAhead at (length s)) _ _ _ (λ h. tt)
      (λ h. if_all (FoundAhead at (length s)) _ _ _ (λ i. tt)
      (λ i. if_all (FoundAhead at (length s)) _ _ _ (λ j. phrase_ahead _ (and_right _ _ j)) (λ j. data_ahead _ (omega (arith, ltb-false)))))

comma_ahead : (s : List ℕ) (at : ℕ) (read : Option (Read SeekEntry)) → FoundAhead at (length s) read → FoundAhead at (length s) (past_comma s read)
unfolding past_comma
comma_ahead s at (Some read) a =
    if_all (FoundAhead at (length s)) _ _ _ (λ h. a)
    (λ h. if_all (FoundAhead at (length s)) _ _ _ (λ i. (omega arith, omega (arith, leb-false), a.2)) (λ i. tt))
comma_ahead s at None a = tt

pub next_ahead : (width : ℕ) (s : List ℕ) (at : ℕ) → FoundAhead at (length s) (next_at width s at)
unfolding next_at
next_ahead width s at = comma_ahead s at (entry_at width s at) (entry_ahead width s at)

abbrev pub placed : List ℕ → ℕ → SeekEntry → Placed Entry
placed s at entry = record { place = at; what = entry_of s at entry }

-- the step that what is read at a place stands for
unfoldable pub step_of : List ℕ → ℕ → Option (Read SeekEntry) → Step (Placed Entry)
step_of s at (Some read) = met (placed s at read.what) read.next
step_of s at None = stuck 12 at

through : {A B : Type 0} (f : A → B) (b c : Bool) (x y z : A) → f (when b then x else when c then y else z) ≡ (when b then f x else when c then f y else f z)
unfolding when◌then◌else◌
through f true c x y z = refl
through f false true x y z = refl
through f false false x y z = refl

past_comma_steps : (s : List ℕ) (at : ℕ) (read : Option (Read SeekEntry)) → step_of s at (past_comma s read) ≡ entry_met s at read
unfolding past_comma followed step_of entry_met
past_comma_steps s at (Some read) = through (step_of s at) _ _ _ _ _
past_comma_steps s at None = refl

pub next_steps : (width : ℕ) (s : List ℕ) (at : ℕ) → step_of s at (next_at width s at) ≡ entry_step width s at
unfolding next_at entry_step
next_steps width s at = past_comma_steps s at (entry_at width s at)

step_goes : (s : List ℕ) (at : ℕ) (read : Option (Read SeekEntry)) → FoundAhead at (length s) read → GoesOn (length s) at (step_of s at read)
unfolding step_of
step_goes s at (Some read) a = (a.0, a.1)
step_goes s at None a = tt

pub entry_goes : (width : ℕ) (s : List ℕ) (at : ℕ) → GoesOn (length s) at (entry_step width s at)
entry_goes width s at = subst (GoesOn (length s) at) (next_steps width s at) (step_goes s at _ (next_ahead width s at))
