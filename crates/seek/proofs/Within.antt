-- A refusal of a seek body has a place within the body, or at most the letters of an order list past it.
use Prim.Native.Nat.{ℕ, suc, ◌+◌, ◌≤◌}
use mathlib.Core.List.{List, [], ◌∷◌}
use mathlib.Core.Bool.{Bool, true, false}
use mathlib.Core.Path.{◌≡◌, refl, sym, ◌∙◌, ap, ap₂, subst}
use lib.ListN.{length}
use native.Mathlib.Omega.{arith}
use Rattle.model.specs.Words.{when◌then◌else◌, ◌≡?◌, is_some, Placed, Checked, ◌>>◌, all_pass, Step, Step.met, Step.stuck, walk_to, in_turn, refused}
use Rattle.std.specs.Prelude.{Ok, Err, Option, Some, None}
use Rattle.model.specs.Item.{is_fine, found}
use Rattle.model.specs.Seek.{Entry, Entry.start, Entry.stop, Entry.phrase, Entry.order, entry_at, entry_of, followed, entry_met, entry_step, in_order, seek_of, phrase_of}
use Rattle.model.specs.Item.{Item}
use Rattle.model.specs.Points.{is_address, is_position, points_hold, letters_named, letters_hold, order_holds}
use Rattle.model.specs.Track.{point_width, points_of}
use Rattle.model.specs.declared.Event.{Event}
use Rattle.model.specs.declared.Refusal.{Refusal}
use Rattle.model.specs.declared.Read.{Read}
use Rattle.model.specs.declared.SeekEntry.{SeekEntry}
use Rattle.model.specs.declared.SeekEntry.TheVariants.{Start, Stop, Phrase, Order}
use Rattle.model.proofs.Parts.{part_short}
use Rattle.model.proofs.Tests.{if_all, if_true, if_false, by_test}
use Rattle.model.proofs.Walks.{Stand, GoesOn, refused_within}
use Rattle.seek.proofs.Ahead.{entry_goes}
use Rattle.seek.proofs.Standing.{standing_starts}

-- what stands at a place has that place, and what cannot be read there is refused there; an order list is a part of the body
abbrev LettersIn : List ℕ → Entry → Type 0
LettersIn s (start value) = Unit
LettersIn s (stop value) = Unit
LettersIn s (phrase letter from to) = Unit
LettersIn s (order letters) = length letters ≤ length s

abbrev AtPlace : List ℕ → ℕ → Step (Placed Entry) → Type 0
AtPlace s at (met entry next) = (entry.place ≡ at) × LettersIn s entry.what
AtPlace s at (stuck number place) = place ≡ at

followed_at : (s : List ℕ) (at next : ℕ) (entry : Entry) → LettersIn s entry → AtPlace s at (followed s at next entry)
unfolding followed
followed_at s at next entry h =
    if_all (AtPlace s at) _ _ _ (λ i. (refl, h)) (λ i. if_all (AtPlace s at) _ _ _ (λ j. (refl, h)) (λ j. refl))

letters_in : (s : List ℕ) (at : ℕ) (entry : SeekEntry) → LettersIn s (entry_of s at entry)
unfolding entry_of
letters_in s at (Start value) = tt
letters_in s at (Stop value) = tt
letters_in s at (Phrase letter from to) = tt
letters_in s at (Order letters) = part_short s (at + 3) letters

entry_met_at : (s : List ℕ) (at : ℕ) (read : Option (Read SeekEntry)) → AtPlace s at (entry_met s at read)
unfolding entry_met
entry_met_at s at (Some read) = followed_at s at read.next (entry_of s at read.what) (letters_in s at read.what)
entry_met_at s at None = refl

pub entry_at_lem : (width : ℕ) (s : List ℕ) (at : ℕ) → AtPlace s at (entry_step width s at)
unfolding entry_step
entry_at_lem width s at = entry_met_at s at (entry_at width s at)

same_place : {A : Type 0} (n m at place : ℕ) → ◌≡◌ {A = Checked A} (refused n at) (refused m place) → at ≡ place
same_place {A} n m at place e =
    let r : ◌≡◌ {A = Refusal} (record { number = n; place = at }) (record { number = m; place = place }) = cc in
    ap (λ (why : Refusal). why.place) r

-- 12

abbrev RefusedAt : ℕ → Checked (Unit {0}) → Type 0
RefusedAt at (Ok u) = Unit
RefusedAt at (Err why) = why.place ≡ at

order_at : (before : List (Placed Entry)) (entry : Placed Entry) → RefusedAt entry.place (in_order before entry)
unfolding in_order
order_at before entry = if_all (RefusedAt entry.place) _ _ _ (λ h. refl) (λ h. if_all (RefusedAt entry.place) _ _ _ (λ i. refl) (λ i. tt))

pub form_refused_within : (width : ℕ) (s : List ℕ) (n place : ℕ) → seek_of width s ≡ refused n place → place ≤ length s
unfolding seek_of when◌then◌else◌ walk_to
form_refused_within width s n place e = go (length s ≡? 0) e
  where
    go : (t : Bool) → (when t then refused 12 0 else in_turn in_order [] (walk_to 12 (length s) (entry_step width s) 0)) ≡ refused n place → place ≤ length s
    go true q = let same = same_place 12 n 0 place q in omega arith
    go false q =
        refused_within 12 (length s) (entry_step width s) in_order (λ at h. entry_goes width s at)
        (λ at m there h is. let a = subst (AtPlace s at) is (entry_at_lem width s at) in omega arith)
        (λ at next m there entry before h is bad.
        let a = subst (AtPlace s at) is (entry_at_lem width s at) in
        let b = subst (RefusedAt entry.place) bad (order_at before entry) in
        omega arith)
        (suc (length s)) 0 [] n place (omega arith) q

-- 13 and 14

then_refused : {A : Type 0} (c : Checked (Unit {0})) (rest : Checked A) (n place : ℕ) (X : Type 0) → (c >> rest) ≡ refused n place
    → (c ≡ refused n place → X) → (rest ≡ refused n place → X) → X
unfolding ◌>>◌
then_refused (Ok u) rest n place X e f g = g e
then_refused {A} (Err why) rest n place X e f g =
    let same : why.number ≡ n = cc in
    let here : why.place ≡ place = cc in
    f (ap₂ refused same here)

module _ (width : ℕ) (s : List ℕ) (test : Placed Entry → Checked (Unit {0})) (n place bound : ℕ)
    (within : (entry : Placed Entry) → entry.place ≤ length s → LettersIn s entry.what → test entry ≡ refused n place → place ≤ bound) where
  all_within : (entries : List (Placed Entry)) (at : ℕ) → at ≤ length s → Stand (length s) (entry_step width s) at entries
      → all_pass test entries ≡ refused n place → place ≤ bound
  unfolding all_pass
  all_within [] at h st e = let z : ◌≡◌ {A = ℕ} 0 1 = cc in absurd (omega arith)
  all_within (entry ∷ entries) at h st e =
      let a = subst (AtPlace s at) st.1 (entry_at_lem width s at) in
      let g : GoesOn (length s) at (met entry st.0) = subst (GoesOn (length s) at) st.1 (entry_goes width s at) in
      then_refused (test entry) (all_pass test entries) n place (place ≤ bound) e
      (λ bad. within entry (omega arith) a.1 bad)
      (λ later. all_within entries st.0 g.1 st.2 later)

letters_within : (entries : List (Placed Entry)) (letters : List ℕ) (at n place : ℕ) → letters_named entries at letters ≡ refused n place
    → place ≤ at + length letters
unfolding letters_named
letters_within entries [] at n place e = let z : ◌≡◌ {A = ℕ} 0 1 = cc in absurd (omega arith)
letters_within entries (letter ∷ letters) at n place e =
    by_test (is_some (phrase_of letter entries))
    (λ h. let r = letters_within entries letters (at + 1) n place (sym (if_true _ _ _ h) ∙ e) in omega arith)
    (λ h. let q = sym (if_false (is_some (phrase_of letter entries)) (letters_named entries (at + 1) letters) (refused 14 at) h) ∙ e in let same = same_place _ _ at place q in omega arith)

order_within : (s : List ℕ) (entries : List (Placed Entry)) (entry : Placed Entry) (n place : ℕ) → entry.place ≤ length s
    → (what : Entry) → LettersIn s what → letters_hold entries entry.place what ≡ refused n place → place ≤ length s + length s + 3
unfolding letters_hold
order_within s entries entry n place h (start value) l e = let z : ◌≡◌ {A = ℕ} 0 1 = cc in absurd (omega arith)
order_within s entries entry n place h (stop value) l e = let z : ◌≡◌ {A = ℕ} 0 1 = cc in absurd (omega arith)
order_within s entries entry n place h (phrase letter from to) l e = let z : ◌≡◌ {A = ℕ} 0 1 = cc in absurd (omega arith)
order_within s entries entry n place h (order letters) l e = let r = letters_within entries letters (entry.place + 3) n place e in omega arith

points_within : (width : ℕ) (s : List ℕ) (entries : List (Placed Entry)) (address point : ℕ → Bool) (n place : ℕ)
    → Stand (length s) (entry_step width s) 0 entries → points_hold address point entries ≡ refused n place → place ≤ length s
unfolding points_hold
points_within width s entries address point n place st e =
    all_within width s _ n place (length s)
    (λ entry h l bad. let a = subst (RefusedAt entry.place) bad (if_all (RefusedAt entry.place) _ _ _ (λ i. tt) (λ i. refl)) in omega arith)
    entries 0 (omega arith) st e

letters_refused_within : (width : ℕ) (s : List ℕ) (entries : List (Placed Entry)) (n place : ℕ)
    → Stand (length s) (entry_step width s) 0 entries → order_holds entries ≡ refused n place → place ≤ length s + length s + 3
unfolding order_holds
letters_refused_within width s entries n place st e =
    all_within width s _ n place (length s + length s + 3)
    (λ entry h l bad. order_within s entries entry n place h entry.what l bad)
    entries 0 (omega arith) st e

rules_within : (phrases : Bool) (items : List (Placed (Item Event))) (size : ℕ) (s : List ℕ) (entries : List (Placed Entry)) (n place : ℕ)
    → Stand (length s) (entry_step (point_width phrases) s) 0 entries → points_of phrases items size entries ≡ refused n place
    → place ≤ length s + length s + 3
unfolding points_of
rules_within true items size s entries n place st e =
    then_refused _ (order_holds entries) n place (place ≤ length s + length s + 3) e
    (λ bad. let r = points_within 1 s entries (is_address items size) (is_position entries) n place st bad in omega arith)
    (λ bad. letters_refused_within 1 s entries n place st bad)
rules_within false items size s entries n place st e =
    let r = points_within 4 s entries (is_address items size) (is_address items size) n place st e in
    omega arith

pub points_refused_within : (phrases : Bool) (items : List (Placed (Item Event))) (size : ℕ) (s : List ℕ) (n place : ℕ)
    → is_fine (seek_of (point_width phrases) s) ≡ true → points_of phrases items size (found (seek_of (point_width phrases) s)) ≡ refused n place
    → place ≤ length s + length s + 3
points_refused_within phrases items size s n place ok e =
    rules_within phrases items size s (found (seek_of (point_width phrases) s)) n place (standing_starts phrases s ok).stands e
