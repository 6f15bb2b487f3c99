-- The entries of a seek body of good form stand in it one after the other, each in order after those before it, no tag comes twice, and an
-- order list comes last. This is what every walk over them goes by.
use Prim.Native.Nat.{ℕ, ◌+◌, ◌-◌, ◌<◌, ◌≤◌}
use mathlib.Core.List.{List, [], ◌∷◌}
use mathlib.Core.Bool.{Bool, true, false}
use Rattle.std.specs.Prelude.{Option, None, Ok, Some}
use mathlib.Core.Path.{◌≡◌, refl, sym, ◌∙◌, ap, subst}
use lib.ListN.{length}
use native.Mathlib.Omega.{arith}
use borrow.Author.Tests.{eq-eqb}
use Rattle.model.specs.Words.{◌or◌, ◌≡?◌, any, ◌or_else◌, first_said, Placed, Step.met, walk_to, in_turn, refused}
use Rattle.model.specs.Bytes.{part}
use Rattle.model.specs.Item.{is_fine, found}
use Rattle.model.specs.Seek.{Entry, Entry.start, Entry.stop, Entry.phrase, Entry.order, tag, rank, in_order, entry_of, entry_step, seek_of}
use Rattle.model.specs.Track.{point_width}
use Rattle.model.specs.declared.Read.{Read}
use Rattle.model.specs.declared.SeekEntry.{SeekEntry}
use Rattle.model.specs.declared.SeekEntry.TheVariants.{Start, Stop, Phrase, Order}
use Rattle.model.proofs.Tests.{by_test, if_true, if_false, first_true}
use Rattle.model.proofs.Walks.{GoesOn, Stand, Pass, stand_first, stand_never_stuck, stand_over, stand_iff, fine_found}
use Rattle.seek.specs.Next.{next_at, may_end, is_known, KnownAt}
use Rattle.seek.proofs.LastList.{known_room}
use Rattle.seek.proofs.Ordering.{in_order_twice, in_order_late}
use Rattle.seek.proofs.Ahead.{EntryAhead, FoundAhead, next_ahead, placed, step_of, next_steps, entry_goes}

abbrev pub Entries : Type 0
Entries = List (Placed Entry)

abbrev pub all_entries : Bool → List ℕ → List (Placed Entry)
all_entries phrases s = found (seek_of (point_width phrases) s)

-- from a place on these are left, after those
pub record Standing (phrases : Bool) (s : List ℕ) (at : ℕ) (before rest : List (Placed Entry)) : Type 0 where
  pub stands : Stand (length s) (entry_step (point_width phrases) s) at rest
  pub passes : Pass in_order before rest
  pub within : at ≤ length s

in_turn_lem : (width : ℕ) (s : List ℕ) (entries : Entries) → seek_of width s ≡ Ok entries
    → in_turn in_order [] (walk_to 12 (length s) (entry_step width s) 0) ≡ Ok entries
unfolding seek_of
in_turn_lem width s entries e =
    by_test (length s ≡? 0)
    (λ h. let q = sym (if_true _ _ _ h) ∙ e in let z : ◌≡◌ {A = ℕ} 0 1 = cc in absurd (omega arith))
    (λ h. sym (if_false _ _ _ h) ∙ e)

pub standing_starts : (phrases : Bool) (s : List ℕ) → is_fine (seek_of (point_width phrases) s) ≡ true → Standing phrases s 0 [] (all_entries phrases s)
standing_starts phrases s h =
    let entries = all_entries phrases s in
    let e = in_turn_lem (point_width phrases) s entries (fine_found (seek_of (point_width phrases) s) h) in
    let b = (stand_iff 12 (length s) (entry_step (point_width phrases) s) in_order (λ at i. entry_goes (point_width phrases) s at) 0 entries (omega arith)).0 e in
    record { stands = b.0; passes = b.1; within = omega arith }

module _ (phrases : Bool) (s : List ℕ) (at : ℕ) (before rest : Entries) (st : Standing phrases s at before rest) where
  standing_ends : length s ≤ at → rest ≡ []
  standing_ends past = stand_over (length s) (entry_step (point_width phrases) s) at rest st.stands (entry_goes (point_width phrases) s at) past

-- the entry read at a place is the first of those left
record Turn (phrases : Bool) (s : List ℕ) (at : ℕ) (before rest : List (Placed Entry)) (read : Read SeekEntry) : Type 0 where
  pub more : List (Placed Entry)
  pub splits : rest ≡ placed s at read.what ∷ more
  pub stand : Standing phrases s read.next (placed s at read.what ∷ before) more
  pub ahead : EntryAhead at (length s) read
  pub nears : length s - read.next < length s - at

module _ (phrases : Bool) (s : List ℕ) (at : ℕ) (before rest : Entries) (st : Standing phrases s at before rest) (here : at < length s) where
  -- one is read there
  standing_read : {X : Type 0} → ((read : Read SeekEntry) → Some read ≡ next_at (point_width phrases) s at → X) → X
  unfolding step_of
  standing_read {X} f = go (next_at (point_width phrases) s at) refl
    where
      go : (found : Option (Read SeekEntry)) → found ≡ next_at (point_width phrases) s at → X
      go (Some read) is = f read is
      go None is =
          absurd (stand_never_stuck (length s) (entry_step (point_width phrases) s) at rest st.stands here _ _
          (sym (next_steps (point_width phrases) s at) ∙ ap (step_of s at) (sym is)))

  standing_turn : (read : Read SeekEntry) → Some read ≡ next_at (point_width phrases) s at → Turn phrases s at before rest read
  unfolding step_of
  standing_turn read is =
      let e : entry_step (point_width phrases) s at ≡ met (placed s at read.what) read.next = sym (next_steps (point_width phrases) s at) ∙ ap (step_of s at) (sym is) in
      let f = stand_first (length s) (entry_step (point_width phrases) s) at rest st.stands here (placed s at read.what) read.next e in
      let a : EntryAhead at (length s) read = subst (FoundAhead at (length s)) (sym is) (next_ahead (point_width phrases) s at) in
      let p : Pass in_order before (placed s at read.what ∷ f.0) = subst (Pass in_order before) f.1 st.passes in
      record {
        more = f.0;
        splits = f.1;
        stand = record { stands = f.2; passes = p.1; within = a.1 };
        ahead = a;
        nears = omega arith;
      }

-- NO TAG COMES TWICE

-- no entry of a list has a tag
abbrev pub Without : ℕ → List (Placed Entry) → Type 0
Without t [] = Unit
Without t (entry ∷ entries) = (tag entry.what ≡ t → ⊥) × Without t entries

pub later : (a b : Bool) → b ≡ true → (a or b) ≡ true
unfolding ◌or◌
later true b h = refl
later false b h = h

once : (t : ℕ) (before rest : Entries) → any (λ earlier. tag earlier.what ≡? t) before ≡ true → Pass in_order before rest → Without t rest
unfolding any
once t before [] h p = tt
once t before (entry ∷ rest) h p = (
  λ e.
      let q = sym (in_order_twice before entry (ap (λ (n : ℕ). any (λ earlier. tag earlier.what ≡? n) before) e ∙ h)) ∙ p.0 in
      let z : ◌≡◌ {A = ℕ} 0 1 = cc in
      omega arith,
  once t (entry ∷ before) rest (later _ _ h) p.1,
)

no_more : (phrases : Bool) (s : List ℕ) (at : ℕ) (entry : Placed Entry) (before rest : Entries) → Standing phrases s at (entry ∷ before) rest
    → Without (tag entry.what) rest
unfolding any
no_more phrases s at entry before rest st =
    once (tag entry.what) (entry ∷ before) rest (first_true _ _ (eq-eqb (tag entry.what) (tag entry.what) refl)) st.passes

-- what only entries of a tag say, no entry of such a list does
pub silent : {A : Type 0} (says : Placed Entry → Option A) (t : ℕ) → ((entry : Placed Entry) → (tag entry.what ≡ t → ⊥) → says entry ≡ None)
    → (entries : Entries) → Without t entries → first_said says entries ≡ None
unfolding first_said ◌or_else◌
silent says t others [] w = refl
silent says t others (entry ∷ entries) w = rw (others entry w.0) (silent says t others entries w.1)

-- THE ORDER LIST COMES LAST: any other entry is before it in rank, or has its tag

after_order : (before : Entries) (at : ℕ) (letters : List ℕ) (place : ℕ) (entry : Entry)
    → in_order (record { place = at; what = order letters } ∷ before) (record { place = place; what = entry }) ≡ refused 12 place
unfolding any rank tag
after_order before at letters place (start value) = in_order_late _ _ (first_true _ _ refl)
after_order before at letters place (stop value) = in_order_late _ _ (first_true _ _ refl)
after_order before at letters place (phrase letter from to) = in_order_late _ _ (first_true _ _ refl)
after_order before at letters place (order more) = in_order_twice _ _ (first_true _ _ refl)

none_after_order : (before : Entries) (at : ℕ) (letters : List ℕ) (rest : Entries)
    → Pass in_order (record { place = at; what = order letters } ∷ before) rest → rest ≡ []
none_after_order before at letters [] p = refl
none_after_order before at letters (entry ∷ rest) p =
    let q = sym (after_order before at letters entry.place entry.what) ∙ p.0 in
    let z : ◌≡◌ {A = ℕ} 0 1 = cc in
    absurd (omega arith)

may_end_there : (phrases : Bool) (s : List ℕ) (at : ℕ) (before more : Entries) (entry : SeekEntry) (next : ℕ)
    → Standing phrases s next (placed s at entry ∷ before) more → may_end (length s) entry next ≡ true
unfolding may_end entry_of
may_end_there phrases s at before more (Start value) next st = refl
may_end_there phrases s at before more (Stop value) next st = refl
may_end_there phrases s at before more (Phrase letter from to) next st = refl
may_end_there phrases s at before more (Order letters) next st =
    let none_left = none_after_order before at (part s (at + 3) letters) more st.passes in
    eq-eqb next (length s) (subst (Stand (length s) (entry_step (point_width phrases) s) next) none_left st.stands)

-- A WALK over the entries, with something that holds of those left
pub record Walking (P : List (Placed Entry) → Type 0) (phrases : Bool) (s : List ℕ) (at : ℕ) : Type 0 where
  pub before : List (Placed Entry)
  pub rest : List (Placed Entry)
  pub standing : Standing phrases s at before rest
  pub holds : P rest

pub walk_starts : (P : Entries → Type 0) (phrases : Bool) (s : List ℕ) → is_fine (seek_of (point_width phrases) s) ≡ true → P (all_entries phrases s)
    → Walking P phrases s 0
walk_starts P phrases s h p = record { before = []; rest = all_entries phrases s; standing = standing_starts phrases s h; holds = p }

-- what is known of what is read at a place, and of the entries after it
pub record Met (s : List ℕ) (at : ℕ) (read : Read SeekEntry) (more : List (Placed Entry)) : Type 0 where
  pub ahead : EntryAhead at (length s) read
  pub last : Without (tag (entry_of s at read.what)) more

module _ (P : Entries → Type 0) (phrases : Bool) (s : List ℕ) (at : ℕ) (w : Walking P phrases s at) where
  pub walk_ends : length s ≤ at → P []
  walk_ends past = subst P (standing_ends phrases s at w.before w.rest w.standing past) w.holds

  pub walk_known : at < length s → KnownAt (point_width phrases) s at
  unfolding is_known
  walk_known here =
      standing_read phrases s at w.before w.rest w.standing here
      (λ read is.
      let t = standing_turn phrases s at w.before w.rest w.standing here read is in
      let k = subst (λ (found : Option (Read SeekEntry)). is_known (length s) found ≡ true) is (may_end_there phrases s at w.before t.more read.what read.next t.stand) in
      record { room = known_room (point_width phrases) s at k; known = k })

  module _ (read : Read SeekEntry) (here : at < length s) (is : Some read ≡ next_at (point_width phrases) s at) where
    turn : Turn phrases s at w.before w.rest read
    turn = standing_turn phrases s at w.before w.rest w.standing here read is

    meets : Met s at read turn.more
    meets = let t = turn in record { ahead = t.ahead; last = no_more phrases s read.next (placed s at read.what) w.before t.more t.stand }

    pub walk_nears : length s - read.next < length s - at
    walk_nears = turn.nears

    pub walk_meets : {X : Type 0} → ((more : Entries) → Met s at read more → P (placed s at read.what ∷ more) → X) → X
    walk_meets f = f turn.more meets (subst P turn.splits w.holds)

    pub walk_turns : (Q : Entries → Type 0) → ((more : Entries) → Met s at read more → P (placed s at read.what ∷ more) → Q more) → Walking Q phrases s read.next
    walk_turns Q f =
        let t = turn in
        record { before = placed s at read.what ∷ w.before; rest = t.more; standing = t.stand; holds = f t.more meets (subst P t.splits w.holds) }

-- what holds of no entries, and of one entry more wherever it holds of those after it, holds of them all
pub walk_all : (P : Entries → Type 0) (phrases : Bool) (s : List ℕ) → P []
    → ((at : ℕ) (read : Read SeekEntry) (more : Entries) → Met s at read more → P more → P (placed s at read.what ∷ more))
    → is_fine (seek_of (point_width phrases) s) ≡ true → P (all_entries phrases s)
walk_all P phrases s none_left one_more h = go (all_entries phrases s) 0 [] (standing_starts phrases s h)
  where
    go : (rest : Entries) (at : ℕ) (before : Entries) → Standing phrases s at before rest → P rest
    go [] at before st = none_left
    go (first ∷ rest) at before st =
        let on = subst (GoesOn (length s) at) st.stands.1 (entry_goes (point_width phrases) s at) in
        let here : at < length s = omega arith in
        standing_read phrases s at before (first ∷ rest) st here
        (λ read is.
        let t = standing_turn phrases s at before (first ∷ rest) st here read is in
        let same : first ≡ placed s at read.what = cc t.splits in
        let left : t.more ≡ rest = cc t.splits in
        let last = subst (Without (tag (entry_of s at read.what))) left (no_more phrases s read.next (placed s at read.what) before t.more t.stand) in
        let after : Standing phrases s st.stands.0 (first ∷ before) rest = record { stands = st.stands.2; passes = st.passes.1; within = on.1 } in
        subst (λ (e : Placed Entry). P (e ∷ rest)) (sym same)
        (one_more at read rest (record { ahead = t.ahead; last = last }) (go rest st.stands.0 (first ∷ before) after)))
