-- Demand 3 and the table of refusals: flattening answers the plain form, or is refused exactly where the file is (1 to 14, 20 to 23), where the row
-- names no readable track (16), where a phrase track has no order list (17), and where the plain form is longer than a body can be or than
-- the room (18).
use Prim.Native.Nat.{ℕ, ◌<◌, ◌≤◌}
use mathlib.Core.Bool.{Bool, true, false}
use mathlib.Core.List.{List}
use mathlib.Core.Logic.{◌⊎◌, inl, inr}
use Rattle.std.specs.Prelude.{Option, None, Some, Ok, Err}
use mathlib.Core.Path.{◌≡◌, refl, sym, ◌∙◌, ap₂}
use lib.ListN.{length}
use native.Mathlib.Omega.{arith}
use borrow.Author.Tests.{le-ltb, lt-ltb, ltb-true, ltb-false}
use Rattle.model.specs.Words.{when◌then◌else◌, ◌or◌, ◌<?◌, Checked, ◌>>=◌, ◌>>◌, passed, Placed, refused}
use Rattle.model.specs.Item.{Item}
use Rattle.model.specs.Seek.{Entry, order_list}
use Rattle.model.specs.Play.{Section}
use Rattle.model.specs.Track.{Track}
use Rattle.model.specs.File.{File, file_of, track_at}
use Rattle.model.specs.Order.{phrase_order, order_of, play_order}
use Rattle.model.specs.Answer.{Performance, named, ordered, performed, plain_of, flatten_of}
use Rattle.model.specs.declared.Event.{Event}
use Rattle.model.proofs.Outcomes.{bind_fine}
use Rattle.model.proofs.Tests.{by_test, first_true, second_true}
use Rattle.model.proofs.Walks.{same_number, same_place}
use Rattle.reading.proofs.FileRefusals.{Read, file_refused}
use Rattle.reading.proofs.Performed.{named_fine}

-- a plain form that is longer than a body can be, or than the room
abbrev pub TooLong : ℕ → Performance → Type 0
TooLong room performance = (65536 < length (plain_of performance)) ⊎ (room < length (plain_of performance))

pub data Refusal (buffer : List ℕ) (n row room number place : ℕ) : Type 0 where
  unread : file_of buffer n ≡ refused number place → Read number → Refusal buffer n row room number place
  unnamed : (file : File) → file_of buffer n ≡ Ok file → track_at file row ≡ None → number ≡ 16 → place ≡ 0 → Refusal buffer n row room number place
  unordered : (file : File) (track : Track) → file_of buffer n ≡ Ok file → track_at file row ≡ Some track → track.phrases ≡ true
      → order_list track.entries ≡ None → number ≡ 17 → place ≡ track.header → Refusal buffer n row room number place
  overlong : (performance : Performance) → performed buffer n row ≡ Ok performance → TooLong room performance → number ≡ 18
      → place ≡ performance.track.header → Refusal buffer n row room number place

-- one check after the other, by its outcome

bind_was : {A B : Type 0} (c : Checked A) (rest : A → Checked B) (number place : ℕ) → (c >>= rest) ≡ refused number place
    → (c ≡ refused number place) ⊎ ((a : A) × (c ≡ Ok a) × (rest a ≡ refused number place))
unfolding ◌>>=◌
bind_was (Ok a) rest number place e = inr (a, refl, e)
bind_was {A} (Err why) rest number place e =
    inl (ap₂ (λ (n p : ℕ). refused {A = A} n p) (same_number why.number why.place number place e) (same_place why.number why.place number place e))

test_was : {A : Type 0} (b : Bool) (m p : ℕ) (a : A) (number place : ℕ) → ((when b then refused m p else passed) >> Ok a) ≡ refused number place
    → (b ≡ true) × (number ≡ m) × (place ≡ p)
unfolding when◌then◌else◌ ◌>>◌
test_was true m p a number place e = (refl, sym (same_number m p number place e), sym (same_place m p number place e))
test_was false m p a number place e = let z : ◌≡◌ {A = ℕ} 0 1 = cc in absurd (omega arith)

test_passed : (a b : Bool) (m p : ℕ) (bytes other : List ℕ) → ((when a or b then refused m p else passed) >> Ok bytes) ≡ Ok other
    → (a ≡ false) × (b ≡ false) × (bytes ≡ other)
unfolding when◌then◌else◌ ◌or◌ ◌>>◌
test_passed true b m p bytes other e = let z : ◌≡◌ {A = ℕ} 0 1 = cc in absurd (omega arith)
test_passed false true m p bytes other e = let z : ◌≡◌ {A = ℕ} 0 1 = cc in absurd (omega arith)
test_passed false false m p bytes other e = (refl, refl, cc)

named_was : (o : Option Track) (number place : ℕ) → named o ≡ refused number place → (o ≡ None) × (number ≡ 16) × (place ≡ 0)
unfolding named
named_was None number place e = (refl, sym (same_number 16 0 number place e), sym (same_place 16 0 number place e))
named_was (Some track) number place e = let z : ◌≡◌ {A = ℕ} 0 1 = cc in absurd (omega arith)

ordered_was : (track : Track) (o : Option (List Section)) (number place : ℕ) → ordered track o ≡ refused number place
    → (o ≡ None) × (number ≡ 17) × (place ≡ track.header)
unfolding ordered
ordered_was track None number place e = (refl, sym (same_number 17 track.header number place e), sym (same_place 17 track.header number place e))
ordered_was track (Some sections) number place e = let z : ◌≡◌ {A = ℕ} 0 1 = cc in absurd (omega arith)

either : (a b : Bool) → (a or b) ≡ true → (a ≡ true) ⊎ (b ≡ true)
unfolding ◌or◌
either true b e = inl refl
either false b e = inr e

-- only a phrase track without an order list has no play order

letters_none : (items : List (Placed (Item Event))) (entries : List (Placed Entry)) (letters : Option (List ℕ)) → phrase_order items entries letters ≡ None
    → letters ≡ None
unfolding phrase_order
letters_none items entries None e = refl
letters_none items entries (Some letters) e = let z : ◌≡◌ {A = ℕ} 0 1 = cc in absurd (omega arith)

order_none : (phrases : Bool) (items : List (Placed (Item Event))) (entries : List (Placed Entry)) → order_of phrases items entries ≡ None
    → (phrases ≡ true) × (order_list entries ≡ None)
unfolding order_of
order_none true items entries e = (refl, letters_none items entries (order_list entries) e)
order_none false items entries e = let z : ◌≡◌ {A = ℕ} 0 1 = cc in absurd (omega arith)

no_play_order : (track : Track) → play_order track ≡ None → (track.phrases ≡ true) × (order_list track.entries ≡ None)
unfolding play_order
no_play_order track e = order_none track.phrases track.items track.entries e

no_order : (track : Track) → track.phrases ≡ true → order_list track.entries ≡ None → play_order track ≡ None
unfolding play_order order_of phrase_order
no_order track phrases none-listed = rw (phrases, none-listed) refl

module _ (buffer : List ℕ) (n row room : ℕ) where
  -- FLATTENED to the plain form, where that fits
  pub flattened : (performance : Performance) → performed buffer n row ≡ Ok performance → length (plain_of performance) ≤ 65536
      → length (plain_of performance) ≤ room → flatten_of buffer n row room ≡ Ok (plain_of performance)
  unfolding flatten_of ◌>>=◌ ◌>>◌ ◌or◌ when◌then◌else◌
  flattened performance e short fits = rw e (simp le-ltb)

  pub flattened_only_so : (bytes : List ℕ) → flatten_of buffer n row room ≡ Ok bytes
      → (performance : Performance) × (performed buffer n row ≡ Ok performance) × (bytes ≡ plain_of performance)
      × (length bytes ≤ 65536) × (length bytes ≤ room)
  unfolding flatten_of
  flattened_only_so bytes e =
      let p = bind_fine _ _ bytes e in
      let t = test_passed (65536 <? length (plain_of p.0)) (room <? length (plain_of p.0)) 18 p.0.track.header (plain_of p.0) bytes p.2 in
      let same = t.2 in
      let short = ltb-false 65536 (length (plain_of p.0)) t.0 in
      let fits = ltb-false room (length (plain_of p.0)) t.1 in
      (p.0, p.1, sym same, rw (← same) short, rw (← same) fits)

  -- REFUSED in each of the ways, and in no other

  too_long : (performance : Performance) → TooLong room performance
      → ((65536 <? length (plain_of performance)) or (room <? length (plain_of performance))) ≡ true
  too_long performance (inl long) = first_true (65536 <? length (plain_of performance)) _ (lt-ltb 65536 (length (plain_of performance)) long)
  too_long performance (inr long) =
      let full = lt-ltb room (length (plain_of performance)) long in
      by_test (65536 <? length (plain_of performance)) (λ t. first_true (65536 <? length (plain_of performance)) _ t)
      (λ t. second_true (65536 <? length (plain_of performance)) _ t full)

  was_too_long : (performance : Performance) → ((65536 <? length (plain_of performance)) or (room <? length (plain_of performance))) ≡ true
      → TooLong room performance
  was_too_long performance e =
      elim (either (65536 <? length (plain_of performance)) (room <? length (plain_of performance)) e) [
        | inl long ↦ inl (ltb-true 65536 (length (plain_of performance)) long)
        | inr long ↦ inr (ltb-true room (length (plain_of performance)) long)
      ]

  refused_long : (performance : Performance) → performed buffer n row ≡ Ok performance → TooLong room performance
      → flatten_of buffer n row room ≡ refused 18 performance.track.header
  unfolding flatten_of ◌>>=◌ ◌>>◌ when◌then◌else◌
  refused_long performance e long = rw (e, too_long performance long) refl

  pub refused_so : (number place : ℕ) → Refusal buffer n row room number place → flatten_of buffer n row room ≡ refused number place
  unfolding flatten_of performed named ordered ◌>>=◌
  refused_so number place (unread e numbered) = rw e
  refused_so number place (unnamed file e t a b) = rw (e, t, a, b)
  refused_so number place (unordered file track e t p l a b) = rw (e, t, no_order track p l, a, b)
  refused_so number place (overlong performance e long a b) = refused_long performance e long ∙ ap₂ (λ (m p : ℕ). refused m p) (sym a) (sym b)

  not_performed : (number place : ℕ) → performed buffer n row ≡ refused number place → Refusal buffer n row room number place
  unfolding performed
  not_performed number place e =
      elim (bind_was (file_of buffer n) _ number place e) [
        | inl f ↦ unread f (file_refused buffer n number place f)
        | inr f ↦
            elim (bind_was (named (track_at f.0 row)) _ number place f.2) [
              | inl t ↦ let w = named_was (track_at f.0 row) number place t in unnamed f.0 f.1 w.0 w.1 w.2
              | inr t ↦
                  let w = ordered_was t.0 (play_order t.0) number place t.2 in
                  let o = no_play_order t.0 w.0 in
                  unordered f.0 t.0 f.1 (named_fine (track_at f.0 row) t.0 t.1) o.0 o.1 w.1 w.2
            ]
      ]

  pub refused_only_so : (number place : ℕ) → flatten_of buffer n row room ≡ refused number place → Refusal buffer n row room number place
  unfolding flatten_of
  refused_only_so number place e =
      elim (bind_was (performed buffer n row) _ number place e) [
        | inl f ↦ not_performed number place f
        | inr f ↦
            let w = test_was _ 18 f.0.track.header (plain_of f.0) number place f.2 in
            overlong f.0 f.1 (was_too_long f.0 w.0) w.1 w.2
      ]
