-- The rules of points and phrases: what the code tests of a number and of an entry, and the invariant of `check_entries`' loop, with what
-- each way out of it and each turn makes of it.
use Prim.Native.Nat.{ℕ, ◌<◌, ◌≤◌}
use mathlib.Core.List.{List, [], ◌∷◌}
use mathlib.Core.Bool.{Bool, true, false, not}
use mathlib.Core.Path.{◌≡◌, refl, sym, ◌∙◌, ap, ap₂}
use lib.ListN.{length}
use native.Mathlib.Omega.{arith}
use borrow.Author.Tests.{le-leb, lt-leb, le-ltb, lt-ltb, ltb-true, ltb-false}
use Rattle.model.specs.Words.{when◌then◌else◌, ◌and◌, ◌<?◌, ◌≤?◌, ◌otherwise◌, ◌>>◌, Placed, Checked, passed, all_pass, refused}
use Rattle.std.specs.Prelude.{Ok, Err, Some}
use Rattle.model.specs.Item.{Item, is_fine, check_answer}
use Rattle.model.specs.Seek.{Entry, entry_of, seek_of, start_point, order_list, points_said}
use Rattle.model.specs.Points.{is_address, is_span, point_holds, points_hold, is_position, order_holds}
use Rattle.model.specs.Track.{point_width, points_of}
use Rattle.model.specs.declared.Event.{Event}
use Rattle.model.specs.declared.Points.{Points}
use Rattle.model.specs.declared.Refusal.{Refusal}
use Rattle.model.specs.declared.Read.{Read}
use Rattle.model.specs.declared.SeekEntry.{SeekEntry}
use Rattle.model.specs.declared.SeekEntry.TheVariants.{Start, Stop, Phrase, Order}
use Rattle.model.proofs.Tests.{by_test, if_true, if_false, and_on, first_false, not_on, not_off, flag_on, flag_off}
use Rattle.seek.specs.Next.{next_at}
use Rattle.seek.specs.Rules.{is_point, entry_holds, entries_hold}
use Rattle.seek.proofs.Ahead.{placed}
use Rattle.seek.proofs.Standing.{Entries, all_entries, Walking, walk_starts, walk_ends, walk_meets, walk_known, walk_nears, walk_turns}

abbrev Items : Type 0
Items = List (Placed (Item Event))

-- NUMBERS

pub not_over : (a b : ℕ) → (b ≤? a) ≡ not (a <? b)
not_over a b =
    by_test (a <? b) (λ h. let k = ltb-true a b h in rw h (lt-leb b a k)) (λ h. let k = ltb-false a b h in rw h (le-leb b a k))

module _ (phrases : Bool) (items : Items) (size letters value : ℕ) (z : Bool) where
  pub point_position : phrases ≡ true → z ≡ not (letters <? value) → z ≡ is_point phrases items size letters value
  unfolding is_point
  point_position p h = rw p h

  pub point_address : phrases ≡ false → z ≡ is_address items size value → z ≡ is_point phrases items size letters value
  unfolding is_point
  point_address p h = rw p h

pub ruleset numbered = (not_over, point_position, point_address)

-- a span, whose stop is looked for from its start on

and_last_true : (a b : Bool) → b ≡ true → a ≡ (a and b)
unfolding ◌and◌
and_last_true true b h = sym h
and_last_true false b h = refl

and_last_false : (a b c : Bool) → c ≡ false → false ≡ (a and b and c)
unfolding ◌and◌
and_last_false true true c h = sym h
and_last_false true false c h = refl
and_last_false false b c h = refl

module _ (items : Items) (size from to : ℕ) where
  pub span_backward : to < from → false ≡ is_span (is_address items size) from to
  unfolding is_span
  span_backward h = and_last_false _ _ _ (not_off _ (lt-ltb to from h))

  pub span_unstarted : is_address items size from ≡ false → false ≡ is_span (is_address items size) from to
  unfolding is_span
  span_unstarted h = sym (first_false _ _ h)

  pub span_onward : (z : Bool) → from ≤ to → is_address items size from ≡ true → z ≡ is_address items size to → z ≡ is_span (is_address items size) from to
  unfolding is_span
  span_onward z h started e = and_on _ _ _ started (e ∙ and_last_true _ _ (not_on _ (le-ltb to from h)))

pub ruleset spans = (span_backward, span_unstarted, span_onward, flag_on, flag_off)

-- ENTRIES

module _ (address point : ℕ → Bool) (started : ℕ) where
  pub holds_told : (entry told : SeekEntry) (z : Bool) → entry ≡ told → z ≡ entry_holds address point started told → z ≡ entry_holds address point started entry
  holds_told entry told z e h = rw e h

  holds_read : (s : List ℕ) (at : ℕ) (entry : SeekEntry) → point_holds address point started (entry_of s at entry) ≡ entry_holds address point started entry
  unfolding point_holds entry_of entry_holds
  holds_read s at (Start value) = refl
  holds_read s at (Stop value) = refl
  holds_read s at (Phrase letter from to) = refl
  holds_read s at (Order letters) = refl

module _ {A : Type 0} (test : A → Checked (Unit {0})) (one : A) (others : List A) where
  all_refuse : (number place : ℕ) → test one ≡ refused number place → all_pass test (one ∷ others) ≡ refused number place
  unfolding all_pass ◌>>◌
  all_refuse number place h = rw h refl

  pub all_go_on : test one ≡ passed → all_pass test (one ∷ others) ≡ all_pass test others
  unfolding all_pass ◌>>◌
  all_go_on h = rw h refl

-- whether an entry keeps the rules in the light of them all; and as the code tests it, in the light of what they say
abbrev kept : Bool → Items → ℕ → Entries → Entry → Bool
kept phrases items size all entry =
    point_holds (is_address items size) (is_point phrases items size (length (order_list all otherwise []))) (start_point all otherwise 0) entry

abbrev pub tested : Bool → List (Placed (Item Event)) → ℕ → Points → SeekEntry → Bool
tested phrases items size points entry = entry_holds (is_address items size) (is_point phrases items size points.letters) points.start entry

abbrev rule : Bool → Items → ℕ → Entries → Placed Entry → Checked (Unit {0})
rule phrases items size all entry = when kept phrases items size all entry.what then passed else refused 13 entry.place

abbrev pub Holding : Bool → List (Placed (Item Event)) → ℕ → List ℕ → ℕ → Type 0
Holding phrases items size s at =
    Walking (λ rest. check_answer (all_pass (rule phrases items size (all_entries phrases s)) rest) ≡ check_answer (entries_hold phrases items size (all_entries phrases s))) phrases s at

module _ (phrases : Bool) (items : Items) (size : ℕ) (s : List ℕ) where
  pub holding_starts : is_fine (seek_of (point_width phrases) s) ≡ true → Holding phrases items size s 0
  unfolding entries_hold points_hold
  holding_starts h = walk_starts _ phrases s h refl

  module _ (at : ℕ) (w : Holding phrases items size s at) where
    pub holding_ends : length s ≤ at → Ok tt ≡ check_answer (entries_hold phrases items size (all_entries phrases s))
    unfolding all_pass check_answer
    holding_ends past = walk_ends _ phrases s at w past

    module _ (points : Points) (read : Read SeekEntry) (said : points ≡ points_said (all_entries phrases s)) (here : at < length s) (is : Some read ≡ next_at (point_width phrases) s at) where
      judged : (t : Bool) → tested phrases items size points read.what ≡ t → kept phrases items size (all_entries phrases s) (entry_of s at read.what) ≡ t
      unfolding points_said
      judged t h =
          holds_read _ _ _ s at read.what
          ∙ ap₂ (λ (n k : ℕ). entry_holds (is_address items size) (is_point phrases items size n) k read.what) (sym (ap (λ (p : Points). p.letters) said)) (sym (ap (λ (p : Points). p.start) said))
          ∙ h

      pub holding_refuses : tested phrases items size points read.what ≡ false
          → refused 13 at ≡ check_answer (entries_hold phrases items size (all_entries phrases s))
      unfolding check_answer
      holding_refuses h =
          walk_meets _ phrases s at w read here is
          (λ rest m same. ap check_answer (sym (all_refuse (rule phrases items size (all_entries phrases s)) (placed s at read.what) rest 13 at (if_false _ _ _ (judged false h)))) ∙ same)

      pub holding_turns : tested phrases items size points read.what ≡ true → Holding phrases items size s read.next
      holding_turns h =
          walk_turns _ phrases s at w read here is _
          (λ rest m same. ap check_answer (sym (all_go_on (rule phrases items size (all_entries phrases s)) (placed s at read.what) rest (if_true _ _ _ (judged true h)))) ∙ same)

pub ruleset holding = (holding_starts, holding_ends, holding_refuses, holding_turns, walk_known, walk_nears, flag_on, flag_off)

-- BOTH RULES, one after the other

passes_on : (one other : Checked (Unit {0})) → check_answer one ≡ Ok tt → check_answer (one >> other) ≡ check_answer other
unfolding check_answer ◌>>◌
passes_on (Ok u) other h = refl
passes_on (Err why) other h = let z : ◌≡◌ {A = ℕ} 0 1 = cc in absurd (omega arith)

refuses_all : (one other : Checked (Unit {0})) (why : Refusal) → check_answer one ≡ Err why → check_answer (one >> other) ≡ Err why
unfolding check_answer ◌>>◌
refuses_all (Ok u) other why h = let z : ◌≡◌ {A = ℕ} 0 1 = cc in absurd (omega arith)
refuses_all (Err told) other why h = h

module _ (phrases : Bool) (items : Items) (size : ℕ) (entries : Entries) where
  in_stream : phrases ≡ false → entries_hold phrases items size entries ≡ points_of phrases items size entries
  unfolding entries_hold is_point points_of
  in_stream p = rw p refl

  with_phrases : phrases ≡ true → (entries_hold phrases items size entries >> order_holds entries) ≡ points_of phrases items size entries
  unfolding entries_hold is_point is_position points_of
  with_phrases p = rw p refl

  module _ (a : Checked (Unit {0})) (is : a ≡ check_answer (entries_hold phrases items size entries)) where
    pub rules_stream : phrases ≡ false → a ≡ Ok tt → Ok tt ≡ check_answer (points_of phrases items size entries)
    rules_stream p e = sym e ∙ is ∙ ap check_answer (in_stream p)

    pub rules_letters : (z : Checked (Unit {0})) → phrases ≡ true → a ≡ Ok tt → z ≡ check_answer (order_holds entries) → z ≡ check_answer (points_of phrases items size entries)
    rules_letters z p e h = h ∙ sym (passes_on (entries_hold phrases items size entries) (order_holds entries) (sym is ∙ e)) ∙ ap check_answer (with_phrases p)

    pub rules_refuse : (why : Refusal) → a ≡ Err why → Err why ≡ check_answer (points_of phrases items size entries)
    rules_refuse why e =
        by_test phrases
        (λ p. sym (refuses_all (entries_hold phrases items size entries) (order_holds entries) why (sym is ∙ e)) ∙ ap check_answer (with_phrases p))
        (λ p. sym e ∙ is ∙ ap check_answer (in_stream p))

pub ruleset rules = (rules_stream, rules_letters, rules_refuse)
