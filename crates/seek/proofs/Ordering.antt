-- One walk of a seek body for its form: the invariant of `check_form`'s loop, and what each way out of it and each turn makes of it.
-- What the code remembers of the entries met, the tags in a table of flags and the highest rank, decides as the definition does.
use Prim.Native.Nat.{ℕ, zero, suc, ◌+◌, ◌-◌, ◌<◌, ◌≤◌}
use mathlib.Core.List.{List, [], ◌∷◌}
use mathlib.Core.Bool.{Bool, true, false}
use mathlib.Core.Path.{◌≡◌, refl, sym, ◌∙◌, ap, subst}
use lib.ListN.{length, get_or, set, length-set, replicate, length-replicate}
use lib.Seq.{get_or-set_same, get_or-set_other}
use native.Mathlib.Omega.{arith}
use borrow.Author.Tests.{eq-eqb, ne_eqb, eqb-true, eqb-false, lt-ltb, le-ltb, ltb-false}
use Rattle.model.specs.Words.{when◌then◌else◌, ◌or◌, ◌<?◌, ◌≡?◌, any, Placed, Checked, passed, Step.met, walk_to, in_turn, refused}
use Rattle.std.specs.Prelude.{Ok, Option, Some, None}
use Rattle.model.specs.Item.{check_answer}
use Rattle.model.specs.Seek.{Entry, Entry.start, Entry.stop, Entry.phrase, Entry.order, is_letter, tag, rank, in_order, entry_of, entry_step, seek_of}
use Rattle.model.specs.Track.{point_width}
use Rattle.model.specs.declared.Read.{Read}
use Rattle.model.specs.declared.SeekEntry.{SeekEntry}
use Rattle.model.specs.declared.SeekEntry.TheVariants.{Start, Stop, Phrase, Order}
use Rattle.model.proofs.Tests.{by_test, if_true, if_false, is_on, is_off}
use Rattle.model.proofs.Walks.{Left, left_starts, left_ends, left_stuck, left_refused, left_next}
use Rattle.model.proofs.Answers.{answer_first}
use Rattle.seek.specs.Next.{next_at, rank_of, slot_of}
use Rattle.seek.proofs.Letters.{letter_least, letter_most}
use Rattle.seek.proofs.Ahead.{Sound, EntryAhead, FoundAhead, next_ahead, placed, step_of, next_steps}

-- SLOTS: one for each tag that an entry can have

unfoldable pub slot : Entry → ℕ
slot (start value) = 0
slot (stop value) = 1
slot (phrase letter from to) = letter
slot (order letters) = 2

-- a phrase has a letter
abbrev pub Known : Entry → Type 0
Known (start value) = Unit
Known (stop value) = Unit
Known (phrase letter from to) = is_letter letter ≡ true
Known (order letters) = Unit

tag_at : ℕ → ℕ
tag_at n = when n ≡? 0 then 0x7374 else when n ≡? 1 then 0x7370 else when n ≡? 2 then 0x534C else 0x5000 + n

slot_at : ℕ → ℕ
slot_at n = when n ≡? 0x7374 then 0 else when n ≡? 0x7370 then 1 else when n ≡? 0x534C then 2 else n - 0x5000

tag_is : (entry : Entry) → Known entry → tag entry ≡ tag_at (slot entry)
unfolding tag slot tag_at when◌then◌else◌
tag_is (start value) k = refl
tag_is (stop value) k = refl
tag_is (phrase letter from to) k =
    let l = letter_least letter k in
    let a : letter ≡ 0 → ⊥ = λ e. omega arith in
    let b : letter ≡ 1 → ⊥ = λ e. omega arith in
    let c : letter ≡ 2 → ⊥ = λ e. omega arith in
    simp ne_eqb
tag_is (order letters) k = refl

slot_is : (entry : Entry) → Known entry → slot entry ≡ slot_at (tag entry)
unfolding tag slot slot_at when◌then◌else◌
slot_is (start value) k = refl
slot_is (stop value) k = refl
slot_is (phrase letter from to) k =
    let l = letter_most letter k in
    let a : 0x5000 + letter ≡ 0x7374 → ⊥ = λ e. omega arith in
    let b : 0x5000 + letter ≡ 0x7370 → ⊥ = λ e. omega arith in
    let c : 0x5000 + letter ≡ 0x534C → ⊥ = λ e. omega arith in
    simp ne_eqb (omega arith)
slot_is (order letters) k = refl

same_slot : (one other : Entry) → Known one → Known other → (tag one ≡? tag other) ≡ (slot one ≡? slot other)
same_slot one other k l =
    by_test (slot one ≡? slot other)
    (λ h. eq-eqb _ _ (tag_is one k ∙ ap tag_at (eqb-true (slot one) (slot other) h) ∙ sym (tag_is other l)) ∙ sym h)
    (λ h. ne_eqb _ _ (λ e. eqb-false (slot one) (slot other) h (slot_is one k ∙ ap slot_at e ∙ sym (slot_is other l))) ∙ sym h)

-- a reader's answer and the entry that it stands for

module _ (s : List ℕ) (at : ℕ) where
  slot_read : (entry : SeekEntry) → slot (entry_of s at entry) ≡ slot_of entry
  unfolding entry_of slot slot_of
  slot_read (Start value) = refl
  slot_read (Stop value) = refl
  slot_read (Phrase letter from to) = refl
  slot_read (Order letters) = refl

  rank_read : (entry : SeekEntry) → rank (entry_of s at entry) ≡ rank_of entry
  unfolding entry_of rank rank_of
  rank_read (Start value) = refl
  rank_read (Stop value) = refl
  rank_read (Phrase letter from to) = refl
  rank_read (Order letters) = refl

  known_read : (end : ℕ) (entry : SeekEntry) → Sound at end entry → Known (entry_of s at entry)
  unfolding entry_of
  known_read end (Start value) a = tt
  known_read end (Stop value) a = tt
  known_read end (Phrase letter from to) a = a
  known_read end (Order letters) a = tt

-- THE CHECK of an entry against those before it

abbrev pub tagged : List (Placed Entry) → Entry → Bool
tagged before entry = any (λ earlier. tag earlier.what ≡? tag entry) before

abbrev pub ranked : List (Placed Entry) → ℕ → Bool
ranked before n = any (λ earlier. n <? rank earlier.what) before

module _ (before : List (Placed Entry)) (entry : Placed Entry) where
  pub in_order_passes : tagged before entry.what ≡ false → ranked before (rank entry.what) ≡ false → in_order before entry ≡ passed
  unfolding in_order when◌then◌else◌
  in_order_passes h g = simp (h, g)

  pub in_order_twice : tagged before entry.what ≡ true → in_order before entry ≡ refused 12 entry.place
  unfolding in_order when◌then◌else◌
  in_order_twice h = simp h

  pub in_order_late : ranked before (rank entry.what) ≡ true → in_order before entry ≡ refused 12 entry.place
  unfolding in_order when◌then◌else◌
  in_order_late g = by_test (tagged before entry.what) (λ h. simp h) (λ h. simp (h, g))

-- what the code remembers of the entries met
pub record Remembered (before : List (Placed Entry)) (seen : List Bool) (highest : ℕ) : Type 0 where
  pub tags : (entry : Entry) → Known entry → tagged before entry ≡ get_or seen (slot entry) false
  pub ranks : (n : ℕ) → ranked before n ≡ (n <? highest)

module _ (before : List (Placed Entry)) (seen : List Bool) (highest : ℕ) (r : Remembered before seen highest) (entry : Placed Entry) (known : Known entry.what)
    (long : slot entry.what < length seen) where
  remember_tag : (other : Entry) → Known other → tagged (entry ∷ before) other ≡ get_or (set seen (slot entry.what) true) (slot other) false
  unfolding any ◌or◌
  remember_tag other k =
      by_test (slot entry.what ≡? slot other)
      (λ h.
      let e : slot other ≡ slot entry.what = sym (eqb-true _ _ h) in
      rw (same_slot entry.what other known k ∙ h) (sym (rw e (get_or-set_same seen (slot entry.what) true false long))))
      (λ h.
      let e : slot other ≡ slot entry.what → ⊥ = λ q. eqb-false _ _ h (sym q) in
      rw (same_slot entry.what other known k ∙ h) (r.tags other k ∙ sym (get_or-set_other seen (slot entry.what) (slot other) true false e)))

  remember_rank : highest ≤ rank entry.what → (n : ℕ) → ranked (entry ∷ before) n ≡ (n <? rank entry.what)
  unfolding any ◌or◌
  remember_rank up n =
      by_test (n <? rank entry.what) (λ h. rw h refl) (λ h. rw h (r.ranks n ∙ le-ltb n highest (omega (arith, ltb-false n (rank entry.what) h))))

  pub remember : highest ≤ rank entry.what → Remembered (entry ∷ before) (set seen (slot entry.what) true) (rank entry.what)
  remember up = record { tags = remember_tag; ranks = remember_rank up }

pub none_flagged : (many n : ℕ) → get_or (replicate many false) n false ≡ false
none_flagged zero n = refl
none_flagged (suc many) zero = refl
none_flagged (suc many) (suc n) = none_flagged many n

-- THE WALK

pub record Forming (phrases : Bool) (s : List ℕ) (seen : List Bool) (highest at : ℕ) : Type 0 where
  pub before : List (Placed Entry)
  pub left : Checked (List (Placed Entry))
  pub walk : Left 12 (length s) (entry_step (point_width phrases) s) in_order at before left
  pub long : length seen ≡ 256
  pub remembered : Remembered before seen highest
  pub same : check_answer left ≡ check_answer (seek_of (point_width phrases) s)

pub form_empty : (phrases : Bool) (s : List ℕ) (z : Checked (Unit {0})) → length s ≡ 0 → z ≡ refused 12 0 → z ≡ check_answer (seek_of (point_width phrases) s)
unfolding seek_of when◌then◌else◌ check_answer
form_empty phrases s z h e = simp eq-eqb e

pub form_starts : (phrases : Bool) (s : List ℕ) → (length s ≡ 0 → ⊥) → Forming phrases s (replicate 256 false) 0 0
unfolding seek_of when◌then◌else◌ any
form_starts phrases s h =
    record {
      before = [];
      left = in_turn in_order [] (walk_to 12 (length s) (entry_step (point_width phrases) s) 0);
      walk = left_starts 12 (length s) (entry_step (point_width phrases) s) in_order 0 (omega arith);
      long = length-replicate 256 false;
      remembered = record { tags = λ entry k. sym (none_flagged 256 (slot entry)); ranks = λ n. sym (le-ltb n 0 (omega arith)) };
      same = simp ne_eqb;
    }

module _ (phrases : Bool) (s : List ℕ) (seen : List Bool) (highest at : ℕ) (r : Forming phrases s seen highest at) where
  pub form_ends : length s ≤ at → Ok tt ≡ check_answer (seek_of (point_width phrases) s)
  unfolding check_answer
  form_ends h = ap check_answer (sym (left_ends _ _ _ _ at r.before r.left r.walk h)) ∙ r.same

  module _ (here : at < length s) (found : Option (Read SeekEntry)) (is : found ≡ next_at (point_width phrases) s at) where
    steps : entry_step (point_width phrases) s at ≡ step_of s at found
    steps = sym (next_steps (point_width phrases) s at) ∙ ap (step_of s at) (sym is)

    pub form_broken : (z : Checked (Unit {0})) → found ≡ None → z ≡ refused 12 at → z ≡ check_answer (seek_of (point_width phrases) s)
    unfolding step_of check_answer
    form_broken z h e =
        e ∙ ap check_answer (sym (left_stuck _ _ _ _ at r.before r.left r.walk 12 at here (steps ∙ ap (step_of s at) h))) ∙ r.same

    module _ (read : Read SeekEntry) (whole : found ≡ Some read) where
      ahead : EntryAhead at (length s) read
      ahead = subst (FoundAhead at (length s)) (sym is ∙ whole) (next_ahead (point_width phrases) s at)

      meets : entry_step (point_width phrases) s at ≡ met (placed s at read.what) read.next
      unfolding step_of
      meets = steps ∙ ap (step_of s at) whole

      out_of_order : (z : Checked (Unit {0})) → in_order r.before (placed s at read.what) ≡ refused 12 at → z ≡ refused 12 at → z ≡ check_answer (seek_of (point_width phrases) s)
      unfolding check_answer
      out_of_order z h e =
          e ∙ ap check_answer (sym (left_refused _ _ _ _ at r.before r.left r.walk (placed s at read.what) read.next 12 at here meets h)) ∙ r.same

      module _ (slotted : ℕ) (in-slot : slotted ≡ slot_of read.what) where
        flag : tagged r.before (entry_of s at read.what) ≡ get_or seen slotted false
        flag =
            r.remembered.tags (entry_of s at read.what) (known_read s at (length s) read.what ahead.2)
            ∙ ap (λ (n : ℕ). get_or seen n false) (slot_read s at read.what ∙ sym in-slot)

        pub form_twice : (z : Checked (Unit {0})) → get_or seen slotted false ≡ true → z ≡ refused 12 at → z ≡ check_answer (seek_of (point_width phrases) s)
        form_twice z h e = out_of_order z (in_order_twice r.before (placed s at read.what) (flag ∙ h)) e

        module _ (ranks : ℕ) (of-rank : ranks ≡ rank_of read.what) where
          above : ranked r.before (rank (entry_of s at read.what)) ≡ (ranks <? highest)
          above = r.remembered.ranks _ ∙ ap (λ (n : ℕ). n <? highest) (rank_read s at read.what ∙ sym of-rank)

          pub form_late : (z : Checked (Unit {0})) → ranks < highest → z ≡ refused 12 at → z ≡ check_answer (seek_of (point_width phrases) s)
          form_late z h e = out_of_order z (in_order_late r.before (placed s at read.what) (above ∙ lt-ltb ranks highest h)) e

          pub form_goes_on : slotted < 256 → get_or seen slotted false ≡ false → highest ≤ ranks
              → Forming phrases s (set seen slotted true) ranks read.next
          form_goes_on small first up =
              let p : slot (entry_of s at read.what) ≡ slotted = slot_read s at read.what ∙ sym in-slot in
              let q : rank (entry_of s at read.what) ≡ ranks = rank_read s at read.what ∙ sym of-rank in
              let n = left_next _ _ _ _ at r.before r.left r.walk (placed s at read.what) read.next here meets (ahead.0, ahead.1)
              (in_order_passes r.before (placed s at read.what) (flag ∙ first) (above ∙ le-ltb ranks highest up)) in
              record {
                before = placed s at read.what ∷ r.before;
                left = n.0;
                walk = n.1;
                long = length-set seen slotted true ∙ r.long;
                remembered =
                    subst (λ (k : ℕ). Remembered (placed s at read.what ∷ r.before) (set seen k true) ranks) p
                    (subst (Remembered (placed s at read.what ∷ r.before) (set seen (slot (entry_of s at read.what)) true)) q
                    (remember r.before seen highest r.remembered (placed s at read.what) (known_read s at (length s) read.what ahead.2) (omega (arith, r.long)) (omega arith)));
                same = sym (answer_first (placed s at read.what) n.0) ∙ ap check_answer (sym n.2) ∙ r.same;
              }

      pub form_nears : length s - read.next < length s - at
      form_nears = omega (arith, ahead)

pub ruleset forming = (form_empty, form_starts, form_ends, form_broken, form_twice, form_late, form_nears, form_goes_on, is_on, is_off)
