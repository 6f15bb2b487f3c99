-- The rules over entries and over their rows are the same: each is kept, or refused with its number.
use Prim.Native.Nat.{ℕ, ◌+◌}
use mathlib.Core.List.{List, [], ◌∷◌}
use mathlib.Core.Bool.{Bool, true, false, not, false≢true}
use Rattle.std.specs.Prelude.{Option, None, Some, Ok, Err}
use mathlib.Core.Path.{◌≡◌, refl, sym, ◌∙◌, ap, subst}
use lib.ListN.{length}
use Rattle.model.specs.Words.{when◌then◌else◌, ◌and◌, ◌or◌, ◌<?◌, ◌≡?◌, is_some, ◌otherwise◌, ◌or_else◌, first_said, Placed, placed_from, Checked, passed, ◌>>=◌, ◌>>◌, all_pass, refused}
use Rattle.model.specs.Item.{is_fine, found}
use Rattle.model.specs.Seek.{Entry, Entry.start, Entry.stop, Entry.phrase, Entry.order, start_in, phrase_in, order_in, start_point, phrase_of, order_list}
use Rattle.model.specs.Points.{point_holds, points_hold, is_position, letters_named, letters_hold, order_holds}
use Rattle.model.specs.Track.{point_width}
use Rattle.model.specs.SeekBytes.{entry_bytes, entries_placed, entries_given}
use Rattle.model.proofs.Tests.{by_test, if_true, if_false, flag_on, flag_off}
use Rattle.seek.proofs.Holding.{not_over}
use Rattle.writing.specs.Parts.{fault_in}
use Rattle.entries.specs.declared.points.Judged.{Judged}
use Rattle.entries.specs.declared.row.Row.{Row}
use Rattle.entries.specs.Places.{is_place}
use Rattle.entries.specs.Rows.{rows_in}
use Rattle.entries.specs.Rules.{rules_hold, seek_stage, started_in, has_list, is_point, row_holds, rows_hold, is_named, all_named, letters_fault, order_fault, Says, Tells}
use Rattle.entries.proofs.RowIs.{RowIs, letter_byte}
use Rattle.entries.proofs.GivenEntries.{RowsAre, given_entries, given_twelve}
use Rattle.entries.proofs.Reaching.{front_none}
use Rattle.entries.proofs.Holding.{and_true, and_false}

-- JUDGEMENTS

abbrev Verdict : ℕ → Bool → Checked (Unit {0}) → Type 0
Verdict number true one = one ≡ passed
Verdict number false one = (place : ℕ) × (one ≡ refused number place)

judged_and : (number : ℕ) (a b : Bool) (one more : Checked (Unit {0})) → Verdict number a one → Verdict number b more → Verdict number (a and b) (one >> more)
unfolding ◌and◌ ◌>>◌
judged_and number true b one more h g = subst (λ (c : Checked (Unit {0})). Verdict number b (c >> more)) (sym h) g
judged_and number false b one more h g = (h.0, ap (λ (c : Checked (Unit {0})). c >> more) h.1)

-- a judgement that stood before
judged_again : (number : ℕ) (a b : Bool) (one more : Checked (Unit {0})) → Verdict number b one → Verdict number (a or b) more → Verdict number b (one >> more)
unfolding ◌or◌ ◌>>◌
judged_again number true true one more h g = ap (λ (c : Checked (Unit {0})). c >> more) h ∙ g
judged_again number false true one more h g = ap (λ (c : Checked (Unit {0})). c >> more) h ∙ g
judged_again number a false one more h g = (h.0, ap (λ (c : Checked (Unit {0})). c >> more) h.1)

judged_if : (number place : ℕ) (b : Bool) → Verdict number b (when b then passed else refused number place)
unfolding when◌then◌else◌
judged_if number place true = refl
judged_if number place false = (place, refl)

judged_fault : (number : ℕ) (b : Bool) (one : Checked (Unit {0})) → Verdict number b one → fault_in one ≡ (when b then 0 else number)
unfolding fault_in when◌then◌else◌
judged_fault number true one h = ap fault_in h
judged_fault number false one h = ap fault_in h.1

fault_then : (number : ℕ) (b : Bool) (one more : Checked (Unit {0})) → Verdict number b one → fault_in (one >> more) ≡ (when b then fault_in more else number)
unfolding fault_in when◌then◌else◌ ◌>>◌
fault_then number true one more h = ap (λ (c : Checked (Unit {0})). fault_in (c >> more)) h
fault_then number false one more h = ap (λ (c : Checked (Unit {0})). fault_in (c >> more)) h.1

-- WHAT THE ENTRIES SAY

module _ (size : Entry → ℕ) (letters : List ℕ) where
  started_is : (rows : List Row) (entries : List Entry) (at : ℕ) → RowsAre letters rows entries → (start_point (placed_from size at entries) otherwise 0) ≡ started_in rows
  unfolding start_point first_said placed_from start_in started_in ◌or_else◌ ◌otherwise◌ when◌then◌else◌
  started_is [] [] at are = refl
  started_is [] (entry ∷ entries) at are = absurd are
  started_is (row ∷ rows) [] at are = absurd are
  started_is (row ∷ rows) (start value ∷ entries) at are = let k = are.0.0 in rw k are.0.1
  started_is (row ∷ rows) (stop value ∷ entries) at are = let k = are.0.0 in rw k (started_is rows entries _ are.1)
  started_is (row ∷ rows) (phrase letter from to ∷ entries) at are = let k = are.0.0 in rw k (started_is rows entries _ are.1)
  started_is (row ∷ rows) (order others ∷ entries) at are = let k = are.0.0 in rw k (started_is rows entries _ are.1)

  listed_is : (rows : List Row) (entries : List Entry) (at : ℕ) → RowsAre letters rows entries
      → length (order_list (placed_from size at entries) otherwise []) ≡ (when has_list rows then length letters else 0)
  unfolding order_list first_said placed_from order_in has_list ◌or◌ ◌or_else◌ ◌otherwise◌ when◌then◌else◌
  listed_is [] [] at are = refl
  listed_is [] (entry ∷ entries) at are = absurd are
  listed_is (row ∷ rows) [] at are = absurd are
  listed_is (row ∷ rows) (start value ∷ entries) at are = let k = are.0.0 in rw k (listed_is rows entries _ are.1)
  listed_is (row ∷ rows) (stop value ∷ entries) at are = let k = are.0.0 in rw k (listed_is rows entries _ are.1)
  listed_is (row ∷ rows) (phrase letter from to ∷ entries) at are = let k = are.0.0 in rw k (listed_is rows entries _ are.1)
  listed_is (row ∷ rows) (order others ∷ entries) at are = let k = are.0.0 in rw k (ap length are.0.1)

  some_if : {A : Type 0} (b : Bool) (a : A) (more : Option A) → is_some ((when b then Some a else None) or_else more) ≡ (b or is_some more)
  unfolding when◌then◌else◌ ◌or_else◌ is_some ◌or◌
  some_if true a more = refl
  some_if false a more = refl

  named_is : (wanted : ℕ) (rows : List Row) (entries : List Entry) (at : ℕ) → RowsAre letters rows entries
      → is_some (phrase_of wanted (placed_from size at entries)) ≡ is_named wanted rows
  unfolding phrase_of first_said placed_from phrase_in is_named ◌or◌ ◌and◌ ◌or_else◌ is_some
  named_is wanted [] [] at are = refl
  named_is wanted [] (entry ∷ entries) at are = absurd are
  named_is wanted (row ∷ rows) [] at are = absurd are
  named_is wanted (row ∷ rows) (start value ∷ entries) at are = let k = are.0.0 in rw k (named_is wanted rows entries _ are.1)
  named_is wanted (row ∷ rows) (stop value ∷ entries) at are = let k = are.0.0 in rw k (named_is wanted rows entries _ are.1)
  named_is wanted (row ∷ rows) (phrase letter from to ∷ entries) at are =
      let k = are.0.0 in
      let byte = letter_byte letters row letter are.0.4 are.0.1 in
      rw (k, byte) (some_if (letter ≡? wanted) _ _ ∙ ap (λ (b : Bool). (letter ≡? wanted) or b) (named_is wanted rows entries _ are.1))
  named_is wanted (row ∷ rows) (order others ∷ entries) at are = let k = are.0.0 in rw k (named_is wanted rows entries _ are.1)

  -- POINTS AND PHRASES

  module _ (phrases : Bool) (items : List ℕ) (started listed : ℕ) (point : ℕ → Bool) (same : (value : ℕ) → point value ≡ is_point phrases items listed value) where
    entry_holds : (row : Row) (entry : Entry) → RowIs letters row entry → point_holds (is_place items) point started entry ≡ row_holds phrases items started listed row
    unfolding point_holds row_holds when◌then◌else◌ ◌and◌
    entry_holds row (start value) is = let k = is.0 in let v = is.1 in rw (k, v) (same row.from)
    entry_holds row (stop value) is =
        let k = is.0 in
        let v = is.1 in
        by_test (row.from <? started)
        (λ early. rw (k, v, early) (and_false (point row.from) _ refl))
        (λ early. rw (k, v, early) (and_true (point row.from) _ refl ∙ same row.from))
    entry_holds row (phrase letter from to) is = let k = is.0 in let a = is.2 in let b = is.3 in rw (k, a, b)
    entry_holds row (order others) is = let k = is.0 in rw k

    points_judged : (rows : List Row) (entries : List Entry) (at : ℕ) → RowsAre letters rows entries
        → Verdict 13 (rows_hold phrases items started listed rows)
        (all_pass (λ entry. when point_holds (is_place items) point started entry.what then passed else refused 13 entry.place) (placed_from size at entries))
    unfolding all_pass placed_from rows_hold
    points_judged [] [] at are = refl
    points_judged [] (entry ∷ entries) at are = absurd are
    points_judged (row ∷ rows) [] at are = absurd are
    points_judged (row ∷ rows) (entry ∷ entries) at are =
        judged_and 13 (row_holds phrases items started listed row) (rows_hold phrases items started listed rows) _ _
        (subst (λ (b : Bool). Verdict 13 b (when point_holds (is_place items) point started entry then passed else refused 13 at)) (entry_holds row entry are.0)
        (judged_if 13 at (point_holds (is_place items) point started entry)))
        (points_judged rows entries _ are.1)

  -- LETTERS

  module _ (all : List (Placed Entry)) (rows_all : List Row) (same : (wanted : ℕ) → is_some (phrase_of wanted all) ≡ is_named wanted rows_all) where
    letters_judged : (list : List ℕ) (at : ℕ) → Verdict 14 (all_named rows_all list) (letters_named all at list)
    unfolding letters_named all_named when◌then◌else◌ ◌and◌
    letters_judged [] at = refl
    letters_judged (letter ∷ list) at =
        by_test (is_named letter rows_all)
        (λ h. let k = same letter ∙ h in rw (h, k) (letters_judged list (at + 1)))
        (λ h. let k = same letter ∙ h in rw (h, k) (at, refl))

    lists_judged : (rows : List Row) (entries : List Entry) (at : ℕ) → RowsAre letters rows entries
        → Verdict 14 (not (has_list rows) or all_named rows_all letters) (all_pass (λ entry. letters_hold all entry.place entry.what) (placed_from size at entries))
    unfolding all_pass placed_from has_list letters_hold ◌or◌ ◌>>◌
    lists_judged [] [] at are = refl
    lists_judged [] (entry ∷ entries) at are = absurd are
    lists_judged (row ∷ rows) [] at are = absurd are
    lists_judged (row ∷ rows) (start value ∷ entries) at are = let k = are.0.0 in rw k (lists_judged rows entries _ are.1)
    lists_judged (row ∷ rows) (stop value ∷ entries) at are = let k = are.0.0 in rw k (lists_judged rows entries _ are.1)
    lists_judged (row ∷ rows) (phrase letter from to ∷ entries) at are = let k = are.0.0 in rw k (lists_judged rows entries _ are.1)
    lists_judged (row ∷ rows) (order others ∷ entries) at are =
        let k = are.0.0 in
        let o = are.0.1 in
        rw (k, o) (judged_again 14 (not (has_list rows)) (all_named rows_all letters) _ _ (letters_judged letters (at + 3)) (lists_judged rows entries (at + size (order letters)) are.1))

-- BOTH

position : (phrases : Bool) (items : List ℕ) (listed : ℕ) (all : List (Placed Entry)) → length (order_list all otherwise []) ≡ listed → phrases ≡ true → (value : ℕ)
    → is_position all value ≡ is_point phrases items listed value
unfolding is_position is_point when◌then◌else◌
position phrases items listed all e p value = rw p (ap (λ (n : ℕ). not (n <? value)) e ∙ sym (not_over listed value))

address : (phrases : Bool) (items : List ℕ) (listed : ℕ) → phrases ≡ false → (value : ℕ) → is_place items value ≡ is_point phrases items listed value
unfolding is_point when◌then◌else◌
address phrases items listed p value = rw p refl

-- the stage of a track's entries: without form, and with it
formless : (phrases : Bool) (letters numbers items : List ℕ) → is_fine (entries_given phrases letters numbers) ≡ false → fault_in (seek_stage phrases numbers items letters) ≡ 12
unfolding seek_stage is_fine fault_in ◌>>=◌
formless phrases letters numbers items h = go (entries_given phrases letters numbers) refl
  where
    go : (o : Checked (List (Placed Entry))) → entries_given phrases letters numbers ≡ o → fault_in (seek_stage phrases numbers items letters) ≡ 12
    go (Ok placed) e = absurd (false≢true (sym h ∙ ap is_fine e))
    go (Err why) e = rw e (given_twelve phrases letters numbers why.number why.place e)

then_same : (o : Checked (Unit {0})) (entries : List (Placed Entry)) → fault_in (o >> Ok entries) ≡ fault_in o
unfolding fault_in ◌>>◌
then_same (Ok u) entries = refl
then_same (Err why) entries = refl

stage_ruled : (phrases : Bool) (letters numbers items : List ℕ) → is_fine (entries_given phrases letters numbers) ≡ true
    → fault_in (seek_stage phrases numbers items letters) ≡ fault_in (rules_hold phrases (is_place items) (found (entries_given phrases letters numbers)))
unfolding seek_stage is_fine found ◌>>=◌
stage_ruled phrases letters numbers items h = go (entries_given phrases letters numbers) refl
  where
    go : (o : Checked (List (Placed Entry))) → entries_given phrases letters numbers ≡ o
        → fault_in (seek_stage phrases numbers items letters) ≡ fault_in (rules_hold phrases (is_place items) (found (entries_given phrases letters numbers)))
    go (Ok placed) e = rw e (then_same (rules_hold phrases (is_place items) placed) placed)
    go (Err why) e = absurd (false≢true (sym (ap is_fine e) ∙ h))

list_fault : (ordered named : Bool) → ◌≡◌ {A = ℕ} (when not ordered or named then 0 else 14) (when ordered then (when named then 0 else 14) else 0)
unfolding when◌then◌else◌ ◌or◌
list_fault true true = refl
list_fault true false = refl
list_fault false named = refl

module _ (phrases : Bool) (letters numbers items : List ℕ) (given : is_fine (entries_given phrases letters numbers) ≡ true) (ordered : Bool) (listed started : ℕ)
    (is-ordered : ordered ≡ has_list (rows_in numbers)) (is-listed : listed ≡ (when ordered then length letters else 0)) (is-started : started ≡ started_in (rows_in numbers)) where
  abbrev size : Entry → ℕ
  size entry = length (entry_bytes (point_width phrases) entry) + 1

  abbrev rows : List Row
  rows = rows_in numbers

  abbrev all : List (Placed Entry)
  all = found (entries_given phrases letters numbers)

  abbrev holds : Bool
  holds = rows_hold phrases items started listed rows

  stand : all ≡ placed_from size 0 (given_entries phrases letters numbers given).entries
  unfolding entries_placed
  stand = (given_entries phrases letters numbers given).stand

  start_is : (start_point all otherwise 0) ≡ started
  start_is =
      let g = given_entries phrases letters numbers given in
      ap (λ (l : List (Placed Entry)). start_point l otherwise 0) stand ∙ started_is size letters rows g.entries 0 g.are ∙ sym is-started

  list_is : length (order_list all otherwise []) ≡ listed
  list_is =
      let g = given_entries phrases letters numbers given in
      ap (λ (l : List (Placed Entry)). length (order_list l otherwise [])) stand
      ∙ listed_is size letters rows g.entries 0 g.are
      ∙ ap (λ (b : Bool). when b then length letters else 0) (sym is-ordered)
      ∙ sym is-listed

  names : (wanted : ℕ) → is_some (phrase_of wanted all) ≡ is_named wanted rows
  names wanted =
      let g = given_entries phrases letters numbers given in
      ap (λ (l : List (Placed Entry)). is_some (phrase_of wanted l)) stand ∙ named_is size letters wanted rows g.entries 0 g.are

  held : (point : ℕ → Bool) → ((value : ℕ) → point value ≡ is_point phrases items listed value) → Verdict 13 holds (points_hold (is_place items) point all)
  unfolding points_hold
  held point same =
      let g = given_entries phrases letters numbers given in
      let rule : ℕ → Placed Entry → Checked (Unit {0}) = λ n entry. when point_holds (is_place items) point n entry.what then passed else refused 13 entry.place in
      let judged = points_judged size letters phrases items started listed point same rows g.entries 0 g.are in
      subst (λ (n : ℕ). Verdict 13 holds (all_pass (rule n) all)) (sym start_is)
      (subst (λ (l : List (Placed Entry)). Verdict 13 holds (all_pass (rule started) l)) (sym stand) judged)

  in_order_lem : Verdict 14 (not (has_list rows) or all_named rows letters) (order_holds all)
  unfolding order_holds
  in_order_lem =
      let g = given_entries phrases letters numbers given in
      subst (λ (l : List (Placed Entry)). Verdict 14 (not (has_list rows) or all_named rows letters) (all_pass (λ entry. letters_hold all entry.place entry.what) l)) (sym stand)
      (lists_judged size letters all rows names rows g.entries 0 g.are)

  in_stream : phrases ≡ false → fault_in (rules_hold phrases (is_place items) all) ≡ (when holds then 0 else 13)
  unfolding rules_hold
  in_stream p =
      let e : rules_hold phrases (is_place items) all ≡ points_hold (is_place items) (is_place items) all = ap (λ (b : Bool). rules_hold b (is_place items) all) p in
      ap fault_in e ∙ judged_fault 13 holds _ (held (is_place items) (address phrases items listed p))

  with_phrases : phrases ≡ true → fault_in (rules_hold phrases (is_place items) all) ≡ (when holds then letters_fault ordered rows letters else 13)
  unfolding rules_hold letters_fault
  with_phrases p =
      let e : rules_hold phrases (is_place items) all ≡ (points_hold (is_place items) (is_position all) all >> order_holds all) = ap (λ (b : Bool). rules_hold b (is_place items) all) p in
      let second : fault_in (order_holds all) ≡ (when ordered then (when all_named rows letters then 0 else 14) else 0) =
      judged_fault 14 _ (order_holds all) in_order_lem ∙ list_fault (has_list rows) (all_named rows letters)
      ∙ ap (λ (b : Bool). when b then (when all_named rows letters then 0 else 14) else 0) (sym is-ordered) in
      ap fault_in e
      ∙ fault_then 13 holds _ (order_holds all) (held (is_position all) (position phrases items listed all list_is p))
      ∙ ap (λ (n : ℕ). when holds then n else 13) second

  ruled : fault_in (rules_hold phrases (is_place items) all) ≡ (when holds then order_fault phrases ordered rows letters else 13)
  unfolding order_fault
  ruled =
      by_test phrases (λ p. with_phrases p ∙ ap (λ (n : ℕ). when holds then n else 13) (sym (if_true phrases _ _ p)))
      (λ p. in_stream p ∙ ap (λ (n : ℕ). when holds then n else 13) (sym (if_false phrases _ _ p)))

  stage_fault : fault_in (seek_stage phrases numbers items letters) ≡ (when holds then order_fault phrases ordered rows letters else 13)
  stage_fault = stage_ruled phrases letters numbers items given ∙ ruled

-- TOLD WHILE THE ITEMS ARE CHECKED
module _ (phrases : Bool) (letters numbers source items : List ℕ) (formed : Bool) (is : formed ≡ is_fine (entries_given phrases letters numbers)) where
  pub tells_formless : not formed ≡ true → Tells phrases letters numbers source items (record { fault = 12; front = record { index = 0; place = 0 } })
  tells_formless h = record { front = front_none source items; so = λ all. sym (formless phrases letters numbers items (flag_off is h)) }

  module _ (on : not formed ≡ false) (ordered : Bool) (listed started : ℕ) (is-ordered : ordered ≡ has_list (rows_in numbers))
      (is-listed : listed ≡ (when ordered then length letters else 0)) (is-started : started ≡ started_in (rows_in numbers)) (judged : Judged)
      (says : Says source items judged (rows_hold phrases items started listed (rows_in numbers))) where
    fault_is : fault_in (seek_stage phrases numbers items letters)
        ≡ (when rows_hold phrases items started listed (rows_in numbers) then order_fault phrases ordered (rows_in numbers) letters else 13)
    fault_is = stage_fault phrases letters numbers items (flag_on is on) ordered listed started is-ordered is-listed is-started

    pub tells_points : not judged.holds ≡ true → Tells phrases letters numbers source items (record { fault = 13; front = judged.front })
    tells_points h = record { front = says.front; so = λ all. sym (fault_is ∙ if_false _ _ _ (flag_off (says.so all) h)) }

    pub tells_order : (z : ℕ) → not judged.holds ≡ false → z ≡ order_fault phrases ordered (rows_in numbers) letters
        → Tells phrases letters numbers source items (record { fault = z; front = judged.front })
    tells_order z h e = record { front = says.front; so = λ all. e ∙ sym (fault_is ∙ if_true _ _ _ (flag_on (says.so all) h)) }

pub ruleset tellings = (tells_formless, tells_points, tells_order)
