-- Entries that are given: each is its row's, they stand one behind the other, and what is refused is refused with 12.
use Prim.Native.Nat.{ℕ, ◌+◌, ◌/◌}
use mathlib.Core.List.{List, [], ◌∷◌, map}
use mathlib.Core.Bool.{Bool, true}
use mathlib.Core.Path.{◌≡◌, refl, sym, ◌∙◌, ap, subst}
use lib.ListN.{length}
use Rattle.model.specs.Words.{Placed, placed_from, Checked, ◌>>=◌, ◌>>◌, walk_of, in_turn, refused}
use Rattle.std.specs.Prelude.{Ok, Err}
use Rattle.model.specs.Item.{is_fine, found}
use Rattle.model.specs.Seek.{Entry, in_order}
use Rattle.model.specs.Track.{point_width}
use Rattle.model.specs.SeekBytes.{entry_bytes, entries_placed, entries_from, entries_given}
use Rattle.model.proofs.Tests.{if_all}
use Rattle.model.proofs.Outcomes.{bind_fine, fine_some}
use Rattle.entries.specs.declared.row.Row.{Row}
use Rattle.entries.specs.Rows.{rows_in, row_given, entries_in}
use Rattle.entries.proofs.RowIs.{RowIs, Given, row_gives, row_is}
use Rattle.entries.proofs.RowsGiven.{ahead, rows_given, from_rows}
use Rattle.entries.proofs.ListsInTurn.{in_turn_all}

-- things that were given places, without them
pub placed_things : {A : Type 0} (size : A → ℕ) (things : List A) (at : ℕ) → map (λ placed. placed.what) (placed_from size at things) ≡ things
unfolding placed_from
placed_things size [] at = refl
placed_things {A} size (thing ∷ things) at = ap (λ (l : List A). thing ∷ l) (placed_things size things (at + size thing))

-- row by row the entry that it gives
abbrev pub RowsAre : List ℕ → List Row → List Entry → Type 0
RowsAre letters [] [] = Unit
RowsAre letters [] (entry ∷ entries) = ⊥
RowsAre letters (row ∷ rows) [] = ⊥
RowsAre letters (row ∷ rows) (entry ∷ entries) = RowIs letters row entry × RowsAre letters rows entries

rows_are : (phrases : Bool) (letters : List ℕ) (rows : List Row) (entries : List Entry) → rows_given phrases letters rows ≡ Ok entries → RowsAre letters rows entries
unfolding rows_given ahead
rows_are phrases letters [] entries e = let none : [] ≡ entries = cc in subst (RowsAre letters []) none tt
rows_are phrases letters (row ∷ rows) entries e =
    let a = bind_fine _ _ entries e in
    let b = bind_fine _ _ entries a.2 in
    let same : a.0 ∷ b.0 ≡ entries = cc b.2 in
    subst (RowsAre letters (row ∷ rows)) same (row_is phrases letters row a.0 a.1, rows_are phrases letters rows b.0 b.1)

pub record GivenEntries (phrases : Bool) (letters numbers : List ℕ) : Type 0 where
  pub entries : List Entry
  pub are : RowsAre letters (rows_in numbers) entries
  pub placed : entries_given phrases letters numbers ≡ Ok (entries_placed (point_width phrases) entries)
  pub stand : found (entries_given phrases letters numbers) ≡ entries_placed (point_width phrases) entries
  pub only : entries_in (found (entries_given phrases letters numbers)) ≡ entries

pub given_entries : (phrases : Bool) (letters numbers : List ℕ) → is_fine (entries_given phrases letters numbers) ≡ true → GivenEntries phrases letters numbers
unfolding entries_given entries_placed rows_in found
given_entries phrases letters numbers h =
    let s = fine_some (entries_given phrases letters numbers) h in
    let f = bind_fine _ _ s.0 s.1 in
    let all = in_turn_all in_order (entries_placed (point_width phrases) f.0) [] s.0 f.2 in
    let is : entries_given phrases letters numbers ≡ Ok (entries_placed (point_width phrases) f.0) = s.1 ∙ ap Ok all.0 in
    record {
      entries = f.0;
      are = rows_are phrases letters (rows_in numbers) f.0 (sym (from_rows phrases letters (length numbers / 4) numbers) ∙ f.1);
      placed = is;
      stand = ap found is;
      only = ap (λ (c : Checked (List (Placed Entry))). entries_in (found c)) is ∙ placed_things (λ entry. length (entry_bytes (point_width phrases) entry) + 1) f.0 0;
    }

-- 12 is the only refusal

abbrev Twelve : {A : Type 0} → Checked A → Type 0
Twelve (Ok a) = Unit
Twelve (Err why) = why.number ≡ 12

bind_twelve : {A B : Type 0} (one : Checked A) (rest : A → Checked B) → Twelve one → ((a : A) → Twelve (rest a)) → Twelve (one >>= rest)
unfolding ◌>>=◌
bind_twelve (Ok a) rest h g = g a
bind_twelve (Err why) rest h g = h

then_twelve : {A B : Type 0} (one : Checked A) (rest : Checked B) → Twelve one → Twelve rest → Twelve (one >> rest)
unfolding ◌>>◌
then_twelve (Ok a) rest h g = g
then_twelve (Err why) rest h g = h

order_twelve : (before : List (Placed Entry)) (entry : Placed Entry) → Twelve (in_order before entry)
unfolding in_order
order_twelve before entry = if_all Twelve _ _ _ (λ h. refl) (λ h. if_all Twelve _ _ _ (λ h. refl) (λ h. tt))

turn_twelve : (all before : List (Placed Entry)) → Twelve (in_turn in_order before (walk_of all))
unfolding in_turn walk_of
turn_twelve [] before = tt
turn_twelve (entry ∷ all) before =
    then_twelve (in_order before entry) _ (order_twelve before entry)
    (bind_twelve (in_turn in_order (entry ∷ before) (walk_of all)) (λ found. Ok (entry ∷ found)) (turn_twelve all (entry ∷ before)) (λ a. tt))

row_twelve : (letters : List ℕ) (row : Row) (one : Checked Entry) → Given letters row one → Twelve one
row_twelve letters row (Ok entry) h = tt
row_twelve letters row (Err why) h = h

rows_twelve : (phrases : Bool) (letters : List ℕ) (rows : List Row) → Twelve (rows_given phrases letters rows)
unfolding rows_given ahead
rows_twelve phrases letters [] = tt
rows_twelve phrases letters (row ∷ rows) =
    bind_twelve (row_given phrases letters row) _ (row_twelve letters row (row_given phrases letters row) (row_gives phrases letters row))
    (λ entry. bind_twelve (rows_given phrases letters rows) (λ entries. Ok (entry ∷ entries)) (rows_twelve phrases letters rows) (λ a. tt))

pub given_twelve : (phrases : Bool) (letters numbers : List ℕ) (number place : ℕ) → entries_given phrases letters numbers ≡ refused number place → number ≡ 12
unfolding entries_given rows_in
given_twelve phrases letters numbers number place e =
    let from : Twelve (entries_from phrases letters (length numbers / 4) numbers) =
    subst Twelve (sym (from_rows phrases letters (length numbers / 4) numbers)) (rows_twelve phrases letters (rows_in numbers)) in
    subst Twelve e
    (bind_twelve (entries_from phrases letters (length numbers / 4) numbers) _ from (λ entries. turn_twelve (entries_placed (point_width phrases) entries) []))
