-- What the calls for a track's items and entries give, where they answer: the numbers and letters of that track, at the front of the lent tables. These are the parts of
-- the tables from which the file is written again.
use Prim.Native.Nat.{ℕ}
use mathlib.Core.List.{List}
use Rattle.std.specs.Prelude.{Some, Ok}
use mathlib.Core.Path.{◌≡◌, refl, sym, ◌∙◌, ap}
use lib.ListN.{length, take}
use lib.Seq.{take_at}
use Rattle.model.specs.Words.{Placed, Checked}
use Rattle.model.specs.Item.{Item}
use Rattle.model.specs.Seek.{Entry}
use Rattle.model.specs.Track.{Track}
use Rattle.model.specs.File.{File, file_of, track_at}
use Rattle.model.specs.Writing.{items_numbers}
use Rattle.model.specs.SeekBytes.{entries_numbers}
use Rattle.model.specs.Answer.{written_over, memory_after, track_named, items_of_track, items_table, letters_of, entries_of_track, entries_table, letters_table}
use Rattle.model.specs.declared.Event.{Event}
use Rattle.model.proofs.Outcomes.{then_fine, bind_fine}
use Rattle.reading.proofs.Performed.{named_fine}

-- the readable track that a row of an accepted file names
pub record Names (buffer : List ℕ) (n row : ℕ) : Type 0 where
  pub file : File
  pub track : Track
  pub reads : file_of buffer n ≡ Ok file
  pub names : track_at file row ≡ Some track

-- what was written stands at the front
front : {A : Type 0} (written : A → List ℕ) (memory : List ℕ) (outcome : Checked A) (result : A) → outcome ≡ Ok result
    → take (length (written result)) (memory_after written memory outcome) ≡ written result
unfolding memory_after written_over
front written memory outcome result e = rw e (take_at (written result) _ (length (written result)) refl)

module _ (buffer : List ℕ) (n row : ℕ) where
  track_of_lem : (track : Track) → track_named buffer n row ≡ Ok track → (names : Names buffer n row) × (names.track ≡ track)
  unfolding track_named
  track_of_lem track e =
      let read = bind_fine _ _ track e in
      (record { file = read.0; track = track; reads = read.1; names = named_fine (track_at read.0 row) track read.2 }, refl)

  pub items_of_call : (table : List ℕ) (items : List (Placed (Item Event))) → items_of_track buffer n row (length table) ≡ Ok items
      → (names : Names buffer n row) × (items ≡ names.track.items)
      × (take (length (items_numbers items)) (items_table table (items_of_track buffer n row (length table))) ≡ items_numbers names.track.items)
  unfolding items_of_track items_table
  items_of_call table items e =
      let found = bind_fine (track_named buffer n row) _ items e in
      let same : found.0.items ≡ items = let q = (then_fine _ _ items found.2).1 in cc in
      let named = track_of_lem found.0 found.1 in
      let are : items ≡ named.0.track.items = sym same ∙ ap (λ (t : Track). t.items) (sym named.1) in
      (named.0, are, front items_numbers table _ items e ∙ ap items_numbers are)

  pub entries_of_call : (table letters : List ℕ) (entries : List (Placed Entry)) → entries_of_track buffer n row (length table) (length letters) ≡ Ok entries
      → (names : Names buffer n row) × (entries ≡ names.track.entries)
      × (take (length (entries_numbers entries)) (entries_table table (entries_of_track buffer n row (length table) (length letters))) ≡ entries_numbers names.track.entries)
      × (take (length (letters_of entries)) (letters_table letters (entries_of_track buffer n row (length table) (length letters))) ≡ letters_of names.track.entries)
  unfolding entries_of_track entries_table letters_table
  entries_of_call table letters entries e =
      let found = bind_fine (track_named buffer n row) _ entries e in
      let same : found.0.entries ≡ entries = let q = (then_fine _ _ entries found.2).1 in cc in
      let named = track_of_lem found.0 found.1 in
      let are : entries ≡ named.0.track.entries = sym same ∙ ap (λ (t : Track). t.entries) (sym named.1) in (
        named.0,
        are,
        front entries_numbers table _ entries e ∙ ap entries_numbers are,
        front letters_of letters _ entries e ∙ ap letters_of are,
      )
