-- Ticket 3: the entries that were read, as the numbers and letters that the operation gives, are taken for the same entries at the same places; written, they
-- read as the same entries again.
use Prim.Native.Nat.{ℕ, ◌*◌, ◌^◌, ◌/◌, ◌<◌}
use mathlib.Core.List.{List, [], ◌∷◌, ◌++◌}
use mathlib.Core.Bool.{Bool, true, false}
use mathlib.Core.Path.{◌≡◌, refl, ◌∙◌}
use lib.ListN.{length, drop, length-append, length-map}
use native.Mathlib.Omega.{arith}
use borrow.Author.Tests.{le-leb, eq-eqb}
use Rattle.model.specs.Words.{when◌then◌else◌, ◌≤?◌, Placed, placed_from, Checked, ◌>>=◌, walk_of, in_turn}
use Rattle.std.specs.Prelude.{Ok}
use Rattle.model.specs.Bytes.{◌!◌}
use Rattle.model.specs.Seek.{Entry, Entry.start, Entry.stop, Entry.phrase, Entry.order, letters_in_front, in_order, seek_of}
use Rattle.model.specs.Track.{point_width}
use Rattle.model.specs.Answer.{letters_of}
use Rattle.model.specs.SeekBytes.{seek_bytes, entries_placed, largest_point, entry_given, entries_from, entries_given, entry_numbers, entries_numbers}
use Rattle.entries.proofs.ListsInTurn.{all_in_turn}
use Rattle.entries.specs.Rows.{entries_in}
use Rattle.whole.proofs.EntriesFit.{EntryFits, EntriesFit}
use Rattle.whole.proofs.SeekStands.{reads_stands}
use Rattle.whole.proofs.SeekReads.{seek_reads}
use Rattle.whole.proofs.SeekWrites.{seek_some, seek_fits, seek_places}
use Rattle.whole.proofs.OrderLetters.{OrderIs, OrdersAre, orders_said}

-- four numbers each
four_each : (entry : Entry) → length (entry_numbers entry) ≡ 4
unfolding entry_numbers
four_each (start value) = refl
four_each (stop value) = refl
four_each (phrase letter from to) = refl
four_each (order letters) = refl

pub numbers_length : (placed : List (Placed Entry)) → length (entries_numbers placed) ≡ length placed * 4
unfolding entries_numbers
numbers_length [] = refl
numbers_length (entry ∷ rest) =
    length-append (entry_numbers entry.what) (entries_numbers rest) ∙ omega (arith, four_each entry.what, numbers_length rest)

point_fits : (phrases : Bool) (value : ℕ) → value < 256 ^ point_width phrases → (value ≤? largest_point phrases) ≡ true
point_fits true value h = le-leb value 0xFF (omega arith)
point_fits false value h = le-leb value 0xFFFFFFFF (omega arith)

module _ (phrases : Bool) (letters : List ℕ) where
  -- the first four numbers are the first entry's
  abbrev first_of : List ℕ → Checked Entry
  first_of numbers = entry_given phrases letters (numbers ! 0) (numbers ! 1) (numbers ! 2) (numbers ! 3)

  entry_again : (entry : Entry) (rest : List ℕ) → EntryFits (point_width phrases) entry → OrderIs letters entry
      → first_of (entry_numbers entry ++ rest) ≡ Ok entry
  unfolding entry_given entry_numbers when◌then◌else◌
  entry_again (start value) rest fits is = simp (point_fits phrases value fits)
  entry_again (stop value) rest fits is = simp (point_fits phrases value fits)
  entry_again (phrase letter from to) rest fits is = simp fits.0
  entry_again (order others) rest fits is = rw (← is, eq-eqb (letters_in_front others) (length others) fits) refl

  behind_first : (entry : Entry) (rest : List ℕ) → drop 4 (entry_numbers entry ++ rest) ≡ rest
  unfolding entry_numbers
  behind_first (start value) rest = refl
  behind_first (stop value) rest = refl
  behind_first (phrase letter from to) rest = refl
  behind_first (order others) rest = refl

  from_again : (placed : List (Placed Entry)) → EntriesFit (point_width phrases) (entries_in placed) → OrdersAre letters placed
      → entries_from phrases letters (length placed) (entries_numbers placed) ≡ Ok (entries_in placed)
  unfolding entries_from entries_numbers ◌>>=◌
  from_again [] fit are = refl
  from_again (entry ∷ rest) fit are =
      let first = entry_again entry.what (entries_numbers rest) fit.0 are.0 in
      rw (first, behind_first entry.what (entries_numbers rest), from_again rest fit.1 are.1) refl

pub none_given : (phrases : Bool) (letters : List ℕ) → entries_given phrases letters [] ≡ Ok []
unfolding entries_given entries_from entries_placed placed_from walk_of in_turn ◌>>=◌
none_given phrases letters = refl

module _ (phrases : Bool) (s : List ℕ) (bytes : (k : ℕ) → s ! k < 256) (placed : List (Placed Entry)) (reads : seek_of (point_width phrases) s ≡ Ok placed) where
  again_in_turn : in_turn in_order [] (walk_of (entries_placed (point_width phrases) (entries_in placed))) ≡ Ok placed
  again_in_turn =
      rw (seek_places (point_width phrases) s bytes placed reads) (all_in_turn in_order placed [] (reads_stands (point_width phrases) s placed reads).passes)

  pub entries_given_again : entries_given phrases (letters_of placed) (entries_numbers placed) ≡ Ok placed
  unfolding entries_given ◌>>=◌
  entries_given_again =
      let count : length (entries_numbers placed) / 4 ≡ length placed = omega (arith, numbers_length placed) in
      let fit = seek_fits (point_width phrases) s bytes placed reads in
      rw (count, from_again phrases (letters_of placed) placed fit (orders_said phrases s placed reads)) again_in_turn

  -- written and read again, where a comma stood behind the last entry too
  pub entries_read_again : seek_of (point_width phrases) (seek_bytes (point_width phrases) (entries_in placed)) ≡ Ok placed
  entries_read_again =
      let some : 0 < length (entries_in placed) = omega (arith, seek_some (point_width phrases) s bytes placed reads, length-map placed (λ entry. entry.what)) in
      (seek_reads (point_width phrases) (entries_in placed) placed some (seek_fits (point_width phrases) s bytes placed reads) again_in_turn).0
