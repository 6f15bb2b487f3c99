-- Ticket 3: the entries of a seek body that reads, as the operation gives them, are 32-bit numbers, and the letters of their order list are bytes.
use Prim.Native.Nat.{ℕ, ◌+◌, ◌^◌, ◌<◌, ◌≤◌}
use mathlib.Core.Bool.{Bool, true, false}
use mathlib.Core.List.{List, [], ◌∷◌}
use mathlib.Core.Path.{◌≡◌, sym, ◌∙◌, ap}
use lib.ListN.{length, length-append}
use native.Mathlib.Omega.{arith}
use Rattle.model.specs.Words.{◌otherwise◌, ◌or_else◌, first_said, Placed}
use Rattle.std.specs.Prelude.{Ok}
use Rattle.model.specs.Seek.{Entry, Entry.start, Entry.stop, Entry.phrase, Entry.order, is_letter, letters_in_front, order_in, order_list, entry_step, seek_of}
use Rattle.model.specs.Track.{point_width}
use Rattle.model.specs.SeekBytes.{data_bytes, entry_bytes, further_bytes, seek_bytes, entry_numbers, entries_numbers}
use Rattle.model.specs.Answer.{letters_of}
use Rattle.model.proofs.Tests.{by_test, if_true, if_false}
use Rattle.seek.proofs.Ahead.{entry_goes}
use Rattle.seek.proofs.Letters.{letter_most}
use Rattle.whole.proofs.Bounded.{AllBelow, both_below, none_below, one_below}
use Rattle.whole.proofs.StandShort.{stand_short}
use Rattle.entries.specs.Rows.{entries_in}
use Rattle.whole.proofs.EntriesFit.{EntryFits, EntriesFit}
use Rattle.whole.proofs.SeekStands.{reads_stands}
use Rattle.whole.proofs.EntryReads.{entry_length}
use Rattle.whole.proofs.SeekWrites.{seek_fits, seek_writes_to_last}
use Rattle.whole.proofs.OrderLetters.{OrderIs, OrdersAre, orders_said}

-- THE LETTERS
letters_below : (letters : List ℕ) → letters_in_front letters ≡ length letters → AllBelow 256 letters
unfolding letters_in_front
letters_below [] all = none_below 256 (omega arith)
letters_below (letter ∷ letters) all =
    by_test (is_letter letter)
    (λ h.
    one_below 256 letter letters (omega (arith, letter_most letter h))
    (letters_below letters (omega (arith, sym (if_true (is_letter letter) _ _ h) ∙ all))))
    (λ h. let none_here = sym (if_false (is_letter letter) _ _ h) ∙ all in absurd (omega arith))

one_said : (width : ℕ) (what : Entry) (entries : List (Placed Entry)) → EntryFits width what → AllBelow 256 (letters_of entries)
    → AllBelow 256 ((order_in what or_else order_list entries) otherwise [])
unfolding letters_of order_in ◌or_else◌ ◌otherwise◌
one_said width (start value) entries fits others = others
one_said width (stop value) entries fits others = others
one_said width (phrase letter from to) entries fits others = others
one_said width (order letters) entries fits others = letters_below letters fits

said_below : (width : ℕ) (entries : List (Placed Entry)) → EntriesFit width (entries_in entries) → AllBelow 256 (letters_of entries)
unfolding letters_of order_list first_said ◌otherwise◌
said_below width [] fit = none_below 256 (omega arith)
said_below width (entry ∷ entries) fit = one_said width entry.what entries fit.0 (said_below width entries fit.1)

-- and there are no more of them than bytes in the body
one_few : (width : ℕ) (what : Entry) (entries : List (Placed Entry)) (rest : ℕ) → length (letters_of entries) ≤ rest
    → length ((order_in what or_else order_list entries) otherwise []) ≤ length (data_bytes width what) + rest
unfolding letters_of order_in data_bytes ◌or_else◌ ◌otherwise◌
one_few width (start value) entries rest h = omega arith
one_few width (stop value) entries rest h = omega arith
one_few width (phrase letter from to) entries rest h = omega arith
one_few width (order letters) entries rest h = omega arith

said_few : (width : ℕ) (entries : List (Placed Entry)) → length (letters_of entries) ≤ length (further_bytes width (entries_in entries))
unfolding letters_of order_list first_said further_bytes ◌otherwise◌
said_few width [] = omega arith
said_few width (entry ∷ entries) =
    let rest : List ℕ = further_bytes width (entries_in entries) in
    let one = one_few width entry.what entries (length rest) (said_few width entries) in
    omega (arith, length-append (0x2C ∷ entry_bytes width entry.what) rest, entry_length width entry.what)

seek_further : (width : ℕ) (entries : List Entry) → length (further_bytes width entries) ≤ 1 + length (seek_bytes width entries)
unfolding further_bytes seek_bytes
seek_further width [] = omega arith
seek_further width (entry ∷ entries) =
    omega (
      arith,
      length-append (0x2C ∷ entry_bytes width entry) (further_bytes width entries),
      length-append (entry_bytes width entry) (further_bytes width entries),
    )

-- THE NUMBERS
point_below : (phrases : Bool) (value : ℕ) → value < 256 ^ point_width phrases → value < 4294967296
point_below true value h = omega arith
point_below false value h = omega arith

pub four_below : (a b c d : ℕ) → a < 4294967296 → b < 4294967296 → c < 4294967296 → d < 4294967296 → AllBelow 4294967296 (a ∷ b ∷ c ∷ d ∷ [])
four_below a b c d h i j k =
    one_below 4294967296 a (b ∷ c ∷ d ∷ []) h
    (one_below 4294967296 b (c ∷ d ∷ []) i
    (one_below 4294967296 c (d ∷ []) j (one_below 4294967296 d [] k (none_below 4294967296 (omega arith)))))

module _ (phrases : Bool) (letters : List ℕ) (few : length letters < 4294967296) where
  entry_below : (entry : Entry) → EntryFits (point_width phrases) entry → OrderIs letters entry → AllBelow 4294967296 (entry_numbers entry)
  unfolding entry_numbers
  entry_below (start value) fits is = four_below 0 0 value 0 (omega arith) (omega arith) (point_below phrases value fits) (omega arith)
  entry_below (stop value) fits is = four_below 1 0 value 0 (omega arith) (omega arith) (point_below phrases value fits) (omega arith)
  entry_below (phrase letter from to) fits is =
      four_below 2 letter from to (omega arith) (omega (arith, letter_most letter fits.0)) (let h = fits.1 in omega arith) (let h = fits.2 in omega arith)
  entry_below (order others) fits is = four_below 3 0 (length others) 0 (omega arith) (omega arith) (omega (arith, ap length is)) (omega arith)

  numbers_below : (entries : List (Placed Entry)) → EntriesFit (point_width phrases) (entries_in entries) → OrdersAre letters entries
      → AllBelow 4294967296 (entries_numbers entries)
  unfolding entries_numbers
  numbers_below [] fit are = none_below 4294967296 (omega arith)
  numbers_below (entry ∷ entries) fit are =
      both_below 4294967296 (entry_numbers entry.what) (entries_numbers entries) (entry_below entry.what fit.0 are.0)
      (numbers_below entries fit.1 are.1)

module _ (phrases : Bool) (s : List ℕ) (bytes : AllBelow 256 s) (entries : List (Placed Entry)) (reads : seek_of (point_width phrases) s ≡ Ok entries) where
  pub order_letters_below : AllBelow 256 (letters_of entries)
  order_letters_below = said_below (point_width phrases) entries (seek_fits (point_width phrases) s bytes entries reads)

  pub order_letters_few : length (letters_of entries) ≤ 1 + length s
  order_letters_few =
      let width : ℕ = point_width phrases in
      let all = seek_writes_to_last width s bytes entries reads in
      omega (
        arith,
        said_few width entries,
        seek_further width (entries_in entries),
        ap length all.2,
        length-append (seek_bytes width (entries_in entries)) all.0,
      )

  pub entries_few : length entries ≤ length s
  entries_few =
      let width : ℕ = point_width phrases in
      omega (arith, stand_short (length s) (entry_step width s) (entry_goes width s) entries 0 (reads_stands width s entries reads).stands)

  pub entry_numbers_below : length s ≤ 65536 → AllBelow 4294967296 (entries_numbers entries)
  entry_numbers_below few =
      numbers_below phrases (letters_of entries) (omega (arith, order_letters_few)) entries (seek_fits (point_width phrases) s bytes entries reads)
      (orders_said phrases s entries reads)
