-- Ticket 3: tables that are made of tracks, one behind the other, are taken apart into exactly these.
use Prim.Native.Nat.{ℕ, zero, suc, ◌+◌, ◌*◌, ◌≤◌}
use mathlib.Core.List.{List, [], ◌∷◌, ◌++◌, append_assoc}
use mathlib.Core.Path.{◌≡◌, refl, sym, ◌∙◌, ap}
use lib.ListN.{length, drop, length-append, length-drop}
use native.Mathlib.Omega.{arith}
use borrow.Author.Tests.{le-ltb}
use Rattle.model.specs.Words.{when◌then◌else◌, ◌or◌}
use Rattle.model.specs.Bytes.{part}
use Rattle.model.specs.Tables.{Given, numbers_taken, bytes_taken, first_given, given_from}
use Rattle.whole.proofs.Following.{follows_behind, follows_part}

-- a track as it is given, in its two tables: so many entries and items, and the numbers and bytes of the tracks behind it
unfoldable pub numbers_with : Given → ℕ → ℕ → List ℕ → List ℕ
numbers_with given entries items others =
    (entries ∷ items ∷ length given.letters ∷ length given.source ∷ []) ++ given.entries ++ given.items ++ others

unfoldable pub bytes_with : Given → List ℕ → List ℕ
bytes_with given others = (given.number ∷ given.fixed) ++ given.letters ++ given.source ++ others

module _ (given : Given) (entries items : ℕ) (six : length given.fixed ≡ 6) (four_each : length given.entries ≡ 4 * entries)
    (two-each : length given.items ≡ 2 * items) (numbers bytes : List ℕ) where
  abbrev all_numbers : List ℕ
  all_numbers = numbers_with given entries items numbers

  abbrev all_bytes : List ℕ
  all_bytes = bytes_with given bytes

  -- what follows each of its parts
  entries_follow : drop 4 all_numbers ≡ given.entries ++ (given.items ++ numbers)
  unfolding numbers_with
  entries_follow = append_assoc given.entries given.items numbers

  items_follow : drop (4 + 4 * entries) all_numbers ≡ given.items ++ numbers
  items_follow = ap (λ (n : ℕ). drop (4 + n) all_numbers) (sym four_each) ∙ follows_behind all_numbers 4 given.entries _ entries_follow

  numbers_follow : drop (4 + 4 * entries + 2 * items) all_numbers ≡ numbers
  numbers_follow =
      ap (λ (n : ℕ). drop (4 + 4 * entries + n) all_numbers) (sym two-each) ∙ follows_behind all_numbers (4 + 4 * entries) given.items numbers items_follow

  fixed_follow : drop 1 all_bytes ≡ given.fixed ++ (given.letters ++ (given.source ++ bytes))
  unfolding bytes_with
  fixed_follow = append_assoc (given.fixed ++ given.letters) given.source bytes ∙ append_assoc given.fixed given.letters (given.source ++ bytes)

  letters_follow : drop 7 all_bytes ≡ given.letters ++ (given.source ++ bytes)
  letters_follow = ap (λ (n : ℕ). drop (1 + n) all_bytes) (sym six) ∙ follows_behind all_bytes 1 given.fixed _ fixed_follow

  source_follows : drop (7 + length given.letters) all_bytes ≡ given.source ++ bytes
  source_follows = follows_behind all_bytes 7 given.letters _ letters_follow

  bytes_follow : drop (7 + length given.letters + length given.source) all_bytes ≡ bytes
  bytes_follow = follows_behind all_bytes (7 + length given.letters) given.source bytes source_follows

  -- THE FIRST TRACK is this one, and behind it are the others
  first_is : first_given all_numbers all_bytes ≡ given
  unfolding first_given numbers_with bytes_with
  first_is =
      let fixed_is : part all_bytes 1 6 ≡ given.fixed = ap (part all_bytes 1) (sym six) ∙ follows_part all_bytes 1 given.fixed _ fixed_follow in
      let entries_is : part all_numbers 4 (4 * entries) ≡ given.entries =
      ap (part all_numbers 4) (sym four_each) ∙ follows_part all_numbers 4 given.entries _ entries_follow in
      let items_is : part all_numbers (4 + 4 * entries) (2 * items) ≡ given.items =
      ap (part all_numbers (4 + 4 * entries)) (sym two-each) ∙ follows_part all_numbers (4 + 4 * entries) given.items numbers items_follow in
      let letters_is : part all_bytes 7 (length given.letters) ≡ given.letters = follows_part all_bytes 7 given.letters _ letters_follow in
      let source_is : part all_bytes (7 + length given.letters) (length given.source) ≡ given.source =
      follows_part all_bytes (7 + length given.letters) given.source bytes source_follows in
      λ i. record {
        number = given.number;
        fixed = fixed_is i;
        entries = entries_is i;
        items = items_is i;
        letters = letters_is i;
        source = source_is i;
      }

  numbers_behind : drop (numbers_taken all_numbers) all_numbers ≡ numbers
  unfolding numbers_taken numbers_with
  numbers_behind = numbers_follow

  bytes_behind : drop (bytes_taken all_numbers) all_bytes ≡ bytes
  unfolding bytes_taken numbers_with
  bytes_behind = bytes_follow

  numbers_there : 4 ≤ length all_numbers
  unfolding numbers_with
  numbers_there = omega arith

  bytes_there : 7 ≤ length all_bytes
  bytes_there = omega (arith, length-drop 1 all_bytes, ap length fixed_follow, length-append given.fixed (given.letters ++ (given.source ++ bytes)))

  pub split_first : (turns : ℕ) → given_from (suc turns) all_numbers all_bytes ≡ given ∷ given_from turns numbers bytes
  unfolding given_from when◌then◌else◌ ◌or◌
  split_first turns =
      let enough = le-ltb (length all_numbers) 4 numbers_there in
      let long = le-ltb (length all_bytes) 7 bytes_there in
      rw (enough, long, first_is, numbers_behind, bytes_behind) refl

pub split_none : (turns : ℕ) (bytes : List ℕ) → given_from turns [] bytes ≡ []
unfolding given_from when◌then◌else◌ ◌or◌
split_none zero bytes = refl
split_none (suc turns) bytes = refl
