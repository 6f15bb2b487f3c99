-- Ticket 3, "writing what was read gives the same bytes", over the tables that the two operations give: they are taken for what the file holds, so that the
-- file is written again as it was.
use Prim.Native.Nat.{ℕ, zero, suc, ◌+◌, ◌*◌, ◌≤◌}
use mathlib.Core.Bool.{true}
use mathlib.Core.List.{List, [], ◌∷◌, ◌++◌}
use mathlib.Core.Path.{◌≡◌, refl, ◌∙◌, ap}
use lib.ListN.{length, take, length-append}
use lib.Seq.{take_at, drop_at}
use native.Mathlib.Omega.{arith}
use borrow.Author.Tests.{ne_eqb, le-ltb}
use Rattle.model.specs.Words.{when◌then◌else◌, ◌or◌, ◌>>=◌, ◌>>◌, told_at}
use Rattle.std.specs.Prelude.{Ok}
use Rattle.model.specs.Bytes.{part}
use Rattle.model.specs.File.{Top, Top.leaf, Top.readable, File, contents_of}
use Rattle.model.specs.SeekBytes.{entries_numbers}
use Rattle.model.specs.Writing.{items_numbers}
use Rattle.model.specs.Tables.{Given, given_from, given_in, tracks_from, arrangement_of}
use Rattle.model.specs.Layout.{tracks_held, held_in, numbers_held, bytes_held, is_laid}
use Rattle.model.specs.Answer.{within_room, write_of}
use Rattle.model.proofs.Parts.{part_length}
use Rattle.whole.proofs.Bounded.{AllBelow}
use Rattle.whole.proofs.EntriesAgain.{numbers_length}
use Rattle.whole.proofs.ItemsAgain.{item_numbers_length}
use Rattle.whole.proofs.FileLaid.{TracksLaid, FileLaid, file_laid}
use Rattle.whole.proofs.FileWrites.{read_writes}
use Rattle.whole.proofs.TablesSplit.{numbers_with, bytes_with, split_first, split_none}
use Rattle.whole.proofs.TrackAgain.{given_held, track_given_again}
use Rattle.whole.proofs.TracksOnce.{givens_held, file_tracked, file_once}

module _ (s : List ℕ) where
  -- THE TABLES are taken apart into the tracks
  tables_split : (tops : List Top) (turns : ℕ) → TracksLaid s tops → length (numbers_held tops) ≤ turns
      → given_from turns (numbers_held tops) (bytes_held s tops) ≡ givens_held s tops
  unfolding numbers_held bytes_held givens_held given_held numbers_with bytes_with
  tables_split [] turns laid enough = split_none turns []
  tables_split (leaf chunk ∷ tops) turns laid enough = absurd laid
  tables_split (readable chunk track ∷ tops) zero laid enough = absurd (omega arith)
  tables_split (readable chunk track ∷ tops) (suc turns) laid enough =
      let given : Given = given_held s chunk track in
      let four_each : length (entries_numbers track.entries) ≡ 4 * length track.entries = omega (arith, numbers_length track.entries) in
      let fewer : length (numbers_held tops) ≤ turns =
      omega (arith, length-append (entries_numbers track.entries ++ items_numbers track.items) (numbers_held tops)) in
      split_first given (length track.entries) (length track.items) laid.1.six four_each (item_numbers_length track.items) (numbers_held tops)
      (bytes_held s tops) turns
      ∙ ap (λ (l : List Given). given ∷ l) (tables_split tops turns laid.2 fewer)

  held_long : (tops : List Top) → TracksLaid s tops → length (tracks_held s tops) ≡ length tops
  unfolding tracks_held
  held_long [] laid = refl
  held_long (leaf chunk ∷ tops) laid = absurd laid
  held_long (readable chunk track ∷ tops) laid = ap suc (held_long tops laid.2)

  givens_long : (tops : List Top) → TracksLaid s tops → length (givens_held s tops) ≡ length tops
  unfolding givens_held
  givens_long [] laid = refl
  givens_long (leaf chunk ∷ tops) laid = absurd laid
  givens_long (readable chunk track ∷ tops) laid = ap suc (givens_long tops laid.2)

  -- and these for what the file holds
  tracks_taken : AllBelow 256 s → length s ≤ 65536 → (tops : List Top) (index : ℕ) → TracksLaid s tops
      → tracks_from index (givens_held s tops) ≡ Ok (tracks_held s tops)
  unfolding tracks_from givens_held tracks_held told_at ◌>>=◌
  tracks_taken bytes few [] index laid = refl
  tracks_taken bytes few (leaf chunk ∷ tops) index laid = absurd laid
  tracks_taken bytes few (readable chunk track ∷ tops) index laid =
      rw (track_given_again s bytes few chunk track laid.1, tracks_taken bytes few tops (index + 1) laid.2) refl

module _ (s : List ℕ) (bytes : AllBelow 256 s) (file : File) (reads : contents_of s ≡ Ok file) (ok : is_laid file ≡ true) (few : length s ≤ 65536) where
  abbrev numbers : List ℕ
  numbers = numbers_held file.tops

  abbrev others : List ℕ
  others = part s 16 5 ++ bytes_held s file.tops

  module _ (laid : FileLaid s file) where
    contents_long : length (part s 16 5) ≡ 5
    contents_long = let within = laid.within in part_length s 16 5 (omega arith)

    all_given : given_in numbers others ≡ givens_held s laid.tracks
    unfolding given_in numbers_held bytes_held
    all_given =
        ap (given_from (length numbers) numbers) (drop_at (part s 16 5) (bytes_held s file.tops) 5 contents_long)
        ∙ rw laid.tops (tables_split s laid.tracks (length (numbers_held laid.tracks)) laid.laid (omega arith))

    all_taken : arrangement_of numbers others ≡ Ok (held_in s file)
    unfolding arrangement_of held_in tracks_held when◌then◌else◌ ◌>>◌ ◌>>=◌
    all_taken =
        let front : take 5 others ≡ part s 16 5 = take_at (part s 16 5) (bytes_held s file.tops) 5 contents_long in
        let many : length (givens_held s laid.tracks) ≡ 0 → ⊥ = λ e. omega (arith, givens_long s laid.tracks laid.laid, file_tracked s file laid) in
        rw (
          all_given,
          file_once s file laid,
          ne_eqb (length (givens_held s laid.tracks)) 0 many,
          tracks_taken s bytes few laid.tracks 0 laid.laid,
          front,
          laid.tops,
        ) refl

  pub tables_given_again : arrangement_of (numbers_held file.tops) (part s 16 5 ++ bytes_held s file.tops) ≡ Ok (held_in s file)
  tables_given_again = all_taken (file_laid s bytes file reads ok)

  module _ (right : file.matches ≡ true) (sixteen : length file.tops ≤ 17) (room : ℕ) (enough : length s ≤ room) where
    tracks_few : length (held_in s file).tracks ≤ 16
    unfolding held_in tracks_held
    tracks_few =
        let laid = file_laid s bytes file reads ok in
        let long = held_long s laid.tracks laid.laid in
        rw laid.tops (omega (arith, ap length laid.tops))

    pub writes_again : write_of (numbers_held file.tops) (part s 16 5 ++ bytes_held s file.tops) room ≡ Ok s
    unfolding write_of within_room when◌then◌else◌ ◌or◌ ◌>>◌ ◌>>=◌
    writes_again =
        let same = read_writes s bytes file reads ok right in
        rw (tables_given_again, le-ltb 16 (length (held_in s file).tracks) tracks_few, same, le-ltb 65536 (length s) few, le-ltb room (length s) enough) refl
