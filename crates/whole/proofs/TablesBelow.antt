-- Ticket 3: the two tables of what a file in the layout holds are of 32-bit numbers and of bytes, so that a caller can lend them to the writer as they are.
use Prim.Native.Nat.{ℕ, ◌%◌, ◌<◌, ◌≤◌}
use mathlib.Core.Bool.{true}
use mathlib.Core.List.{List, [], ◌∷◌, ◌++◌}
use Rattle.std.specs.Prelude.{Option, None, Some, Ok}
use mathlib.Core.Path.{◌≡◌}
use lib.ListN.{length}
use native.Mathlib.Omega.{arith}
use Rattle.model.specs.Words.{◌otherwise◌, first_said, Placed}
use Rattle.model.specs.Bytes.{part, MspI}
use Rattle.model.specs.Chunk.{Chunk, body_place}
use Rattle.model.specs.Seek.{Entry, order_list}
use Rattle.model.specs.Track.{Track, fixed_size}
use Rattle.model.specs.File.{Top, Top.leaf, Top.readable, File, contents_of}
use Rattle.model.specs.Writing.{items_numbers}
use Rattle.model.specs.SeekBytes.{entries_numbers}
use Rattle.model.specs.Answer.{letters_of}
use Rattle.model.specs.Layout.{numbers_held, bytes_held, is_laid}
use Rattle.model.specs.declared.Voice.TheVariants.{Score}
use Rattle.whole.proofs.Bounded.{AllBelow, part_below, both_below, four_lists_below, none_below, one_below}
use Rattle.whole.proofs.EntriesBelow.{order_letters_below, order_letters_few, entries_few, entry_numbers_below, four_below}
use Rattle.whole.proofs.ItemsBelow.{items_few, item_numbers_below}
use Rattle.whole.proofs.ChunksRead.{chunk_length}
use Rattle.whole.proofs.TrackRow.{seek_part}
use Rattle.whole.proofs.TrackWrites.{SeekLaid, TrackLaid}
use Rattle.whole.proofs.TrackHeld.{chunk_below, seek_part_below, seek_part_short, body_below, body_short}
use Rattle.whole.proofs.FileLaid.{TracksLaid, file_laid}

-- ITS ENTRIES
record SeekBelow (entries : List (Placed Entry)) : Type 0 where
  many : length entries < 4294967296
  numbers : AllBelow 4294967296 (entries_numbers entries)
  letters : AllBelow 256 (letters_of entries)
  few : length (letters_of entries) < 4294967296

none_said : SeekBelow []
unfolding entries_numbers letters_of order_list first_said ◌otherwise◌
none_said =
    record {
      many = omega arith;
      numbers = none_below 4294967296 (omega arith);
      letters = none_below 256 (omega arith);
      few = omega arith;
    }

seek_below : (track : Track) (seek : Option (List ℕ)) → AllBelow 256 (seek_part seek) → length (seek_part seek) ≤ 65536 → SeekLaid track seek
    → SeekBelow track.entries
unfolding seek_part
seek_below track None small short laid = rw laid none_said
seek_below track (Some seek) small short laid =
    let bytes = chunk_below MspI seek small in
    let long = chunk_length MspI seek in
    record {
      many = omega (arith, entries_few track.phrases seek bytes track.entries laid.0);
      numbers = entry_numbers_below track.phrases seek bytes track.entries laid.0 (omega arith);
      letters = order_letters_below track.phrases seek bytes track.entries laid.0;
      few = omega (arith, order_letters_few track.phrases seek bytes track.entries laid.0);
    }

-- ALL TRACKS
module _ (s : List ℕ) (bytes : AllBelow 256 s) (few : length s ≤ 65536) where
  entries_below : (chunk : Chunk) (track : Track) → TrackLaid s chunk track → SeekBelow track.entries
  entries_below chunk track laid =
      seek_below track laid.seek (seek_part_below s bytes chunk track laid) (omega (arith, seek_part_short s bytes chunk track laid)) laid.laid

  numbers_held_lem : (tops : List Top) → TracksLaid s tops → AllBelow 4294967296 (numbers_held tops)
  unfolding numbers_held
  numbers_held_lem [] laid = none_below 4294967296 (omega arith)
  numbers_held_lem (leaf chunk ∷ tops) laid = absurd laid
  numbers_held_lem (readable chunk track ∷ tops) laid =
      let small = body_below s bytes chunk track laid.1 in
      let short = body_short s bytes chunk track laid.1 in
      let said = entries_below chunk track laid.1 in
      let items = item_numbers_below Score track.body small track.items laid.1.reads (omega arith) in
      let entry_count : ℕ = length track.entries in
      let item_count : ℕ = length track.items in
      let letter_count : ℕ = length (letters_of track.entries) in
      let counts =
      four_below entry_count item_count letter_count (length track.body) said.many
      (omega (arith, items_few Score track.body small track.items laid.1.reads)) said.few (omega arith) in
      four_lists_below 4294967296 (entry_count ∷ item_count ∷ letter_count ∷ length track.body ∷ []) (entries_numbers track.entries)
      (items_numbers track.items) (numbers_held tops) counts said.numbers items (numbers_held_lem tops laid.2)

  bytes_held_lem : (tops : List Top) → TracksLaid s tops → AllBelow 256 (bytes_held s tops)
  unfolding bytes_held
  bytes_held_lem [] laid = none_below 256 (omega arith)
  bytes_held_lem (leaf chunk ∷ tops) laid = absurd laid
  bytes_held_lem (readable chunk track ∷ tops) laid =
      let number : chunk.id % 256 < 256 = omega arith in
      let fixed : List ℕ = part s (body_place chunk) fixed_size in
      four_lists_below 256 (chunk.id % 256 ∷ fixed) (letters_of track.entries) track.body (bytes_held s tops)
      (one_below 256 (chunk.id % 256) fixed number (part_below 256 (body_place chunk) fixed_size s bytes)) (entries_below chunk track laid.1).letters
      (body_below s bytes chunk track laid.1) (bytes_held_lem tops laid.2)

  pub tables_below : (file : File) → contents_of s ≡ Ok file → is_laid file ≡ true
      → AllBelow 4294967296 (numbers_held file.tops) × AllBelow 256 (part s 16 5 ++ bytes_held s file.tops)
  unfolding numbers_held bytes_held
  tables_below file reads ok =
      let laid = file_laid s bytes file reads ok in
      let contents = part_below 256 16 5 s bytes in
      let others = bytes_held_lem laid.tracks laid.laid in
      rw laid.tops (numbers_held_lem laid.tracks laid.laid, both_below 256 (part s 16 5) (bytes_held s laid.tracks) contents others)
