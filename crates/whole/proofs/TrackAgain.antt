-- Ticket 3: a score track that was read in the layout, given to be written as the two operations give its entries and items, is taken for the track that it
-- was.
use Prim.Native.Nat.{ℕ, ◌%◌, ◌≤◌}
use mathlib.Core.Bool.{Bool, true, false}
use mathlib.Core.List.{List, []}
use Rattle.std.specs.Prelude.{Option, None, Some, Ok}
use mathlib.Core.Path.{◌≡◌, refl, sym, ◌∙◌, ap, subst}
use lib.ListN.{length}
use native.Mathlib.Omega.{arith}
use borrow.Author.Tests.{eq-eqb}
use Rattle.model.specs.Words.{when◌then◌else◌, ◌and◌, Placed, passed, ◌>>=◌, ◌>>◌, all_pass}
use Rattle.model.specs.Bytes.{◌!◌, part, MspI}
use Rattle.model.specs.Chunk.{Chunk, body_place}
use Rattle.model.specs.Item.{Item}
use Rattle.model.specs.Seek.{Entry, seek_of}
use Rattle.model.specs.Points.{points_hold, order_holds}
use Rattle.model.specs.Track.{Track, fixed_size, point_width, points_of, seek_in}
use Rattle.model.specs.Plain.{bytes_of}
use Rattle.model.specs.Content.{Content, contents_in, handy_phone}
use Rattle.model.specs.Writing.{items_numbers, items_given, items_placed}
use Rattle.model.specs.SeekBytes.{entries_numbers, entries_given}
use Rattle.model.specs.Answer.{letters_of}
use Rattle.model.specs.Arrangement.{has_phrases}
use Rattle.model.specs.Tables.{Given, fixed_given, track_given}
use Rattle.model.specs.Layout.{track_held}
use Rattle.model.specs.declared.Event.{Event}
use Rattle.model.specs.declared.Voice.TheVariants.{Score}
use Rattle.model.proofs.Outcomes.{then_fine, bind_fine, fine_some}
use Rattle.inverse.proofs.ReadWrites.{body_writes}
use Rattle.whole.proofs.Bounded.{AllBelow}
use Rattle.whole.proofs.EntriesAgain.{none_given, entries_given_again}
use Rattle.entries.specs.Rows.{entries_in}
use Rattle.whole.proofs.ItemsAgain.{items_given_again}
use Rattle.whole.proofs.ItemPlaces.{read_points}
use Rattle.whole.proofs.TrackRow.{seek_part, SeekReads}
use Rattle.whole.proofs.TrackWrites.{SeekLaid, TrackLaid}
use Rattle.whole.proofs.TrackHeld.{chunk_below, seek_part_below, body_below, body_short}

-- the track as it is given
unfoldable pub given_held : List ℕ → Chunk → Track → Given
given_held s chunk track =
    record {
      number = chunk.id % 256;
      fixed = part s (body_place chunk) fixed_size;
      entries = entries_numbers track.entries;
      items = items_numbers track.items;
      letters = letters_of track.entries;
      source = track.body;
    }

-- ITS ENTRIES
entries_again : (track : Track) (seek : Option (List ℕ)) → AllBelow 256 (seek_part seek) → SeekLaid track seek
    → entries_given track.phrases (letters_of track.entries) (entries_numbers track.entries) ≡ Ok track.entries
unfolding seek_part entries_numbers
entries_again track None small laid = rw laid (none_given track.phrases (letters_of []))
entries_again track (Some seek) small laid = entries_given_again track.phrases seek (chunk_below MspI seek small) track.entries laid.0

-- ITS POINTS
no_points : (phrases : Bool) (items : List (Placed (Item Event))) (size : ℕ) → points_of phrases items size [] ≡ passed
unfolding points_of points_hold order_holds all_pass ◌>>◌
no_points true items size = refl
no_points false items size = refl

points_held : (phrases : Bool) (items : List (Placed (Item Event))) (size : ℕ) (seek : Option (List ℕ)) (entries : List (Placed Entry))
    → SeekReads phrases items size seek entries → points_of phrases items size entries ≡ passed
unfolding seek_in
points_held phrases items size None entries said = ap (points_of phrases items size) said ∙ no_points phrases items size
points_held phrases items size (Some seek) entries said =
    let a = bind_fine (seek_of (point_width phrases) seek) _ entries said in
    let b = then_fine (points_of phrases items size a.0) _ entries a.2 in
    let same : a.0 ≡ entries = let q = b.1 in cc in
    ap (points_of phrases items size) (sym same) ∙ (fine_some _ b.0).1

-- THE TRACK, where each of its checks passes
given_passes : (given : Given) (items : List (Item Content)) (entries : List (Placed Entry)) → fixed_given given.fixed ≡ passed
    → items_given Score given.source given.items ≡ Ok items
    → entries_given (has_phrases given.fixed) given.letters given.entries ≡ Ok entries
    → points_of (has_phrases given.fixed) (items_placed items) (length (bytes_of handy_phone items)) entries ≡ passed
    → track_given given ≡ Ok (record { number = given.number; fixed = given.fixed; entries = entries_in entries; items = items })
unfolding track_given ◌>>◌ ◌>>=◌
given_passes given items entries fixed found sought points = rw (fixed, found, sought, points) refl

module _ (s : List ℕ) (bytes : AllBelow 256 s) (few : length s ≤ 65536) (chunk : Chunk) (track : Track) (laid : TrackLaid s chunk track) where
  abbrev fixed : List ℕ
  fixed = part s (body_place chunk) fixed_size

  fixed_again : fixed_given fixed ≡ passed
  unfolding fixed_given when◌then◌else◌ ◌and◌
  fixed_again = rw (eq-eqb (fixed ! 0) 0 laid.format, laid.fits)

  pub track_given_again : track_given (given_held s chunk track) ≡ Ok (track_held s chunk track)
  unfolding given_held track_held
  track_given_again =
      let small = body_below s bytes chunk track laid in
      let phrases : track.phrases ≡ has_phrases fixed = laid.phrased in
      let items : List (Item Content) = contents_in track.body track.items in
      let same : bytes_of handy_phone items ≡ track.body = body_writes Score track.body small track.items laid.reads in
      let said = entries_again track laid.seek (seek_part_below s bytes chunk track laid) laid.laid in
      let holds : points_of track.phrases (items_placed items) (length (bytes_of handy_phone items)) track.entries ≡ passed =
      ap (λ (l : List ℕ). points_of track.phrases (items_placed items) (length l) track.entries) same
      ∙ read_points Score track.body track.items track.phrases (length track.body) track.entries small laid.reads
      ∙ points_held track.phrases track.items (length track.body) laid.seek track.entries laid.said in
      given_passes (given_held s chunk track) items track.entries fixed_again
      (items_given_again Score track.body small (omega (arith, body_short s bytes chunk track laid)) track.items laid.reads)
      (subst (λ (p : Bool). entries_given p (letters_of track.entries) (entries_numbers track.entries) ≡ Ok track.entries) phrases said)
      (subst (λ (p : Bool). points_of p (items_placed items) (length (bytes_of handy_phone items)) track.entries ≡ passed) phrases holds)
