-- Ticket 3: a track that is given to be written, and has no fault, has all that a chunk needs to be read as that track.
use Prim.Native.Nat.{ℕ, ◌<◌}
use mathlib.Core.Bool.{Bool, true}
use mathlib.Core.List.{List, [], ◌∷◌}
use Rattle.std.specs.Prelude.{Option, None, Some, Ok}
use mathlib.Core.Path.{◌≡◌, refl, sym, ◌∙◌, subst}
use lib.ListN.{length}
use native.Mathlib.Omega.{arith}
use borrow.Author.Tests.{eqb-true}
use Rattle.model.specs.Words.{◌and◌, ◌≡?◌, Placed, passed, ◌>>=◌, ◌>>◌}
use Rattle.model.specs.Bytes.{◌!◌}
use Rattle.model.specs.Item.{Item, is_fine, body_of}
use Rattle.model.specs.Seek.{Entry, seek_of}
use Rattle.model.specs.Track.{point_width, fixed_fits, points_of, seek_in}
use Rattle.model.specs.Plain.{bytes_of}
use Rattle.model.specs.Content.{Content, contents_in, handy_phone}
use Rattle.model.specs.Writing.{items_given, items_placed}
use Rattle.model.specs.SeekBytes.{seek_bytes, entries_given}
use Rattle.model.specs.Arrangement.{ScoreTrack, has_phrases, seek_chunk}
use Rattle.model.specs.Tables.{Given, fixed_given, track_given}
use Rattle.model.specs.declared.Event.{Event}
use Rattle.model.specs.declared.Voice.TheVariants.{Score}
use Rattle.model.proofs.Outcomes.{then_fine, bind_fine, fine_some, was_passed}
use Rattle.model.proofs.Tests.{and_left, and_right}
use Rattle.inverse.proofs.GivenFit.{given_fit}
use Rattle.inverse.proofs.WrittenReads.{sequence_reads}
use Rattle.whole.proofs.Bounded.{AllBelow}
use Rattle.entries.specs.Rows.{entries_in}
use Rattle.whole.proofs.EntriesGiven.{given_reads}
use Rattle.whole.proofs.ItemPlaces.{written_points}
use Rattle.whole.proofs.TrackRow.{seek_part, SeekReads}

-- the body of the seek chunk, where there is one
unfoldable pub seek_body : ℕ → List Entry → Option (List ℕ)
seek_body width [] = None
seek_body width (entry ∷ entries) = Some (seek_bytes width (entry ∷ entries))

pub seek_part_lem : (width : ℕ) (entries : List Entry) → seek_part (seek_body width entries) ≡ seek_chunk width entries
unfolding seek_part seek_body seek_chunk
seek_part_lem width [] = refl
seek_part_lem width (entry ∷ entries) = refl

abbrev pub sequence_of : ScoreTrack → List ℕ
sequence_of track = bytes_of handy_phone track.items

abbrev pub seek_of_track : ScoreTrack → Option (List ℕ)
seek_of_track track = seek_body (point_width (has_phrases track.fixed)) track.entries

-- WHAT IS ASKED of the tables: a track's number is a byte, its fixed bytes are six, and its entries' numbers have 32 bits
pub record GivenWell (given : Given) : Type 0 where
  pub byte : given.number < 256
  pub six : length given.fixed ≡ 6
  pub small : AllBelow 4294967296 given.entries

-- WHAT IS KNOWN of the track then
pub record TrackReady (track : ScoreTrack) : Type 0 where
  pub byte : track.number < 256
  pub six : length track.fixed ≡ 6
  pub format : track.fixed ! 0 ≡ 0
  pub fits : fixed_fits Score track.fixed 0 ≡ true
  pub items : List (Placed (Item Event))
  pub reads : body_of Score (sequence_of track) ≡ Ok items
  pub items_are : contents_in (sequence_of track) items ≡ track.items
  pub entries : List (Placed Entry)
  pub said : SeekReads (has_phrases track.fixed) items (length (sequence_of track)) (seek_of_track track) entries
  pub entries_are : entries_in entries ≡ track.entries

-- the entries, where the points hold
seek_said : (phrases : Bool) (items : List (Placed (Item Event))) (size : ℕ) (entries : List (Placed Entry))
    → (0 < length entries → seek_of (point_width phrases) (seek_bytes (point_width phrases) (entries_in entries)) ≡ Ok entries)
    → points_of phrases items size entries ≡ passed → SeekReads phrases items size (seek_body (point_width phrases) (entries_in entries)) entries
unfolding seek_body seek_in ◌>>=◌ ◌>>◌
seek_said phrases items size [] reads points = refl
seek_said phrases items size (entry ∷ entries) reads points = rw (reads (omega arith), points) refl

module _ (given : Given) (well : GivenWell given) where
  -- by the parts that its checks found
  track_found_lem : (items : List (Item Content)) (entries : List (Placed Entry)) → is_fine (fixed_given given.fixed) ≡ true
      → items_given Score given.source given.items ≡ Ok items → entries_given (has_phrases given.fixed) given.letters given.entries ≡ Ok entries
      → is_fine (points_of (has_phrases given.fixed) (items_placed items) (length (bytes_of handy_phone items)) entries) ≡ true
      → TrackReady (record { number = given.number; fixed = given.fixed; entries = entries_in entries; items = items })
  unfolding fixed_given
  track_found_lem items entries fixed found sought points =
      let phrases : Bool = has_phrases given.fixed in
      let test = was_passed ((given.fixed ! 0 ≡? 0) and fixed_fits Score given.fixed 0) 8 0 passed fixed in
      let fit = given_fit Score given.source given.items items found in
      let back = sequence_reads Score items fit.0 fit.1 in
      let hold : points_of phrases back.0 (length (bytes_of handy_phone items)) entries ≡ passed =
      sym (written_points Score items back.0 phrases (length (bytes_of handy_phone items)) entries fit.1 back.1 back.2) ∙ (fine_some _ points).1 in
      record {
        byte = well.byte;
        six = well.six;
        format = eqb-true (given.fixed ! 0) 0 (and_left _ _ test);
        fits = and_right (given.fixed ! 0 ≡? 0) _ test;
        items = back.0;
        reads = back.1;
        items_are = back.2;
        entries = entries;
        said =
            seek_said phrases back.0 (length (bytes_of handy_phone items)) entries
            (given_reads phrases given.letters given.entries well.small entries sought) hold;
        entries_are = refl;
      }

  pub track_ready : (track : ScoreTrack) → track_given given ≡ Ok track → TrackReady track × (track.number ≡ given.number)
  unfolding track_given
  track_ready track e =
      let a = then_fine _ _ track e in
      let b = bind_fine _ _ track a.1 in
      let c = bind_fine _ _ track b.2 in
      let d = then_fine _ _ track c.2 in
      let same : record { number = given.number; fixed = given.fixed; entries = entries_in c.0; items = b.0 } ≡ track = let q = d.1 in cc in
      subst (λ (t : ScoreTrack). TrackReady t × (t.number ≡ given.number)) same (track_found_lem b.0 c.0 a.0 b.1 c.1 d.0, refl)
