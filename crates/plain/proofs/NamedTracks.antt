-- A readable track of an accepted file: its items are what its body reads to, its body is a part of the file, and its order list has no more
-- letters than the file has bytes.
use Prim.Native.Nat.{ℕ, ◌+◌, ◌<◌, ◌≤◌}
use mathlib.Core.List.{List, [], ◌∷◌}
use mathlib.Core.Bool.{Bool, true, false, false≢true}
use Rattle.std.specs.Prelude.{Option, None, Some, Ok}
use mathlib.Core.Path.{◌≡◌, refl, sym, ◌∙◌, ap, ap₂}
use lib.ListN.{length, take, drop, length-take}
use lib.Seq.{get_or-drop}
use native.Mathlib.Omega.{arith}
use Rattle.model.specs.Words.{◌≡?◌, ◌otherwise◌, first_said, Placed, Checked, each}
use Rattle.model.specs.Bytes.{◌!◌, part}
use Rattle.model.specs.Item.{Item, is_fine, found, body_of}
use Rattle.model.specs.Seek.{Entry, seek_of, order_list, points_said}
use Rattle.model.specs.Chunk.{Chunk}
use Rattle.model.specs.Track.{Track, seek_in, entries_of, track_of}
use Rattle.model.specs.File.{File, Top, Top.leaf, Top.readable, top_of, file_of, parts_of, track_in, track_from, track_at}
use Rattle.model.specs.declared.Voice.{Voice}
use Rattle.model.specs.declared.Event.{Event}
use Rattle.model.proofs.Parts.{take_bytes, part_short}
use Rattle.model.proofs.Outcomes.{then_fine, bind_fine, counted_fine}
use Rattle.model.proofs.Tests.{by_test, if_true, if_false}
use Rattle.seek.proofs.Standing.{all_entries}
use Rattle.seek.proofs.Naming.{ordered}
use Rattle.reading.proofs.TrackMade.{track_made}
use Rattle.reading.proofs.Accepted.{stated_bytes, stated_small, contents_made, each_fine, each_none, OpenedAs, opened_as}

-- bytes of a part are bytes
part_bytes_lem : (s : List ℕ) (place size : ℕ) → ((k : ℕ) → s ! k < 256) → (k : ℕ) → part s place size ! k < 256
part_bytes_lem s place size bytes k = take_bytes (drop place s) size (λ j. omega (arith, get_or-drop place s j 0, bytes (place + j))) k

-- an order list has no more letters than the file has bytes
listed_few : (s letters : List ℕ) (entries : List (Placed Entry)) → seek_of 1 s ≡ Ok entries → order_list entries ≡ Some letters → length letters ≤ length s
unfolding is_fine found ◌otherwise◌
listed_few s letters entries e listed =
    let all = (ordered true s (ap is_fine e) (points_said (all_entries true s)) refl).fits in
    let same : (order_list (all_entries true s) otherwise []) ≡ letters =
    ap (λ (c : Checked (List (Placed Entry))). order_list (found c) otherwise []) e ∙ ap (λ (o : Option (List ℕ)). o otherwise []) listed in
    omega (arith, ap length same)

letters_few : (phrases : Bool) (s : List ℕ) (items : List (Placed (Item Event))) (size : ℕ) (chunk : Option Chunk) (entries : List (Placed Entry))
    → entries_of phrases items size s chunk ≡ Ok entries → (letters : List ℕ) → phrases ≡ true → order_list entries ≡ Some letters → length letters ≤ length s
unfolding entries_of order_list first_said seek_in
letters_few phrases s items size None entries e letters is listed =
    let empty : [] ≡ entries = cc in
    let q : order_list [] ≡ Some letters = ap order_list empty ∙ listed in
    let z : ◌≡◌ {A = ℕ} 0 1 = cc in
    absurd (omega arith)
letters_few false s items size (Some chunk) entries e letters is listed = absurd (false≢true is)
letters_few true s items size (Some chunk) entries e letters is listed =
    let a = bind_fine _ _ entries (counted_fine (chunk.place + 8) _ entries e) in
    let b = then_fine _ _ entries a.2 in
    let last = b.1 in
    let same : a.0 ≡ entries = cc in
    let few = listed_few (part s (chunk.place + 8) chunk.size) letters entries (a.1 ∙ ap Ok same) listed in
    omega (arith, part_short s (chunk.place + 8) chunk.size)

record Body (s : List ℕ) (track : Track) : Type 0 where
  place : ℕ
  size : ℕ
  is : track.body ≡ part s place size
  reads : body_of track.voice track.body ≡ Ok track.items
  few : (letters : List ℕ) → track.phrases ≡ true → order_list track.entries ≡ Some letters → length letters ≤ length s

track_body : (s : List ℕ) (voice : Voice) (chunk : Chunk) (track : Track) → track_of s voice chunk ≡ Ok track → Body s track
track_body s voice chunk track e =
    let made = track_made s voice chunk track e in
    record {
      place = made.sequence.place + 8;
      size = made.sequence.size;
      is = made.body;
      reads = ap₂ body_of made.voiced made.body ∙ made.reads;
      few = letters_few track.phrases s track.items _ _ track.entries made.entries;
    }

-- the track that a row names
track_opened : (s : List ℕ) (chunk : Chunk) (top : Top) (track : Track) → OpenedAs s chunk top → track_in top ≡ Some track → Body s track
unfolding track_in
track_opened s chunk (leaf one) track o e = let z : ◌≡◌ {A = ℕ} 0 1 = cc in absurd (omega arith)
track_opened s chunk (readable one made) track o e =
    let same : made ≡ track = cc in
    track_body s o.1 chunk track (o.3 ∙ ap Ok same)

row_opened : (s : List ℕ) (row k : ℕ) (chunks : List Chunk) (tops : List Top) (track : Track) → each (top_of s) chunks ≡ Ok tops
    → track_from row k tops ≡ Some track → Body s track
unfolding track_from
row_opened s row k [] tops track e h =
    let empty = ap (track_from row k) (sym (each_none (top_of s) tops e)) ∙ h in
    let z : ◌≡◌ {A = ℕ} 0 1 = cc in
    absurd (omega arith)
row_opened s row k (chunk ∷ chunks) tops track e h =
    let o = each_fine (top_of s) chunk chunks tops e in
    let asked : track_from row k (o.0 ∷ o.1) ≡ Some track = ap (track_from row k) (sym o.4) ∙ h in
    by_test (row ≡? k)
    (λ hit. track_opened s chunk o.0 track (opened_as s chunk o.0 o.2) (sym (if_true (row ≡? k) _ _ hit) ∙ asked))
    (λ miss. row_opened s row (k + 1 + length (parts_of o.0)) chunks o.1 track o.3 (sym (if_false (row ≡? k) _ _ miss) ∙ asked))

pub record Readable (track : Track) : Type 0 where
  pub bytes : (k : ℕ) → track.body ! k < 256
  pub small : length track.body ≤ 65536
  pub reads : body_of track.voice track.body ≡ Ok track.items
  pub few : (letters : List ℕ) → track.phrases ≡ true → order_list track.entries ≡ Some letters → length letters ≤ 65536

pub named_reads : (buffer : List ℕ) (n row : ℕ) (file : File) (track : Track) → ((k : ℕ) → buffer ! k < 256) → file_of buffer n ≡ Ok file
    → track_at file row ≡ Some track → Readable track
unfolding track_at
named_reads buffer n row file track bytes e h =
    let made = contents_made (take n buffer) file (stated_bytes buffer n file e).1 in
    let body = row_opened (take n buffer) row 1 made.chunks file.tops track made.opens h in
    let stated : length (take n buffer) ≤ 65536 = let low = stated_small buffer n file e in simp length-take (omega arith) in
    record {
      bytes = rw body.is (part_bytes_lem (take n buffer) body.place body.size (take_bytes buffer n bytes));
      small = omega (arith, ap length body.is, part_short (take n buffer) body.place body.size);
      reads = body.reads;
      few = λ letters phrases listed. let low = body.few letters phrases listed in omega arith;
    }
