-- The bodies of a readable track: those that are found in its list are its own.
use Prim.Native.Nat.{ℕ, ◌+◌, ◌<◌, ◌≤◌}
use mathlib.Core.Path.{◌≡◌, refl, sym, ◌∙◌, ap, subst}
use mathlib.Core.Bool.{Bool, true, false}
use mathlib.Core.List.{List, []}
use Rattle.std.specs.Prelude.{Option, None, Some, Ok, Err}
use lib.ListN.{length}
use native.Mathlib.Omega.{arith}
use mir.Val.{Fits}
use mir.Syntax.{w64}
use Rattle.model.specs.Words.{◌≡?◌, Placed, Checked, passed, ◌>>◌, counted_from, all_pass, when◌then◌else◌}
use Rattle.model.specs.Bytes.{◌!◌, part}
use Rattle.model.specs.Chunk.{Chunk, body_bytes, found_chunk}
use Rattle.model.specs.Item.{Item, is_fine, found, body_of, items_of}
use Rattle.model.specs.Seek.{Entry, seek_of}
use Rattle.model.specs.Points.{points_hold, order_holds}
use Rattle.model.specs.Track.{Track, part_id, part_named, point_width, points_of, seek_in, entries_of, track_of}
use Rattle.model.specs.declared.Voice.{Voice}
use Rattle.model.specs.declared.Event.{Event}
use Rattle.model.specs.declared.Part.TheVariants as parts
use Rattle.model.specs.declared.FoundChunk.{FoundChunk}
use Rattle.model.specs.declared.Bodies.{Bodies}
use Rattle.model.specs.declared.Extent.{Extent}
use Rattle.model.proofs.Parts.{part_short}
use Rattle.model.proofs.Outcomes.{then_fine, bind_fine, fine_some, counted_fine}
use Rattle.chunks.specs.Kept.{chunks_in}
use Rattle.model.proofs.Tests.{by_test, if_true, if_false}
use Rattle.tracks.proofs.Stages.{part_there}
use Rattle.reading.specs.Stages.{placed}
use Rattle.reading.proofs.TrackMade.{TrackMade, track_made}
use Rattle.reading.proofs.Accepted.{fixed_inside, parts_read}
use Rattle.playing.specs.Performing.{entries_said, bytes_in, Open, Opens, track_in}

-- THE SEEK BODY of a track, where it has one

said_none : (phrases : Bool) (items : List (Placed (Item Event))) (size : ℕ) → points_of phrases items size [] ≡ passed
unfolding points_of points_hold order_holds all_pass ◌>>◌
said_none true items size = refl
said_none false items size = refl

not_empty : (width : ℕ) (seek : List ℕ) (entries : List (Placed Entry)) → seek_of width seek ≡ Ok entries → (length seek ≡? 0) ≡ false
unfolding seek_of
not_empty width seek entries e =
    by_test (length seek ≡? 0)
    (λ h. let q = sym (if_true (length seek ≡? 0) _ _ h) ∙ e in let z : ◌≡◌ {A = ℕ} 0 1 = cc in absurd (omega arith))
    (λ h. h)

said_is : (phrases : Bool) (seek : List ℕ) (entries : List (Placed Entry)) → seek_of (point_width phrases) seek ≡ Ok entries → entries_said phrases seek ≡ entries
unfolding entries_said found
said_is phrases seek entries e = if_false _ _ _ (not_empty (point_width phrases) seek entries e) ∙ ap found e

record Sought (phrases : Bool) (items : List (Placed (Item Event))) (size : ℕ) (seek : List ℕ) (entries : List (Placed Entry)) : Type 0 where
  formed : 0 < length seek → is_fine (seek_of (point_width phrases) seek) ≡ true
  holds : points_of phrases items size (entries_said phrases seek) ≡ passed
  are : entries ≡ entries_said phrases seek

passed_so : (c : Checked (Unit {0})) → is_fine c ≡ true → c ≡ passed
unfolding is_fine
passed_so (Ok u) h = refl
passed_so (Err why) h = let z : ◌≡◌ {A = ℕ} 0 1 = cc in absurd (omega arith)

sought_there : (phrases : Bool) (items : List (Placed (Item Event))) (size base : ℕ) (seek : List ℕ) (entries : List (Placed Entry))
    → counted_from base (seek_in phrases items size seek) ≡ Ok entries → Sought phrases items size seek entries
unfolding seek_in is_fine
sought_there phrases items size base seek entries e =
    let a = bind_fine _ _ entries (counted_fine base _ entries e) in
    let b = then_fine _ _ entries a.2 in
    let last : Ok a.0 ≡ Ok entries = b.1 in
    let same : a.0 ≡ entries = cc in
    let are = said_is phrases seek a.0 a.1 in
    record {
      formed = λ h. ap is_fine a.1;
      holds = ap (points_of phrases items size) are ∙ passed_so _ b.0;
      are = sym (are ∙ same);
    }

sought_nowhere : (phrases : Bool) (items : List (Placed (Item Event))) (size : ℕ) → Sought phrases items size [] []
unfolding entries_said when◌then◌else◌
sought_nowhere phrases items size = record { formed = λ h. absurd (omega arith); holds = said_none phrases items size; are = refl }

-- the seek chunk that a list names
module _ (named : Option Chunk) (phrases : Bool) (items : List (Placed (Item Event))) (size : ℕ) (s : List ℕ) (entries : List (Placed Entry)) where
  sought_at : (seek : FoundChunk) → found_chunk named ≡ Some seek → entries_of phrases items size s named ≡ Ok entries
      → Sought phrases items size (part s (seek.place + 8) seek.size) entries
  unfolding found_chunk entries_of
  sought_at seek e h = go named e h
    where
      go : (o : Option Chunk) → found_chunk o ≡ Some seek → entries_of phrases items size s o ≡ Ok entries → Sought phrases items size (part s (seek.place + 8) seek.size) entries
      go None q k = let z : ◌≡◌ {A = ℕ} 0 1 = cc in absurd (omega arith)
      go (Some chunk) q k =
          let same : ◌≡◌ {A = FoundChunk} (record { place = chunk.place; size = chunk.size }) seek = cc in
          subst (λ (f : FoundChunk). Sought phrases items size (part s (f.place + 8) f.size) entries) same (sought_there phrases items size _ _ entries k)

  unsought_at : found_chunk named ≡ None → entries_of phrases items size s named ≡ Ok entries → Sought phrases items size [] entries
  unfolding found_chunk entries_of
  unsought_at e h = go named e h
    where
      go : (o : Option Chunk) → found_chunk o ≡ None → entries_of phrases items size s o ≡ Ok entries → Sought phrases items size [] entries
      go None q k = let none_said : [] ≡ entries = cc in subst (Sought phrases items size []) none_said (sought_nowhere phrases items size)
      go (Some chunk) q k = let z : ◌≡◌ {A = ℕ} 0 1 = cc in absurd (omega arith)

-- THE BODIES

module _ (s : List ℕ) (voice : Voice) (place size : ℕ) (inside : place + 8 + size ≤ length s) (small : length s ≤ 65536)
    (ok : is_fine (track_of s voice (placed s place size)) ≡ true) where
  the_track : (track : Track) × (track_of s voice (placed s place size) ≡ Ok track)
  the_track = fine_some (track_of s voice (placed s place size)) ok

  made : TrackMade s voice (placed s place size) the_track.0
  made = track_made s voice (placed s place size) the_track.0 the_track.1

  listed : chunks_in s (place + 8 + 6) (place + 8 + size) ≡ Ok the_track.0.parts
  listed = parts_read s voice (placed s place size) the_track.0 the_track.1

  long : 6 ≤ size
  long = fixed_inside s voice (placed s place size) the_track.0 the_track.1

  pub opens_type : place + 8 + 1 < length s
  opens_type = omega (arith, long)

  pub opens_from : place + 8 + 6 ≤ place + 8 + size
  opens_from = omega (arith, long)

  pub opens_fine : is_fine (chunks_in s (place + 8 + 6) (place + 8 + size)) ≡ true
  unfolding is_fine
  opens_fine = ap is_fine listed

  named_in : (id : ℕ) → part_named id (found (chunks_in s (place + 8 + 6) (place + 8 + size))) ≡ part_named id the_track.0.parts
  unfolding found
  named_in id = ap (λ (c : Checked (List Chunk)). part_named id (found c)) listed

  module _ (sought : Option FoundChunk) (seeks : sought ≡ found_chunk (part_named (part_id parts.Seek voice) (found (chunks_in s (place + 8 + 6) (place + 8 + size)))))
      (seek : FoundChunk) (e : sought ≡ Some seek) where
    seek_there : seek.place + 8 + seek.size ≤ length s
    seek_there = part_there s (place + 8 + 6) (place + 8 + size) (part_id parts.Seek voice) sought seeks opens_from inside opens_fine seek e

    pub opens_seek_fits : Fits w64 (seek.place + 8)
    opens_seek_fits = record { fits = omega (arith, seek_there) }

  module _ (r : Option FoundChunk) (is : r ≡ found_chunk (part_named (part_id parts.Sequence voice) (found (chunks_in s (place + 8 + 6) (place + 8 + size))))) where
    sequence_is : r ≡ Some (record { place = made.sequence.place; size = made.sequence.size })
    unfolding found_chunk
    sequence_is = is ∙ ap found_chunk (named_in (part_id parts.Sequence voice) ∙ made.named)

    pub opens_never : r ≡ None → (o : Option Bodies) → Opens s (track_in (track_of s voice (placed s place size))) o
    opens_never e o = let q = sym sequence_is ∙ e in let z : ◌≡◌ {A = ℕ} 0 1 = cc in absurd (omega arith)

    module _ (chunk : FoundChunk) (e : r ≡ Some chunk) where
      pub opens_there : chunk.place + 8 + chunk.size ≤ length s
      opens_there = part_there s (place + 8 + 6) (place + 8 + size) (part_id parts.Sequence voice) r is opens_from inside opens_fine chunk e

      pub opens_fits : Fits w64 (chunk.place + 8)
      opens_fits = record { fits = omega (arith, opens_there) }

      same_chunk : ◌≡◌ {A = FoundChunk} (record { place = made.sequence.place; size = made.sequence.size }) chunk
      same_chunk = let q : Some (record { place = made.sequence.place; size = made.sequence.size }) ≡ Some chunk = sym sequence_is ∙ e in cc

      abbrev body : List ℕ
      body = part s (chunk.place + 8) chunk.size

      body_is : body_bytes s made.sequence ≡ body
      body_is = ap (λ (f : FoundChunk). part s (f.place + 8) f.size) same_chunk

      reads : body_of voice body ≡ Ok the_track.0.items
      reads = ap (body_of voice) (sym body_is) ∙ made.reads

      items_are : the_track.0.items ≡ items_of voice body
      unfolding items_of found
      items_are = sym (ap found reads)

      module _ (phrases : Bool) (flag : phrases ≡ (s ! (place + 8 + 1) ≡? 1)) where
        abbrev bodies_with : Extent → Bodies
        bodies_with seek = record { header = place; voice = voice; phrases = phrases; sequence = record { place = chunk.place + 8; size = chunk.size }; seek = seek }

        open_with : (seek : Extent) → seek.place + seek.size ≤ length s
            → Sought phrases the_track.0.items (length body) (bytes_in s seek) the_track.0.entries → Open s (bodies_with seek) the_track.0
        unfolding is_fine
        open_with seek there sought =
            record {
              inside =
                  record {
                    sequence = omega (arith, opens_there);
                    seek = there;
                    ready =
                        record {
                          small = omega (arith, part_short s (chunk.place + 8) chunk.size);
                          few = omega (arith, part_short s seek.place seek.size);
                          reads = ap is_fine reads;
                          formed = sought.formed;
                          holds = ap (λ (i : List (Placed (Item Event))). points_of phrases i (length body) (entries_said phrases (bytes_in s seek))) (sym items_are) ∙ sought.holds;
                        };
                  };
              header = made.header;
              voice = made.voiced;
              phrases = made.phrased ∙ sym flag;
              body = made.body ∙ body_is;
              items = items_are;
              entries = sought.are;
            }

        opened_as_track : (bodies : Bodies) → Open s bodies the_track.0 → Opens s (track_in (track_of s voice (placed s place size))) (Some bodies)
        unfolding track_in
        opened_as_track bodies o = subst (λ (c : Checked Track). Opens s (track_in c) (Some bodies)) (sym the_track.1) o

        entries_are : entries_of phrases the_track.0.items (length body) s (part_named (part_id parts.Seek voice) the_track.0.parts) ≡ Ok the_track.0.entries
        entries_are = rw (sym body_is, flag ∙ sym made.phrased) made.entries

        module _ (sought : Option FoundChunk) (seeks : sought ≡ found_chunk (part_named (part_id parts.Seek voice) (found (chunks_in s (place + 8 + 6) (place + 8 + size))))) where
          abbrev named : Option Chunk
          named = part_named (part_id parts.Seek voice) the_track.0.parts

          found_is : sought ≡ found_chunk named
          found_is = seeks ∙ ap found_chunk (named_in (part_id parts.Seek voice))

          module _ (extent : Extent) where
            pub opens_sought : (seek : FoundChunk) → sought ≡ Some seek → extent ≡ record { place = seek.place + 8; size = seek.size }
                → Opens s (track_in (track_of s voice (placed s place size)))
                (Some (record {
                  header = place;
                  voice = voice;
                  phrases = phrases;
                  sequence = record { place = chunk.place + 8; size = chunk.size };
                  seek = extent;
                }))
            opens_sought seek found_at e =
                opened_as_track _
                (subst (λ (x : Extent). Open s (bodies_with x) the_track.0) (sym e)
                (open_with (record { place = seek.place + 8; size = seek.size }) (omega (arith, seek_there sought seeks seek found_at))
                (sought_at named phrases the_track.0.items (length body) s the_track.0.entries seek (sym found_is ∙ found_at) entries_are)))

            pub opens_unsought : sought ≡ None → extent ≡ record { place = 0; size = 0 }
                → Opens s (track_in (track_of s voice (placed s place size)))
                (Some (record {
                  header = place;
                  voice = voice;
                  phrases = phrases;
                  sequence = record { place = chunk.place + 8; size = chunk.size };
                  seek = extent;
                }))
            opens_unsought nowhere e =
                opened_as_track _
                (subst (λ (x : Extent). Open s (bodies_with x) the_track.0) (sym e)
                (open_with (record { place = 0; size = 0 }) (omega arith)
                (unsought_at named phrases the_track.0.items (length body) s the_track.0.entries (sym found_is ∙ nowhere) entries_are)))

pub ruleset openings = (opens_type, opens_from, opens_fine, opens_never, opens_there, opens_fits, opens_seek_fits, opens_sought, opens_unsought)
