-- The track that a row names, and what is played of it: 16, 17 and 15, and the tables that a play leaves.
use Prim.Native.Nat.{ℕ, ◌+◌, ◌≤◌}
use mathlib.Core.Path.{◌≡◌, sym, ◌∙◌, ap, subst}
use mathlib.Core.Bool.{true}
use mathlib.Core.List.{List}
use Rattle.std.specs.Prelude.{Option, Some, Ok, None}
use lib.ListN.{length}
use Rattle.model.specs.Words.{Checked}
use Rattle.model.specs.Item.{is_fine}
use Rattle.model.specs.Track.{Track, track_of}
use Rattle.model.specs.File.{File, contents_of, track_at}
use Rattle.model.specs.declared.FoundTrack.{FoundTrack}
use Rattle.model.specs.declared.Bodies.{Bodies}
use Rattle.model.proofs.Outcomes.{fine_some}
use Rattle.reading.specs.Stages.{placed, tops_of, top_at, found_track}
use Rattle.reading.proofs.Finding.{found_at, found_nowhere}
use Rattle.playing.specs.Performing.{Opens, track_in, track_named}

-- THE ROW of an accepted file
module _ (s : List ℕ) (row : ℕ) (ok : is_fine (contents_of s) ≡ true) (r : Option FoundTrack) (is : r ≡ found_track (top_at row 1 (tops_of (contents_of s)))) where
  accepted : (file : File) × (contents_of s ≡ Ok file)
  accepted = fine_some (contents_of s) ok

  named_is : track_named (contents_of s) row ≡ track_at accepted.0 row
  unfolding track_named
  named_is = ap (λ (c : Checked File). track_named c row) accepted.1

  pub row_nowhere : r ≡ None → Opens s (track_named (contents_of s) row) None
  row_nowhere e =
      subst (λ (o : Option Track). Opens s o None)
      (sym (named_is ∙ found_nowhere s row accepted.0 accepted.1 r is e)) tt

  module _ (one : FoundTrack) (e : r ≡ Some one) where
    abbrev Found : Type 0
    Found = (track : Track) × (track_at accepted.0 row ≡ Some track) × (track_of s one.voice (placed s one.place one.size) ≡ Ok track) × (one.place + 8 + one.size ≤ length s)

    the_track : Found
    the_track = found_at s row accepted.0 accepted.1 r is one e

    pub row_inside : one.place + 8 + one.size ≤ length s
    row_inside = the_track.3

    pub row_fine : is_fine (track_of s one.voice (placed s one.place one.size)) ≡ true
    unfolding is_fine
    row_fine = ap is_fine the_track.2

    pub row_opens : (o : Option Bodies) → Opens s (track_in (track_of s one.voice (placed s one.place one.size))) o → Opens s (track_named (contents_of s) row) o
    unfolding track_in
    row_opens o h =
        subst (λ (t : Option Track). Opens s t o) (ap track_in the_track.2 ∙ sym the_track.1 ∙ sym named_is) h

pub ruleset rows_named = (row_nowhere, row_inside, row_fine, row_opens)
