-- WHAT A PERFORMANCE IS: `performed`, taken apart where it is accepted.
use Prim.Native.Nat.{ℕ}
use mathlib.Core.Path.{◌≡◌, refl, sym, ap}
use mathlib.Core.List.{List}
use Rattle.std.specs.Prelude.{Option, None, Some, Ok}
use native.Mathlib.Omega.{arith}
use Rattle.model.specs.Words.{}
use Rattle.model.specs.Play.{Section}
use Rattle.model.specs.Order.{play_order, tune_in}
use Rattle.model.specs.Track.{Track}
use Rattle.model.specs.File.{File, file_of, track_at}
use Rattle.model.specs.Answer.{Performance, named, ordered, performed}
use Rattle.model.proofs.Outcomes.{bind_fine}

pub named_fine : (o : Option Track) (track : Track) → named o ≡ Ok track → o ≡ Some track
unfolding named
named_fine None track e = let z : ◌≡◌ {A = ℕ} 0 1 = cc in absurd (omega arith)
named_fine (Some one) track e = let same : one ≡ track = cc in ap Some same

abbrev performance_of : Track → List Section → Performance
performance_of track sections = record { track = track; tune = tune_in track sections }

ordered_fine : (track : Track) (o : Option (List Section)) (performance : Performance) → ordered track o ≡ Ok performance
    → (sections : List Section) × (o ≡ Some sections) × (performance ≡ performance_of track sections)
unfolding ordered
ordered_fine track None performance e = let z : ◌≡◌ {A = ℕ} 0 1 = cc in absurd (omega arith)
ordered_fine track (Some sections) performance e = let same : performance_of track sections ≡ performance = cc in (sections, refl, sym same)

-- the track that the row of an accepted file names, in its order
pub record PerformedSo (buffer : List ℕ) (n row : ℕ) (performance : Performance) : Type 0 where
  pub file : File
  pub track : Track
  pub sections : List Section
  pub reads : file_of buffer n ≡ Ok file
  pub names : track_at file row ≡ Some track
  pub orders : play_order track ≡ Some sections
  pub is : performance ≡ record { track = track; tune = tune_in track sections }

pub performed_so : (buffer : List ℕ) (n row : ℕ) (performance : Performance) → performed buffer n row ≡ Ok performance
    → PerformedSo buffer n row performance
unfolding performed
performed_so buffer n row performance e =
    let read = bind_fine _ _ performance e in
    let found = bind_fine _ _ performance read.2 in
    let order = ordered_fine found.0 (play_order found.0) performance found.2 in
    record {
      file = read.0;
      track = found.0;
      sections = order.0;
      reads = read.1;
      names = named_fine (track_at read.0 row) found.0 found.1;
      orders = order.1;
      is = order.2;
    }
