-- WHAT THE TRACK THAT A ROW NAMES PERFORMS, step by step: 2 to 14 on the whole file, then 16, then the order of the track whose bodies were
-- opened.
use Prim.Native.Nat.{ℕ}
use mathlib.Core.Path.{◌≡◌, refl, sym, ◌∙◌, subst}
use mathlib.Core.Bool.{true}
use mathlib.Core.List.{List}
use Rattle.std.specs.Prelude.{Option, None, Some, Ok, Err}
use native.Mathlib.Omega.{arith}
use Rattle.model.specs.Words.{Checked, ◌>>=◌, refused}
use Rattle.model.specs.Item.{is_fine}
use Rattle.model.specs.Order.{play_order}
use Rattle.model.specs.Track.{Track}
use Rattle.model.specs.File.{File, contents_of}
use Rattle.model.specs.Answer.{named, ordered}
use Rattle.model.specs.declared.Bodies.{Bodies}
use Rattle.model.specs.declared.Refusal.{Refusal}
use Rattle.reading.specs.Stages.{file_answer}
use Rattle.playing.specs.Performing.{Inside, Open, Opens, track_named, row_performed}

-- THE FILE

refused_file : (row : ℕ) (c : Checked File) (number place : ℕ) → file_answer c ≡ refused number place → row_performed c row ≡ refused number place
unfolding row_performed file_answer ◌>>=◌
refused_file row (Ok file) number place e = let z : ◌≡◌ {A = ℕ} 0 1 = cc in absurd (omega arith)
refused_file row (Err why) number place e = let a : why.number ≡ number = cc in let b : why.place ≡ place = cc in rw (a, b)

fine_file : (c : Checked File) (count : ℕ) → file_answer c ≡ Ok count → is_fine c ≡ true
unfolding file_answer is_fine
fine_file (Ok file) count e = refl
fine_file (Err why) count e = let z : ◌≡◌ {A = ℕ} 0 1 = cc in absurd (omega arith)

module _ (s : List ℕ) (r : Checked ℕ) (told : r ≡ file_answer (contents_of s)) where
  pub stated_fine : (count : ℕ) → r ≡ Ok count → is_fine (contents_of s) ≡ true
  stated_fine count e = fine_file (contents_of s) count (sym told ∙ e)

  pub stated_refused : (row : ℕ) (why : Refusal) → r ≡ Err why → row_performed (contents_of s) row ≡ Err why
  stated_refused row why e = refused_file row (contents_of s) why.number why.place (sym told ∙ e)

-- THE ROW

row_named_lem : (c : Checked File) (row : ℕ) (track : Track) → track_named c row ≡ Some track → row_performed c row ≡ ordered track (play_order track)
unfolding track_named row_performed named ◌>>=◌
row_named_lem (Ok file) row track e = rw e
row_named_lem (Err why) row track e = let z : ◌≡◌ {A = ℕ} 0 1 = cc in absurd (omega arith)

row_unnamed : (c : Checked File) (row : ℕ) → is_fine c ≡ true → track_named c row ≡ None → row_performed c row ≡ refused 16 0
unfolding track_named row_performed named ◌>>=◌ is_fine
row_unnamed (Ok file) row ok e = rw e
row_unnamed (Err why) row ok e = let z : ◌≡◌ {A = ℕ} 0 1 = cc in absurd (omega arith)

pub opens_some : (s : List ℕ) (named-track : Option Track) (bodies : Bodies) → Opens s named-track (Some bodies)
    → (track : Track) × (named-track ≡ Some track) × Open s bodies track
opens_some s None bodies o = absurd o
opens_some s (Some track) bodies o = (track, refl, o)

pub opens_none : (s : List ℕ) (named-track : Option Track) → Opens s named-track None → named-track ≡ None
opens_none s None o = refl
opens_none s (Some track) o = absurd o

module _ (s : List ℕ) (row : ℕ) (o : Option Bodies) (opens : Opens s (track_named (contents_of s) row) o) where
  pub opened_track : (bodies : Bodies) → o ≡ Some bodies
      → (track : Track) × (row_performed (contents_of s) row ≡ ordered track (play_order track)) × Open s bodies track
  opened_track bodies e =
      let found = opens_some s (track_named (contents_of s) row) bodies (subst (Opens s (track_named (contents_of s) row)) e opens) in
      (found.0, row_named_lem (contents_of s) row found.0 found.1, found.2)

  pub row_inside : (bodies : Bodies) → o ≡ Some bodies → Inside s bodies
  row_inside bodies e = (opened_track bodies e).2.inside

  pub no_track : is_fine (contents_of s) ≡ true → o ≡ None → row_performed (contents_of s) row ≡ refused 16 0
  no_track ok e = row_unnamed (contents_of s) row ok (opens_none s (track_named (contents_of s) row) (subst (Opens s (track_named (contents_of s) row)) e opens))
