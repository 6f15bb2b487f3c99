-- The track that a row names, step by step: 1, then 2 to 14 on the whole file, then 16; and what is known of a call that names one.
use Prim.Native.Nat.{ℕ, ◌<◌, ◌≤◌}
use mathlib.Core.Path.{◌≡◌, refl, sym, ◌∙◌, ap, subst}
use mathlib.Core.Bool.{true}
use mathlib.Core.List.{List}
use Rattle.std.specs.Prelude.{None, Some, Ok, Err, Option}
use lib.ListN.{length, take}
use native.Mathlib.Omega.{arith}
use native.Mathlib.Decide.{dec_lt}
use Rattle.model.specs.Words.{Checked, ◌>>=◌, refused}
use Rattle.model.specs.Item.{is_fine}
use Rattle.model.specs.Track.{Track}
use Rattle.model.specs.File.{File, contents_of, file_of}
use Rattle.model.specs.Answer.{named, track_named}
use Rattle.model.specs.declared.Bodies.{Bodies}
use Rattle.model.specs.declared.Refusal.{Refusal}
use Rattle.reading.specs.Stages.{file_answer}
use Rattle.reading.proofs.Stated.{stated_past, stated_over, stated_within, stated_small}
use Rattle.playing.specs.Performing.{Inside, Open, Opens, track_named as trackOpened}
use Rattle.playing.proofs.RowPerformed.{stated_fine, opens_some, opens_none}
use Rattle.giving.specs.Giving.{row_named, Names}

refused_names : (s : List ℕ) (c : Checked Track) (why : Refusal) → c ≡ Err why → Names s c (Err why)
unfolding Names
refused_names s c why e = rw e refl

same_names : (s : List ℕ) (one other : Checked Track) (r : Checked Bodies) → one ≡ other → Names s one r → Names s other r
same_names s one other r e h = subst (λ (c : Checked Track). Names s c r) e h

-- THE ROW of an accepted file

row_is : (c : Checked File) (row : ℕ) (track : Track) → trackOpened c row ≡ Some track → row_named c row ≡ Ok track
unfolding trackOpened row_named named ◌>>=◌
row_is (Ok file) row track e = rw e
row_is (Err why) row track e = let z : ◌≡◌ {A = ℕ} 0 1 = cc in absurd (omega arith)

row_none : (c : Checked File) (row : ℕ) → is_fine c ≡ true → trackOpened c row ≡ None → row_named c row ≡ refused 16 0
unfolding trackOpened row_named named ◌>>=◌ is_fine
row_none (Ok file) row ok e = rw e
row_none (Err why) row ok e = let z : ◌≡◌ {A = ℕ} 0 1 = cc in absurd (omega arith)

module _ (s : List ℕ) (row : ℕ) (o : Option Bodies) (opens : Opens s (trackOpened (contents_of s) row) o) where
  pub row_names : (bodies : Bodies) → o ≡ Some bodies → Names s (row_named (contents_of s) row) (Ok bodies)
  unfolding Names
  row_names bodies e =
      let found = opens_some s (trackOpened (contents_of s) row) bodies (subst (Opens s (trackOpened (contents_of s) row)) e opens) in
      rw (row_is (contents_of s) row found.0 found.1) found.2

  pub row_refuses : is_fine (contents_of s) ≡ true → o ≡ None → Names s (row_named (contents_of s) row) (refused 16 0)
  row_refuses ok e =
      refused_names s _ _
      (row_none (contents_of s) row ok (opens_none s (trackOpened (contents_of s) row) (subst (Opens s (trackOpened (contents_of s) row)) e opens)))

pub ruleset rows_named = (row_names, row_refuses)

-- THE STATED BYTES

file_refused : (row : ℕ) (c : Checked File) (why : Refusal) → file_answer c ≡ Err why → row_named c row ≡ Err why
unfolding row_named file_answer ◌>>=◌
file_refused row (Ok file) why e = let z : ◌≡◌ {A = ℕ} 0 1 = cc in absurd (omega arith)
file_refused row (Err told) why e = cc

pub stated_names : (s : List ℕ) (row : ℕ) (r : Checked ℕ) (why : Refusal) → r ≡ file_answer (contents_of s) → r ≡ Err why
    → Names s (row_named (contents_of s) row) (Err why)
stated_names s row r why told e = refused_names s _ why (file_refused row (contents_of s) why (sym told ∙ e))

pub ruleset stated_named = (stated_fine, stated_names)

-- THE BUFFER

named_is : (buffer : List ℕ) (n row : ℕ) (c : Checked File) → file_of buffer n ≡ c → track_named buffer n row ≡ row_named c row
unfolding track_named row_named
named_is buffer n row c e = ap (λ (x : Checked File). row_named x row) e

module _ (buffer : List ℕ) (n row : ℕ) where
  past : length buffer < n → track_named buffer n row ≡ refused 1 0
  unfolding row_named ◌>>=◌
  past h = named_is buffer n row (refused 1 0) (stated_past buffer n h)

  over : n ≤ length buffer → 65536 < n → track_named buffer n row ≡ refused 1 0
  unfolding row_named ◌>>=◌
  over h k = named_is buffer n row (refused 1 0) (stated_over buffer n h k)

  pub past_names : length buffer < n → Names (take n buffer) (track_named buffer n row) (refused 1 0)
  past_names h = refused_names (take n buffer) _ _ (past h)

  pub over_names : n ≤ length buffer → 65536 < n → Names (take n buffer) (track_named buffer n row) (refused 1 0)
  over_names h k = refused_names (take n buffer) _ _ (over h k)

  pub within_names : (r : Checked Bodies) → n ≤ length buffer → n ≤ 65536 → Names (take n buffer) (row_named (contents_of (take n buffer)) row) r
      → Names (take n buffer) (track_named buffer n row) r
  within_names r h k = same_names (take n buffer) _ _ r (sym (named_is buffer n row (contents_of (take n buffer)) (stated_within buffer n h k)))

pub ruleset buffers_named = (past_names, over_names, stated_small, within_names)

-- WHAT IS KNOWN where a track is named, and where it is not

names_fine : (s : List ℕ) (c : Checked Track) (bodies : Bodies) → Names s c (Ok bodies) → (track : Track) × (c ≡ Ok track) × Open s bodies track
unfolding Names
names_fine s (Ok track) bodies h = (track, refl, h)
names_fine s (Err why) bodies h = absurd h

names_refused : (s : List ℕ) (c : Checked Track) (why : Refusal) → Names s c (Err why) → c ≡ Err why
unfolding Names
names_refused s (Ok track) why h = absurd h
names_refused s (Err told) why h = ap (λ (w : Refusal). Err w) (sym h)

never_both : (c : Checked Track) (track : Track) (why : Refusal) → c ≡ Ok track → c ≡ Err why → ⊥
never_both c track why e f = let q = sym e ∙ f in let z : ◌≡◌ {A = ℕ} 0 1 = cc in omega arith

module _ (buffer : List ℕ) (n row : ℕ) (r : Checked Bodies) (told : Names (take n buffer) (track_named buffer n row) r) where
  module _ (bodies : Bodies) (e : r ≡ Ok bodies) where
    pub the_track : (track : Track) × (track_named buffer n row ≡ Ok track) × Open (take n buffer) bodies track
    the_track = names_fine (take n buffer) (track_named buffer n row) bodies (subst (Names (take n buffer) (track_named buffer n row)) e told)

    pub named_inside : Inside (take n buffer) bodies
    named_inside = the_track.2.inside

    pub named_within : n ≤ length buffer
    named_within =
        elim (dec_lt (length buffer) n) [
          | yes h ↦ absurd (never_both (track_named buffer n row) the_track.0 _ the_track.1 (past buffer n row h))
          | no h ↦ omega arith
        ]

    pub named_small : length (take n buffer) ≤ 65536
    named_small =
        elim (dec_lt 65536 n) [
          | yes h ↦ absurd (never_both (track_named buffer n row) the_track.0 _ the_track.1 (over buffer n row named_within h))
          | no h ↦ stated_small buffer n named_within (omega arith)
        ]

  pub not_named : (why : Refusal) → r ≡ Err why → track_named buffer n row ≡ Err why
  not_named why e = names_refused (take n buffer) (track_named buffer n row) why (subst (Names (take n buffer) (track_named buffer n row)) e told)
