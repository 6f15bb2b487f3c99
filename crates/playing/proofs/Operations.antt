-- PLAY from its steps: 1, then 2 to 14 on the whole file, then 16, then what the track plays from its bodies.
use Prim.Native.Nat.{ℕ, ◌<◌, ◌≤◌}
use mathlib.Core.Path.{◌≡◌, refl, sym, ◌∙◌, ap}
use mathlib.Core.Bool.{Bool, true}
use mathlib.Core.List.{List}
use Rattle.std.specs.Prelude.{Option, None, Some, Ok, Err}
use lib.ListN.{length, take}
use Rattle.model.specs.Words.{when◌then◌else◌, ◌<?◌, Checked, passed, ◌>>=◌, ◌>>◌, refused}
use Rattle.model.specs.Item.{is_fine}
use Rattle.model.specs.Play.{Section, Tune}
use Rattle.model.specs.Order.{play_order, tune_in}
use Rattle.model.specs.Track.{Track}
use Rattle.model.specs.File.{File, contents_of, file_of}
use Rattle.model.specs.Answer.{Performance, ordered, performed, play_of, play_answer, steps_table, words_table}
use Rattle.model.specs.declared.Event.{Event}
use Rattle.model.specs.declared.Bodies.{Bodies}
use Rattle.model.specs.declared.Refusal.{Refusal}
use Rattle.model.specs.declared.PlayAnswer.{PlayAnswer}
use Rattle.model.proofs.Tests.{by_test}
use Rattle.reading.specs.Stages.{file_answer}
use Rattle.reading.proofs.Stated.{stated_past, stated_over, stated_within, stated_small}
use Rattle.playing.specs.Performing.{Ready, bytes_in, Inside, Open, Opens, track_named, fitted, played, heard, row_performed, row_played}
use Rattle.playing.proofs.Played.{refused_answer, refused_steps, refused_words}
use Rattle.playing.proofs.RowPerformed.{stated_fine, stated_refused, opened_track, row_inside, no_track}

-- what is answered and left where an outcome is known under another name
module _ (one other : Checked (Tune Event)) (same : one ≡ other) where
  pub same_answer : (r : Checked PlayAnswer) → r ≡ play_answer one → r ≡ play_answer other
  same_answer r e = e ∙ ap play_answer same

  pub same_steps : (l m : List ℕ) → m ≡ steps_table l one → m ≡ steps_table l other
  same_steps l m e = e ∙ ap (steps_table l) same

  pub same_words : (l m : List ℕ) → m ≡ words_table l one → m ≡ words_table l other
  same_words l m e = e ∙ ap (words_table l) same

-- THE BODIES of a track

module _ (s : List ℕ) (bodies : Bodies) (inside : Inside s bodies) (body seek : List ℕ) (cut : body ≡ bytes_in s bodies.sequence) (sought : seek ≡ bytes_in s bodies.seek)
    (flag : Bool) (phrases : bodies.phrases ≡ flag) where
  pub bodies_ready : Ready bodies.voice flag body seek
  bodies_ready = rw (cut, sought, sym phrases) inside.ready

-- THE ROW

-- an order, and room for what it plays
abbrev roomy : ℕ → Performance → Checked (Tune Event)
roomy room performance =
    (when room <? length performance.tune.messages then refused 15 performance.track.header else passed) >> Ok performance.tune

sections_played_lem : (track : Track) (room : ℕ) (sections : List Section)
    → roomy room (record { track = track; tune = tune_in track sections }) ≡ played track.header room track.items (Some sections)
unfolding played fitted tune_in ◌>>◌ when◌then◌else◌
sections_played_lem track room sections = by_test (room <? length (tune_in track sections).messages) (λ h. simp h) (λ h. simp h)

order_played : (track : Track) (room : ℕ) (o : Option (List Section)) → (ordered track o >>= roomy room) ≡ played track.header room track.items o
unfolding ordered played ◌>>=◌
order_played track room None = refl
order_played track room (Some sections) = sections_played_lem track room sections

row_refused : (room row : ℕ) (c : Checked File) (number place : ℕ) → row_performed c row ≡ refused number place → row_played room c row ≡ refused number place
unfolding row_played ◌>>=◌
row_refused room row c number place e = rw e

track_heard : (s : List ℕ) (room : ℕ) (bodies : Bodies) (track : Track) → Open s bodies track
    → heard bodies.voice bodies.phrases bodies.header room (bytes_in s bodies.sequence) (bytes_in s bodies.seek)
    ≡ played track.header room track.items (play_order track)
unfolding heard play_order
track_heard s room bodies track o = rw (o.header, o.phrases, o.items, o.entries) refl

module _ (s : List ℕ) (row : ℕ) (o : Option Bodies) (opens : Opens s (track_named (contents_of s) row) o) where
  module _ (bodies : Bodies) (e : o ≡ Some bodies) (room : ℕ) where
    row_heard : heard bodies.voice bodies.phrases bodies.header room (bytes_in s bodies.sequence) (bytes_in s bodies.seek)
        ≡ row_played room (contents_of s) row
    unfolding row_played
    row_heard =
        let found = opened_track s row o opens bodies e in
        track_heard s room bodies found.0 found.2 ∙ sym (order_played found.0 room (play_order found.0))
        ∙ ap (λ (c : Checked Performance). c >>= roomy room) (sym found.1)

    pub row_answer : (r : Checked PlayAnswer)
        → r ≡ play_answer (heard bodies.voice bodies.phrases bodies.header room (bytes_in s bodies.sequence) (bytes_in s bodies.seek))
        → r ≡ play_answer (row_played room (contents_of s) row)
    row_answer = same_answer _ _ row_heard

    pub row_steps : (l m : List ℕ)
        → m ≡ steps_table l (heard bodies.voice bodies.phrases bodies.header room (bytes_in s bodies.sequence) (bytes_in s bodies.seek))
        → m ≡ steps_table l (row_played room (contents_of s) row)
    row_steps = same_steps _ _ row_heard

    pub row_words : (l m : List ℕ)
        → m ≡ words_table l (heard bodies.voice bodies.phrases bodies.header room (bytes_in s bodies.sequence) (bytes_in s bodies.seek))
        → m ≡ words_table l (row_played room (contents_of s) row)
    row_words = same_words _ _ row_heard

  module _ (ok : is_fine (contents_of s) ≡ true) (room : ℕ) (e : o ≡ None) where
    no_row : row_played room (contents_of s) row ≡ refused 16 0
    no_row = row_refused room row (contents_of s) 16 0 (no_track s row o opens ok e)

    pub no_row_answer : refused 16 0 ≡ play_answer (row_played room (contents_of s) row)
    no_row_answer = refused_answer _ 16 0 no_row

    pub no_row_steps : (l : List ℕ) → l ≡ steps_table l (row_played room (contents_of s) row)
    no_row_steps = refused_steps _ 16 0 no_row

    pub no_row_words : (l : List ℕ) → l ≡ words_table l (row_played room (contents_of s) row)
    no_row_words = refused_words _ 16 0 no_row

pub ruleset rows_played = (row_inside, row_answer, row_steps, row_words, no_row_answer, no_row_steps, no_row_words)

-- THE STATED BYTES

module _ (s : List ℕ) (r : Checked ℕ) (told : r ≡ file_answer (contents_of s)) where
  module _ (room row : ℕ) (why : Refusal) (e : r ≡ Err why) where
    stated : row_played room (contents_of s) row ≡ Err why
    stated = row_refused room row (contents_of s) why.number why.place (stated_refused s r told row why e)

    pub stated_answer : Err why ≡ play_answer (row_played room (contents_of s) row)
    stated_answer = refused_answer _ why.number why.place stated

    pub stated_steps : (l : List ℕ) → l ≡ steps_table l (row_played room (contents_of s) row)
    stated_steps = refused_steps _ why.number why.place stated

    pub stated_words : (l : List ℕ) → l ≡ words_table l (row_played room (contents_of s) row)
    stated_words = refused_words _ why.number why.place stated

pub ruleset stated_played = (stated_fine, stated_answer, stated_steps, stated_words)

-- THE BUFFER

play_is : (buffer : List ℕ) (n row room : ℕ) (c : Checked File) → file_of buffer n ≡ c → play_of buffer n row room ≡ row_played room c row
unfolding play_of performed row_played row_performed
play_is buffer n row room c e = ap (λ (x : Checked File). row_played room x row) e

module _ (buffer : List ℕ) (n row room : ℕ) where
  past : length buffer < n → play_of buffer n row room ≡ refused 1 0
  unfolding row_played row_performed ◌>>=◌
  past h = play_is buffer n row room (refused 1 0) (stated_past buffer n h)

  over : n ≤ length buffer → 65536 < n → play_of buffer n row room ≡ refused 1 0
  unfolding row_played row_performed ◌>>=◌
  over h k = play_is buffer n row room (refused 1 0) (stated_over buffer n h k)

  pub past_answer : length buffer < n → refused 1 0 ≡ play_answer (play_of buffer n row room)
  past_answer h = refused_answer _ 1 0 (past h)

  pub past_steps : (l : List ℕ) → length buffer < n → l ≡ steps_table l (play_of buffer n row room)
  past_steps l h = refused_steps _ 1 0 (past h) l

  pub past_words : (l : List ℕ) → length buffer < n → l ≡ words_table l (play_of buffer n row room)
  past_words l h = refused_words _ 1 0 (past h) l

  pub over_answer : n ≤ length buffer → 65536 < n → refused 1 0 ≡ play_answer (play_of buffer n row room)
  over_answer h k = refused_answer _ 1 0 (over h k)

  pub over_steps : (l : List ℕ) → n ≤ length buffer → 65536 < n → l ≡ steps_table l (play_of buffer n row room)
  over_steps l h k = refused_steps _ 1 0 (over h k) l

  pub over_words : (l : List ℕ) → n ≤ length buffer → 65536 < n → l ≡ words_table l (play_of buffer n row room)
  over_words l h k = refused_words _ 1 0 (over h k) l

  module _ (h : n ≤ length buffer) (k : n ≤ 65536) where
    within : row_played room (contents_of (take n buffer)) row ≡ play_of buffer n row room
    within = sym (play_is buffer n row room (contents_of (take n buffer)) (stated_within buffer n h k))

    pub whole_answer : (r : Checked PlayAnswer) → r ≡ play_answer (row_played room (contents_of (take n buffer)) row) → r ≡ play_answer (play_of buffer n row room)
    whole_answer = same_answer _ _ within

    pub whole_steps : (l m : List ℕ) → m ≡ steps_table l (row_played room (contents_of (take n buffer)) row) → m ≡ steps_table l (play_of buffer n row room)
    whole_steps = same_steps _ _ within

    pub whole_words : (l m : List ℕ) → m ≡ words_table l (row_played room (contents_of (take n buffer)) row) → m ≡ words_table l (play_of buffer n row room)
    whole_words = same_words _ _ within

pub ruleset buffers_played = (past_answer, past_steps, past_words, over_answer, over_steps, over_words, stated_small, whole_answer, whole_steps, whole_words)
