-- FLATTEN from its steps: 1, then 2 to 14 on the whole file, then 16, then the plain form of the track from its bodies.
use Prim.Native.Nat.{ℕ, ◌<◌, ◌≤◌}
use mathlib.Core.Path.{◌≡◌, refl, sym, ◌∙◌, ap}
use mathlib.Core.Bool.{true}
use mathlib.Core.List.{List}
use Rattle.std.specs.Prelude.{Option, None, Some, Ok, Err}
use lib.ListN.{length, take}
use Rattle.model.specs.Words.{when◌then◌else◌, ◌or◌, ◌<?◌, Checked, passed, ◌>>=◌, ◌>>◌, refused}
use Rattle.model.specs.Item.{is_fine}
use Rattle.model.specs.Play.{Section}
use Rattle.model.specs.Order.{play_order, tune_in}
use Rattle.model.specs.Track.{Track}
use Rattle.model.specs.File.{File, contents_of, file_of}
use Rattle.model.specs.Answer.{Performance, ordered, performed, plain_of, flatten_of, flatten_answer, flatten_room}
use Rattle.model.specs.declared.Bodies.{Bodies}
use Rattle.model.specs.declared.Refusal.{Refusal}
use Rattle.model.proofs.Tests.{by_test}
use Rattle.reading.specs.Stages.{file_answer}
use Rattle.reading.proofs.Stated.{stated_past, stated_over, stated_within, stated_small}
use Rattle.playing.specs.Performing.{bytes_in, Open, Opens, track_named, row_performed}
use Rattle.playing.proofs.RowPerformed.{stated_fine, stated_refused, opened_track, row_inside, no_track}
use Rattle.flattening.specs.Orders.{fitted}
use Rattle.flattening.specs.Flattening.{sections_plain, flattened, bodies_flattened, row_flattened}
use Rattle.flattening.proofs.Flattened.{refused_answer, refused_room}

-- what is answered and left where an outcome is known under another name
module _ (one other : Checked (List ℕ)) (same : one ≡ other) where
  same_answer : (r : Checked ℕ) → r ≡ flatten_answer one → r ≡ flatten_answer other
  same_answer r e = e ∙ ap flatten_answer same

  same_room : (l m : List ℕ) → m ≡ flatten_room l one → m ≡ flatten_room l other
  same_room l m e = e ∙ ap (flatten_room l) same

-- THE ROW

-- an order, and room for its plain form
abbrev roomy : ℕ → Performance → Checked (List ℕ)
roomy room performance =
    (when (65536 <? length (plain_of performance)) or (room <? length (plain_of performance)) then refused 18 performance.track.header else passed)
    >> Ok (plain_of performance)

plain_fitted : (header room : ℕ) (bytes : List ℕ)
    → ((when (65536 <? length bytes) or (room <? length bytes) then refused 18 header else passed) >> Ok bytes) ≡ fitted header room bytes
unfolding fitted ◌>>◌ when◌then◌else◌
plain_fitted header room bytes = by_test ((65536 <? length bytes) or (room <? length bytes)) (λ h. simp h) (λ h. simp h)

order_flattened : (track : Track) (room : ℕ) (o : Option (List Section))
    → (ordered track o >>= roomy room) ≡ flattened track.header room track.body track.items o
unfolding ordered flattened sections_plain plain_of tune_in ◌>>=◌
order_flattened track room None = refl
order_flattened track room (Some sections) = plain_fitted track.header room (sections_plain track.body track.items sections)

row_refused : (room row : ℕ) (c : Checked File) (number place : ℕ) → row_performed c row ≡ refused number place → row_flattened room c row ≡ refused number place
unfolding row_flattened ◌>>=◌
row_refused room row c number place e = rw e

track_flattened : (s : List ℕ) (room : ℕ) (bodies : Bodies) (track : Track) → Open s bodies track
    → bodies_flattened bodies.voice bodies.phrases bodies.header room (bytes_in s bodies.sequence) (bytes_in s bodies.seek)
    ≡ flattened track.header room track.body track.items (play_order track)
unfolding bodies_flattened play_order
track_flattened s room bodies track o = rw (o.header, o.phrases, o.body, o.items, o.entries) refl

module _ (s : List ℕ) (row : ℕ) (o : Option Bodies) (opens : Opens s (track_named (contents_of s) row) o) where
  module _ (bodies : Bodies) (e : o ≡ Some bodies) (room : ℕ) where
    row_is : bodies_flattened bodies.voice bodies.phrases bodies.header room (bytes_in s bodies.sequence) (bytes_in s bodies.seek)
        ≡ row_flattened room (contents_of s) row
    unfolding row_flattened
    row_is =
        let found = opened_track s row o opens bodies e in
        track_flattened s room bodies found.0 found.2 ∙ sym (order_flattened found.0 room (play_order found.0))
        ∙ ap (λ (c : Checked Performance). c >>= roomy room) (sym found.1)

    pub row_answer : (r : Checked ℕ)
        → r ≡ flatten_answer (bodies_flattened bodies.voice bodies.phrases bodies.header room (bytes_in s bodies.sequence) (bytes_in s bodies.seek))
        → r ≡ flatten_answer (row_flattened room (contents_of s) row)
    row_answer = same_answer _ _ row_is

    pub row_room : (l m : List ℕ)
        → m ≡ flatten_room l (bodies_flattened bodies.voice bodies.phrases bodies.header room (bytes_in s bodies.sequence) (bytes_in s bodies.seek))
        → m ≡ flatten_room l (row_flattened room (contents_of s) row)
    row_room = same_room _ _ row_is

  module _ (ok : is_fine (contents_of s) ≡ true) (room : ℕ) (e : o ≡ None) where
    no_row : row_flattened room (contents_of s) row ≡ refused 16 0
    no_row = row_refused room row (contents_of s) 16 0 (no_track s row o opens ok e)

    pub no_row_answer : refused 16 0 ≡ flatten_answer (row_flattened room (contents_of s) row)
    no_row_answer = refused_answer _ 16 0 no_row

    pub no_row_room : (l : List ℕ) → l ≡ flatten_room l (row_flattened room (contents_of s) row)
    no_row_room = refused_room _ 16 0 no_row

pub ruleset rows_flattened = (row_inside, row_answer, row_room, no_row_answer, no_row_room)

-- THE STATED BYTES

module _ (s : List ℕ) (r : Checked ℕ) (told : r ≡ file_answer (contents_of s)) (room row : ℕ) (why : Refusal) (e : r ≡ Err why) where
  stated : row_flattened room (contents_of s) row ≡ Err why
  stated = row_refused room row (contents_of s) why.number why.place (stated_refused s r told row why e)

  pub stated_answer : Err why ≡ flatten_answer (row_flattened room (contents_of s) row)
  stated_answer = refused_answer _ why.number why.place stated

  pub stated_room : (l : List ℕ) → l ≡ flatten_room l (row_flattened room (contents_of s) row)
  stated_room = refused_room _ why.number why.place stated

pub ruleset stated_flattened = (stated_fine, stated_answer, stated_room)

-- THE BUFFER

flatten_is : (buffer : List ℕ) (n row room : ℕ) (c : Checked File) → file_of buffer n ≡ c → flatten_of buffer n row room ≡ row_flattened room c row
unfolding flatten_of performed row_flattened row_performed
flatten_is buffer n row room c e = ap (λ (x : Checked File). row_flattened room x row) e

module _ (buffer : List ℕ) (n row room : ℕ) where
  past : length buffer < n → flatten_of buffer n row room ≡ refused 1 0
  unfolding row_flattened row_performed ◌>>=◌
  past h = flatten_is buffer n row room (refused 1 0) (stated_past buffer n h)

  over : n ≤ length buffer → 65536 < n → flatten_of buffer n row room ≡ refused 1 0
  unfolding row_flattened row_performed ◌>>=◌
  over h k = flatten_is buffer n row room (refused 1 0) (stated_over buffer n h k)

  pub past_answer : length buffer < n → refused 1 0 ≡ flatten_answer (flatten_of buffer n row room)
  past_answer h = refused_answer _ 1 0 (past h)

  pub past_room : (l : List ℕ) → length buffer < n → l ≡ flatten_room l (flatten_of buffer n row room)
  past_room l h = refused_room _ 1 0 (past h) l

  pub over_answer : n ≤ length buffer → 65536 < n → refused 1 0 ≡ flatten_answer (flatten_of buffer n row room)
  over_answer h k = refused_answer _ 1 0 (over h k)

  pub over_room : (l : List ℕ) → n ≤ length buffer → 65536 < n → l ≡ flatten_room l (flatten_of buffer n row room)
  over_room l h k = refused_room _ 1 0 (over h k) l

  module _ (h : n ≤ length buffer) (k : n ≤ 65536) where
    within : row_flattened room (contents_of (take n buffer)) row ≡ flatten_of buffer n row room
    within = sym (flatten_is buffer n row room (contents_of (take n buffer)) (stated_within buffer n h k))

    pub whole_answer : (r : Checked ℕ) → r ≡ flatten_answer (row_flattened room (contents_of (take n buffer)) row)
        → r ≡ flatten_answer (flatten_of buffer n row room)
    whole_answer = same_answer _ _ within

    pub whole_room : (l m : List ℕ) → m ≡ flatten_room l (row_flattened room (contents_of (take n buffer)) row)
        → m ≡ flatten_room l (flatten_of buffer n row room)
    whole_room = same_room _ _ within

pub ruleset buffers_flattened = (past_answer, past_room, over_answer, over_room, stated_small, whole_answer, whole_room)
