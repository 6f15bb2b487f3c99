-- What the functions of this crate speak of beside the definitions of the model: the bodies of a track, the spans of its letters, and
-- what a play order comes to.
use Rattle.std.specs.Prelude.{ℕ, ◌+◌, ◌<◌, ◌≤◌, ◌≡◌, Bool, true, List, [], ◌∷◌, ◌++◌, length, take, get_or, Option, None, Some, Ok, Err}
use Rattle.model.specs.Words.{when◌then◌else◌, ◌<?◌, ◌≡?◌, through, is_some, Placed, Checked, passed, ◌>>=◌, ◌>>◌, refused}
use Rattle.model.specs.Bytes.{◌!◌, part}
use Rattle.model.specs.Item.{is_fine, found, body_of, items_of}
use Rattle.model.specs.Seek.{Entry, seek_of, phrase_of}
use Rattle.model.specs.Play.{At, Section, Tune, onsets_after, stops_in, tune_of}
use Rattle.model.specs.Word.{is_message}
use Rattle.model.specs.Order.{phrase_section, order_of, play_order}
use Rattle.model.specs.Track.{Track, point_width, points_of}
use Rattle.model.specs.File.{File, track_at}
use Rattle.model.specs.Answer.{Performance, named, ordered}
use Rattle.model.specs.declared.Voice.{Voice}
use Rattle.model.specs.declared.Event.{Event}
use Rattle.model.specs.declared.Points.{Points}
use Rattle.model.specs.declared.Span.{Span}
use Rattle.model.specs.declared.Passage.{Passage}
use Rattle.model.specs.declared.FoundSpans.{FoundSpans}
use Rattle.model.specs.declared.Total.{Total}
use Rattle.model.specs.declared.Bodies.{Bodies}
use Rattle.model.specs.declared.Extent.{Extent}
use Rattle.sections.specs.Spans.{Items, span_of, passage_of, span_rows, Playable, SpanRises}
use Rattle.sections.specs.Taking.{AllBytes}

-- the entries of a seek body; a track without a seek chunk has none
unfoldable pub entries_said : Bool → List ℕ → List (Placed Entry)
entries_said phrases seek = when length seek ≡? 0 then [] else found (seek_of (point_width phrases) seek)

-- a seek body, where there is one, has good form
abbrev pub Formed : Bool → List ℕ → Type 0
Formed phrases seek = 0 < length seek → is_fine (seek_of (point_width phrases) seek) ≡ true

-- A sequence body and a seek body that keep the rules.
pub record Ready (voice : Voice) (phrases : Bool) (body seek : List ℕ) : Type 0 where
  pub small : length body ≤ 65536
  pub few : length seek ≤ 65536
  pub reads : is_fine (body_of voice body) ≡ true
  pub formed : Formed phrases seek
  pub holds : points_of phrases (items_of voice body) (length body) (entries_said phrases seek) ≡ passed

abbrev pub bytes_in : List ℕ → Extent → List ℕ
bytes_in s extent = part s extent.place extent.size

unfoldable pub track_in : Checked Track → Option Track
track_in (Ok track) = Some track
track_in (Err why) = None

-- 16: the readable track that a row number names
unfoldable pub track_named : Checked File → ℕ → Option Track
track_named (Ok file) row = track_at file row
track_named (Err why) row = None

-- THE BODIES of a track stand in the file and keep the rules.
pub record Inside (s : List ℕ) (bodies : Bodies) : Type 0 where
  pub sequence : bodies.sequence.place + bodies.sequence.size ≤ length s
  pub seek : bodies.seek.place + bodies.seek.size ≤ length s
  pub ready : Ready bodies.voice bodies.phrases (bytes_in s bodies.sequence) (bytes_in s bodies.seek)

pub record Open (s : List ℕ) (bodies : Bodies) (track : Track) : Type 0 where
  pub inside : Inside s bodies
  pub header : track.header ≡ bodies.header
  pub voice : track.voice ≡ bodies.voice
  pub phrases : track.phrases ≡ bodies.phrases
  pub body : track.body ≡ bytes_in s bodies.sequence
  pub items : track.items ≡ items_of bodies.voice (bytes_in s bodies.sequence)
  pub entries : track.entries ≡ entries_said bodies.phrases (bytes_in s bodies.seek)

abbrev pub Opens : List ℕ → Option Track → Option Bodies → Type 0
Opens s (Some track) (Some bodies) = Open s bodies track
Opens s None (Some bodies) = ⊥
Opens s (Some track) None = ⊥
Opens s None None = Unit

-- THE LETTERS of an order list

-- where the letters that are played end in the list
unfoldable pub last_position : Points → ℕ
last_position points = when points.stops then points.stop else points.letters

-- an order list stands in its seek body, and its points are positions in it
pub record Listed (seek : List ℕ) (points : Points) : Type 0 where
  pub inside : points.order + points.letters ≤ length seek
  pub small : length seek ≤ 65536
  pub from : points.start ≤ last_position points
  pub to : last_position points ≤ points.letters

abbrev pub no_span : Span
no_span = record { first = 0; past = 0; start = 0; messages = 0; lasts = 0 }

abbrev pub span_at : List Span → ℕ → Span
span_at spans letter = get_or spans letter no_span

unfoldable pub letter_section : Items → List (Placed Entry) → ℕ → Section
letter_section items entries letter = phrase_section items (phrase_of letter entries)

unfoldable pub letter_passage : Items → ℕ → List (Placed Entry) → ℕ → Passage
letter_passage items size entries letter = passage_of items size (letter_section items entries letter)

unfoldable pub letter_span : Items → ℕ → List (Placed Entry) → ℕ → Span
letter_span items size entries letter = span_of items size (letter_section items entries letter)

-- the letters that are played: those up to and with the first in whose section playing stops
unfoldable pub letters_heard : Items → List (Placed Entry) → List ℕ → List ℕ
letters_heard items entries letters = through (λ letter. stops_in (onsets_after 0 items) (letter_section items entries letter)) letters

-- every letter of a list has a phrase
abbrev pub Named : List (Placed Entry) → List ℕ → Type 0
Named entries letters = (i : ℕ) → i < length letters → is_some (phrase_of (letters ! i) entries) ≡ true

-- the spans of a table are those of the letters of a list
abbrev pub Spanned : Items → ℕ → List (Placed Entry) → List Span → List ℕ → Type 0
Spanned items size entries spans letters = (i : ℕ) → i < length letters → span_at spans (letters ! i) ≡ letter_span items size entries (letters ! i)

abbrev pub AllPlayable : Items → ℕ → List Span → List ℕ → Type 0
AllPlayable items size spans letters = (i : ℕ) → i < length letters → Playable items size (span_at spans (letters ! i))

abbrev pub AllRise : Items → List Span → List ℕ → Type 0
AllRise items spans letters = (i : ℕ) → i < length letters → SpanRises items (span_at spans (letters ! i))

-- no span plays more messages, or lasts longer, than a body can
abbrev pub AllFew : List Span → List ℕ → Type 0
AllFew spans letters = (i : ℕ) → i < length letters → (span_at spans (letters ! i)).messages ≤ 65536

abbrev pub AllShort : List Span → List ℕ → Type 0
AllShort spans letters = (i : ℕ) → i < length letters → (span_at spans (letters ! i)).lasts ≤ 1082064896

-- how many messages the spans of letters play together, and how long they last
unfoldable pub messages_together : List Span → List ℕ → ℕ
messages_together spans [] = 0
messages_together spans (letter ∷ letters) = (span_at spans letter).messages + messages_together spans letters

unfoldable pub lasts_together : List Span → List ℕ → ℕ
lasts_together spans [] = 0
lasts_together spans (letter ∷ letters) = (span_at spans letter).lasts + lasts_together spans letters

unfoldable pub total_of : List Span → List ℕ → Total
total_of spans letters = record { count = messages_together spans letters; end = lasts_together spans letters }

-- WHAT IS NEEDED to play letters by a table of spans: that these are spans of the body, whose steps never fall, and that all can be counted.
pub record Heard (items : Items) (size : ℕ) (spans : List Span) (letters : List ℕ) : Type 0 where
  pub bytes : AllBytes letters
  pub listed : length letters ≤ 65536
  pub playable : AllPlayable items size spans letters
  pub rise : AllRise items spans letters
  pub few : AllFew spans letters
  pub short : AllShort spans letters

-- the spans of the letters of a list that are played, as they are found
pub record Found (items : Items) (size : ℕ) (entries : List (Placed Entry)) (letters : List ℕ) (found : FoundSpans) : Type 0 where
  pub within : found.letters ≤ length letters
  pub are : take found.letters letters ≡ letters_heard items entries letters
  pub spanned : Spanned items size entries found.spans (take found.letters letters)
  pub heard : Heard items size found.spans (take found.letters letters)

-- the rows of letters, one span after the other, where so much has been played before
unfoldable pub rows_together : Items → List Span → ℕ → List ℕ → List (At Event)
rows_together items spans before [] = []
rows_together items spans before (letter ∷ letters) =
    span_rows items (span_at spans letter) before ++ rows_together items spans (before + (span_at spans letter).lasts) letters

-- what letters play together
unfoldable pub tune_together : Items → List Span → List ℕ → Tune Event
tune_together items spans letters = record { messages = rows_together items spans 0 letters; end = lasts_together spans letters }

-- PLAYED: 17 where there is no order, then 15, at the track's header
unfoldable pub fitted : ℕ → ℕ → Tune Event → Checked (Tune Event)
fitted header room tune = when room <? length tune.messages then refused 15 header else Ok tune

unfoldable pub played : ℕ → ℕ → Items → Option (List Section) → Checked (Tune Event)
played header room items None = refused 17 header
played header room items (Some sections) = fitted header room (tune_of is_message items sections)

-- what a track plays, from its bodies
unfoldable pub heard : Voice → Bool → ℕ → ℕ → List ℕ → List ℕ → Checked (Tune Event)
heard voice phrases header room body seek =
    played header room (items_of voice body) (order_of phrases (items_of voice body) (entries_said phrases seek))

-- what the track that a row of a file names performs
unfoldable pub row_performed : Checked File → ℕ → Checked Performance
row_performed outcome row = do
  file ← outcome
  track ← named (track_at file row)
  ordered track (play_order track)

unfoldable pub row_played : ℕ → Checked File → ℕ → Checked (Tune Event)
row_played room outcome row = do
  performance ← row_performed outcome row
  when room <? length performance.tune.messages then refused 15 performance.track.header else passed
  Ok performance.tune
