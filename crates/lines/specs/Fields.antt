-- What the functions of this crate speak of beside the definitions of the model: a line in parts, and the messages that rows say.
use Rattle.std.specs.Prelude.{ℕ, zero, suc, ◌+◌, ◌-◌, ◌*◌, ◌/◌, ◌%◌, ◌<◌, ◌≤◌, List, [], ◌∷◌, ◌++◌, pos, ◌-ℤ◌, None, Some, Ok, Err}
use Rattle.model.specs.Words.{when◌then◌else◌, ◌≤?◌, Checked}
use Rattle.model.specs.Pitch.{semitones}
use Rattle.model.specs.Bytes.{◌!◌}
use Rattle.model.specs.Listing.{Line, Listing, lines_of}
use Rattle.model.specs.ListingText.{bytes, space, newline, decimal, signed, kind_name, channel_name, lines_text}
use Rattle.model.specs.Play.{At, Tune}
use Rattle.model.specs.Writing.{event_in}
use Rattle.model.specs.declared.Event.{Event}
use Rattle.lines.specs.declared.line.Printed.{Printed}

-- a field and the byte that closes it
unfoldable pub closed : List ℕ → ℕ → List ℕ
closed field byte = field ++ byte ∷ []

-- the line that printed numbers say
unfoldable pub said : Printed → Line
said printed =
    record {
      step = printed.step;
      ms = printed.ms;
      channel = printed.channel;
      kind = printed.kind;
      value = pos printed.up -ℤ pos printed.down;
      gate = printed.gate;
    }

-- a pitch as semitones up less semitones down
unfoldable pub octaves_up : ℕ → ℕ
octaves_up shift = when shift ≤? 0x04 then shift else 0

unfoldable pub semitones_up : ℕ → ℕ → ℕ
semitones_up key shift = 12 * (key / 16) + key % 16 + 12 * octaves_up shift

unfoldable pub semitones_down : ℕ → ℕ
semitones_down shift = 33 + 12 * (shift - 0x80)

-- the lines of a note under a shift, of what else has a channel, and of what has none
unfoldable pub note_line : ℕ → ℕ → ℕ → ℕ → ℕ → ℕ → Line
note_line shift step ms channel key gate =
    record {
      step = step;
      ms = ms;
      channel = Some channel;
      kind = 1;
      value = semitones (key / 16) (key % 16) shift;
      gate = gate;
    }

unfoldable pub voiced_line : ℕ → ℕ → ℕ → ℕ → ℕ → ℕ → Line
voiced_line step ms channel kind value gate =
    record { step = step; ms = ms; channel = Some channel; kind = kind; value = pos value; gate = gate }

unfoldable pub unvoiced_line : ℕ → ℕ → ℕ → ℕ → Line
unvoiced_line step ms kind value = record { step = step; ms = ms; channel = None; kind = kind; value = pos value; gate = 0 }

-- a line in three parts: its times, its channel and kind, its value and gate
unfoldable pub times_text : ℕ → ℕ → List ℕ
times_text step ms = closed (decimal step) space ++ closed (decimal ms) space

unfoldable pub source_text : Printed → List ℕ
source_text printed = closed (channel_name printed.channel) space ++ closed (kind_name printed.kind) space

unfoldable pub value_text : Printed → List ℕ
value_text printed =
    closed (signed (pos printed.up -ℤ pos printed.down)) space ++ closed (decimal printed.gate) newline

-- the messages that the first rows of two tables say
unfoldable pub messages_in : ℕ → List ℕ → List ℕ → List (At Event)
messages_in zero steps words = []
messages_in (suc count) [] words = []
messages_in (suc count) (step ∷ steps) [] = []
messages_in (suc count) (step ∷ steps) (word ∷ words) =
    record { step = step; event = event_in word } ∷ messages_in count steps words

-- the lines of the first rows, where a step lasts so many milliseconds
unfoldable pub rows_text : ℕ → ℕ → List ℕ → List ℕ → List ℕ
rows_text base count steps words = lines_text (lines_of base (0 ∷ 0 ∷ 0 ∷ 0 ∷ []) (messages_in count steps words))

-- a word and two numbers on one line
unfoldable pub pair_text : List ℕ → ℕ → ℕ → List ℕ
pair_text word first second = word ++ closed (decimal first) space ++ closed (decimal second) newline

-- the listing of the first rows of two tables
unfoldable pub tune_text : ℕ → ℕ → List ℕ → List ℕ → ℕ → List ℕ
tune_text base count steps words end =
    bytes "step ms ch kind value gate\n" ++ rows_text base count steps words ++ pair_text (bytes "end ") end (end * base)

-- the first steps are so early that their milliseconds fit
abbrev pub Early : ℕ → List ℕ → Type 0
Early count steps = (i : ℕ) → i < count → steps ! i ≤ 368934881474191032

-- the listing of a tune, where a step lasts so many milliseconds
unfoldable pub tune_listed : ℕ → Tune Event → Listing
tune_listed base tune =
    record { lines = lines_of base (0 ∷ 0 ∷ 0 ∷ 0 ∷ []) tune.messages; end = tune.end; end_ms = tune.end * base }

unfoldable pub play_listed : ℕ → Checked (Tune Event) → Checked Listing
play_listed base (Ok tune) = Ok (tune_listed base tune)
play_listed base (Err why) = Err why
