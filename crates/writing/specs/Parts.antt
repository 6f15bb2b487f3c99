-- What the writers of an event ask of its numbers, the bytes of each kind of event, and how many bytes an event takes; the same of a
-- list of items that are given.
use Rattle.std.specs.Prelude.{ℕ, ◌+◌, ◌-◌, ◌*◌, ◌/◌, ◌%◌, ◌≤◌, ◌<◌, List, [], ◌∷◌, Bool, false, not, ◌≡◌, length, drop, Ok, Err}
use Rattle.model.specs.Words.{when◌then◌else◌, ◌and◌, ◌<?◌, ◌≤?◌, ◌≡?◌, Checked, passed, ◌>>◌}
use Rattle.model.specs.Bytes.{part}
use Rattle.model.specs.Duration.{longest_duration, duration_bytes}
use Rattle.model.specs.Event.{is_note}
use Rattle.model.specs.Item.{Item, is_fine}
use Rattle.model.specs.Plain.{item_bytes, bytes_of}
use Rattle.model.specs.Content.{Content, handy_phone}
use Rattle.model.specs.Writing.{value_fits, exclusive_fits, kind_in, channel_in, value_in, gate_in, place_in, size_in, event_in, event_word, event_given, items_from}
use Rattle.model.specs.declared.Voice.{Voice}
use Rattle.model.specs.declared.Voice.TheVariants.{Score, Pcm}
use Rattle.model.specs.declared.Event.{Event}
use Rattle.model.specs.declared.Event.TheVariants.{Nop, Note, Wave, Control, Exclusive}

-- the numbers of a note or a wave
pub record SoundFit (channel low gate : ℕ) : Type 0 where
  pub few : channel ≤ 3
  pub small : low ≤ 63
  pub short : gate ≤ 16511

pub record ControlFit (kind channel value : ℕ) : Type 0 where
  pub few : channel ≤ 3
  pub from : 3 ≤ kind
  pub to : kind ≤ 13
  pub short : 11 ≤ kind → value < 16

unfoldable pub sound_bytes : ℕ → ℕ → ℕ → List ℕ
sound_bytes channel low gate = (channel * 64 + low) ∷ duration_bytes gate

unfoldable pub exclusive_bytes : List ℕ → ℕ → ℕ → List ℕ
exclusive_bytes source place size = 0xFF ∷ 0xF0 ∷ size ∷ part source (place + 3) size

unfoldable pub event_size : Event → ℕ
event_size Nop = 2
event_size (Note channel key gate) = 1 + length (duration_bytes gate)
event_size (Wave channel number gate) = 1 + length (duration_bytes gate)
event_size (Control kind channel value) = when kind <? 11 then 3 else 2
event_size (Exclusive place size) = 3 + size

-- more than 65,536 is as much as 65,537
unfoldable pub limited : ℕ → ℕ
limited n = when 65536 <? n then 65537 else n

-- GIVEN ITEMS: what a check says, without what it finds; the number of the refusal, 0 for none; the bytes of an item and of a list, none where there is a
-- refusal; how many bytes a duration and a word take that are no fault

abbrev pub checked : {A : Type 0} → Checked A → Checked (Unit {0})
checked found = found >> passed

unfoldable pub fault_in : {A : Type 0} → Checked A → ℕ
fault_in (Ok a) = 0
fault_in (Err why) = why.number

unfoldable pub given_size : ℕ → ℕ → ℕ
given_size duration word = when kind_in word ≡? 16 then 4 else length (duration_bytes duration) + event_size (event_in word)

unfoldable pub given_bytes : Checked (Item Content) → List ℕ
given_bytes (Ok item) = item_bytes handy_phone item
given_bytes (Err why) = []

unfoldable pub list_bytes : Checked (List (Item Content)) → List ℕ
list_bytes (Ok items) = bytes_of handy_phone items
list_bytes (Err why) = []

-- SHORT NOTES, which most items are: a byte each for duration, note and gate time, told from the two numbers

unfoldable pub is_narrow : ℕ → Bool
is_narrow word = (kind_in word ≡? 1) and (gate_in word ≤? 127)

unfoldable pub is_short_note : ℕ → ℕ → Bool
is_short_note duration word =
    (duration ≤? 127) and (kind_in word ≡? 1) and (value_in word ≤? 63) and (gate_in word ≤? 127) and (word % 4 ≡? 0) and is_note (value_in word % 16)
    and not (gate_in word ≡? 0)

unfoldable pub is_short : Voice → ℕ → ℕ → Bool
is_short Score duration word = is_short_note duration word
is_short Pcm duration word = false

unfoldable pub short_bytes : ℕ → ℕ → List ℕ
short_bytes duration word = duration ∷ (channel_in word * 64 + value_in word) ∷ gate_in word ∷ []

-- the numbers of a short note that is given
pub record ShortNote (duration word : ℕ) : Type 0 where
  pub brief : duration ≤ 127
  pub small : value_in word ≤ 63
  pub narrow : gate_in word ≤ 127

-- LENGTHS of events, 0 where they cannot be written: what a word says is given, and the word has no bits besides

unfoldable pub event_length : List ℕ → ℕ → ℕ
event_length source word =
    when is_fine (event_given source (event_in word)) and (event_word (event_in word) ≡? word) then event_size (event_in word) else 0

unfoldable pub sound_length : Bool → ℕ → ℕ
sound_length allowed word =
    when not allowed then 0 else
    when not (word % 4 ≡? 0) then 0 else
    when gate_in word ≡? 0 then 0 else
    when longest_duration <? gate_in word then 0 else
    1 + length (duration_bytes (gate_in word))

unfoldable pub control_length : ℕ → ℕ
control_length word =
    when not (word % 0x20000 ≡? 0) then 0 else
    when not (value_fits (kind_in word) (value_in word)) then 0 else
    when kind_in word <? 11 then 3 else
    2

unfoldable pub exclusive_length : List ℕ → ℕ → ℕ
exclusive_length source word =
    when not (word % 8 ≡? 0) then 0 else
    when exclusive_fits source (place_in word) (size_in word) then 3 + size_in word else
    0

-- A LIST, checked and measured
unfoldable pub size_answer : Checked (List (Item Content)) → Checked ℕ
size_answer (Ok items) = Ok (limited (length (bytes_of handy_phone items)))
size_answer (Err why) = Err why

-- the answer where so many bytes stand before these items
unfoldable pub onto : ℕ → Checked (List (Item Content)) → Checked ℕ
onto taken (Ok items) = Ok (limited (taken + length (bytes_of handy_phone items)))
onto taken (Err why) = Err why

-- So many items have no fault and take so many bytes: the items that are left decide.
pub record CheckedTo (voice : Voice) (source numbers : List ℕ) (index taken : ℕ) : Type 0 where
  pub few : index ≤ length numbers / 2
  pub same : onto taken (items_from voice source (length numbers / 2 - index) index (drop (2 * index) numbers))
      ≡ size_answer (items_from voice source (length numbers / 2) 0 numbers)
