-- The rules that entries keep, over a reader's answers; and which letters a table of flags names.
use Rattle.std.specs.Prelude.{ℕ, ◌<◌, List, [], Bool, true, false, not, ◌≡◌, length, get_or, set}
use Rattle.model.specs.Words.{◌and◌, ◌<?◌, is_some, ◌otherwise◌, Placed, Checked}
use Rattle.model.specs.Item.{Item, items_of}
use Rattle.model.specs.Seek.{Entry, phrase_of, order_list}
use Rattle.model.specs.Points.{is_address, is_span, points_hold}
use Rattle.model.specs.declared.Event.{Event}
use Rattle.model.specs.declared.Voice.{Voice}
use Rattle.model.specs.declared.SeekEntry.{SeekEntry}
use Rattle.model.specs.declared.SeekEntry.TheVariants.{Start, Stop, Phrase, Order}

-- with phrases a point is a position in a list of so many letters, in a stream an address
unfoldable pub is_point : Bool → List (Placed (Item Event)) → ℕ → ℕ → ℕ → Bool
is_point true items size letters value = not (letters <? value)
is_point false items size letters value = is_address items size value

-- the same of a body
abbrev pub address_in : Voice → List ℕ → ℕ → Bool
address_in voice body = is_address (items_of voice body) (length body)

abbrev pub point_in : Voice → Bool → List ℕ → ℕ → ℕ → Bool
point_in voice phrases body letters = is_point phrases (items_of voice body) (length body) letters

-- an entry against the rules, as a reader has it
unfoldable pub entry_holds : (ℕ → Bool) → (ℕ → Bool) → ℕ → SeekEntry → Bool
entry_holds address point started (Start value) = point value
entry_holds address point started (Stop value) = point value and not (value <? started)
entry_holds address point started (Phrase letter from to) = is_span address from to
entry_holds address point started (Order letters) = true

-- 13, entry by entry
unfoldable pub entries_hold : Bool → List (Placed (Item Event)) → ℕ → List (Placed Entry) → Checked (Unit {0})
entries_hold phrases items size entries =
    points_hold (is_address items size) (is_point phrases items size (length (order_list entries otherwise []))) entries

-- a phrase's letter is flagged
unfoldable pub marked : List Bool → SeekEntry → List Bool
marked flags (Start value) = flags
marked flags (Stop value) = flags
marked flags (Phrase letter from to) = set flags letter true
marked flags (Order letters) = flags

-- the flags say of every letter whether it has a phrase
pub record Named (entries : List (Placed Entry)) (flags : List Bool) : Type 0 where
  pub flagged : (letter : ℕ) → letter < 256 → get_or flags letter false ≡ is_some (phrase_of letter entries)
