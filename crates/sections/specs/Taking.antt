-- An item as plain numbers: the place after it, its duration, its word, 0 where it is no message, and whether it is an end mark. They agree
-- with what is read at its place; where that is refused nothing is said of them.
use Rattle.std.specs.Prelude.{ℕ, ◌<◌, true, false, List, ◌≡◌, Ok, Err}
use Rattle.model.specs.Bytes.{◌!◌}
use Rattle.model.specs.Word.{word_of}
use Rattle.model.specs.Words.{Checked}
use Rattle.model.specs.declared.Read.{Read}
use Rattle.model.specs.declared.Event.{Event}
use Rattle.model.specs.declared.ReadItem.{ReadItem}
use Rattle.model.specs.declared.ReadItem.TheVariants.{Timed, EndMark}
use Rattle.sections.specs.declared.Taken.{Taken}

-- the elements of a slice of bytes
abbrev pub AllBytes : List ℕ → Type 0
AllBytes s = (k : ℕ) → s ! k < 256

abbrev pub taken_as : ℕ → ℕ → ℕ → Taken
taken_as next duration word = record { next = next; duration = duration; word = word; mark = false }

abbrev pub taken_mark : ℕ → ℕ → Taken
taken_mark next duration = record { next = next; duration = duration; word = 0; mark = true }

unfoldable pub EventAgrees : ℕ → Taken → Checked (Read Event) → Type 0
EventAgrees duration taken (Ok read) = taken ≡ taken_as read.next duration (word_of read.what)
EventAgrees duration taken (Err why) = Unit

unfoldable pub ItemAgrees : Taken → Checked ReadItem → Type 0
ItemAgrees taken (Ok (Timed duration what next)) = taken ≡ taken_as next duration (word_of what)
ItemAgrees taken (Ok (EndMark next)) = taken ≡ taken_mark next 0
ItemAgrees taken (Err why) = Unit
