-- What the walk of a body says of the items that it passes.
use Rattle.std.specs.Prelude.{ℕ, ◌+◌, Bool, not, List, ◌≡◌, length, Ok, Err}
use Rattle.model.specs.Words.{◌≡?◌, ◌and◌, ◌<?◌, ◌≤?◌, Checked}
use Rattle.model.specs.Bytes.{◌!◌}
use Rattle.model.specs.Event.{is_sound}
use Rattle.model.specs.declared.Voice.{Voice}
use Rattle.model.specs.declared.ReadItem.{ReadItem}
use Rattle.model.specs.declared.ReadItem.TheVariants.{Timed, EndMark}

-- the place after an item agrees with what is read at the item's place; where that is refused nothing is said of it
unfoldable pub EndsAt : ℕ → Checked ReadItem → Type 0
EndsAt place (Ok (Timed duration event next)) = place ≡ next
EndsAt place (Ok (EndMark next)) = place ≡ next
EndsAt place (Err why) = Unit

-- a note or wave that is not refused and takes three bytes: its duration, its first byte and its gate time
unfoldable pub is_short : Voice → List ℕ → ℕ → Bool
is_short voice s at =
    (at + 3 ≤? length s) and (s ! at <? 128) and not (s ! (at + 1) ≡? 0x00) and not (s ! (at + 1) ≡? 0xFF) and not (s ! (at + 2) ≡? 0) and (s ! (at + 2) <? 128) and is_sound voice (s ! (at + 1))
