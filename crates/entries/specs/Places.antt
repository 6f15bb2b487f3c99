-- Addresses in the body that given items make, told from the items' numbers: the first byte of an item, or the body's length.
use Rattle.std.specs.Prelude.{ℕ, zero, suc, ◌+◌, ◌-◌, ◌*◌, ◌/◌, ◌<◌, ◌≤◌, List, Bool, true, false, ◌≡◌, length, drop}
use Rattle.model.specs.Words.{◌or◌, ◌≡?◌}
use Rattle.model.specs.Bytes.{◌!◌}
use Rattle.model.specs.Item.{is_fine}
use Rattle.model.specs.Writing.{items_given}
use Rattle.model.specs.declared.Voice.TheVariants.{Score}
use Rattle.writing.specs.Parts.{given_size, CheckedTo}
use Rattle.entries.specs.declared.address.Cursor.{Cursor}

-- whether one of so many items begins at an address, the first at a place, or the last ends there
unfoldable pub is_start : ℕ → ℕ → List ℕ → ℕ → Bool
is_start place zero numbers address = place ≡? address
is_start place (suc count) numbers address =
    (place ≡? address) or is_start (place + given_size (numbers ! 0) (numbers ! 1)) count (drop 2 numbers) address

unfoldable pub is_place : List ℕ → ℕ → Bool
is_place numbers address = is_start 0 (length numbers / 2) numbers address

-- A cursor stands behind so many items: what is an address from there on is one of the items that are left.
pub record Stands (numbers : List ℕ) (cursor : Cursor) : Type 0 where
  pub few : cursor.index ≤ length numbers / 2
  pub near : cursor.place < 4294967556
  pub onward : (address : ℕ) → cursor.place ≤ address
      → is_start cursor.place (length numbers / 2 - cursor.index) (drop (2 * cursor.index) numbers) address ≡ is_place numbers address

-- The front: a cursor that checks the items it passes.
pub record Front (source numbers : List ℕ) (cursor : Cursor) : Type 0 where
  pub stands : Stands numbers cursor
  pub checked : CheckedTo Score source numbers cursor.index cursor.place

-- all items can be written
abbrev pub AllGiven : List ℕ → List ℕ → Type 0
AllGiven source numbers = is_fine (items_given Score source numbers) ≡ true

-- The front came to an address or past it. Where it did not, an item is at fault, or the address is behind the last.
pub record Came (source numbers : List ℕ) (cursor : Cursor) (address : ℕ) : Type 0 where
  pub front : Front source numbers cursor
  pub beyond : AllGiven source numbers → cursor.place < address → is_place numbers address ≡ false
