-- An entry and the place of the next one, as the walks of a seek body pass on; and what the check of their order remembers of them.
use Rattle.std.specs.Prelude.{ℕ, ◌+◌, ◌≤◌, List, Bool, true, false, ◌≡◌, length, Option, Some, None}
use Rattle.model.specs.Words.{when◌then◌else◌, ◌≤?◌, ◌≡?◌, ◌up_to◌}
use Rattle.model.specs.Bytes.{◌!◌}
use Rattle.model.specs.Seek.{entry_at}
use Rattle.model.specs.declared.Read.{Read}
use Rattle.model.specs.declared.SeekEntry.{SeekEntry}
use Rattle.model.specs.declared.SeekEntry.TheVariants.{Start, Stop, Phrase, Order}

-- An entry up to the end of the body, or up to its comma and past it; another byte after the data is that entry's fault.
unfoldable pub past_comma : List ℕ → Option (Read SeekEntry) → Option (Read SeekEntry)
past_comma s (Some read) =
    when length s ≤? read.next then Some read else
    when s ! read.next ≡? 0x2C then Some (read.what up_to (read.next + 1)) else
    None
past_comma s None = None

-- the entry at a place, and the place of the next one
unfoldable pub next_at : ℕ → List ℕ → ℕ → Option (Read SeekEntry)
next_at width s at = past_comma s (entry_at width s at)

-- of a body of good form an order list is the last entry
unfoldable pub may_end : ℕ → SeekEntry → ℕ → Bool
may_end size (Start value) next = true
may_end size (Stop value) next = true
may_end size (Phrase letter from to) next = true
may_end size (Order letters) next = next ≡? size

unfoldable pub is_known : ℕ → Option (Read SeekEntry) → Bool
is_known size (Some read) = may_end size read.what read.next
is_known size None = false

-- such an entry stands at a place
pub record KnownAt (width : ℕ) (s : List ℕ) (at : ℕ) : Type 0 where
  pub room : at + 3 ≤ length s
  pub known : is_known (length s) (next_at width s at) ≡ true

-- what orders an entry among others, and a number of its own for each tag: a phrase's is its letter
unfoldable pub rank_of : SeekEntry → ℕ
rank_of (Start value) = 0
rank_of (Stop value) = 1
rank_of (Phrase letter from to) = 2
rank_of (Order letters) = 3

unfoldable pub slot_of : SeekEntry → ℕ
slot_of (Start value) = 0
slot_of (Stop value) = 1
slot_of (Phrase letter from to) = letter
slot_of (Order letters) = 2
