-- A track in the two tables, by places: what stands from where to where, and where the next track begins.
use Rattle.std.specs.Prelude.{ℕ, ◌+◌, ◌-◌, ◌≤◌, List, ◌≡◌, length, drop}
use Rattle.model.specs.Bytes.{part}
use Rattle.model.specs.Tables.{Given, numbers_taken, bytes_taken, first_given}
use Rattle.arranging.specs.declared.tables.Stretches.{Stretches}

-- the track whose numbers and bytes begin at two places
abbrev pub given_at : List ℕ → List ℕ → ℕ → ℕ → Given
given_at numbers bytes p q = first_given (drop p numbers) (drop q bytes)

pub record Apart (numbers bytes : List ℕ) (p q : ℕ) (r : Stretches) : Type 0 where
  pub entries_from : p + 4 ≤ r.items
  pub items_from : r.items ≤ r.numbers
  pub numbers_to : r.numbers ≤ length numbers
  pub letters_from : q + 7 ≤ r.source
  pub source_from : r.source ≤ r.bytes
  pub bytes_to : r.bytes ≤ length bytes
  pub entries : part numbers (p + 4) (r.items - (p + 4)) ≡ (given_at numbers bytes p q).entries
  pub items : part numbers r.items (r.numbers - r.items) ≡ (given_at numbers bytes p q).items
  pub letters : part bytes (q + 7) (r.source - (q + 7)) ≡ (given_at numbers bytes p q).letters
  pub source : part bytes r.source (r.bytes - r.source) ≡ (given_at numbers bytes p q).source
  pub numbers_next : drop r.numbers numbers ≡ drop (numbers_taken (drop p numbers)) (drop p numbers)
  pub bytes_next : drop r.bytes bytes ≡ drop (bytes_taken (drop p numbers)) (drop q bytes)
