-- The rules that entries keep (13, 14), over rows.
use Rattle.std.specs.Prelude.{ℕ, ◌%◌, ◌<◌, List, [], ◌∷◌, Bool, true, false, ◌≡◌, get_or, set, Ok}
use Rattle.model.specs.Words.{when◌then◌else◌, ◌and◌, ◌or◌, ◌<?◌, ◌≤?◌, ◌≡?◌, Placed, Checked, ◌>>=◌, ◌>>◌}
use Rattle.model.specs.Seek.{Entry}
use Rattle.model.specs.Points.{is_span, points_hold, is_position, order_holds}
use Rattle.model.specs.SeekBytes.{entries_given}
use Rattle.writing.specs.Parts.{fault_in}
use Rattle.entries.specs.declared.row.Row.{Row}
use Rattle.entries.specs.declared.points.Judged.{Judged}
use Rattle.entries.specs.declared.rows.Told.{Told}
use Rattle.entries.specs.Places.{is_place, Front, AllGiven}

-- 13, and then 14 where letters count
unfoldable pub rules_hold : Bool → (ℕ → Bool) → List (Placed Entry) → Checked (Unit {0})
rules_hold true address entries = points_hold address (is_position entries) entries >> order_holds entries
rules_hold false address entries = points_hold address address entries

-- the entries of a track beside its items: 12, 13, 14
unfoldable pub seek_stage : Bool → List ℕ → List ℕ → List ℕ → Checked (List (Placed Entry))
seek_stage phrases entries items letters = do
  placed ← entries_given phrases letters entries
  rules_hold phrases (is_place items) placed
  Ok placed

-- the start point's value, 0 without one
unfoldable pub started_in : List Row → ℕ
started_in [] = 0
started_in (row ∷ rows) = when row.kind ≡? 0 then row.from else started_in rows

unfoldable pub has_list : List Row → Bool
has_list [] = false
has_list (row ∷ rows) = (row.kind ≡? 3) or has_list rows

-- with phrases a point is a position in a list of so many letters, in a stream an address
unfoldable pub is_point : Bool → List ℕ → ℕ → ℕ → Bool
is_point phrases items listed value = when phrases then value ≤? listed else is_place items value

unfoldable pub row_holds : Bool → List ℕ → ℕ → ℕ → Row → Bool
row_holds phrases items started listed row =
    when row.kind ≡? 3 then true else
    when row.kind ≡? 2 then is_span (is_place items) row.from row.to else
    when (row.kind ≡? 1) and (row.from <? started) then false else
    is_point phrases items listed row.from

unfoldable pub rows_hold : Bool → List ℕ → ℕ → ℕ → List Row → Bool
rows_hold phrases items started listed [] = true
rows_hold phrases items started listed (row ∷ rows) = row_holds phrases items started listed row and rows_hold phrases items started listed rows

-- a phrase's letter is flagged
unfoldable pub marked : List Bool → Row → List Bool
marked flags row = when row.kind ≡? 2 then set flags (row.letter % 256) true else flags

unfoldable pub is_named : ℕ → List Row → Bool
is_named letter [] = false
is_named letter (row ∷ rows) = ((row.kind ≡? 2) and (row.letter % 256 ≡? letter)) or is_named letter rows

-- the flags say of every byte whether it is a phrase's letter
pub record Named (rows : List Row) (flags : List Bool) : Type 0 where
  pub flagged : (letter : ℕ) → letter < 256 → get_or flags letter false ≡ is_named letter rows

unfoldable pub all_named : List Row → List ℕ → Bool
all_named rows [] = true
all_named rows (letter ∷ letters) = is_named letter rows and all_named rows letters

unfoldable pub letters_fault : Bool → List Row → List ℕ → ℕ
letters_fault ordered rows letters = when ordered then (when all_named rows letters then 0 else 14) else 0

-- 14 where letters count
unfoldable pub order_fault : Bool → Bool → List Row → List ℕ → ℕ
order_fault phrases ordered rows letters = when phrases then letters_fault ordered rows letters else 0

-- A judgement holds where all items can be written, and the front has come further meanwhile.
pub record Says (source items : List ℕ) (judged : Judged) (meant : Bool) : Type 0 where
  pub front : Front source items judged.front
  pub so : AllGiven source items → judged.holds ≡ meant

pub record Tells (phrases : Bool) (letters entries source items : List ℕ) (told : Told) : Type 0 where
  pub front : Front source items told.front
  pub so : AllGiven source items → told.fault ≡ fault_in (seek_stage phrases entries items letters)
