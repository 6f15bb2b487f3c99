-- A row in memory: comma, tag and colon, and its data after them.
use Prim.Native.Nat.{ℕ, ◌+◌, ◌<◌, ◌≤◌}
use mathlib.Core.List.{List, [], ◌∷◌, ◌++◌}
use mathlib.Core.Bool.{Bool, true, false}
use mathlib.Core.Path.{◌≡◌, refl, sym, ◌∙◌, ap}
use lib.ListN.{length, set, length-set, length-append}
use lib.Seq.{sets, take-length}
use native.Mathlib.Numerals.{towards_suc}
use native.Mathlib.Omega.{arith}
use borrow.Author.Tests.{ne_eqb}
use Rattle.model.specs.Words.{when◌then◌else◌}
use Rattle.model.specs.Bytes.{part}
use Rattle.model.specs.Track.{point_width}
use Rattle.model.specs.ChunkBytes.{number_bytes}
use Rattle.model.proofs.Stores.{sets_append}
use Rattle.writing.proofs.Stores.{kept_set}
use Rattle.entries.specs.declared.row.Row.{Row}
use Rattle.entries.specs.Rows.{tag_of, data_of, row_bytes}

-- comma, tag, colon
pub tag_room : (l k : List ℕ) (at next : ℕ) → length k ≡ length (set l at 0x2C) → at + 4 ≤ length l → next ≡ at + 1 + 2 → next < length k
tag_room l k at next kept room e = omega (arith, length-set l at 0x2C)

pub comma_room : (l : List ℕ) (at : ℕ) → at + 4 ≤ length l → at + 1 + 2 ≤ length (set l at 0x2C)
comma_room l at room = omega (arith, length-set l at 0x2C)

pub tag_wrote : (row : Row) (l k : List ℕ) (at next tagged : ℕ) → tagged ≡ tag_of row → next ≡ at + 1 + 2 → k ≡ sets (set l at 0x2C) (at + 1) (number_bytes 2 tagged)
    → set k next 0x3A ≡ sets l at (0x2C ∷ number_bytes 2 (tag_of row) ++ (0x3A ∷ []))
unfolding number_bytes
tag_wrote row l k at next tagged t n e = rw (e, n, t) (simp towards_suc)

pub ruleset tag_stores = (tag_room, comma_room, tag_wrote, kept_set)

-- its data, by its kind
module _ (phrases : Bool) (letters : List ℕ) (row : Row) (l : List ℕ) (at : ℕ) where
  module _ (k : row.kind ≡ 2) where
    phrase_data : data_of phrases letters row ≡ number_bytes 4 row.from ++ number_bytes 4 row.to
    unfolding data_of when◌then◌else◌
    phrase_data = simp k

    phrase_long : length (data_of phrases letters row) ≡ 8
    unfolding number_bytes
    phrase_long = ap length phrase_data

    pub phrase_room : at + length (data_of phrases letters row) ≤ length l → at + 8 ≤ length l
    phrase_room h = omega (arith, phrase_long)

    pub phrase_next : (z : ℕ) → z ≡ at + 8 → z ≡ at + length (data_of phrases letters row)
    phrase_next z e = omega (arith, phrase_long)

    pub phrase_wrote : (m : List ℕ) → m ≡ sets l at (number_bytes 4 row.from ++ number_bytes 4 row.to) → m ≡ sets l at (data_of phrases letters row)
    phrase_wrote m e = e ∙ ap (sets l at) (sym phrase_data)

  module _ (k : row.kind ≡ 3) where
    order_data : data_of phrases letters row ≡ letters
    unfolding data_of when◌then◌else◌
    order_data = simp k

    pub order_room : at + length (data_of phrases letters row) ≤ length l → at + length letters ≤ length l
    order_room h = omega (arith, ap length order_data)

    pub order_next : (z : ℕ) → z ≡ at + length letters → z ≡ at + length (data_of phrases letters row)
    order_next z e = omega (arith, ap length order_data)

    pub order_wrote : (m : List ℕ) → m ≡ sets l at (part letters 0 (length letters)) → m ≡ sets l at (data_of phrases letters row)
    order_wrote m e = e ∙ ap (sets l at) (take-length letters ∙ sym order_data)

  module _ (not-phrase : row.kind ≡ 2 → ⊥) (not-order : row.kind ≡ 3 → ⊥) where
    point_data : data_of phrases letters row ≡ number_bytes (point_width phrases) row.from
    unfolding data_of when◌then◌else◌
    point_data = simp ne_eqb

    width_long : (p : Bool) (n : ℕ) → length (number_bytes (point_width p) n) ≡ point_width p
    unfolding number_bytes
    width_long true n = refl
    width_long false n = refl

    point_long : length (data_of phrases letters row) ≡ point_width phrases
    point_long = ap length point_data ∙ width_long phrases row.from

    pub point_room : at + length (data_of phrases letters row) ≤ length l → at + point_width phrases ≤ length l
    point_room h = omega (arith, point_long)

    pub point_next : (z : ℕ) → z ≡ at + point_width phrases → z ≡ at + length (data_of phrases letters row)
    point_next z e = omega (arith, point_long)

    pub point_wrote : (m : List ℕ) → m ≡ sets l at (number_bytes (point_width phrases) row.from) → m ≡ sets l at (data_of phrases letters row)
    point_wrote m e = e ∙ ap (sets l at) (sym point_data)

pub ruleset data_stores = (phrase_room, phrase_next, phrase_wrote, order_room, order_next, order_wrote, point_room, point_next, point_wrote)

-- both parts
module _ (phrases : Bool) (letters : List ℕ) (row : Row) where
  row_long : length (row_bytes phrases letters row) ≡ 4 + length (data_of phrases letters row)
  unfolding row_bytes number_bytes
  row_long = length-append (0x2C ∷ number_bytes 2 (tag_of row) ++ (0x3A ∷ [])) (data_of phrases letters row)

  module _ (l : List ℕ) (at : ℕ) where
    pub head_room : at + length (row_bytes phrases letters row) ≤ length l → at + 4 ≤ length l
    head_room room = omega (arith, row_long)

    module _ (k : List ℕ) (middle : ℕ) (between : middle ≡ at + 4) where
      pub data_room : at + length (row_bytes phrases letters row) ≤ length l → length k ≡ length l → middle + length (data_of phrases letters row) ≤ length k
      data_room room same = omega (arith, row_long)

      pub row_next : (r : ℕ) → r ≡ middle + length (data_of phrases letters row) → r ≡ at + length (row_bytes phrases letters row)
      row_next r e = omega (arith, row_long)

      pub row_wrote : (m : List ℕ) → k ≡ sets l at (0x2C ∷ number_bytes 2 (tag_of row) ++ (0x3A ∷ [])) → m ≡ sets k middle (data_of phrases letters row)
          → m ≡ sets l at (row_bytes phrases letters row)
      unfolding row_bytes number_bytes
      row_wrote m e h =
          let head = 0x2C ∷ number_bytes 2 (tag_of row) ++ (0x3A ∷ []) in
          let bytes = data_of phrases letters row in
          h ∙ ap (λ (x : List ℕ). sets x middle bytes) e ∙ ap (λ (n : ℕ). sets (sets l at head) n bytes) between ∙ sets_append l at head bytes

pub ruleset row_stores = (head_room, data_room, row_next, row_wrote)
