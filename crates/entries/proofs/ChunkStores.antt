-- The seek chunk in memory: its entries with their commas, and then the header over the first comma.
use Prim.Native.Nat.{ℕ, ◌+◌, ◌-◌, ◌/◌, ◌≤◌}
use mathlib.Core.List.{List, [], ◌∷◌, ◌++◌}
use mathlib.Core.Bool.{Bool, true}
use mathlib.Core.Path.{◌≡◌, refl, sym, ◌∙◌, ap}
use lib.ListN.{length}
use lib.Seq.{sets}
use native.Mathlib.Omega.{arith}
use Rattle.model.specs.Bytes.{MspI}
use Rattle.model.specs.Item.{is_fine, found}
use Rattle.model.specs.Seek.{Entry}
use Rattle.model.specs.Track.{point_width}
use Rattle.model.specs.ChunkBytes.{number_bytes, chunk_bytes}
use Rattle.model.specs.SeekBytes.{further_bytes, seek_bytes, entries_given}
use Rattle.model.specs.Arrangement.{seek_chunk}
use Rattle.entries.specs.declared.row.Row.{Row}
use Rattle.entries.specs.Rows.{row_at, rows_in, rows_bytes, entries_in}
use Rattle.entries.proofs.RowsLeft.{left, left_all, left_next, left_over}
use Rattle.entries.proofs.GivenEntries.{RowsAre, given_entries}
use Rattle.entries.proofs.ChunkOf.{rows_bytes_lem}
use Rattle.entries.proofs.Overlaps.{header_over}

-- the chunk of some entries, by the bytes of their rows
abbrev ChunkIs : List ℕ → List ℕ → Type 0
ChunkIs rows chunk = (body : List ℕ) × (rows ≡ 0x2C ∷ body) × (chunk ≡ (number_bytes 4 MspI ++ number_bytes 4 (length body)) ++ body)

no_chunk : (phrases : Bool) (letters : List ℕ) (rows : List Row) (entries : List Entry) → RowsAre letters rows entries → rows ≡ []
    → seek_chunk (point_width phrases) entries ≡ []
unfolding seek_chunk
no_chunk phrases letters [] [] are none = refl
no_chunk phrases letters [] (entry ∷ entries) are none = absurd are
no_chunk phrases letters (row ∷ rows) entries are none = let z : ◌≡◌ {A = ℕ} 0 1 = cc in absurd (omega arith)

a_chunk : (phrases : Bool) (letters : List ℕ) (rows : List Row) (entries : List Entry) → RowsAre letters rows entries → (row : Row) (more : List Row) → rows ≡ row ∷ more
    → ChunkIs (rows_bytes phrases letters rows) (seek_chunk (point_width phrases) entries)
unfolding seek_chunk chunk_bytes seek_bytes further_bytes
a_chunk phrases letters [] entries are row more e = let z : ◌≡◌ {A = ℕ} 0 1 = cc in absurd (omega arith)
a_chunk phrases letters (first ∷ rows) [] are row more e = absurd are
a_chunk phrases letters (first ∷ rows) (entry ∷ entries) are row more e =
    let body = seek_bytes (point_width phrases) (entry ∷ entries) in
    (body, rows_bytes_lem phrases letters (first ∷ rows) (entry ∷ entries) are, refl)

module _ (phrases : Bool) (letters numbers : List ℕ) (given : is_fine (entries_given phrases letters numbers) ≡ true) where
  abbrev chunk : List ℕ
  chunk = seek_chunk (point_width phrases) (entries_in (found (entries_given phrases letters numbers)))

  abbrev rows : List ℕ
  rows = rows_bytes phrases letters (rows_in numbers)

  module _ (none : length numbers / 4 ≡ 0) where
    empty : chunk ≡ []
    empty =
        let g = given_entries phrases letters numbers given in
        let e : rows_in numbers ≡ [] = sym (left_all numbers (length numbers / 4) refl) ∙ left_over numbers (length numbers / 4) 0 (omega arith) in
        ap (seek_chunk (point_width phrases)) g.only ∙ no_chunk phrases letters (rows_in numbers) g.entries g.are e

    pub none_next : (at : ℕ) → at ≡ at + length (seek_chunk (point_width phrases) (entries_in (found (entries_given phrases letters numbers))))
    none_next at = omega (arith, ap length empty)

    pub none_wrote : (l : List ℕ) (at : ℕ) → l ≡ sets l at (seek_chunk (point_width phrases) (entries_in (found (entries_given phrases letters numbers))))
    none_wrote l at = ap (sets l at) (sym empty)

  module _ (some : length numbers / 4 ≡ 0 → ⊥) where
    is_chunk : ChunkIs rows chunk
    is_chunk =
        let g = given_entries phrases letters numbers given in
        let count = length numbers / 4 in
        let e : rows_in numbers ≡ row_at numbers 0 ∷ left numbers count 1 = sym (left_all numbers count refl) ∙ left_next numbers count 0 (omega arith) in
        let c = a_chunk phrases letters (rows_in numbers) g.entries g.are (row_at numbers 0) (left numbers count 1) e in
        (c.0, c.1, ap (seek_chunk (point_width phrases)) g.only ∙ c.2)

    rows_long : length rows ≡ 1 + length is_chunk.0
    rows_long = ap length is_chunk.1 ∙ omega arith

    chunk_long : length chunk ≡ 8 + length is_chunk.0
    unfolding number_bytes
    chunk_long = ap length is_chunk.2 ∙ omega arith

    pub rows_room : (l : List ℕ) (at : ℕ) → at + length (seek_chunk (point_width phrases) (entries_in (found (entries_given phrases letters numbers)))) ≤ length l
        → at + 7 + length (rows_bytes phrases letters (rows_in numbers)) ≤ length l
    rows_room l at room = omega (arith, rows_long, chunk_long)

    module _ (at end : ℕ) (ends : end ≡ at + 7 + length (rows_bytes phrases letters (rows_in numbers))) where
      body_size : end - at - 8 ≡ length is_chunk.0
      body_size = omega (arith, rows_long)

      pub header_under : 8 ≤ end - at
      header_under = omega (arith, rows_long)

      pub header_room : (l k : List ℕ) → at + length (seek_chunk (point_width phrases) (entries_in (found (entries_given phrases letters numbers)))) ≤ length l → length k ≡ length l
          → at + 8 ≤ length k
      header_room l k room kept = omega (arith, chunk_long)

      pub header_small : length (seek_chunk (point_width phrases) (entries_in (found (entries_given phrases letters numbers)))) ≤ 65536 → end - at - 8 ≤ 65536
      header_small small = omega (arith, body_size, chunk_long)

      pub chunk_next : end ≡ at + length (seek_chunk (point_width phrases) (entries_in (found (entries_given phrases letters numbers))))
      chunk_next = omega (arith, rows_long, chunk_long)

      pub chunk_wrote : (l k m : List ℕ) → k ≡ sets l (at + 7) (rows_bytes phrases letters (rows_in numbers)) → m ≡ sets k at (number_bytes 4 MspI ++ number_bytes 4 (end - at - 8))
          → m ≡ sets l at (seek_chunk (point_width phrases) (entries_in (found (entries_given phrases letters numbers))))
      unfolding number_bytes
      chunk_wrote l k m e h =
          let body = is_chunk.0 in
          let header = number_bytes 4 MspI ++ number_bytes 4 (length body) in
          h
          ∙ ap (λ (n : ℕ). sets k at (number_bytes 4 MspI ++ number_bytes 4 n)) body_size
          ∙ ap (λ (x : List ℕ). sets x at header) (e ∙ ap (sets l (at + 7)) is_chunk.1)
          ∙ header_over l header body at 0x2C refl
          ∙ ap (sets l at) (sym is_chunk.2)

pub ruleset chunk_stores = (none_next, none_wrote, rows_room, header_under, header_room, header_small, chunk_next, chunk_wrote)
