-- Ticket 3: the bytes of entries are a seek body, and it reads as exactly those entries.
use Prim.Native.Nat.{ℕ, ◌+◌, ◌<◌, ◌≤◌}
use mathlib.Core.List.{List, [], ◌∷◌, append-nil}
use mathlib.Core.Path.{◌≡◌, refl, sym, ◌∙◌, ap}
use lib.ListN.{length, drop, get_or, length-append, length-drop}
use lib.Seq.{drop-drop, drop_at, get_or-drop}
use native.Mathlib.Nat.{add-zero}
use native.Mathlib.Omega.{arith}
use borrow.Author.Tests.{le-leb, lt-leb}
use Rattle.model.specs.Words.{when◌then◌else◌, ◌and◌, ◌or◌, any, Placed, placed_from, Step.met, walk_of, in_turn}
use Rattle.std.specs.Prelude.{Ok}
use Rattle.model.specs.Bytes.{◌!◌}
use Rattle.model.specs.Seek.{Entry, is_letter, letters_in_front, followed, entry_step, in_order, seek_of}
use Rattle.model.specs.SeekBytes.{entry_bytes, further_bytes, seek_bytes, entries_placed}
use Rattle.model.proofs.Walks.{Stand}
use Rattle.entries.proofs.ListsInTurn.{in_turn_all}
use Rattle.whole.proofs.EntriesFit.{EntriesFit}
use Rattle.whole.proofs.SeekStands.{stands_reads}
use Rattle.whole.proofs.EntryReads.{entry_length, entry_reads}

-- no letter stands behind an entry
further_letters : (width : ℕ) (entries : List Entry) → letters_in_front (further_bytes width entries) ≡ 0
unfolding further_bytes letters_in_front is_letter any ◌and◌ ◌or◌ when◌then◌else◌
further_letters width [] = refl
further_letters width (entry ∷ entries) = refl

-- what follows an entry: the end, or a comma
module _ (s : List ℕ) (at next : ℕ) (entry : Entry) where
  followed_end : length s ≤ next → followed s at next entry ≡ met (record { place = at; what = entry }) next
  unfolding followed when◌then◌else◌
  followed_end h = simp le-leb

  followed_comma : next < length s → s ! next ≡ 0x2C → followed s at next entry ≡ met (record { place = at; what = entry }) (next + 1)
  unfolding followed when◌then◌else◌
  followed_comma h comma = simp (lt-leb, comma)

module _ (width : ℕ) (s : List ℕ) where
  -- the entries stand where their bytes do
  entries_stand : (entry : Entry) (entries : List Entry) (at : ℕ) → EntriesFit width (entry ∷ entries) → drop at s ≡ seek_bytes width (entry ∷ entries)
      → Stand (length s) (entry_step width s) at (placed_from (λ each. length (entry_bytes width each) + 1) at (entry ∷ entries))
  unfolding seek_bytes further_bytes placed_from
  entries_stand entry [] at fit e =
      let next = at + length (entry_bytes width entry) in
      let plain : drop at s ≡ entry_bytes width entry = e ∙ append-nil (entry_bytes width entry) in
      let ends : next ≡ length s = omega (arith, length-drop at s, ap length plain, entry_length width entry) in
      let step = entry_reads width s at [] entry fit.0 (further_letters width []) e in
      (next, step ∙ followed_end s at next entry (omega arith), ends)
  entries_stand entry (another ∷ entries) at fit e =
      let bytes = entry_bytes width entry in
      let next = at + length bytes in
      let behind : drop next s ≡ 0x2C ∷ seek_bytes width (another ∷ entries) =
      sym (drop-drop (length bytes) at s) ∙ ap (drop (length bytes)) e ∙ drop_at bytes _ (length bytes) refl in
      let here : next < length s = omega (arith, length-drop next s, ap length behind) in
      let comma : s ! next ≡ 0x2C = ap (λ (n : ℕ). s ! n) (sym (add-zero next)) ∙ sym (get_or-drop next s 0 0) ∙ ap (λ (l : List ℕ). get_or l 0 0) behind in
      let after : drop (next + 1) s ≡ seek_bytes width (another ∷ entries) = sym (drop-drop 1 next s) ∙ ap (drop 1) behind in
      let step = entry_reads width s at (further_bytes width (another ∷ entries)) entry fit.0 (further_letters width (another ∷ entries)) e in
      let on : at + (length bytes + 1) ≡ next + 1 = omega arith in (
        next + 1,
        step ∙ followed_comma s at next entry here comma,
        rw on (entries_stand another entries (next + 1) fit.1 after),
      )

-- what the order of entries asks, all of them are, each at its place
pub seek_reads : (width : ℕ) (entries : List Entry) (placed : List (Placed Entry)) → 0 < length entries → EntriesFit width entries
    → in_turn in_order [] (walk_of (entries_placed width entries)) ≡ Ok placed
    → (seek_of width (seek_bytes width entries) ≡ Ok placed) × (placed ≡ entries_placed width entries)
unfolding entries_placed seek_bytes
seek_reads width [] placed some fit e = absurd (omega arith)
seek_reads width (entry ∷ entries) placed some fit e =
    let s = seek_bytes width (entry ∷ entries) in
    let all = in_turn_all in_order (entries_placed width (entry ∷ entries)) [] placed e in
    let long : 0 < length s = omega (arith, length-append (entry_bytes width entry) (further_bytes width entries), entry_length width entry) in
    let reads = stands_reads width s (entries_placed width (entry ∷ entries))
    (record { some = long; stands = entries_stand width s entry entries 0 fit refl; passes = all.1 }) in
    (reads ∙ ap Ok (sym all.0), all.0)
