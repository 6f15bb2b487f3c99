-- Ticket 3: the entries of a seek body that reads can be written, stand where their bytes place them, and are written as the body's bytes, all but the comma
-- that may stand behind the last.
use Prim.Native.Nat.{ℕ, ◌+◌, ◌<◌}
use mathlib.Core.List.{List, [], ◌∷◌, ◌++◌, append_assoc, append-nil}
use mathlib.Core.Path.{◌≡◌, sym, ◌∙◌, ap, ap₂, subst}
use lib.ListN.{length, drop, length-append, drop_of_length-le}
use lib.Seq.{drop-length}
use native.Mathlib.Omega.{arith}
use Rattle.model.specs.Words.{Placed, placed_from, Step.met}
use Rattle.std.specs.Prelude.{Ok}
use Rattle.model.specs.Bytes.{◌!◌}
use Rattle.model.specs.Seek.{Entry, entry_step, seek_of}
use Rattle.model.specs.SeekBytes.{entry_bytes, further_bytes, seek_bytes, entries_placed}
use Rattle.model.proofs.Walks.{GoesOn, Stand}
use Rattle.seek.proofs.Ahead.{entry_goes}
use Rattle.entries.specs.Rows.{entries_in}
use Rattle.whole.proofs.EntriesFit.{EntriesFit}
use Rattle.whole.proofs.SeekStands.{SeekStands, reads_stands}
use Rattle.whole.proofs.EntryWrites.{Behind, Behind.body_ends, Behind.comma_stands, MetThere, entry_writes}

-- what may stand behind the last entry
pub data AfterLast : List ℕ → Type 0 where
  nothing : AfterLast []
  comma : AfterLast (0x2C ∷ [])

-- the entries from a place on
pub record EntriesThere (width : ℕ) (s : List ℕ) (at : ℕ) (placed : List (Placed Entry)) : Type 0 where
  pub fit : EntriesFit width (entries_in placed)
  pub places : placed_from (λ entry. length (entry_bytes width entry) + 1) at (entries_in placed) ≡ placed
  pub last : List ℕ
  pub is_last : AfterLast last
  pub bytes : drop at s ≡ seek_bytes width (entries_in placed) ++ last

module _ (width : ℕ) (s : List ℕ) (bytes : (k : ℕ) → s ! k < 256) where
  at_place : (at next : ℕ) (entry : Placed Entry) → MetThere width s at entry next → ◌≡◌ {A = Placed Entry} (record { place = at; what = entry.what }) entry
  at_place at next entry m = ap (λ (n : ℕ). record { place = n; what = entry.what }) (sym m.place)

  last_there : (entry : Placed Entry) (at next : ℕ) → MetThere width s at entry next → next ≡ length s → EntriesThere width s at (entry ∷ [])
  unfolding placed_from seek_bytes further_bytes
  last_there entry at next m ends =
      let t = m.there in
      record {
        fit = (t.fits, tt);
        places = ap (λ (e : Placed Entry). e ∷ []) (at_place at next entry m);
        last = drop m.end s;
        is_last = go m.behind;
        bytes = t.splits ∙ ap (λ (l : List ℕ). l ++ drop m.end s) (sym (append-nil (entry_bytes width entry.what)));
      }
    where
      go : Behind s m.end next → AfterLast (drop m.end s)
      go (body_ends e n) = rw (e, drop-length) nothing
      go (comma_stands e n) = rw (e, ends, drop-length) comma

  one_more : (entry another : Placed Entry) (rest : List (Placed Entry)) (at next : ℕ) → MetThere width s at entry next
      → Stand (length s) (entry_step width s) next (another ∷ rest) → EntriesThere width s next (another ∷ rest) → EntriesThere width s at (entry ∷ another ∷ rest)
  unfolding placed_from seek_bytes further_bytes
  one_more entry another rest at next m st r = go m.behind
    where
      go : Behind s m.end next → EntriesThere width s at (entry ∷ another ∷ rest)
      go (body_ends e n) =
          let g : GoesOn (length s) next (met another st.0) = subst (GoesOn (length s) next) st.1 (entry_goes width s next) in
          absurd (omega arith)
      go (comma_stands e n) =
          let t = m.there in
          let first = entry_bytes width entry.what in
          let on : at + (length first + 1) ≡ next = omega (arith, t.ends) in
          record {
            fit = (t.fits, r.fit);
            places =
                ap₂ (λ (e : Placed Entry) (l : List (Placed Entry)). e ∷ l) (at_place at next entry m)
                (ap (λ (n : ℕ). placed_from (λ each. length (entry_bytes width each) + 1) n (entries_in (another ∷ rest))) on ∙ r.places);
            last = r.last;
            is_last = r.is_last;
            bytes =
                t.splits ∙ ap (λ (l : List ℕ). first ++ l) (e ∙ ap (λ (l : List ℕ). 0x2C ∷ l) r.bytes)
                ∙ sym (append_assoc first (0x2C ∷ seek_bytes width (entries_in (another ∷ rest))) r.last);
          }

  entries_there : (entry : Placed Entry) (rest : List (Placed Entry)) (at : ℕ) → Stand (length s) (entry_step width s) at (entry ∷ rest)
      → EntriesThere width s at (entry ∷ rest)
  entries_there entry [] at st = last_there entry at st.0 (entry_writes width s at bytes entry st.0 st.1) st.2
  entries_there entry (another ∷ rest) at st =
      one_more entry another rest at st.0 (entry_writes width s at bytes entry st.0 st.1) st.2 (entries_there another rest st.0 st.2)

  module _ (placed : List (Placed Entry)) (reads : seek_of width s ≡ Ok placed) where
    all_there : EntriesThere width s 0 placed
    all_there = go placed st.stands
      where
        st : SeekStands width s placed
        st = reads_stands width s placed reads

        go : (all : List (Placed Entry)) → Stand (length s) (entry_step width s) 0 all → EntriesThere width s 0 all
        go [] ends = absurd (omega (arith, st.some))
        go (entry ∷ rest) stands = entries_there entry rest 0 stands

    pub seek_some : 0 < length placed
    seek_some = go placed (reads_stands width s placed reads)
      where
        go : (all : List (Placed Entry)) → SeekStands width s all → 0 < length all
        go [] st = absurd (omega (arith, st.some, st.stands))
        go (entry ∷ rest) st = omega arith

    pub seek_fits : EntriesFit width (entries_in placed)
    seek_fits = all_there.fit

    pub seek_places : entries_placed width (entries_in placed) ≡ placed
    unfolding entries_placed
    seek_places = all_there.places

    pub seek_writes_to_last : (last : List ℕ) × AfterLast last × (s ≡ seek_bytes width (entries_in placed) ++ last)
    seek_writes_to_last = (all_there.last, all_there.is_last, all_there.bytes)

    pub seek_writes : length (seek_bytes width (entries_in placed)) ≡ length s → seek_bytes width (entries_in placed) ≡ s
    seek_writes long =
        let all = seek_bytes width (entries_in placed) in
        let t = all_there in
        let short : length t.last ≡ 0 = omega (arith, ap length t.bytes, length-append all t.last) in
        sym (append-nil all) ∙ ap (λ (l : List ℕ). all ++ l) (sym (drop_of_length-le t.last {i = 0} (omega arith))) ∙ sym t.bytes
