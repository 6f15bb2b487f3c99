-- Ticket 3: entries that are taken from numbers and letters can be written, and stand in the order that the reader asks, so that their bytes read back as
-- exactly those entries.
use Prim.Native.Nat.{ℕ, zero, suc, ◌+◌, ◌^◌, ◌/◌, ◌<◌}
use mathlib.Core.List.{List, [], ◌∷◌}
use mathlib.Core.Bool.{Bool, true, false}
use mathlib.Core.Path.{◌≡◌, sym, ◌∙◌, ap, subst}
use lib.ListN.{length, drop, length-map}
use lib.Seq.{get_or-drop}
use native.Mathlib.Omega.{arith}
use borrow.Author.Tests.{leb-true, eqb-true}
use Rattle.model.specs.Words.{◌≤?◌, Placed, Checked, walk_of, in_turn}
use Rattle.std.specs.Prelude.{Ok, Err}
use Rattle.model.specs.Bytes.{◌!◌}
use Rattle.model.specs.Seek.{Entry, letters_in_front, in_order, seek_of}
use Rattle.model.specs.Track.{point_width}
use Rattle.model.specs.SeekBytes.{entry_bytes, seek_bytes, entries_placed, largest_point, entry_given, entries_from, entries_given}
use Rattle.model.proofs.Tests.{if_all}
use Rattle.model.proofs.Outcomes.{bind_fine}
use Rattle.entries.proofs.ListsInTurn.{in_turn_all}
use Rattle.entries.proofs.GivenEntries.{placed_things}
use Rattle.entries.specs.Rows.{entries_in}
use Rattle.whole.proofs.EntriesFit.{EntryFits, EntriesFit}
use Rattle.whole.proofs.SeekReads.{seek_reads}

abbrev AnswerFits : ℕ → Checked Entry → Type 0
AnswerFits width (Ok entry) = EntryFits width entry
AnswerFits width (Err why) = Unit

point_small : (phrases : Bool) (value : ℕ) → (value ≤? largest_point phrases) ≡ true → value < 256 ^ point_width phrases
point_small true value h = omega (arith, leb-true value 0xFF h)
point_small false value h = omega (arith, leb-true value 0xFFFFFFFF h)

module _ (phrases : Bool) (letters : List ℕ) where
  answer_fits : (kind letter from to : ℕ) → from < 256 ^ 4 → to < 256 ^ 4 → AnswerFits (point_width phrases) (entry_given phrases letters kind letter from to)
  unfolding entry_given
  answer_fits kind letter from to small few =
      let Fits = AnswerFits (point_width phrases) in
      if_all Fits _ _ _ (λ k. if_all Fits _ _ _ (λ h. point_small phrases from h) (λ h. tt))
      (λ k. if_all Fits _ _ _ (λ k. if_all Fits _ _ _ (λ h. point_small phrases from h) (λ h. tt))
      (λ k. if_all Fits _ _ _ (λ k. if_all Fits _ _ _ (λ h. (h, small, few)) (λ h. tt))
      (λ k. if_all Fits _ _ _ (λ k. if_all Fits _ _ _ (λ h. eqb-true (letters_in_front letters) (length letters) h) (λ h. tt)) (λ k. tt))))

  from_fits : (count : ℕ) (numbers : List ℕ) → ((k : ℕ) → numbers ! k < 256 ^ 4) → (entries : List Entry) → entries_from phrases letters count numbers ≡ Ok entries
      → EntriesFit (point_width phrases) entries
  unfolding entries_from
  from_fits zero numbers small entries e = let none : [] ≡ entries = cc in subst (EntriesFit (point_width phrases)) none tt
  from_fits (suc count) numbers small entries e =
      let f = bind_fine _ _ entries e in
      let r = bind_fine _ _ entries f.2 in
      let same : f.0 ∷ r.0 ≡ entries = cc r.2 in
      let first = subst (AnswerFits (point_width phrases)) f.1 (answer_fits (numbers ! 0) (numbers ! 1) (numbers ! 2) (numbers ! 3) (small 2) (small 3)) in
      let rest = from_fits count (drop 4 numbers) (λ k. omega (arith, get_or-drop 4 numbers k 0, small (4 + k))) r.0 r.1 in
      subst (EntriesFit (point_width phrases)) same (first, rest)

  module _ (numbers : List ℕ) (small : (k : ℕ) → numbers ! k < 256 ^ 4) (placed : List (Placed Entry))
      (given : entries_given phrases letters numbers ≡ Ok placed) where
    -- the entries, and that each stands at its place
    record Taken : Type 0 where
      entries : List Entry
      fit : EntriesFit (point_width phrases) entries
      turn : in_turn in_order [] (walk_of (entries_placed (point_width phrases) entries)) ≡ Ok placed
      are : entries_in placed ≡ entries

    taken : Taken
    unfolding entries_given entries_placed
    taken =
        let f = bind_fine _ _ placed given in
        let all = in_turn_all in_order (entries_placed (point_width phrases) f.0) [] placed f.2 in
        record {
          entries = f.0;
          fit = from_fits (length numbers / 4) numbers small f.0 f.1;
          turn = f.2;
          are = ap entries_in all.0 ∙ placed_things (λ entry. length (entry_bytes (point_width phrases) entry) + 1) f.0 0;
        }

    pub given_fits : EntriesFit (point_width phrases) (entries_in placed)
    given_fits = let t = taken in subst (EntriesFit (point_width phrases)) (sym t.are) t.fit

    pub given_in_turn : in_turn in_order [] (walk_of (entries_placed (point_width phrases) (entries_in placed))) ≡ Ok placed
    given_in_turn = let t = taken in rw t.are t.turn

    pub given_places : entries_placed (point_width phrases) (entries_in placed) ≡ placed
    given_places = sym (in_turn_all in_order (entries_placed (point_width phrases) (entries_in placed)) [] placed given_in_turn).0

    pub given_reads : 0 < length placed → seek_of (point_width phrases) (seek_bytes (point_width phrases) (entries_in placed)) ≡ Ok placed
    given_reads some =
        let long : 0 < length (entries_in placed) = omega (arith, length-map placed (λ entry. entry.what)) in
        (seek_reads (point_width phrases) (entries_in placed) placed long given_fits given_in_turn).0
