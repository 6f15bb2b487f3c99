-- Demand 2, "a written sequence reads back as exactly the items it was written from", for ONE ITEM that was written: where its bytes
-- stand, the reader gives its duration, an event of its content, and the place after its bytes.
use Prim.Native.Nat.{ℕ, ◌+◌, ◌≤◌}
use mathlib.Core.Bool.{true}
use mathlib.Core.List.{List, [], ◌∷◌, ◌++◌}
use mathlib.Core.Path.{◌≡◌, ◌∙◌, ap}
use lib.ListN.{length, length-append}
use native.Mathlib.Omega.{arith}
use borrow.Author.Tests.{le-leb, leb-true}
use Rattle.model.specs.Words.{when◌then◌else◌, ◌and◌, ◌≤?◌}
use Rattle.model.specs.Bytes.{◌!◌}
use Rattle.model.specs.Duration.{duration_bytes}
use Rattle.model.specs.Item.{is_end_mark, with_event, with_duration, item_at, Item, Item.timed, Item.end_mark}
use Rattle.model.specs.Plain.{item_bytes}
use Rattle.model.specs.Content.{Content, content_of, content_bytes, handy_phone}
use Rattle.model.specs.Writing.{item_fits}
use Rattle.model.specs.declared.Voice.{Voice}
use Rattle.model.specs.declared.Event.{Event}
use Rattle.std.specs.Prelude.{Ok}
use Rattle.model.specs.declared.ReadItem.TheVariants.{Timed, EndMark}
use Rattle.model.proofs.Tests.{and_left, and_right, if_false}
use Rattle.writing.proofs.Stands.{Stands, stands_first, stands_second, stands_between}
use Rattle.writing.proofs.EventBack.{duration_back, event_from, event_back, content_back}
use Rattle.writing.proofs.NoMark.{no_mark}

-- The reader at a place gives an item: its duration, an event of its content, the place after its bytes.
pub record ReadsTimed (voice : Voice) (s : List ℕ) (at value : ℕ) (content : Content) : Type 0 where
  pub read : Event
  pub given : item_at voice s at ≡ Ok (Timed value read (at + length (item_bytes handy_phone (timed value content))))
  pub same : content_of s read ≡ content

abbrev pub Reads : Voice → List ℕ → ℕ → Item Content → Type 0
Reads voice s at (timed value content) = ReadsTimed voice s at value content
Reads voice s at end_mark = item_at voice s at ≡ Ok (EndMark (at + length (item_bytes handy_phone end_mark)))

timed_back : (voice : Voice) (s : List ℕ) (at value : ℕ) (content : Content) → item_fits voice (timed value content) ≡ true
    → Stands s at (item_bytes handy_phone (timed value content)) → ReadsTimed voice s at value content
unfolding item_fits item_bytes item_at with_duration with_event
timed_back voice s at value content h st =
    let fits = and_right (value ≤? 16511) _ h in
    let bytes = content_bytes content in
    let first = stands_first s at (duration_bytes value) bytes st in
    let second = stands_second s at (duration_bytes value) bytes st in
    let d = duration_back s at value (leb-true value 16511 (and_left _ _ h)) first in
    let e = event_back voice s (at + length (duration_bytes value)) content fits second in
    let n = length-append (duration_bytes value) bytes in
    let place : at + length (duration_bytes value) + length bytes ≡ at + length (duration_bytes value ++ bytes) = omega arith in
    record {
      read = event_from (at + length (duration_bytes value)) content;
      given = if_false (is_end_mark s at) _ _ (no_mark s at voice value content fits first second)
          ∙ simp (d, e) (ap (λ (n : ℕ). Ok (Timed value (event_from (at + length (duration_bytes value)) content) n)) place);
      same = content_back s (at + length (duration_bytes value)) content second;
    }

mark_back : (voice : Voice) (s : List ℕ) (at : ℕ) → Stands s at (0 ∷ 0 ∷ 0 ∷ 0 ∷ []) → item_at voice s at ≡ Ok (EndMark (at + 4))
unfolding item_at is_end_mark when◌then◌else◌ ◌and◌
mark_back voice s at st =
    let e = st.1 in
    let e1 = st.2.1 in
    let e2 : s ! (at + 2) ≡ 0 = ap (λ (n : ℕ). s ! n) (omega arith) ∙ st.2.2.1 in
    let e3 : s ! (at + 3) ≡ 0 = ap (λ (n : ℕ). s ! n) (omega arith) ∙ st.2.2.2.1 in
    let h : at + 4 ≤ length s = omega (arith, st.2.2.2.0) in
    simp (le-leb, e, e1, e2, e3)

-- an item whose bytes stand at a place is read there
pub stands_reads : (voice : Voice) (s : List ℕ) (at : ℕ) (what : Item Content) → item_fits voice what ≡ true → Stands s at (item_bytes handy_phone what)
    → Reads voice s at what
unfolding item_bytes
stands_reads voice s at (timed value content) h st = timed_back voice s at value content h st
stands_reads voice s at end_mark h st = mark_back voice s at st

-- an item that was written after a front and before a rest is read after the front
pub written_reads : (voice : Voice) (front rest : List ℕ) (what : Item Content) → item_fits voice what ≡ true
    → Reads voice (front ++ (item_bytes handy_phone what ++ rest)) (length front) what
written_reads voice front rest what h =
    stands_reads voice (front ++ (item_bytes handy_phone what ++ rest)) (length front) what h (stands_between front (item_bytes handy_phone what) rest)
