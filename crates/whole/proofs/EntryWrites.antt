-- What the reader meets at a place of a seek body is an entry that can be written, and its bytes are those that stand there; behind them is the end of the
-- body, or a comma.
use Prim.Native.Nat.{ℕ, suc, ◌+◌, ◌<◌, ◌≤◌}
use mathlib.Core.List.{List, [], ◌∷◌, ◌++◌, append_assoc}
use mathlib.Core.Bool.{true, false}
use mathlib.Core.Path.{◌≡◌, refl, sym, ◌∙◌, ap, ap₂, subst}
use lib.ListN.{length, take, drop, take-append-drop}
use lib.Seq.{drop-drop, drop-cons, take-add}
use native.Mathlib.Nat.{add-zero}
use native.Mathlib.Omega.{arith}
use borrow.Author.Tests.{ltb-false, leb-true, leb-false, eqb-true, not-false}
use Rattle.model.specs.Words.{when◌then◌else◌, ◌<?◌, Placed, Step, Step.met, Step.stuck}
use Rattle.model.specs.Bytes.{◌!◌, number, part}
use Rattle.model.specs.Seek.{Entry, Entry.start, Entry.stop, Entry.phrase, Entry.order, is_letter, tag, letters_in_front, data_at, phrase_at, entry_at, entry_of, followed, entry_met, entry_step}
use Rattle.model.specs.ChunkBytes.{number_bytes}
use Rattle.model.specs.SeekBytes.{data_bytes, entry_bytes}
use Rattle.std.specs.Prelude.{Option, Some, None}
use Rattle.model.specs.declared.Read.{Read}
use Rattle.model.specs.declared.SeekEntry.{SeekEntry}
use Rattle.model.proofs.Tests.{if_all, by_test, and_left, and_right}
use Rattle.model.proofs.Parts.{part_length}
use Rattle.seek.proofs.Letters.{letters_reach}
use Rattle.entries.proofs.NumberBytes.{number_small, number_again}
use Rattle.whole.proofs.EntriesFit.{EntryFits}
use Rattle.whole.proofs.EntryReads.{entry_length}

-- an entry stands from a place to an end
pub record EntryThere (width : ℕ) (s : List ℕ) (at : ℕ) (entry : Entry) (end : ℕ) : Type 0 where
  pub fits : EntryFits width entry
  pub splits : drop at s ≡ entry_bytes width entry ++ drop end s
  pub ends : end ≡ at + length (entry_bytes width entry)
  pub within : end ≤ length s

-- the letters in front are letters
letters_only : (s : List ℕ) → letters_in_front (take (letters_in_front s) s) ≡ letters_in_front s
unfolding letters_in_front when◌then◌else◌
letters_only [] = refl
letters_only (byte ∷ bytes) = by_test (is_letter byte) (λ h. simp h (ap suc (letters_only bytes))) (λ h. simp h)

-- a list from a place on, cut after so many
cut_after : (s : List ℕ) (at size : ℕ) → drop at s ≡ part s at size ++ drop (at + size) s
cut_after s at size = sym (take-append-drop size (drop at s)) ∙ ap (λ (l : List ℕ). part s at size ++ l) (drop-drop size at s)

module _ (width : ℕ) (s : List ℕ) (bytes : (k : ℕ) → s ! k < 256) (at : ℕ) where
  -- an entry whose tag, colon and data stand there
  entry_stands : (entry : Entry) (size : ℕ) → s ! (at + 2) ≡ 0x3A → number 2 s at ≡ tag entry → EntryFits width entry → at + 3 + size ≤ length s
      → data_bytes width entry ≡ part s (at + 3) size → EntryThere width s at entry (at + 3 + size)
  unfolding entry_bytes
  entry_stands entry size colon tagged fit room same =
      let end = at + 3 + size in
      let one : suc (at + 2) ≡ at + 3 = omega arith in
      let tag_part : number_bytes 2 (tag entry) ≡ part s at 2 = ap (number_bytes 2) (sym tagged) ∙ number_again s bytes at 2 (omega arith) in
      let behind : drop (at + 2) s ≡ (0x3A ∷ data_bytes width entry) ++ drop end s =
      drop-cons s (at + 2) 0 (omega arith) ∙ ap₂ (λ (b : ℕ) (l : List ℕ). b ∷ l) colon
      (ap (λ (n : ℕ). drop n s) one ∙ cut_after s (at + 3) size ∙ ap (λ (l : List ℕ). l ++ drop end s) (sym same)) in
      record {
        fits = fit;
        splits =
            cut_after s at 2 ∙ ap₂ (λ (l : List ℕ) (m : List ℕ). l ++ m) (sym tag_part) behind
            ∙ sym (append_assoc (number_bytes 2 (tag entry)) (0x3A ∷ data_bytes width entry) (drop end s));
        ends = omega (arith, entry_length width entry, ap length same, part_length s (at + 3) size room);
        within = room;
      }

  abbrev Written : Option (Read SeekEntry) → Type 0
  Written (Some read) = EntryThere width s at (entry_of s at read.what) read.next
  Written None = Unit

  module _ (room : at + 3 ≤ length s) (colon : s ! (at + 2) ≡ 0x3A) where
    point_written : (entry : Entry) → number 2 s at ≡ tag entry → EntryFits width entry → data_bytes width entry ≡ number_bytes width (number width s (at + 3))
        → (length s <? at + 3 + width) ≡ false → EntryThere width s at entry (at + 3 + width)
    point_written entry tagged fit same h =
        let enough = ltb-false (length s) (at + 3 + width) h in
        entry_stands entry width colon tagged fit enough (same ∙ number_again s bytes (at + 3) width enough)

    data_written : (tagged : ℕ) → number 2 s at ≡ tagged → Written (data_at width s tagged (at + 3))
    unfolding data_at data_bytes tag entry_of
    data_written tagged is =
        if_all Written _ _ _
        (λ t. if_all Written _ _ _ (λ h. tt) (λ h.
        point_written (start _) (is ∙ eqb-true tagged 0x7374 t) (number_small s bytes (at + 3) width) refl h))
        (λ no_start. if_all Written _ _ _
        (λ t. if_all Written _ _ _ (λ h. tt) (λ h.
        point_written (stop _) (is ∙ eqb-true tagged 0x7370 t) (number_small s bytes (at + 3) width) refl h))
        (λ no_stop. if_all Written _ _ _
        (λ t.
        let count = letters_in_front (drop (at + 3) s) in
        let fit = letters_only (drop (at + 3) s) ∙ sym (part_length s (at + 3) count (letters_reach s (at + 3) room)) in
        entry_stands (order (part s (at + 3) count)) count colon (is ∙ eqb-true tagged 0x534C t) fit (letters_reach s (at + 3) room) refl)
        (λ no_order. tt)))

    phrase_written : s ! at ≡ 0x50 → is_letter (s ! (at + 1)) ≡ true → Written (phrase_at s (s ! (at + 1)) (at + 3))
    unfolding phrase_at data_bytes tag entry_of
    phrase_written first known =
        if_all Written _ _ _ (λ h. tt) (λ h.
        let enough : at + 3 + 8 ≤ length s = ltb-false (length s) (at + 3 + 8) h in
        let p : s ! (at + 0) ≡ 0x50 = ap (λ (n : ℕ). s ! n) (add-zero at) ∙ first in
        let from = number 4 s (at + 3) in
        let to = number 4 s (at + 3 + 4) in
        let both : number_bytes 4 from ++ number_bytes 4 to ≡ part s (at + 3) 8 =
        ap₂ (λ (l : List ℕ) (m : List ℕ). l ++ m) (number_again s bytes (at + 3) 4 (omega arith))
        (number_again s bytes (at + 3 + 4) 4 (omega arith) ∙ ap (take 4) (sym (drop-drop 4 (at + 3) s)))
        ∙ sym (take-add 4 4 (drop (at + 3) s)) in
        entry_stands (phrase (s ! (at + 1)) from to) 8 colon (omega arith) (known, number_small s bytes (at + 3) 4, number_small s bytes (at + 3 + 4) 4) enough both)

  entry_written : Written (entry_at width s at)
  unfolding entry_at
  entry_written =
      if_all Written _ _ _ (λ h. tt)
      (λ h. if_all Written _ _ _ (λ i. tt)
      (λ i.
      let room : at + 3 ≤ length s = ltb-false (length s) (at + 3) h in
      let colon : s ! (at + 2) ≡ 0x3A = eqb-true (s ! (at + 2)) 0x3A (not-false _ i) in
      if_all Written _ _ _
      (λ j. phrase_written room colon (eqb-true (s ! at) 0x50 (and_left _ _ j)) (and_right _ _ j))
      (λ j. data_written room colon _ refl)))

-- behind an entry: the end of the body, or a comma and what the walk goes on to
pub data Behind (s : List ℕ) (end next : ℕ) : Type 0 where
  body_ends : end ≡ length s → next ≡ length s → Behind s end next
  comma_stands : drop end s ≡ 0x2C ∷ drop next s → next ≡ end + 1 → Behind s end next

pub record MetThere (width : ℕ) (s : List ℕ) (at : ℕ) (entry : Placed Entry) (next : ℕ) : Type 0 where
  pub place : entry.place ≡ at
  pub end : ℕ
  pub there : EntryThere width s at entry.what end
  pub behind : Behind s end next

module _ (width : ℕ) (s : List ℕ) (at : ℕ) where
  abbrev StepThere : Step (Placed Entry) → Type 0
  StepThere (met entry next) = MetThere width s at entry next
  StepThere (stuck number place) = Unit

  followed_there : (entry : Entry) (end : ℕ) → EntryThere width s at entry end → StepThere (followed s at end entry)
  unfolding followed
  followed_there entry end t =
      if_all StepThere _ _ _
      (λ h.
      let last : end ≡ length s = omega (arith, t.within, leb-true (length s) end h) in
      record { place = refl; end = end; there = t; behind = body_ends last last })
      (λ h. if_all StepThere _ _ _
      (λ comma.
      let cons = drop-cons s end 0 (leb-false (length s) end h) in
      let one : suc end ≡ end + 1 = omega arith in
      let stands : drop end s ≡ 0x2C ∷ drop (end + 1) s = cons ∙ ap₂ (λ (b : ℕ) (n : ℕ). b ∷ drop n s) (eqb-true (s ! end) 0x2C comma) one in
      record { place = refl; end = end; there = t; behind = comma_stands stands refl })
      (λ other. tt))

  met_there : (bytes : (k : ℕ) → s ! k < 256) (entry : Option (Read SeekEntry)) → Written width s bytes at entry → StepThere (entry_met s at entry)
  unfolding entry_met
  met_there bytes (Some read) w = followed_there (entry_of s at read.what) read.next w
  met_there bytes None w = tt

  pub entry_writes : ((k : ℕ) → s ! k < 256) → (entry : Placed Entry) (next : ℕ) → entry_step width s at ≡ met entry next → MetThere width s at entry next
  unfolding entry_step
  entry_writes bytes entry next is = subst StepThere is (met_there bytes (entry_at width s at) (entry_written width s bytes at))
