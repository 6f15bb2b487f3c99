-- An entry's bytes, where they stand, read as that entry: the reader goes on to what follows them. Behind an order list no letter may stand, or it would
-- count as one more.
use Prim.Native.Nat.{ℕ, ◌+◌, ◌^◌, ◌/◌, ◌%◌, ◌<◌, ◌≤◌}
use mathlib.Core.List.{List, [], ◌∷◌, ◌++◌, append_assoc}
use mathlib.Core.Path.{◌≡◌, refl, sym, ◌∙◌, ap, ap₂}
use lib.ListN.{length, take, drop, length-append}
use lib.Seq.{drop-drop, drop_at, take-append_seam}
use native.Mathlib.Omega.{arith}
use borrow.Author.Tests.{le-ltb}
use Rattle.model.specs.Words.{when◌then◌else◌}
use Rattle.model.specs.Bytes.{◌!◌, number, part}
use Rattle.model.specs.Seek.{Entry, Entry.start, Entry.stop, Entry.phrase, Entry.order, is_letter, tag, letters_in_front, data_at, phrase_at, entry_at, followed, entry_of, entry_met, entry_step}
use Rattle.model.specs.ChunkBytes.{number_bytes}
use Rattle.model.specs.SeekBytes.{data_bytes, entry_bytes}
use Rattle.model.proofs.Tests.{by_test, if_true, if_false}
use Rattle.seek.proofs.Letters.{letter_most}
use Rattle.entries.proofs.NumberBytes.{number_bytes_length, number_back}
use Rattle.whole.proofs.EntriesFit.{EntryFits}
use Rattle.whole.proofs.EntryHead.{Head, head_stands, tag_bytes, other_tag, phrase_tag}

-- letters, and behind them what begins with none
letters_before : (letters rest : List ℕ) → letters_in_front letters ≡ length letters → letters_in_front rest ≡ 0
    → letters_in_front (letters ++ rest) ≡ length letters
unfolding letters_in_front when◌then◌else◌
letters_before [] rest all none-follows = none-follows
letters_before (letter ∷ letters) rest all none-follows =
    by_test (is_letter letter)
    (λ h. let more = letters_before letters rest (omega (arith, sym (if_true (is_letter letter) _ _ h) ∙ all)) none-follows in if_true _ _ _ h ∙ omega arith)
    (λ h. let none_here = sym (if_false (is_letter letter) _ _ h) ∙ all in absurd (omega arith))

entry_bytes_lem : (width : ℕ) (entry : Entry) → entry_bytes width entry ≡ tag entry / 256 % 256 ∷ tag entry % 256 ∷ 0x3A ∷ data_bytes width entry
unfolding entry_bytes
entry_bytes_lem width entry = ap (λ (l : List ℕ). l ++ (0x3A ∷ data_bytes width entry)) (tag_bytes (tag entry))

pub entry_length : (width : ℕ) (entry : Entry) → length (entry_bytes width entry) ≡ 3 + length (data_bytes width entry)
entry_length width entry = omega (arith, ap length (entry_bytes_lem width entry))

module _ (width : ℕ) (s : List ℕ) (at : ℕ) (rest : List ℕ) where
  -- the head of the entry that stands there
  entry_head : (entry : Entry) → drop at s ≡ entry_bytes width entry ++ rest
      → Head s at (tag entry / 256 % 256) (tag entry % 256) 0x3A (data_bytes width entry ++ rest)
  entry_head entry e = head_stands s at _ _ _ _ (e ∙ ap (λ (l : List ℕ). l ++ rest) (entry_bytes_lem width entry))

  entry_ends : (entry : Entry) → at + length (entry_bytes width entry) ≡ at + 3 + length (data_bytes width entry)
  entry_ends entry = omega (arith, entry_length width entry)

  -- a tag that is no phrase's
  other_there : (entry : Entry) → drop at s ≡ entry_bytes width entry ++ rest → tag entry ≤ 0xFFFF → (tag entry / 256 % 256 ≡ 0x50 → ⊥)
      → entry_at width s at ≡ data_at width s (tag entry) (at + 3)
  unfolding entry_bytes
  other_there entry e small other =
      let h = entry_head entry e in
      let split = e ∙ append_assoc (number_bytes 2 (tag entry)) (0x3A ∷ data_bytes width entry) rest in
      other_tag width s at (omega (arith, h.long)) h.third (tag entry) (λ q. other (sym h.first ∙ q)) (number_back 2 (tag entry) s at _ (omega arith) split)

  -- a point's value
  point_there : (entry : Entry) (value : ℕ) → data_bytes width entry ≡ number_bytes width value → value < 256 ^ width → drop at s ≡ entry_bytes width entry ++ rest
      → (at + 3 + width ≤ length s) × (number width s (at + 3) ≡ value) × (at + length (entry_bytes width entry) ≡ at + 3 + width)
  point_there entry value is small e =
      let h = entry_head entry e in
      let size : length (data_bytes width entry) ≡ width = ap length is ∙ number_bytes_length width value in (
        omega (arith, h.long, length-append (data_bytes width entry) rest),
        number_back width value s (at + 3) rest small (h.after ∙ ap (λ (l : List ℕ). l ++ rest) is),
        omega (arith, entry_ends entry),
      )

  pub entry_reads : (entry : Entry) → EntryFits width entry → letters_in_front rest ≡ 0 → drop at s ≡ entry_bytes width entry ++ rest
      → entry_step width s at ≡ followed s at (at + length (entry_bytes width entry)) entry
  unfolding entry_step entry_met entry_of data_at phrase_at data_bytes tag when◌then◌else◌
  entry_reads (start value) fits none-follows e =
      let p = point_there (start value) value refl fits e in
      rw (other_there (start value) e (omega arith) (λ q. omega arith), p.2) (simp (le-ltb (length s) (at + 3 + width) p.0, p.1))
  entry_reads (stop value) fits none-follows e =
      let p = point_there (stop value) value refl fits e in
      rw (other_there (stop value) e (omega arith) (λ q. omega arith), p.2) (simp (le-ltb (length s) (at + 3 + width) p.0, p.1))
  entry_reads (phrase letter from to) fits none-follows e =
      let h = entry_head (phrase letter from to) e in
      let most = letter_most letter fits.0 in
      let split : drop (at + 3) s ≡ number_bytes 4 from ++ (number_bytes 4 to ++ rest) = h.after ∙ append_assoc (number_bytes 4 from) (number_bytes 4 to) rest in
      let later : drop (at + 3 + 4) s ≡ number_bytes 4 to ++ rest =
      sym (drop-drop 4 (at + 3) s) ∙ ap (drop 4) split ∙ drop_at (number_bytes 4 from) _ 4 (number_bytes_length 4 from) in
      let size : length (number_bytes 4 from ++ number_bytes 4 to) ≡ 8 =
      length-append (number_bytes 4 from) (number_bytes 4 to) ∙ ap₂ ◌+◌ (number_bytes_length 4 from) (number_bytes_length 4 to) in
      let room : at + 3 + 8 ≤ length s = omega (arith, h.long, length-append (number_bytes 4 from ++ number_bytes 4 to) rest) in
      let first : s ! at ≡ 0x50 = h.first ∙ omega arith in
      let second : s ! (at + 1) ≡ letter = h.second ∙ omega arith in
      let is = phrase_tag width s at (omega arith) h.third letter first second fits.0 in
      let start_there = number_back 4 from s (at + 3) (number_bytes 4 to ++ rest) fits.1 split in
      let stop_there = number_back 4 to s (at + 3 + 4) rest fits.2 later in
      let ends : at + length (entry_bytes width (phrase letter from to)) ≡ at + 3 + 8 = omega (arith, entry_ends (phrase letter from to)) in
      rw (is, ends) (simp (le-ltb, start_there, stop_there))
  entry_reads (order letters) fits none-follows e =
      let h = entry_head (order letters) e in
      let count : letters_in_front (drop (at + 3) s) ≡ length letters = ap letters_in_front h.after ∙ letters_before letters rest fits none-follows in
      let same : part s (at + 3) (length letters) ≡ letters = ap (take (length letters)) h.after ∙ take-append_seam letters rest in
      rw (other_there (order letters) e (omega arith) (λ q. omega arith), entry_ends (order letters)) (simp (count, same))
