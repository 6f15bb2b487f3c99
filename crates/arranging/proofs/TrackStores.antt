-- One track in memory: its parts stored one behind the other, and its header before them last.
use Prim.Native.Nat.{ℕ, ◌+◌, ◌-◌, ◌*◌, ◌≤◌}
use mathlib.Core.Bool.{Bool, true, false}
use mathlib.Core.List.{List, ◌++◌}
use mathlib.Core.Path.{◌≡◌, refl, sym, ◌∙◌, ap}
use lib.ListN.{length, length-append, drop}
use lib.Seq.{sets, get_or-take, get_or-drop}
use native.Mathlib.Omega.{arith}
use borrow.Author.Tests.{eq-eqb, ne_eqb}
use Rattle.model.specs.Words.{when◌then◌else◌, ◌and◌, ◌≡?◌, Placed}
use Rattle.std.specs.Prelude.{Ok}
use Rattle.model.specs.Bytes.{◌!◌, part, MTR, Mtsq}
use Rattle.model.specs.ChunkBytes.{number_bytes, chunk_bytes}
use Rattle.model.specs.Item.{Item, is_fine, found}
use Rattle.model.specs.Seek.{Entry}
use Rattle.model.specs.Track.{point_width, fixed_fits}
use Rattle.model.specs.Plain.{bytes_of}
use Rattle.model.specs.Content.{Content, handy_phone}
use Rattle.model.specs.Writing.{items_given}
use Rattle.model.specs.SeekBytes.{entries_given}
use Rattle.model.specs.Arrangement.{has_phrases, seek_chunk, track_bytes}
use Rattle.model.specs.Tables.{fixed_given, track_given}
use Rattle.model.specs.declared.Voice.TheVariants.{Score}
use Rattle.model.proofs.Outcomes.{then_fine, bind_fine, fine_some}
use Rattle.model.proofs.Parts.{part_length}
use Rattle.model.proofs.Stores.{sets_append}
use Rattle.model.proofs.Tests.{by_test}
use Rattle.writing.specs.Parts.{list_bytes}
use Rattle.entries.specs.Rows.{entries_in}
use Rattle.entries.proofs.Overlaps.{sets_later}
use Rattle.arranging.specs.Stages.{given_of, track_given_bytes, seek_of, inside_of}
use Rattle.entries.proofs.NumberBytes.{number_bytes_length}

-- a byte of the head, behind the number
pub head_byte : (head : List ℕ) (k : ℕ) → k ≤ 5 → part head 1 6 ! k ≡ head ! (1 + k)
head_byte head k h = get_or-take 6 (drop 1 head) k 0 (omega arith) ∙ get_or-drop 1 head k 0

same_fixed : (head : List ℕ) → fixed_fits Score (part head 1 6) 0 ≡ fixed_fits Score head 1
unfolding fixed_fits
same_fixed head = rw (head_byte head 1 (omega arith), head_byte head 2 (omega arith), head_byte head 3 (omega arith)) refl

-- the fixed bytes
module _ (head : List ℕ) (z : Bool) where
  pub fixed_other : (head ! 1 ≡ 0 → ⊥) → z ≡ false → z ≡ is_fine (fixed_given (part head 1 6))
  unfolding fixed_given is_fine when◌then◌else◌ ◌and◌
  fixed_other h e = let there = head_byte head 0 (omega arith) in rw there (simp ne_eqb e)

  pub fixed_so : head ! 1 ≡ 0 → z ≡ fixed_fits Score head 1 → z ≡ is_fine (fixed_given (part head 1 6))
  unfolding fixed_given when◌then◌else◌ is_fine ◌and◌
  fixed_so h e =
      let first = eq-eqb (part head 1 6 ! 0) 0 (head_byte head 0 (omega arith) ∙ h) in
      by_test (fixed_fits Score head 1)
      (λ t. let same = fits_same ∙ t in e ∙ t ∙ sym (simp (first, same)))
      (λ t. let same = fits_same ∙ t in e ∙ t ∙ sym (simp (first, same)))
    where
      fits_same : fixed_fits Score (part head 1 6) 0 ≡ fixed_fits Score head 1
      fits_same = same_fixed head

pub ruleset fixed_bytes = (fixed_other, fixed_so)

-- A HEADER BEFORE A BODY that is there
header_long : (id size : ℕ) → length (number_bytes 4 id ++ number_bytes 4 size) ≡ 8
header_long id size = length-append (number_bytes 4 id) (number_bytes 4 size) ∙ omega (arith, number_bytes_length 4 id, number_bytes_length 4 size)

header_before : (l body : List ℕ) (at id : ℕ) → sets (sets l (at + 8) body) at (number_bytes 4 id ++ number_bytes 4 (length body)) ≡ sets l at (chunk_bytes id body)
unfolding chunk_bytes
header_before l body at id =
    let header = number_bytes 4 id ++ number_bytes 4 (length body) in
    let long = header_long id (length body) in
    let behind : at + 8 ≡ at + length header = omega arith in
    sets_later body l header at (at + 8) (omega arith)
    ∙ ap (λ (n : ℕ). sets (sets l at header) n body) behind
    ∙ sets_append l at header body

pub chunk_long : (id : ℕ) (body : List ℕ) → length (chunk_bytes id body) ≡ 8 + length body
unfolding chunk_bytes
chunk_long id body = length-append (number_bytes 4 id ++ number_bytes 4 (length body)) body ∙ omega (arith, header_long id (length body))

-- the sequence chunk
module _ (l body : List ℕ) (at end : ℕ) (ends : end ≡ at + 8 + length body) where
  pub sequence_inside : (m : List ℕ) → at + 8 + length body ≤ length l → length m ≡ length l → end ≤ length m
  sequence_inside m room same = omega arith

  pub sequence_next : end ≡ at + length (chunk_bytes Mtsq body)
  sequence_next = omega (arith, chunk_long Mtsq body)

  pub sequence_stored : (one two : List ℕ) → one ≡ sets l (at + 8) body → two ≡ sets one at (number_bytes 4 Mtsq ++ number_bytes 4 (end - (at + 8)))
      → two ≡ sets l at (chunk_bytes Mtsq body)
  sequence_stored one two e f =
      let size : end - (at + 8) ≡ length body = omega arith in
      f ∙ rw (size, e) (header_before l body at Mtsq)

pub ruleset sequences = (sequence_inside, sequence_next, sequence_stored)

-- the fixed bytes and the seek chunk
module _ (head entries letters : List ℕ) (seven : length head ≡ 7) where
  six : length (part head 1 6) ≡ 6
  six = part_length head 1 6 (omega arith)

  module _ (l : List ℕ) (at : ℕ) (room : at + (6 + length (seek_of head entries letters)) ≤ length l) where
    pub fixed_room : at + 6 ≤ length l
    fixed_room = omega arith

    pub seek_room : (m : List ℕ) (list : ℕ) → length m ≡ length l → list ≡ at + 6
        → list + length (seek_chunk (point_width (head ! 2 ≡? 1)) (entries_in (found (entries_given (head ! 2 ≡? 1) letters entries)))) ≤ length m
    unfolding seek_of
    seek_room m list same e = omega arith

  pub seek_few : length (seek_of head entries letters) ≤ 65536
      → length (seek_chunk (point_width (head ! 2 ≡? 1)) (entries_in (found (entries_given (head ! 2 ≡? 1) letters entries)))) ≤ 65536
  unfolding seek_of
  seek_few h = h

  module _ (at list : ℕ) (behind : list ≡ at + 6) where
    pub front_next : (n : ℕ) → n ≡ list + length (seek_chunk (point_width (head ! 2 ≡? 1)) (entries_in (found (entries_given (head ! 2 ≡? 1) letters entries))))
        → n ≡ at + (6 + length (seek_of head entries letters))
    unfolding seek_of
    front_next n e = omega arith

    pub front_stored : (l one two : List ℕ) → one ≡ sets l at (part head 1 6)
        → two ≡ sets one list (seek_chunk (point_width (head ! 2 ≡? 1)) (entries_in (found (entries_given (head ! 2 ≡? 1) letters entries))))
        → two ≡ sets l at (part head 1 6 ++ seek_of head entries letters)
    unfolding seek_of
    front_stored l one two a b = let p : list ≡ at + length (part head 1 6) = omega (arith, six) in rw (b, a, p) (sets_append l at (part head 1 6) _)

pub ruleset fronts = (fixed_room, seek_room, seek_few, front_next, front_stored)

-- WHAT A TRACK IS that can be written
module _ (head entries items letters source : List ℕ) (given : is_fine (track_given (given_of head entries items letters source)) ≡ true) where
  abbrev phrases : Bool
  phrases = head ! 2 ≡? 1

  abbrev fixed : List ℕ
  fixed = part head 1 6

  abbrev body : List ℕ
  body = list_bytes (items_given Score source items)

  phrased : has_phrases fixed ≡ phrases
  unfolding has_phrases
  phrased = ap (λ (n : ℕ). n ≡? 1) (head_byte head 1 (omega arith))

  record Said : Type 0 where
    list : List (Item Content)
    placed : List (Placed Entry)
    items_are : items_given Score source items ≡ Ok list
    entries_are : entries_given phrases letters entries ≡ Ok placed
    is : track_given (given_of head entries items letters source) ≡ Ok (record { number = head ! 0; fixed = fixed; entries = entries_in placed; items = list })

  said : Said
  unfolding track_given
  said =
      let track = fine_some (track_given (given_of head entries items letters source)) given in
      let a = then_fine _ _ track.0 track.1 in
      let b = bind_fine _ _ track.0 a.1 in
      let c = bind_fine _ _ track.0 b.2 in
      let d = then_fine _ _ track.0 c.2 in
      record {
        list = b.0;
        placed = c.0;
        items_are = b.1;
        entries_are = ap (λ (p : Bool). entries_given p letters entries) (sym phrased) ∙ c.1;
        is = track.1 ∙ sym d.1;
      }

  bytes_are : track_given_bytes (track_given (given_of head entries items letters source)) ≡ chunk_bytes (MTR * 256 + head ! 0) (inside_of head entries items letters source)
  unfolding track_given_bytes track_bytes list_bytes found seek_of inside_of
  bytes_are =
      let made = ap track_given_bytes said.is in
      let listed : list_bytes (items_given Score source items) ≡ bytes_of handy_phone said.list = ap list_bytes said.items_are in
      let these : found (entries_given phrases letters entries) ≡ said.placed = ap found said.entries_are in
      made ∙ rw (phrased, listed, these) refl

  pub track_items : is_fine (items_given Score source items) ≡ true
  unfolding is_fine
  track_items = ap is_fine said.items_are

  pub track_entries : is_fine (entries_given (head ! 2 ≡? 1) letters entries) ≡ true
  unfolding is_fine
  track_entries = ap is_fine said.entries_are

  pub whole_long : length (track_given_bytes (track_given (given_of head entries items letters source))) ≡ 8 + length (inside_of head entries items letters source)
  whole_long = ap length bytes_are ∙ chunk_long (MTR * 256 + head ! 0) _

  -- its header over the place before what it holds
  module _ (l : List ℕ) (at : ℕ) where
    pub inside_room : at + length (track_given_bytes (track_given (given_of head entries items letters source))) ≤ length l
        → at + 8 + length (inside_of head entries items letters source) ≤ length l
    inside_room h = omega (arith, whole_long)

    module _ (end : ℕ) (ends : end ≡ at + 8 + length (inside_of head entries items letters source)) where
      pub close_from : at + 8 ≤ end
      close_from = omega arith

      pub close_inside : (m : List ℕ) → at + length (track_given_bytes (track_given (given_of head entries items letters source))) ≤ length l → length m ≡ length l
          → end ≤ length m
      close_inside m room same = omega (arith, whole_long)

      pub close_few : length (track_given_bytes (track_given (given_of head entries items letters source))) ≤ 65536 → end ≤ at + 8 + 65536
      close_few few = omega (arith, whole_long)

      pub track_next : end ≡ at + length (track_given_bytes (track_given (given_of head entries items letters source)))
      track_next = omega (arith, whole_long)

      pub track_stored : (id : ℕ) (one two : List ℕ) → id ≡ MTR * 256 + head ! 0 → one ≡ sets l (at + 8) (inside_of head entries items letters source)
          → two ≡ sets one at (number_bytes 4 id ++ number_bytes 4 (end - (at + 8)))
          → two ≡ sets l at (track_given_bytes (track_given (given_of head entries items letters source)))
      track_stored id one two named a b =
          let inside = inside_of head entries items letters source in
          let size : end - (at + 8) ≡ length inside = omega arith in
          rw (b, a, size, named) (header_before l inside at (MTR * 256 + head ! 0)) ∙ ap (sets l at) (sym bytes_are)

  pub inside_few : length (track_given_bytes (track_given (given_of head entries items letters source))) ≤ 65536
      → length (inside_of head entries items letters source) ≤ 65536
  inside_few few = omega (arith, whole_long)

pub ruleset track_parts = (inside_room, inside_few, close_from, close_inside, close_few, track_next, track_stored)

-- what it holds: the front, and the sequence chunk behind it
module _ (head entries items letters source : List ℕ) (seven : length head ≡ 7) where
  inside_long : length (inside_of head entries items letters source) ≡ 6 + length (seek_of head entries letters) + (8 + length (list_bytes (items_given Score source items)))
  unfolding inside_of
  inside_long =
      let a = length-append (part head 1 6 ++ seek_of head entries letters) (chunk_bytes Mtsq (list_bytes (items_given Score source items))) in
      let b = length-append (part head 1 6) (seek_of head entries letters) in
      omega (arith, a, b, six head entries letters seven, chunk_long Mtsq (list_bytes (items_given Score source items)))

  module _ (few : length (inside_of head entries items letters source) ≤ 65536) where
    pub front_few : length (seek_of head entries letters) ≤ 65536
    front_few = omega (arith, inside_long)

    pub body_few : length (list_bytes (items_given Score source items)) ≤ 65536
    body_few = omega (arith, inside_long)

  module _ (l : List ℕ) (at : ℕ) (room : at + length (inside_of head entries items letters source) ≤ length l) where
    pub front_room : at + (6 + length (seek_of head entries letters)) ≤ length l
    front_room = omega (arith, inside_long)

    pub body_room : (m : List ℕ) (sequence : ℕ) → length m ≡ length l → sequence ≡ at + (6 + length (seek_of head entries letters))
        → sequence + 8 + length (list_bytes (items_given Score source items)) ≤ length m
    body_room m sequence same e = omega (arith, inside_long)

  module _ (at sequence : ℕ) (behind : sequence ≡ at + (6 + length (seek_of head entries letters))) where
    pub inside_next : (n : ℕ) → n ≡ sequence + length (chunk_bytes Mtsq (list_bytes (items_given Score source items)))
        → n ≡ at + length (inside_of head entries items letters source)
    inside_next n e = omega (arith, inside_long, chunk_long Mtsq (list_bytes (items_given Score source items)))

    pub inside_stored : (l one two : List ℕ) → one ≡ sets l at (part head 1 6 ++ seek_of head entries letters)
        → two ≡ sets one sequence (chunk_bytes Mtsq (list_bytes (items_given Score source items)))
        → two ≡ sets l at (inside_of head entries items letters source)
    unfolding inside_of
    inside_stored l one two a b =
        let front = part head 1 6 ++ seek_of head entries letters in
        let p : sequence ≡ at + length front = omega (arith, six head entries letters seven, length-append (part head 1 6) (seek_of head entries letters)) in
        rw (b, a, p) (sets_append l at front _)

pub ruleset insides = (track_items, track_entries, front_few, body_few, front_room, body_room, inside_next, inside_stored)
