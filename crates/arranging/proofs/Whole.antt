-- The whole file: its parts stored one after the other, its size and its answer.
use Prim.Native.Nat.{ℕ, ◌+◌, ◌<◌, ◌≤◌}
use mathlib.Core.List.{List, ◌++◌, append_assoc}
use mathlib.Core.Path.{◌≡◌, sym, ◌∙◌, ap}
use lib.ListN.{length, take, length-append, length-take}
use lib.Seq.{sets, sets-eq, take_at}
use native.Mathlib.Omega.{arith}
use borrow.Author.Tests.{lt-ltb, le-ltb}
use Rattle.model.specs.Words.{when◌then◌else◌, ◌or◌, Checked, ◌>>◌, refused}
use Rattle.std.specs.Prelude.{Ok}
use Rattle.model.specs.Bytes.{part, MMMD, CNTI}
use Rattle.model.specs.CheckCode.{check_code}
use Rattle.model.specs.ChunkBytes.{number_bytes, chunk_bytes, with_check_code}
use Rattle.model.specs.Tables.{given_in, tracks_from}
use Rattle.model.specs.Answer.{within_room, memory_after, write_answer, write_room}
use Rattle.model.proofs.Stores.{sets_append}
use Rattle.writing.specs.Parts.{limited}
use Rattle.entries.proofs.NumberBytes.{number_bytes_length}
use Rattle.writing.proofs.Answers.{front_stored}
use Rattle.writing.proofs.Limits.{limited_over, limited_exact}
use Rattle.arranging.specs.Stages.{tracks_given_bytes, bare_bytes, whole_bytes, sized_of}

-- ALL BUT THE CHECK CODE
module _ (bytes tracks : List ℕ) (long : 5 ≤ length bytes) where
  abbrev contents : List ℕ
  contents = take 5 bytes

  five : length contents ≡ 5
  five = length-take 5 bytes ∙ omega arith

  abbrev file_head : List ℕ
  file_head = number_bytes 4 MMMD ++ number_bytes 4 (length tracks + 15)

  abbrev contents_head : List ℕ
  contents_head = number_bytes 4 CNTI ++ number_bytes 4 5

  head_long : (id size : ℕ) → length (number_bytes 4 id ++ number_bytes 4 size) ≡ 8
  head_long id size = length-append (number_bytes 4 id) (number_bytes 4 size) ∙ omega (arith, number_bytes_length 4 id, number_bytes_length 4 size)

  body_long : length (contents_head ++ contents ++ tracks) + 2 ≡ length tracks + 15
  body_long =
      let a = length-append (contents_head ++ contents) tracks in
      let b = length-append contents_head contents in
      omega (arith, a, b, head_long CNTI 5, five)

  bare_is : bare_bytes contents tracks ≡ file_head ++ (contents_head ++ (contents ++ tracks))
  unfolding bare_bytes chunk_bytes
  bare_is = rw (five, body_long) (ap (λ (b : List ℕ). file_head ++ b) (append_assoc contents_head contents tracks))

  pub bare_length : length (bare_bytes contents tracks) ≡ 21 + length tracks
  bare_length =
      let a = length-append file_head (contents_head ++ (contents ++ tracks)) in
      let b = length-append contents_head (contents ++ tracks) in
      let c = length-append contents tracks in
      ap length bare_is ∙ omega (arith, a, b, c, head_long MMMD (length tracks + 15), head_long CNTI 5, five)

  -- stored one behind the other
  module _ (size : ℕ) (sized : size ≡ length tracks) where
    pub bare_room : (l one : List ℕ) (from body at : ℕ) → from ≡ 0 + 8 → body ≡ from + 8 → at ≡ body + 5 → size + 23 ≤ length l → length one ≡ length l
        → at + length tracks ≤ length one
    bare_room l one from body at e f g room same = omega arith

    pub bare_few : size ≤ 65513 → length tracks ≤ 65536
    bare_few h = omega arith

    pub bare_next : (from body at end : ℕ) → from ≡ 0 + 8 → body ≡ from + 8 → at ≡ body + 5 → end ≡ at + length tracks → end ≡ 21 + size
    bare_next from body at end e f g h = omega arith

    pub bare_stored : (l one two three four : List ℕ) (from body at : ℕ) → from ≡ 0 + 8 → body ≡ from + 8 → at ≡ body + 5
        → one ≡ sets l 0 (number_bytes 4 MMMD ++ number_bytes 4 (size + 15)) → two ≡ sets one from (number_bytes 4 CNTI ++ number_bytes 4 5)
        → three ≡ sets two body (part bytes 0 5) → four ≡ sets three at tracks → four ≡ sets l 0 (bare_bytes contents tracks)
    bare_stored l one two three four from body at e f g a b c d =
        let p : from ≡ 0 + length file_head = e ∙ ap (λ (n : ℕ). 0 + n) (sym (head_long MMMD (length tracks + 15))) in
        let q : body ≡ from + length contents_head = f ∙ ap (λ (n : ℕ). from + n) (sym (head_long CNTI 5)) in
        let r : at ≡ body + length contents = g ∙ ap (λ (n : ℕ). body + n) (sym five) in
        let first : one ≡ sets l 0 file_head = a ∙ ap (λ (n : ℕ). sets l 0 (number_bytes 4 MMMD ++ number_bytes 4 (n + 15))) sized in
        let last : four ≡ sets two body (contents ++ tracks) = rw (d, c, r) (sets_append two body contents tracks) in
        let middle : four ≡ sets one from (contents_head ++ (contents ++ tracks)) = last ∙ rw (b, q) (sets_append one from contents_head (contents ++ tracks)) in
        middle ∙ rw (first, p) (sets_append l 0 file_head (contents_head ++ (contents ++ tracks))) ∙ ap (sets l 0) (sym bare_is)

  -- THE CHECK CODE behind it
  pub whole_length : length (whole_bytes contents tracks) ≡ 23 + length tracks
  unfolding whole_bytes with_check_code
  whole_length =
      let bare = bare_bytes contents tracks in
      length-append bare (number_bytes 2 (check_code bare)) ∙ omega (arith, bare_length, number_bytes_length 2 (check_code bare))

  module _ (size : ℕ) (sized : size ≡ length tracks) (l : List ℕ) (room : size + 23 ≤ length l) (one : List ℕ) (stored : one ≡ sets l 0 (bare_bytes contents tracks))
      (end : ℕ) (at : end ≡ 21 + size) where
    fits : 0 + length (bare_bytes contents tracks) ≤ length l
    fits = omega (arith, bare_length)

    front : take end one ≡ bare_bytes contents tracks
    front =
        let long : length (bare_bytes contents tracks) ≡ end = bare_length ∙ omega arith in
        rw stored (ap (take end) (sets-eq (bare_bytes contents tracks) l 0 fits) ∙ take_at (bare_bytes contents tracks) _ end long)

    pub code_inside : length one ≡ length l → end ≤ length one
    code_inside same = omega arith

    pub code_room : (two : List ℕ) → length two ≡ length l → end + 2 ≤ length two
    code_room two same = omega arith

    pub whole_next : (n : ℕ) → n ≡ end + 2 → n ≡ 23 + size
    whole_next n e = omega arith

    pub whole_stored : (code : ℕ) (two : List ℕ) → code ≡ check_code (take end one) → two ≡ sets one end (number_bytes 2 code) → two ≡ sets l 0 (whole_bytes contents tracks)
    unfolding whole_bytes with_check_code
    whole_stored code two c e =
        let bare = bare_bytes contents tracks in
        let coded : code ≡ check_code bare = c ∙ ap check_code front in
        let place : end ≡ 0 + length bare = omega (arith, bare_length) in
        e ∙ rw (coded, stored, place) (sets_append l 0 bare (number_bytes 2 (check_code bare)))

pub ruleset wholes = (bare_room, bare_few, bare_next, bare_stored, code_inside, code_room, whole_next, whole_stored)

-- THE ANSWER, where all tracks can be written and take so many bytes
module _ (numbers bytes : List ℕ) (long : 5 ≤ length bytes) (count size : ℕ) (counted : count ≡ length (given_in numbers bytes))
    (sized : size ≡ limited (length (tracks_given_bytes (tracks_from 0 (given_in numbers bytes))))) (l : List ℕ) where
  abbrev tracks : List ℕ
  tracks = tracks_given_bytes (tracks_from 0 (given_in numbers bytes))

  abbrev outcome : Checked (List ℕ)
  outcome = sized_of numbers bytes (length l)

  module _ (over : sized_of numbers bytes (length l) ≡ refused 24 0) where
    over_answer : refused 24 0 ≡ write_answer (sized_of numbers bytes (length l))
    unfolding write_answer
    over_answer = rw over

    over_kept : l ≡ write_room l (sized_of numbers bytes (length l))
    unfolding write_room memory_after
    over_kept = rw over

  too_many : 16 < count → outcome ≡ refused 24 0
  unfolding sized_of when◌then◌else◌ ◌>>◌
  too_many h = let many : 16 < length (given_in numbers bytes) = omega arith in simp (lt-ltb 16 _ many)

  within : count ≤ 16 → outcome ≡ within_room (length l) (whole_bytes (take 5 bytes) tracks)
  unfolding sized_of when◌then◌else◌ ◌>>◌
  within h = let few : length (given_in numbers bytes) ≤ 16 = omega arith in simp (le-ltb 16 _ few)

  too_long : count ≤ 16 → 65513 < size → outcome ≡ refused 24 0
  unfolding within_room when◌then◌else◌ ◌or◌
  too_long few h =
      let over = limited_over (length tracks) 65513 (omega arith) (omega (arith, sized)) in
      let past : 65536 < length (whole_bytes (take 5 bytes) tracks) = omega (arith, whole_length bytes tracks long) in
      within few ∙ simp (lt-ltb 65536 _ past)

  exact : size ≤ 65513 → size ≡ length tracks
  exact h = sized ∙ limited_exact (length tracks) (omega (arith, sized))

  no_room : count ≤ 16 → size ≤ 65513 → length l < size + 23 → outcome ≡ refused 24 0
  unfolding within_room when◌then◌else◌ ◌or◌
  no_room few small h =
      let e = exact small in
      let n = whole_length bytes tracks long in
      let within_most : length (whole_bytes (take 5 bytes) tracks) ≤ 65536 = omega (arith, n) in
      let past : length l < length (whole_bytes (take 5 bytes) tracks) = omega (arith, n) in
      within few ∙ simp (le-ltb 65536 _ within_most, lt-ltb (length l) _ past)

  pub many_answer : (z : Checked ℕ) → 16 < count → z ≡ refused 24 0 → z ≡ write_answer (sized_of numbers bytes (length l))
  many_answer z h e = e ∙ over_answer (too_many h)

  pub many_kept : 16 < count → l ≡ write_room l (sized_of numbers bytes (length l))
  many_kept h = over_kept (too_many h)

  pub long_answer : (z : Checked ℕ) → count ≤ 16 → 65513 < size → z ≡ refused 24 0 → z ≡ write_answer (sized_of numbers bytes (length l))
  long_answer z few h e = e ∙ over_answer (too_long few h)

  pub long_kept : count ≤ 16 → 65513 < size → l ≡ write_room l (sized_of numbers bytes (length l))
  long_kept few h = over_kept (too_long few h)

  pub full_answer : (z : Checked ℕ) → count ≤ 16 → size ≤ 65513 → length l < size + 23 → z ≡ refused 24 0 → z ≡ write_answer (sized_of numbers bytes (length l))
  full_answer z few small h e = e ∙ over_answer (no_room few small h)

  pub full_kept : count ≤ 16 → size ≤ 65513 → length l < size + 23 → l ≡ write_room l (sized_of numbers bytes (length l))
  full_kept few small h = over_kept (no_room few small h)

  module _ (few : count ≤ 16) (small : size ≤ 65513) (room : size + 23 ≤ length l) where
    pub whole_sized : size ≡ length (tracks_given_bytes (tracks_from 0 (given_in numbers bytes)))
    whole_sized = exact small

    is_fine_lem : outcome ≡ Ok (whole_bytes (take 5 bytes) tracks)
    unfolding within_room when◌then◌else◌ ◌or◌
    is_fine_lem =
        let e = exact small in
        let n = whole_length bytes tracks long in
        let within_most : length (whole_bytes (take 5 bytes) tracks) ≤ 65536 = omega (arith, n) in
        let fits : length (whole_bytes (take 5 bytes) tracks) ≤ length l = omega (arith, n) in
        within few ∙ simp (le-ltb 65536 _ within_most, le-ltb (length l) _ fits)

    pub whole_answer : (n : ℕ) → n ≡ 23 + size → Ok n ≡ write_answer (sized_of numbers bytes (length l))
    unfolding write_answer
    whole_answer n e =
        let long_so : n ≡ length (whole_bytes (take 5 bytes) tracks) = e ∙ ap (λ (k : ℕ). 23 + k) (exact small) ∙ sym (whole_length bytes tracks long) in
        rw is_fine_lem (ap (λ (k : ℕ). Ok k) long_so)

    pub whole_written : (m : List ℕ) → m ≡ sets l 0 (whole_bytes (take 5 bytes) (tracks_given_bytes (tracks_from 0 (given_in numbers bytes))))
        → m ≡ write_room l (sized_of numbers bytes (length l))
    unfolding write_room memory_after
    whole_written m e =
        let s = exact small in
        let n = whole_length bytes tracks long in
        let fits : length (whole_bytes (take 5 bytes) tracks) ≤ length l = omega (arith, n) in
        rw is_fine_lem (e ∙ front_stored l (whole_bytes (take 5 bytes) tracks) fits)

pub ruleset sized_answers = (
  many_answer,
  many_kept,
  long_answer,
  long_kept,
  full_answer,
  full_kept,
  whole_sized,
  whole_answer,
  whole_written,
)
