-- READ from its steps: 1, then 2 to 14, then 15, then the rows and the answer.
use Prim.Native.Nat.{ℕ, ◌*◌, ◌/◌, ◌<◌, ◌≤◌}
use mathlib.Core.Path.{◌≡◌, refl, sym, ◌∙◌, ap}
use mathlib.Core.Bool.{true, false≢true}
use mathlib.Core.List.{List, ◌++◌}
use lib.ListN.{length, take, drop}
use lib.Seq.{sets, sets-eq}
use native.Mathlib.Nat.{zero-add}
use native.Mathlib.Omega.{arith}
use borrow.Author.Tests.{lt-ltb, le-ltb}
use Rattle.model.specs.Words.{when◌then◌else◌, Checked, ◌>>=◌, ◌>>◌, refused}
use Rattle.std.specs.Prelude.{Ok, Err}
use Rattle.model.specs.Item.{is_fine}
use Rattle.model.specs.File.{File, contents_of, file_of, rows_of, numbers_of}
use Rattle.model.specs.Answer.{written_over, memory_after, read_of, read_answer, read_table}
use Rattle.model.specs.declared.Refusal.{Refusal}
use Rattle.model.specs.declared.ReadAnswer.{ReadAnswer}
use Rattle.reading.proofs.Filling.{numbers_many}
use Rattle.reading.proofs.Stated.{stated_past, stated_over, stated_within}
use Rattle.reading.specs.Stages.{file_answer, file_rows, with_room}

-- a refusal answers its number and place, and keeps the table
refused_answer : (o : Checked File) (number place : ℕ) → o ≡ refused number place → refused number place ≡ read_answer o
unfolding read_answer
refused_answer o number place e = ap read_answer (sym e)

refused_kept : (l : List ℕ) (o : Checked File) (number place : ℕ) → o ≡ refused number place → l ≡ read_table l o
unfolding read_table memory_after
refused_kept l o number place e = ap (read_table l) (sym e)

-- what is stated: 2 to 14, then 15

room_refused : (room : ℕ) (c : Checked File) (number place : ℕ) → file_answer c ≡ refused number place → with_room room c ≡ refused number place
unfolding with_room file_answer ◌>>=◌
room_refused room (Ok file) number place e = let z : ◌≡◌ {A = ℕ} 0 1 = cc in absurd (omega arith)
room_refused room (Err why) number place e = let a : why.number ≡ number = cc in let b : why.place ≡ place = cc in rw (a, b)

room_short : (room : ℕ) (c : Checked File) (count : ℕ) → file_answer c ≡ Ok count → room / 4 < count → with_room room c ≡ refused 15 0
unfolding with_room file_answer ◌>>=◌ ◌>>◌ when◌then◌else◌
room_short room (Ok file) count e h =
    let n : length (rows_of file) ≡ count = cc in
    let short : room / 4 < length (rows_of file) = omega arith in
    simp lt-ltb
room_short room (Err why) count e h = let z : ◌≡◌ {A = ℕ} 0 1 = cc in absurd (omega arith)

-- a file whose rows are counted
pub record Roomy (room : ℕ) (c : Checked File) (count : ℕ) : Type 0 where
  pub ok : is_fine c ≡ true
  pub rows : count ≡ length (file_rows c)
  pub is : with_room room c ≡ c

roomy : (room : ℕ) (c : Checked File) (count : ℕ) → file_answer c ≡ Ok count → count ≤ room / 4 → Roomy room c count
unfolding with_room file_answer file_rows is_fine ◌>>=◌ ◌>>◌ when◌then◌else◌
roomy room (Ok file) count e h =
    let n : length (rows_of file) ≡ count = cc in
    let enough : length (rows_of file) ≤ room / 4 = omega arith in
    record { ok = refl; rows = sym n; is = simp le-ltb }
roomy room (Err why) count e h = let z : ◌≡◌ {A = ℕ} 0 1 = cc in absurd (omega arith)

written_table : (l : List ℕ) (c : Checked File) → is_fine c ≡ true → 4 * length (file_rows c) ≤ length l → sets l 0 (numbers_of (file_rows c)) ≡ read_table l c
unfolding read_table memory_after written_over file_rows is_fine
written_table l (Ok file) ok room =
    let many = numbers_many (rows_of file) in
    sets-eq (numbers_of (rows_of file)) l 0 (omega arith)
    ∙ ap (λ (n : ℕ). numbers_of (rows_of file) ++ drop n l) (zero-add (length (numbers_of (rows_of file))))
written_table l (Err why) ok room = absurd (false≢true ok)

module _ (s : List ℕ) (l : List ℕ) (r : Checked ℕ) (told : r ≡ file_answer (contents_of s)) where
  module _ (why : Refusal) (e : r ≡ Err why) where
    pub stated_refused : Err why ≡ read_answer (with_room (length l) (contents_of s))
    stated_refused = refused_answer _ why.number why.place (room_refused (length l) (contents_of s) why.number why.place (sym told ∙ e))

    pub stated_kept : l ≡ read_table l (with_room (length l) (contents_of s))
    stated_kept = refused_kept l _ why.number why.place (room_refused (length l) (contents_of s) why.number why.place (sym told ∙ e))

  module _ (count : ℕ) (e : r ≡ Ok count) where
    pub stated_short : length l / 4 < count → refused 15 0 ≡ read_answer (with_room (length l) (contents_of s))
    stated_short h = refused_answer _ 15 0 (room_short (length l) (contents_of s) count (sym told ∙ e) h)

    pub stated_short_kept : length l / 4 < count → l ≡ read_table l (with_room (length l) (contents_of s))
    stated_short_kept h = refused_kept l _ 15 0 (room_short (length l) (contents_of s) count (sym told ∙ e) h)

    module _ (enough : count ≤ length l / 4) where
      fits : Roomy (length l) (contents_of s) count
      fits = roomy (length l) (contents_of s) count (sym told ∙ e) enough

      pub stated_fine : is_fine (contents_of s) ≡ true
      stated_fine = fits.ok

      pub stated_count : count ≡ length (file_rows (contents_of s))
      stated_count = fits.rows

      pub stated_room : 4 * length (file_rows (contents_of s)) ≤ length l
      stated_room = omega (arith, fits.rows)

      pub stated_answer : (a : Checked ReadAnswer) → a ≡ read_answer (contents_of s) → a ≡ read_answer (with_room (length l) (contents_of s))
      stated_answer a h = h ∙ ap read_answer (sym fits.is)

      pub stated_table : (m : List ℕ) → m ≡ sets l 0 (numbers_of (file_rows (contents_of s))) → m ≡ read_table l (with_room (length l) (contents_of s))
      stated_table m h = h ∙ written_table l (contents_of s) stated_fine stated_room ∙ ap (read_table l) (sym fits.is)

pub ruleset stated = (stated_refused, stated_kept, stated_short, stated_short_kept, stated_fine, stated_count, stated_room, stated_answer, stated_table)

-- the whole buffer: 1, then what is stated

read_is : (buffer : List ℕ) (n room : ℕ) (c : Checked File) → file_of buffer n ≡ c → read_of buffer n room ≡ with_room room c
unfolding read_of with_room
read_is buffer n room c e = ap (with_room room) e

module _ (buffer : List ℕ) (n : ℕ) (l : List ℕ) where
  past : length buffer < n → read_of buffer n (length l) ≡ refused 1 0
  unfolding with_room ◌>>=◌
  past h = read_is buffer n (length l) (refused 1 0) (stated_past buffer n h)

  over : n ≤ length buffer → 65536 < n → read_of buffer n (length l) ≡ refused 1 0
  unfolding with_room ◌>>=◌
  over h k = read_is buffer n (length l) (refused 1 0) (stated_over buffer n h k)

  pub past_refused : length buffer < n → refused 1 0 ≡ read_answer (read_of buffer n (length l))
  past_refused h = refused_answer _ 1 0 (past h)

  pub past_kept : length buffer < n → l ≡ read_table l (read_of buffer n (length l))
  past_kept h = refused_kept l _ 1 0 (past h)

  pub over_refused : n ≤ length buffer → 65536 < n → refused 1 0 ≡ read_answer (read_of buffer n (length l))
  over_refused h k = refused_answer _ 1 0 (over h k)

  pub over_kept : n ≤ length buffer → 65536 < n → l ≡ read_table l (read_of buffer n (length l))
  over_kept h k = refused_kept l _ 1 0 (over h k)

  module _ (h : n ≤ length buffer) (k : n ≤ 65536) where
    within : with_room (length l) (contents_of (take n buffer)) ≡ read_of buffer n (length l)
    within = sym (read_is buffer n (length l) (contents_of (take n buffer)) (stated_within buffer n h k))

    pub whole_answer : (a : Checked ReadAnswer) → a ≡ read_answer (with_room (length l) (contents_of (take n buffer))) → a ≡ read_answer (read_of buffer n (length l))
    whole_answer a e = e ∙ ap read_answer within

    pub whole_table : (m : List ℕ) → m ≡ read_table l (with_room (length l) (contents_of (take n buffer))) → m ≡ read_table l (read_of buffer n (length l))
    whole_table m e = e ∙ ap (read_table l) within

pub ruleset whole = (whole_answer, whole_table)
