-- The letters of an order list, copied; and what is answered to a call for entries: 15 where a table has too little room, and otherwise the
-- entries' numbers and the letters.
use Prim.Native.Nat.{ℕ, suc, ◌+◌, ◌-◌, ◌/◌, ◌<◌, ◌≤◌}
use mathlib.Core.Path.{◌≡◌, refl, sym, ◌∙◌, ap, ap₂, subst}
use mathlib.Core.Bool.{Bool}
use mathlib.Core.List.{List, [], ◌∷◌}
use lib.ListN.{length, take, set, length-set}
use lib.Seq.{sets}
use native.Mathlib.Nat.{add-zero}
use native.Mathlib.Numerals.{add-one}
use native.Mathlib.Omega.{arith}
use borrow.Author.Tests.{lt-ltb, le-ltb, eqb-false}
use Rattle.model.specs.Words.{when◌then◌else◌, ◌or◌, ◌<?◌, ◌≡?◌, ◌otherwise◌, first_said, Checked, passed, ◌>>=◌, ◌>>◌, refused}
use Rattle.std.specs.Prelude.{Ok, Err}
use Rattle.model.specs.Bytes.{◌!◌, part}
use Rattle.model.specs.Seek.{order_list, order_place, points_said}
use Rattle.model.specs.SeekBytes.{entries_numbers}
use Rattle.model.specs.Track.{Track}
use Rattle.model.specs.Answer.{memory_after, track_named, letters_of, entries_of_track, entries_answer, entries_table, letters_table}
use Rattle.model.specs.declared.Points.{Points}
use Rattle.model.specs.declared.Bodies.{Bodies}
use Rattle.model.specs.declared.Refusal.{Refusal}
use Rattle.model.specs.declared.EntriesAnswer.{EntriesAnswer}
use Rattle.model.proofs.Parts.{part_cons}
use Rattle.model.proofs.Tests.{by_test, if_true, if_false}
use Rattle.seek.proofs.Standing.{Entries, all_entries}
use Rattle.seek.proofs.Naming.{ordered}
use Rattle.playing.specs.Performing.{bytes_in, entries_said, Formed, Inside}
use Rattle.playing.proofs.Played.{written_front}
use Rattle.giving.specs.Giving.{Names, entries_fitted}
use Rattle.giving.proofs.TrackNamed.{the_track, named_inside, named_small, not_named}
use Rattle.giving.proofs.Seeking.{numbers_many}

-- LETTERS COPIED

pub record Copying (s : List ℕ) (from count : ℕ) (l out : List ℕ) (i : ℕ) : Type 0 where
  pub few : i ≤ count
  pub same : length out ≡ length l
  pub whole : sets out i (part s (from + i) (count - i)) ≡ sets l 0 (part s from count)

pub copy_starts : (s : List ℕ) (from count : ℕ) (l : List ℕ) → Copying s from count l l 0
copy_starts s from count l =
    let all : count - 0 ≡ count = omega arith in
    record { few = omega arith; same = refl; whole = ap₂ (λ (a n : ℕ). sets l 0 (part s a n)) (add-zero from) all }

module _ (s : List ℕ) (from count : ℕ) (l out : List ℕ) (i : ℕ) (c : Copying s from count l out i) where
  pub copy_kept : length out ≡ length l
  copy_kept = c.same

  pub copy_ends : count ≤ i → out ≡ sets l 0 (part s from count)
  copy_ends past =
      let none : count - i ≡ 0 = omega arith in
      sym (ap (λ (n : ℕ). sets out i (part s (from + i) n)) none) ∙ c.whole

  module _ (here : i < count) where
    pub copy_room : count ≤ length l → i < length out
    copy_room h = omega (arith, c.same)

    pub copy_turns : from + count ≤ length s → (m : List ℕ) → m ≡ set out i (s ! (from + i)) → Copying s from count l m (i + 1)
    copy_turns inside m e =
        let some : count - i ≡ suc (count - (i + 1)) = omega arith in
        let after : suc (from + i) ≡ from + (i + 1) = omega arith in
        let first : part s (from + i) (count - i) ≡ s ! (from + i) ∷ part s (from + (i + 1)) (count - (i + 1)) =
        ap (part s (from + i)) some ∙ part_cons s (from + i) (count - (i + 1)) (omega arith)
        ∙ ap (λ (n : ℕ). s ! (from + i) ∷ part s n (count - (i + 1))) after in
        record {
          few = omega arith;
          same = ap length e ∙ length-set out i (s ! (from + i)) ∙ c.same;
          whole =
              ap₂ (λ (x : List ℕ) (n : ℕ). sets x n (part s (from + (i + 1)) (count - (i + 1)))) e (add-one i)
              ∙ sym (ap (sets out i) first)
              ∙ c.whole;
        }

pub ruleset copies = (copy_starts, copy_kept, copy_ends, copy_room, copy_turns)

-- THE LETTERS of a seek body that is empty or has good form

letters_many : (phrases : Bool) (seek : List ℕ) (points : Points) → points ≡ points_said (entries_said phrases seek)
    → points.letters ≡ length (letters_of (entries_said phrases seek))
unfolding points_said letters_of
letters_many phrases seek points said = ap (λ (p : Points). p.letters) said

module _ (phrases : Bool) (seek : List ℕ) (formed : Formed phrases seek) where
  abbrev entries : Entries
  entries = entries_said phrases seek

  abbrev Stands : Entries → Type 0
  Stands all =
      ((order_list all otherwise []) ≡ part seek (order_place all otherwise 0) (length (order_list all otherwise [])))
      × ((order_place all otherwise 0) + length (order_list all otherwise []) ≤ length seek)

  none_stand : Stands []
  unfolding order_list order_place first_said ◌otherwise◌
  none_stand = (refl, omega arith)

  list_stands : Stands entries
  unfolding entries_said
  list_stands =
      by_test (length seek ≡? 0) (λ h. subst Stands (sym (if_true _ _ _ h)) none_stand)
      (λ h.
      let some = eqb-false (length seek) 0 h in
      let o = ordered phrases seek (formed (omega arith)) (points_said (all_entries phrases seek)) refl in
      subst Stands (sym (if_false _ _ _ h)) (o.stands, o.fits))

  module _ (points : Points) (said : points ≡ points_said (entries_said phrases seek)) where
    at_order : points.order ≡ (order_place entries otherwise 0)
    unfolding points_said
    at_order = ap (λ (p : Points). p.order) said

    pub letters_inside : points.order + points.letters ≤ length seek
    unfolding letters_of
    letters_inside = omega (arith, at_order, letters_many phrases seek points said, list_stands.1)

    letters_are : part seek points.order points.letters ≡ letters_of (entries_said phrases seek)
    unfolding letters_of
    letters_are = ap₂ (part seek) at_order (letters_many phrases seek points said) ∙ sym list_stands.0

-- WHAT IS ANSWERED

module _ (o : Checked Entries) (why : Refusal) (is : o ≡ Err why) where
  refused_answer : Err why ≡ entries_answer o
  unfolding entries_answer
  refused_answer = ap entries_answer (sym is)

  refused_table : (l : List ℕ) → l ≡ entries_table l o
  unfolding entries_table memory_after
  refused_table l = ap (entries_table l) (sym is)

  refused_letters : (l : List ℕ) → l ≡ letters_table l o
  unfolding letters_table memory_after
  refused_letters l = ap (letters_table l) (sym is)

module _ (one other : Checked Entries) (same : one ≡ other) where
  same_answer : (r : Checked EntriesAnswer) → r ≡ entries_answer one → r ≡ entries_answer other
  same_answer r e = e ∙ ap entries_answer same

  same_table : (l m : List ℕ) → m ≡ entries_table l one → m ≡ entries_table l other
  same_table l m e = e ∙ ap (entries_table l) same

  same_letters : (l m : List ℕ) → m ≡ letters_table l one → m ≡ letters_table l other
  same_letters l m e = e ∙ ap (letters_table l) same

module _ (room space : ℕ) (all : Entries) where
  no_rows : room / 4 < length all → entries_fitted room space all ≡ refused 15 0
  unfolding entries_fitted when◌then◌else◌ ◌or◌
  no_rows h = simp lt-ltb

  no_letters : length all ≤ room / 4 → space < length (letters_of all) → entries_fitted room space all ≡ refused 15 0
  unfolding entries_fitted when◌then◌else◌ ◌or◌
  no_letters h k = simp (le-ltb, lt-ltb)

  all_fit : length all ≤ room / 4 → length (letters_of all) ≤ space → entries_fitted room space all ≡ Ok all
  unfolding entries_fitted when◌then◌else◌ ◌or◌
  all_fit h k = simp le-ltb

module _ (phrases : Bool) (seek : List ℕ) (count : ℕ) (many : count ≡ length (entries_said phrases seek)) where
  module _ (room space : ℕ) (few : room / 4 < count) where
    short : entries_fitted room space (entries_said phrases seek) ≡ refused 15 0
    short = no_rows room space (entries_said phrases seek) (omega arith)

    pub short_answer : refused 15 0 ≡ entries_answer (entries_fitted room space (entries_said phrases seek))
    short_answer = refused_answer _ _ short

    pub short_table : (l : List ℕ) → l ≡ entries_table l (entries_fitted room space (entries_said phrases seek))
    short_table = refused_table _ _ short

    pub short_letters : (l : List ℕ) → l ≡ letters_table l (entries_fitted room space (entries_said phrases seek))
    short_letters = refused_letters _ _ short

  module _ (points : Points) (said : points ≡ points_said (entries_said phrases seek)) (room space : ℕ) (enough : count ≤ room / 4) where
    letters : points.letters ≡ length (letters_of (entries_said phrases seek))
    letters = letters_many phrases seek points said

    module _ (few : space < points.letters) where
      scant : entries_fitted room space (entries_said phrases seek) ≡ refused 15 0
      scant = no_letters room space (entries_said phrases seek) (omega arith) (omega (arith, letters))

      pub scant_answer : refused 15 0 ≡ entries_answer (entries_fitted room space (entries_said phrases seek))
      scant_answer = refused_answer _ _ scant

      pub scant_table : (l : List ℕ) → l ≡ entries_table l (entries_fitted room space (entries_said phrases seek))
      scant_table = refused_table _ _ scant

      pub scant_letters : (l : List ℕ) → l ≡ letters_table l (entries_fitted room space (entries_said phrases seek))
      scant_letters = refused_letters _ _ scant

    module _ (fit : points.letters ≤ space) where
      given : entries_fitted room space (entries_said phrases seek) ≡ Ok (entries_said phrases seek)
      given = all_fit room space (entries_said phrases seek) (omega arith) (omega (arith, letters))

      pub given_answer : (Ok (record { count = count; letters = points.letters })) ≡ entries_answer (entries_fitted room space (entries_said phrases seek))
      unfolding entries_answer
      given_answer = ap₂ (λ (n m : ℕ). Ok (record { count = n; letters = m })) many letters ∙ ap entries_answer (sym given)

  module _ (points : Points) (said : points ≡ points_said (entries_said phrases seek)) (l : List ℕ) where
    pub given_table : (m : List ℕ) (space : ℕ) → count ≤ length l / 4 → points.letters ≤ space → m ≡ sets l 0 (entries_numbers (entries_said phrases seek))
        → m ≡ entries_table l (entries_fitted (length l) space (entries_said phrases seek))
    unfolding entries_table memory_after
    given_table m space enough fit e =
        e ∙ written_front l (entries_numbers (entries_said phrases seek)) (omega (arith, many, numbers_many (entries_said phrases seek)))
        ∙ ap (entries_table l) (sym (given points said (length l) space enough fit))

    pub given_letters : (m : List ℕ) (room : ℕ) → Formed phrases seek → count ≤ room / 4 → points.letters ≤ length l → m ≡ sets l 0 (part seek points.order points.letters)
        → m ≡ letters_table l (entries_fitted room (length l) (entries_said phrases seek))
    unfolding letters_table memory_after
    given_letters m room formed enough fit e =
        e ∙ ap (sets l 0) (letters_are phrases seek formed points said)
        ∙ written_front l (letters_of (entries_said phrases seek)) (omega (arith, letters_many phrases seek points said))
        ∙ ap (letters_table l) (sym (given points said room (length l) enough fit))

pub ruleset entries_given_lem =
    (letters_inside, short_answer, short_table, short_letters, scant_answer, scant_table, scant_letters, given_answer, given_table, given_letters)

-- THE BODIES of a track

module _ (s : List ℕ) (bodies : Bodies) (inside : Inside s bodies) (seek : List ℕ) (cut : seek ≡ bytes_in s bodies.seek) where
  pub seek_small : length seek ≤ 65536
  seek_small = rw cut inside.ready.few

  pub seek_formed : Formed bodies.phrases seek
  seek_formed = subst (Formed bodies.phrases) (sym cut) inside.ready.formed

module _ (s : List ℕ) (bodies : Bodies) (seek : List ℕ) (cut : seek ≡ bytes_in s bodies.seek) (room space : ℕ) where
  fitted_seek : entries_fitted room space (entries_said bodies.phrases seek) ≡ entries_fitted room space (entries_said bodies.phrases (bytes_in s bodies.seek))
  fitted_seek = ap (λ (x : List ℕ). entries_fitted room space (entries_said bodies.phrases x)) cut

  pub bodies_answer : (r : Checked EntriesAnswer) → r ≡ entries_answer (entries_fitted room space (entries_said bodies.phrases seek))
      → r ≡ entries_answer (entries_fitted room space (entries_said bodies.phrases (bytes_in s bodies.seek)))
  bodies_answer = same_answer _ _ fitted_seek

  pub bodies_table : (l m : List ℕ) → m ≡ entries_table l (entries_fitted room space (entries_said bodies.phrases seek))
      → m ≡ entries_table l (entries_fitted room space (entries_said bodies.phrases (bytes_in s bodies.seek)))
  bodies_table = same_table _ _ fitted_seek

  pub bodies_letters : (l m : List ℕ) → m ≡ letters_table l (entries_fitted room space (entries_said bodies.phrases seek))
      → m ≡ letters_table l (entries_fitted room space (entries_said bodies.phrases (bytes_in s bodies.seek)))
  bodies_letters = same_letters _ _ fitted_seek

pub ruleset bodies_given = (seek_small, seek_formed, bodies_answer, bodies_table, bodies_letters)

-- THE TRACK that a row names

fitted_track : (room space : ℕ) (c : Checked Track) (track : Track) → c ≡ Ok track
    → (c >>= λ given. ((when (room / 4 <? length given.entries) or (space <? length (letters_of given.entries)) then refused 15 0 else passed) >> Ok given.entries))
    ≡ entries_fitted room space track.entries
unfolding entries_fitted ◌>>=◌ ◌>>◌ when◌then◌else◌
fitted_track room space c track e =
    rw e (by_test ((room / 4 <? length track.entries) or (space <? length (letters_of track.entries))) (λ h. simp h) (λ h. simp h))

module _ (buffer : List ℕ) (n row : ℕ) (r : Checked Bodies) (named : Names (take n buffer) (track_named buffer n row) r) (room space : ℕ) where
  module _ (bodies : Bodies) (e : r ≡ Ok bodies) where
    entries_are : entries_fitted room space (entries_said bodies.phrases (bytes_in (take n buffer) bodies.seek)) ≡ entries_of_track buffer n row room space
    unfolding entries_of_track
    entries_are =
        let track = the_track buffer n row r named bodies e in
        ap (entries_fitted room space) (sym track.2.entries) ∙ sym (fitted_track room space (track_named buffer n row) track.0 track.1)

    pub track_answer : (x : Checked EntriesAnswer) → x ≡ entries_answer (entries_fitted room space (entries_said bodies.phrases (bytes_in (take n buffer) bodies.seek)))
        → x ≡ entries_answer (entries_of_track buffer n row room space)
    track_answer = same_answer _ _ entries_are

    pub track_table : (l m : List ℕ) → m ≡ entries_table l (entries_fitted room space (entries_said bodies.phrases (bytes_in (take n buffer) bodies.seek)))
        → m ≡ entries_table l (entries_of_track buffer n row room space)
    track_table = same_table _ _ entries_are

    pub track_letters : (l m : List ℕ) → m ≡ letters_table l (entries_fitted room space (entries_said bodies.phrases (bytes_in (take n buffer) bodies.seek)))
        → m ≡ letters_table l (entries_of_track buffer n row room space)
    track_letters = same_letters _ _ entries_are

  module _ (why : Refusal) (e : r ≡ Err why) where
    no_entries : entries_of_track buffer n row room space ≡ Err why
    unfolding entries_of_track ◌>>=◌
    no_entries = rw (not_named buffer n row r named why e)

    pub unnamed_answer : Err why ≡ entries_answer (entries_of_track buffer n row room space)
    unnamed_answer = refused_answer _ why no_entries

    pub unnamed_table : (l : List ℕ) → l ≡ entries_table l (entries_of_track buffer n row room space)
    unnamed_table = refused_table _ why no_entries

    pub unnamed_letters : (l : List ℕ) → l ≡ letters_table l (entries_of_track buffer n row room space)
    unnamed_letters = refused_letters _ why no_entries

pub ruleset track_entries = (named_inside, named_small, track_answer, track_table, track_letters, unnamed_answer, unnamed_table, unnamed_letters)
