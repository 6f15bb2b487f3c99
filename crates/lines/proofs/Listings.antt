-- A LISTING from its parts: the first readable track that the walk found is the one that the definition names, and what is listed of it is what
-- the definition lists.
use Prim.Native.Nat.{ℕ, ◌+◌, ◌<◌, ◌≤◌}
use mathlib.Core.Bool.{true}
use mathlib.Core.List.{List, [], ◌∷◌}
use Rattle.std.specs.Prelude.{None, Some, Ok, Err, Option}
use mathlib.Core.Path.{◌≡◌, refl, sym, ◌∙◌, ap, subst}
use lib.ListN.{length}
use lib.Seq.{sets, take-length}
use native.Mathlib.Nat.{add-zero}
use native.Mathlib.Omega.{arith}
use borrow.Author.Tests.{lt-ltb, le-ltb, eq-eqb, ne_eqb}
use Rattle.model.specs.Words.{◌<?◌, ◌≡?◌, Checked, ◌>>=◌, refused}
use Rattle.model.specs.Item.{is_fine}
use Rattle.model.specs.TimeBase.{milliseconds}
use Rattle.model.specs.Play.{Tune}
use Rattle.model.specs.Track.{Track}
use Rattle.model.specs.File.{File, Top, Top.leaf, Top.readable, contents_of, file_of, parts_of, track_in, track_from, track_at}
use Rattle.model.specs.Answer.{read_of, read_answer, named, play_of}
use Rattle.model.specs.Listing.{first_readable, row_named, listed, listing_of}
use Rattle.model.specs.ListingText.{listing_text, list_answer, list_memory}
use Rattle.model.specs.declared.Event.{Event}
use Rattle.model.specs.declared.ReadAnswer.{ReadAnswer}
use Rattle.model.specs.declared.FirstTrack.{FirstTrack}
use Rattle.model.specs.declared.Refusal.{Refusal}
use Rattle.model.proofs.Outcomes.{then_fine, bind_fine}
use Rattle.model.proofs.Tests.{if_true, if_false}
use Rattle.reading.specs.Stages.{tops_of}
use Rattle.reading.proofs.Accepted.{stated_bytes, stated_small}
use Rattle.playing.proofs.Played.{written_front}
use Rattle.lines.specs.Fields.{tune_listed, play_listed}
use Rattle.lines.specs.Tops.{first_of, first_listed}
use Rattle.lines.proofs.Tops.{milliseconds_low}

-- the first readable track, found and named
data Firsts (k : ℕ) (tops : List Top) : Type 0 where
  none_there : first_of k tops ≡ None → first_readable k tops ≡ None → Firsts k tops
  one_there : (row : ℕ) (track : Track) → k ≤ row → first_of k tops ≡ Some (record { row = row; milliseconds = milliseconds track.base_d }) → first_readable k tops ≡ Some row
      → track_from row k tops ≡ Some track → Firsts k tops

past_leaf : (k : ℕ) (top : Top) (tops : List Top) → parts_of top ≡ [] → first_of k (top ∷ tops) ≡ first_of (k + 1) tops
    → first_readable k (top ∷ tops) ≡ first_readable (k + 1) tops → Firsts (k + 1) tops → Firsts k (top ∷ tops)
unfolding track_from
past_leaf k top tops alone f r (none_there p q) = none_there (f ∙ p) (r ∙ q)
past_leaf k top tops alone f r (one_there row track h p q t) =
    let other : row ≡ k → ⊥ = λ e. omega arith in
    one_there row track (omega arith) (f ∙ p) (r ∙ q)
    (if_false (row ≡? k) _ _ (ne_eqb row k other)
    ∙ ap (λ (parts : ℕ). track_from row parts tops) (ap (λ n. k + 1 + length n) alone ∙ add-zero (k + 1))
    ∙ t)

firsts : (k : ℕ) (tops : List Top) → Firsts k tops
unfolding first_of first_readable track_from track_in parts_of
firsts k [] = none_there refl refl
firsts k (leaf chunk ∷ tops) = past_leaf k (leaf chunk) tops refl refl refl (firsts (k + 1) tops)
firsts k (readable chunk track ∷ tops) = one_there k track (omega arith) refl refl (if_true (k ≡? k) _ _ (eq-eqb k k refl))

play_listed_lem : (track : Track) (o : Checked (Tune Event)) → play_listed (milliseconds track.base_d) o ≡ (o >>= λ tune. Ok (listed track tune))
unfolding play_listed tune_listed listed ◌>>=◌
play_listed_lem track (Ok tune) = refl
play_listed_lem track (Err why) = refl

module _ (input : List ℕ) (file : File) (e : read_of input (length input) 16384 ≡ Ok file) where
  first_listed_lem : Firsts 1 file.tops → first_listed input (first_of 1 file.tops) ≡ listing_of input
  unfolding listing_of first_listed row_named named track_at ◌>>=◌
  first_listed_lem (none_there p q) = rw (p, e, q)
  first_listed_lem (one_there row track h p q t) = rw (p, e, q, t) (play_listed_lem track (play_of input (length input) row 4096))

  pub file_listed : first_listed input (first_of 1 file.tops) ≡ listing_of input
  file_listed = first_listed_lem (firsts 1 file.tops)

-- A FILE that was read
read_file : (input : List ℕ) (n room : ℕ) (file : File) → read_of input n room ≡ Ok file → file_of input n ≡ Ok file
unfolding read_of
read_file input n room file e =
    let a = bind_fine _ _ file e in
    let b = then_fine _ _ file a.2 in
    let last : Ok a.0 ≡ Ok file = b.1 in
    a.1 ∙ last

answer_read : (o : Checked File) (read : ReadAnswer) → read_answer o ≡ Ok read → (file : File) × (o ≡ Ok file)
unfolding read_answer
answer_read (Ok file) read e = (file, refl)
answer_read (Err why) read e = let z : ◌≡◌ {A = ℕ} 0 1 = cc in absurd (omega arith)

answer_refused : (o : Checked File) (why : Refusal) → read_answer o ≡ Err why → o ≡ Err why
unfolding read_answer
answer_refused (Ok file) why e = let z : ◌≡◌ {A = ℕ} 0 1 = cc in absurd (omega arith)
answer_refused (Err told) why e = cc

module _ (input : List ℕ) (room : ℕ) (all : room ≡ 16384) (a : Checked ReadAnswer) (is : a ≡ read_answer (read_of input (length input) room)) where
  abbrev outcome : Checked File
  outcome = read_of input (length input) 16384

  answered : a ≡ read_answer outcome
  answered = is ∙ ap (λ (n : ℕ). read_answer (read_of input (length input) n)) all

  module _ (why : Refusal) (e : a ≡ Err why) where
    unread : listing_text (Err why) ≡ listing_text (listing_of input)
    unfolding listing_of ◌>>=◌
    unread = ap listing_text (sym (rw (answer_refused outcome why (sym answered ∙ e))))

    pub unread_next : (r : ℕ) → r ≡ length (listing_text (Err why)) → r ≡ length (listing_text (listing_of input))
    unread_next r h = h ∙ ap length unread

    pub unread_written : (l m : List ℕ) → m ≡ sets l 0 (listing_text (Err why)) → m ≡ sets l 0 (listing_text (listing_of input))
    unread_written l m h = h ∙ ap (sets l 0) unread

  module _ (read : ReadAnswer) (e : a ≡ Ok read) where
    file_read : (file : File) × (outcome ≡ Ok file)
    file_read = answer_read outcome read (sym answered ∙ e)

    stated : file_of input (length input) ≡ Ok file_read.0
    stated = read_file input (length input) 16384 file_read.0 file_read.1

    pub read_small : length input ≤ 65536
    read_small = stated_small input (length input) file_read.0 stated

    contents : contents_of input ≡ Ok file_read.0
    contents = sym (ap contents_of (take-length input)) ∙ (stated_bytes input (length input) file_read.0 stated).1

    pub read_fine : is_fine (contents_of input) ≡ true
    unfolding is_fine
    read_fine = ap is_fine contents

    listing_read : listing_text (first_listed input (first_of 1 (tops_of (contents_of input)))) ≡ listing_text (listing_of input)
    unfolding tops_of
    listing_read =
        ap listing_text
        (ap (λ (c : Checked File). first_listed input (first_of 1 (tops_of c))) contents ∙ file_listed input file_read.0 file_read.1)

    pub read_next : (r : ℕ) → r ≡ length (listing_text (first_listed input (first_of 1 (tops_of (contents_of input))))) → r ≡ length (listing_text (listing_of input))
    read_next r h = h ∙ ap length listing_read

    pub read_written : (l m : List ℕ) → m ≡ sets l 0 (listing_text (first_listed input (first_of 1 (tops_of (contents_of input)))))
        → m ≡ sets l 0 (listing_text (listing_of input))
    read_written l m h = h ∙ ap (sets l 0) listing_read

pub ruleset unread_files = (unread_next, unread_written)

pub ruleset read_files = (read_small, read_fine, read_next, read_written)

-- THE FIRST TRACK of a file
base_low : (k : ℕ) (first : FirstTrack) (tops : List Top) → first_of k tops ≡ Some first → first.milliseconds ≤ 50
unfolding first_of
base_low k first [] e = let z : ◌≡◌ {A = ℕ} 0 1 = cc in absurd (omega arith)
base_low k first (leaf chunk ∷ tops) e = base_low (k + 1) first tops e
base_low k first (readable chunk track ∷ tops) e =
    let same : ◌≡◌ {A = FirstTrack} (record { row = k; milliseconds = milliseconds track.base_d }) first = cc in
    subst (λ (found : FirstTrack). found.milliseconds ≤ 50) same (milliseconds_low track.base_d)

module _ (input : List ℕ) (tops : List Top) (f : Option FirstTrack) (is : f ≡ first_of 1 tops) where
  module _ (e : f ≡ None) where
    no_track : listing_text (refused 16 0) ≡ listing_text (first_listed input (first_of 1 tops))
    unfolding first_listed
    no_track = ap (λ (first : Option FirstTrack). listing_text (first_listed input first)) (sym e ∙ is)

    pub nowhere_next : (r : ℕ) → r ≡ length (listing_text (refused 16 0)) → r ≡ length (listing_text (first_listed input (first_of 1 tops)))
    nowhere_next r h = h ∙ ap length no_track

    pub nowhere_written : (l m : List ℕ) → m ≡ sets l 0 (listing_text (refused 16 0)) → m ≡ sets l 0 (listing_text (first_listed input (first_of 1 tops)))
    nowhere_written l m h = h ∙ ap (sets l 0) no_track

  module _ (first : FirstTrack) (e : f ≡ Some first) where
    pub track_base : first.milliseconds ≤ 50
    track_base = base_low 1 first tops (sym is ∙ e)

    a_track : listing_text (play_listed first.milliseconds (play_of input (length input) first.row 4096)) ≡ listing_text (first_listed input (first_of 1 tops))
    unfolding first_listed
    a_track = ap (λ (found : Option FirstTrack). listing_text (first_listed input found)) (sym e ∙ is)

    pub track_next : (r : ℕ) → r ≡ length (listing_text (play_listed first.milliseconds (play_of input (length input) first.row 4096)))
        → r ≡ length (listing_text (first_listed input (first_of 1 tops)))
    track_next r h = h ∙ ap length a_track

    pub track_written : (l m : List ℕ) → m ≡ sets l 0 (listing_text (play_listed first.milliseconds (play_of input (length input) first.row 4096)))
        → m ≡ sets l 0 (listing_text (first_listed input (first_of 1 tops)))
    track_written l m h = h ∙ ap (sets l 0) a_track

pub ruleset first_tracks = (nowhere_next, nowhere_written, track_base, track_next, track_written)

-- THE ROOM
module _ (input l : List ℕ) where
  pub full_answer : length l < 500000 → None ≡ list_answer input (length l)
  unfolding list_answer
  full_answer h = sym (if_true (length l <? 500000) _ _ (lt-ltb (length l) 500000 h))

  pub full_memory : length l < 500000 → l ≡ list_memory input l
  unfolding list_memory
  full_memory h = sym (if_true (length l <? 500000) _ _ (lt-ltb (length l) 500000 h))

  module _ (room : 500000 ≤ length l) (r : ℕ) (is : r ≡ length (listing_text (listing_of input))) where
    pub text_answer : Some r ≡ list_answer input (length l)
    unfolding list_answer
    text_answer = ap (λ (n : ℕ). Some n) is ∙ sym (if_false (length l <? 500000) _ _ (le-ltb (length l) 500000 room))

    pub text_memory : (m : List ℕ) → r ≤ 500000 → m ≡ sets l 0 (listing_text (listing_of input)) → m ≡ list_memory input l
    unfolding list_memory
    text_memory m short h =
        h ∙ written_front l (listing_text (listing_of input)) (omega arith)
        ∙ sym (if_false (length l <? 500000) _ _ (le-ltb (length l) 500000 room))

pub ruleset rooms = (full_answer, full_memory, text_answer, text_memory)
