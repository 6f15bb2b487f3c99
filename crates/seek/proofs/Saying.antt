-- What the entries of a seek body say: the invariants of `read_points`' and `find_phrase`'s loops, and what each way out of them and each
-- turn makes of them.
use Prim.Native.Nat.{ℕ, ◌+◌, ◌<◌, ◌≤◌}
use mathlib.Core.List.{List, [], ◌∷◌}
use mathlib.Core.Bool.{Bool, true, false}
use Rattle.std.specs.Prelude.{Option, None, Some}
use mathlib.Core.Path.{◌≡◌, refl, sym, ◌∙◌, ap}
use lib.ListN.{length}
use native.Mathlib.Omega.{arith}
use Rattle.model.specs.Words.{when◌then◌else◌, ◌≡?◌, is_some, ◌otherwise◌, ◌or_else◌, first_said, ◌up_to◌, Placed}
use Rattle.model.specs.Item.{is_fine}
use Rattle.model.specs.Seek.{Entry, Entry.start, Entry.stop, Entry.phrase, Entry.order, tag, entry_of, seek_of, Addresses, start_in, stop_in, phrase_in, order_in, letters_from, start_point, stop_point, phrase_of, order_list, order_place, points_said, found_phrase}
use Rattle.model.specs.Track.{point_width}
use Rattle.model.specs.declared.Points.{Points}
use Rattle.model.specs.declared.PhraseAddresses.{PhraseAddresses}
use Rattle.model.specs.declared.Read.{Read}
use Rattle.model.specs.declared.SeekEntry.{SeekEntry}
use Rattle.model.specs.declared.SeekEntry.TheVariants.{Start, Stop, Phrase, Order}
use Rattle.model.proofs.Parts.{part_length}
use Rattle.model.proofs.Tests.{by_test}
use Rattle.seek.specs.Next.{next_at}
use Rattle.seek.specs.Said.{nothing, noted, phrase_named}
use Rattle.seek.proofs.Ahead.{placed}
use Rattle.seek.proofs.Standing.{Entries, all_entries, Without, silent, Walking, walk_starts, Met, walk_ends, walk_meets, walk_known, walk_nears, walk_turns}

-- WHO SAYS WHAT

start_silent : (entry : Entry) → (tag entry ≡ 0x7374 → ⊥) → start_in entry ≡ None
unfolding tag start_in
start_silent (start value) h = absurd (h refl)
start_silent (stop value) h = refl
start_silent (phrase letter from to) h = refl
start_silent (order letters) h = refl

stop_silent : (entry : Entry) → (tag entry ≡ 0x7370 → ⊥) → stop_in entry ≡ None
unfolding tag stop_in
stop_silent (start value) h = refl
stop_silent (stop value) h = absurd (h refl)
stop_silent (phrase letter from to) h = refl
stop_silent (order letters) h = refl

order_silent : (entry : Entry) → (tag entry ≡ 0x534C → ⊥) → order_in entry ≡ None
unfolding tag order_in
order_silent (start value) h = refl
order_silent (stop value) h = refl
order_silent (phrase letter from to) h = refl
order_silent (order letters) h = absurd (h refl)

letters_silent : (at : ℕ) (entry : Entry) → (tag entry ≡ 0x534C → ⊥) → letters_from at entry ≡ None
unfolding tag letters_from
letters_silent at (start value) h = refl
letters_silent at (stop value) h = refl
letters_silent at (phrase letter from to) h = refl
letters_silent at (order letters) h = absurd (h refl)

module _ (rest : Entries) where
  no_start : Without 0x7374 rest → start_point rest ≡ None
  unfolding start_point
  no_start = silent _ 0x7374 (λ entry h. start_silent entry.what h) rest

  no_stop : Without 0x7370 rest → stop_point rest ≡ None
  unfolding stop_point
  no_stop = silent _ 0x7370 (λ entry h. stop_silent entry.what h) rest

  no_order : Without 0x534C rest → order_list rest ≡ None
  unfolding order_list
  no_order = silent _ 0x534C (λ entry h. order_silent entry.what h) rest

  no_letters : Without 0x534C rest → order_place rest ≡ None
  unfolding order_place
  no_letters = silent _ 0x534C (λ entry h. letters_silent entry.place entry.what h) rest

-- POINTS: those said so far, over what the entries that are left say

flag_or : {A : Type 0} → Option A → Bool → Bool
flag_or None flag = flag
flag_or (Some said) flag = true

letters_or : Option (List ℕ) → ℕ → ℕ
letters_or None many = many
letters_or (Some letters) many = length letters

over : Points → Option ℕ → Option ℕ → Option (List ℕ) → Option ℕ → Points
over points starts stops orders places =
    record {
      starts = flag_or starts points.starts;
      start = starts otherwise points.start;
      stops = flag_or stops points.stops;
      stop = stops otherwise points.stop;
      ordered = flag_or orders points.ordered;
      order = places otherwise points.order;
      letters = letters_or orders points.letters;
    }

pub said_over : Points → List (Placed Entry) → Points
said_over points entries = over points (start_point entries) (stop_point entries) (order_list entries) (order_place entries)

flag_none : {A : Type 0} (said : Option A) → flag_or said false ≡ is_some said
unfolding flag_or is_some
flag_none None = refl
flag_none (Some a) = refl

letters_none : (said : Option (List ℕ)) → letters_or said 0 ≡ length (said otherwise [])
unfolding letters_or ◌otherwise◌
letters_none None = refl
letters_none (Some letters) = refl

said_starts : (entries : Entries) → said_over nothing entries ≡ points_said entries
unfolding said_over over points_said
said_starts entries = simp (flag_none, letters_none)

said_ends : (points : Points) → said_over points [] ≡ points
unfolding said_over over start_point stop_point order_list order_place first_said flag_or letters_or ◌otherwise◌
said_ends points = refl

-- an entry adds what it says, since no later one says it again
said_turns : (s : List ℕ) (at : ℕ) (points : Points) (entry : SeekEntry) (next : ℕ) (rest : Entries) → Met s at (entry up_to next) rest
    → said_over points (placed s at entry ∷ rest) ≡ said_over (noted points at entry) rest
unfolding entry_of tag noted said_over over start_point stop_point order_list order_place first_said start_in stop_in order_in letters_from ◌or_else◌ flag_or letters_or ◌otherwise◌
said_turns s at points (Start value) next rest m = rw (no_start rest m.last) refl
said_turns s at points (Stop value) next rest m = rw (no_stop rest m.last) refl
said_turns s at points (Phrase letter from to) next rest m = refl
said_turns s at points (Order letters) next rest m = rw (no_order rest m.last, no_letters rest m.last, part_length s (at + 3) letters m.ahead.2)

abbrev pub Pointing : Bool → List ℕ → Points → ℕ → Type 0
Pointing phrases s points at = Walking (λ rest. said_over points rest ≡ points_said (all_entries phrases s)) phrases s at

pub points_start : (phrases : Bool) (s : List ℕ) → is_fine (seek_of (point_width phrases) s) ≡ true → Pointing phrases s nothing 0
points_start phrases s h = walk_starts _ phrases s h (said_starts (all_entries phrases s))

module _ (phrases : Bool) (s : List ℕ) (points : Points) (at : ℕ) (w : Pointing phrases s points at) where
  pub points_end : length s ≤ at → points ≡ points_said (all_entries phrases s)
  points_end past = sym (said_ends points) ∙ walk_ends _ phrases s at w past

  pub points_turn : (read : Read SeekEntry) (more : Points) → at < length s → Some read ≡ next_at (point_width phrases) s at
      → more ≡ noted points at read.what → Pointing phrases s more read.next
  points_turn read more here is e =
      walk_turns _ phrases s at w read here is _
      (λ rest m same. ap (λ (p : Points). said_over p rest) e ∙ sym (said_turns s at points read.what read.next rest m) ∙ same)

pub ruleset pointing = (points_start, points_end, points_turn, walk_known, walk_nears)

-- A LETTER'S PHRASE

phrase_read : (letter : ℕ) (s : List ℕ) (at : ℕ) (entry : SeekEntry) → phrase_named letter entry ≡ found_phrase (phrase_in letter (entry_of s at entry))
unfolding phrase_named found_phrase phrase_in entry_of when◌then◌else◌
phrase_read letter s at (Start value) = refl
phrase_read letter s at (Stop value) = refl
phrase_read letter s at (Phrase name from to) = by_test (name ≡? letter) (λ h. simp h) (λ h. simp h)
phrase_read letter s at (Order letters) = refl

-- an entry that names it is the answer, and past another one the later entries are

first_names : (one others : Option Addresses) (named : PhraseAddresses) → found_phrase one ≡ Some named → found_phrase (one or_else others) ≡ Some named
unfolding found_phrase ◌or_else◌
first_names None others named h = let z : ◌≡◌ {A = ℕ} 0 1 = cc in absurd (omega arith)
first_names (Some addresses) others named h = h

first_silent : (one others : Option Addresses) → found_phrase one ≡ None → found_phrase (one or_else others) ≡ found_phrase others
unfolding found_phrase ◌or_else◌
first_silent None others h = refl
first_silent (Some addresses) others h = let z : ◌≡◌ {A = ℕ} 0 1 = cc in absurd (omega arith)

abbrev pub Searching : Bool → List ℕ → ℕ → ℕ → Type 0
Searching phrases s letter at =
    Walking (λ rest. found_phrase (phrase_of letter rest) ≡ found_phrase (phrase_of letter (all_entries phrases s))) phrases s at

pub search_starts : (phrases : Bool) (s : List ℕ) (letter : ℕ) → is_fine (seek_of (point_width phrases) s) ≡ true → Searching phrases s letter 0
search_starts phrases s letter h = walk_starts _ phrases s h refl

module _ (phrases : Bool) (s : List ℕ) (letter at : ℕ) (w : Searching phrases s letter at) where
  pub search_ends : length s ≤ at → None ≡ found_phrase (phrase_of letter (all_entries phrases s))
  unfolding phrase_of first_said found_phrase
  search_ends past = walk_ends _ phrases s at w past

  module _ (read : Read SeekEntry) (here : at < length s) (is : Some read ≡ next_at (point_width phrases) s at) (said : Option PhraseAddresses) (answers : said ≡ phrase_named letter read.what) where
    says : (told : Option PhraseAddresses) → said ≡ told → found_phrase (phrase_in letter (entry_of s at read.what)) ≡ told
    says told e = sym (phrase_read letter s at read.what) ∙ sym answers ∙ e

    pub search_finds : (named : PhraseAddresses) → said ≡ Some named → Some named ≡ found_phrase (phrase_of letter (all_entries phrases s))
    unfolding phrase_of first_said
    search_finds named e = walk_meets _ phrases s at w read here is (λ rest m same. sym (first_names _ (phrase_of letter rest) named (says _ e)) ∙ same)

    pub search_turns : said ≡ None → Searching phrases s letter read.next
    unfolding phrase_of first_said
    search_turns e =
        walk_turns _ phrases s at w read here is _ (λ rest m same. sym (first_silent _ (phrase_of letter rest) (says _ e)) ∙ same)

pub ruleset searching = (search_starts, search_ends, search_finds, search_turns, walk_known, walk_nears)
