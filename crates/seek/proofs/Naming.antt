-- The letters of an order list and the phrases they name: the invariants of `name_letters`' and `check_letters`' loops, and what each way
-- out of them and each turn makes of them.
use Prim.Native.Nat.{ℕ, suc, ◌+◌, ◌-◌, ◌<◌, ◌≤◌}
use mathlib.Core.List.{List, [], ◌∷◌}
use mathlib.Core.Bool.{Bool, true, false}
use Rattle.std.specs.Prelude.{Option, None, Some, Ok, Err}
use mathlib.Core.Path.{◌≡◌, refl, sym, ◌∙◌, ap, ap₂, subst}
use native.Mathlib.Numerals.{add-one}
use native.Mathlib.Omega.{arith}
use mir.Syntax.{w64}
use mir.Val.{Fits}
use lib.ListN.{length, get_or, set, length-set, replicate, length-replicate}
use lib.Seq.{drop-cons, get_or-set_same, get_or-set_other}
use borrow.Author.Tests.{eqb-true, eqb-false}
use Rattle.model.specs.Words.{when◌then◌else◌, ◌or◌, ◌≡?◌, is_some, ◌otherwise◌, ◌or_else◌, first_said, ◌>>◌, ◌up_to◌, Placed, Checked, passed, all_pass, refused}
use Rattle.model.specs.Bytes.{◌!◌, part}
use Rattle.model.specs.Item.{is_fine, check_answer}
use Rattle.model.specs.Seek.{Entry, Entry.start, Entry.stop, Entry.phrase, Entry.order, tag, entry_of, seek_of, Addresses, phrase_in, order_in, letters_from, phrase_of, order_list, order_place, points_said}
use Rattle.model.specs.Points.{letters_named, letters_hold, order_holds}
use Rattle.model.specs.Track.{point_width}
use Rattle.model.specs.declared.Points.{Points}
use Rattle.model.specs.declared.Read.{Read}
use Rattle.model.specs.declared.SeekEntry.{SeekEntry}
use Rattle.model.specs.declared.SeekEntry.TheVariants.{Start, Stop, Phrase, Order}
use Rattle.model.proofs.Parts.{part_length}
use Rattle.model.proofs.Tests.{by_test, if_true, if_false, flag_on, flag_off}
use Rattle.seek.specs.Next.{next_at}
use Rattle.seek.specs.Rules.{marked, Named}
use Rattle.seek.proofs.Ahead.{placed}
use Rattle.seek.proofs.Letters.{or_none}
use Rattle.seek.proofs.Ordering.{none_flagged}
use Rattle.seek.proofs.Standing.{Entries, all_entries, Without, Met, Walking, walk_starts, walk_ends, walk_known, walk_nears, walk_turns, walk_all, later}
use Rattle.seek.proofs.Holding.{all_go_on}

-- FLAGS

pub marked_told : (flags : List Bool) (entry told : SeekEntry) (z : List Bool) → entry ≡ told → z ≡ marked flags told → z ≡ marked flags entry
marked_told flags entry told z e h = rw e h

pub marked_other : (flags : List Bool) (entry : SeekEntry) → ((letter from to : ℕ) → entry ≡ Phrase letter from to → ⊥) → flags ≡ marked flags entry
unfolding marked
marked_other flags (Start value) h = refl
marked_other flags (Stop value) h = refl
marked_other flags (Phrase letter from to) h = absurd (h letter from to refl)
marked_other flags (Order letters) h = refl

-- a letter is flagged, or is named further on
abbrev pub named : List Bool → ℕ → List (Placed Entry) → Bool
named flags letter entries = get_or flags letter false or is_some (phrase_of letter entries)

named_more : (flags : List Bool) (letter name : ℕ) (addresses : Addresses) (others : Option Addresses) → letter < length flags
    → (get_or flags letter false or is_some ((when name ≡? letter then Some addresses else None) or_else others))
    ≡ (get_or (set flags name true) letter false or is_some others)
unfolding when◌then◌else◌ ◌or_else◌ is_some ◌or◌
named_more flags letter name addresses others long =
    by_test (name ≡? letter)
    (λ h.
    let e = eqb-true name letter h in
    rw (h, e, get_or-set_same flags letter true false long) (later (get_or flags letter false) true refl))
    (λ h.
    let e : letter ≡ name → ⊥ = λ q. eqb-false name letter h (sym q) in
    rw (h, get_or-set_other flags name letter true false e) refl)

named_turns : (s : List ℕ) (at : ℕ) (flags : List Bool) (letter : ℕ) (entry : SeekEntry) (rest : Entries) → letter < length flags
    → named flags letter (placed s at entry ∷ rest) ≡ named (marked flags entry) letter rest
unfolding phrase_of first_said entry_of phrase_in marked ◌or_else◌
named_turns s at flags letter (Start value) rest long = refl
named_turns s at flags letter (Stop value) rest long = refl
named_turns s at flags letter (Phrase name from to) rest long = named_more flags letter name _ (phrase_of letter rest) long
named_turns s at flags letter (Order letters) rest long = refl

marked_long : (flags : List Bool) (entry : SeekEntry) → length (marked flags entry) ≡ length flags
unfolding marked
marked_long flags (Start value) = refl
marked_long flags (Stop value) = refl
marked_long flags (Phrase letter from to) = length-set flags letter true
marked_long flags (Order letters) = refl

pub record Flagging (phrases : Bool) (s : List ℕ) (flags : List Bool) (rest : List (Placed Entry)) : Type 0 where
  pub long : length flags ≡ 256
  pub same : (letter : ℕ) → letter < 256 → named flags letter rest ≡ is_some (phrase_of letter (all_entries phrases s))

abbrev pub Marking : Bool → List ℕ → List Bool → ℕ → Type 0
Marking phrases s flags at = Walking (Flagging phrases s flags) phrases s at

pub marking_starts : (phrases : Bool) (s : List ℕ) → is_fine (seek_of (point_width phrases) s) ≡ true → Marking phrases s (replicate 256 false) 0
unfolding ◌or◌
marking_starts phrases s h =
    walk_starts _ phrases s h
    (record { long = length-replicate 256 false; same = λ letter k. rw (none_flagged 256 letter) refl })

module _ (phrases : Bool) (s : List ℕ) (flags : List Bool) (at : ℕ) (w : Marking phrases s flags at) where
  pub marking_ends : length s ≤ at → Named (all_entries phrases s) flags
  unfolding phrase_of first_said is_some
  marking_ends past =
      let f = walk_ends _ phrases s at w past in
      record { flagged = λ letter k. or_none (get_or flags letter false) (get_or flags letter false) refl ∙ f.same letter k }

  pub marking_turns : (read : Read SeekEntry) (more : List Bool) → at < length s → Some read ≡ next_at (point_width phrases) s at
      → more ≡ marked flags read.what → Marking phrases s more read.next
  marking_turns read more here is e =
      walk_turns _ phrases s at w read here is _
      (λ rest m f. subst (λ (l : List Bool). Flagging phrases s l rest) (sym e)
      (record {
        long = marked_long flags read.what ∙ f.long;
        same = λ letter k. sym (named_turns s at flags letter read.what rest (omega (arith, f.long))) ∙ f.same letter k;
      }))

pub ruleset marking = (marking_starts, marking_ends, marking_turns, walk_known, walk_nears)

-- THE ORDER LIST: there is one at most, so that its letters are all that the rule is about

others_hold : (all : Entries) (at : ℕ) (entry : Entry) → (tag entry ≡ 0x534C → ⊥) → letters_hold all at entry ≡ passed
unfolding tag letters_hold
others_hold all at (start value) h = refl
others_hold all at (stop value) h = refl
others_hold all at (phrase letter from to) h = refl
others_hold all at (order letters) h = absurd (h refl)

-- the letters of all order lists among some entries
abbrev pub lists_hold : Entries → Entries → Checked (Unit {0})
lists_hold all rest = all_pass (λ entry. letters_hold all entry.place entry.what) rest

no_list : (all rest : Entries) → Without 0x534C rest → lists_hold all rest ≡ passed
unfolding all_pass
no_list all [] w = refl
no_list all (entry ∷ rest) w = all_go_on _ entry rest (others_hold all entry.place entry.what w.0) ∙ no_list all rest w.1

and_passes : (one : Checked (Unit {0})) → (one >> passed) ≡ one
unfolding ◌>>◌
and_passes (Ok u) = refl
and_passes (Err why) = refl

pub record Ordered (s : List ℕ) (all rest : List (Placed Entry)) : Type 0 where
  pub is : lists_hold all rest ≡ letters_named all (order_place rest otherwise 0) (order_list rest otherwise [])
  pub stands : (order_list rest otherwise []) ≡ part s (order_place rest otherwise 0) (length (order_list rest otherwise []))
  pub fits : (order_place rest otherwise 0) + length (order_list rest otherwise []) ≤ length s

ordered_none : (s : List ℕ) (all : Entries) → Ordered s all []
unfolding all_pass order_place order_list first_said ◌otherwise◌ letters_named
ordered_none s all = record { is = refl; stands = refl; fits = omega arith }

ordered_more : (s : List ℕ) (all : Entries) (at : ℕ) (entry : SeekEntry) (next : ℕ) (rest : Entries) → Met s at (entry up_to next) rest → Ordered s all rest
    → Ordered s all (placed s at entry ∷ rest)
unfolding all_pass ◌>>◌ letters_hold entry_of order_place order_list first_said order_in letters_from ◌or_else◌ ◌otherwise◌ tag
ordered_more s all at (Start value) next rest m o = record { is = o.is; stands = o.stands; fits = o.fits }
ordered_more s all at (Stop value) next rest m o = record { is = o.is; stands = o.stands; fits = o.fits }
ordered_more s all at (Phrase letter from to) next rest m o = record { is = o.is; stands = o.stands; fits = o.fits }
ordered_more s all at (Order letters) next rest m o =
    let long = part_length s (at + 3) letters m.ahead.2 in
    record {
      is = rw (no_list all rest m.last) (and_passes (letters_named all (at + 3) (part s (at + 3) letters)));
      stands = rw long refl;
      fits = omega (arith, long, m.ahead.2);
    }

module _ (phrases : Bool) (s : List ℕ) (fine-form : is_fine (seek_of (point_width phrases) s) ≡ true) (points : Points) (said : points ≡ points_said (all_entries phrases s)) where
  pub ordered : Ordered s (all_entries phrases s) (all_entries phrases s)
  ordered = walk_all (Ordered s (all_entries phrases s)) phrases s (ordered_none s (all_entries phrases s)) (λ at read rest. ordered_more s (all_entries phrases s) at read.what read.next rest) fine-form

  order_said : points.order ≡ (order_place (all_entries phrases s) otherwise 0)
  unfolding points_said
  order_said = ap (λ (p : Points). p.order) said

  letters_said : points.letters ≡ length (order_list (all_entries phrases s) otherwise [])
  unfolding points_said
  letters_said = ap (λ (p : Points). p.letters) said

  order_within : points.order + points.letters ≤ length s
  order_within = omega (arith, order_said, letters_said, ordered.fits)

  pub order_fits : length s ≤ 65536 → Fits w64 (points.order + points.letters)
  order_fits small = record { fits = omega (arith, order_within) }

-- THE WALK over the letters: those from a place up to the list's end are left
pub record Lettering (phrases : Bool) (s : List ℕ) (end at : ℕ) : Type 0 where
  pub within : end ≤ length s
  pub same : check_answer (letters_named (all_entries phrases s) at (part s at (end - at))) ≡ check_answer (order_holds (all_entries phrases s))

pub lettering_starts : (phrases : Bool) (s : List ℕ) (points : Points) → is_fine (seek_of (point_width phrases) s) ≡ true
    → points ≡ points_said (all_entries phrases s) → Lettering phrases s (points.order + points.letters) points.order
unfolding order_holds
lettering_starts phrases s points h said =
    let all = all_entries phrases s in
    let o = ordered phrases s h points said in
    let p = order_said phrases s h points said in
    let q = letters_said phrases s h points said in
    let many : points.order + points.letters - points.order ≡ points.letters = omega arith in
    record {
      within = order_within phrases s h points said;
      same =
          ap (λ (n : ℕ). check_answer (letters_named all points.order (part s points.order n))) many
          ∙ ap₂ (λ (n k : ℕ). check_answer (letters_named all n (part s n k))) p q
          ∙ ap (λ (l : List ℕ). check_answer (letters_named all (order_place all otherwise 0) l)) (sym o.stands)
          ∙ ap check_answer (sym o.is);
    }

module _ (phrases : Bool) (s : List ℕ) (end at : ℕ) (r : Lettering phrases s end at) where
  pub lettering_ends : end ≤ at → Ok tt ≡ check_answer (order_holds (all_entries phrases s))
  unfolding letters_named check_answer
  lettering_ends past =
      let none_left : 0 ≡ end - at = omega arith in
      ap (λ (n : ℕ). check_answer (letters_named (all_entries phrases s) at (part s at n))) none_left ∙ r.same

  module _ (flags : List Bool) (here : at < end) (small : s ! at < 256) (n : Named (all_entries phrases s) flags) where
    first : part s at (end - at) ≡ s ! at ∷ part s (at + 1) (end - (at + 1))
    first =
        let there : at < length s = omega (arith, r.within) in
        let more : end - at ≡ suc (end - (at + 1)) = omega arith in
        rw (more, drop-cons s at 0, ← add-one at)

    splits : check_answer (when is_some (phrase_of (s ! at) (all_entries phrases s)) then letters_named (all_entries phrases s) (at + 1) (part s (at + 1) (end - (at + 1))) else refused 14 at)
        ≡ check_answer (order_holds (all_entries phrases s))
    unfolding letters_named
    splits = ap (λ (l : List ℕ). check_answer (letters_named (all_entries phrases s) at l)) (sym first) ∙ r.same

    pub lettering_misses : get_or flags (s ! at) false ≡ false → refused 14 at ≡ check_answer (order_holds (all_entries phrases s))
    unfolding check_answer
    lettering_misses h = ap check_answer (sym (if_false _ _ _ (sym (n.flagged (s ! at) small) ∙ h))) ∙ splits

    pub lettering_turns : get_or flags (s ! at) false ≡ true → Lettering phrases s end (at + 1)
    lettering_turns h =
        record {
          within = r.within;
          same = ap check_answer (sym (if_true _ _ _ (sym (n.flagged (s ! at) small) ∙ h))) ∙ splits;
        }

pub ruleset lettering = (order_fits, lettering_starts, lettering_ends, lettering_misses, lettering_turns, flag_on, flag_off)
