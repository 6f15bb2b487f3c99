-- The entries of a seek body that is empty or has good form: counted, and stored one after the other, four numbers each. The invariants of
-- `count_entries`'s and `fill_entries`'s loops, and what each turn and the end make of them.
use Prim.Native.Nat.{ℕ, ◌+◌, ◌-◌, ◌*◌, ◌<◌, ◌≤◌}
use mathlib.Core.Path.{◌≡◌, refl, sym, ◌∙◌, ap, subst}
use mathlib.Core.Bool.{Bool}
use mathlib.Core.List.{List, [], ◌∷◌}
use lib.ListN.{length, length-append}
use lib.Seq.{sets, length-sets}
use native.Mathlib.Nat.{zero-add}
use native.Mathlib.Omega.{arith}
use mir.Val.{Fits}
use mir.Syntax.{w32, w64}
use borrow.Rule.Slice.PartMut.{put_mid}
use borrow.Author.Tests.{eqb-true, eqb-false}
use Rattle.model.specs.Words.{◌≡?◌, Placed}
use Rattle.model.specs.Seek.{Entry, Entry.start, Entry.stop, Entry.phrase, Entry.order, entry_of}
use Rattle.model.specs.SeekBytes.{entry_numbers, entries_numbers}
use Rattle.model.specs.Track.{point_width}
use Rattle.std.specs.Prelude.{Some}
use Rattle.model.specs.declared.Read.{Read}
use Rattle.model.specs.declared.SeekEntry.{SeekEntry}
use Rattle.model.specs.declared.SeekEntry.TheVariants.{Start, Stop, Phrase, Order}
use Rattle.model.proofs.Parts.{part_length}
use Rattle.model.proofs.Stores.{sets_append, part_stored}
use Rattle.model.proofs.Tests.{by_test, if_true, if_false}
use Rattle.seek.specs.Next.{next_at, KnownAt}
use Rattle.seek.proofs.Ahead.{Sound, placed}
use Rattle.seek.proofs.Standing.{Entries, Standing, standing_starts, Walking, walk_ends, walk_meets, walk_known, walk_nears, walk_turns}
use Rattle.playing.specs.Performing.{entries_said, Formed}
use Rattle.giving.specs.Giving.{entry_read, letters_read}

-- a body of no bytes has no entries, which stand in it

said_stands : (phrases : Bool) (s : List ℕ) → Formed phrases s → Standing phrases s 0 [] (entries_said phrases s)
unfolding entries_said
said_stands phrases s formed =
    by_test (length s ≡? 0)
    (λ h.
    let none : 0 ≡ length s = sym (eqb-true (length s) 0 h) in
    subst (Standing phrases s 0 []) (sym (if_true _ _ _ h)) (record { stands = none; passes = tt; within = omega arith }))
    (λ h.
    let some = eqb-false (length s) 0 h in
    subst (Standing phrases s 0 []) (sym (if_false _ _ _ h)) (standing_starts phrases s (formed (omega arith))))

said_walks : (P : Entries → Type 0) (phrases : Bool) (s : List ℕ) → Formed phrases s → P (entries_said phrases s) → Walking P phrases s 0
said_walks P phrases s formed p = record { before = []; rest = entries_said phrases s; standing = said_stands phrases s formed; holds = p }

-- HOW MANY

pub record Counting (phrases : Bool) (s : List ℕ) (count at : ℕ) : Type 0 where
  pub walk : Walking (λ rest. count + length rest ≡ length (entries_said phrases s)) phrases s at
  pub few : count ≤ at

pub count_starts : (phrases : Bool) (s : List ℕ) → Formed phrases s → Counting phrases s 0 0
count_starts phrases s formed = record { walk = said_walks _ phrases s formed (zero-add _); few = omega arith }

module _ (phrases : Bool) (s : List ℕ) (count at : ℕ) (c : Counting phrases s count at) where
  pub count_ends : length s ≤ at → count ≡ length (entries_said phrases s)
  count_ends past = omega (arith, walk_ends _ phrases s at c.walk past)

  module _ (here : at < length s) where
    pub count_known : KnownAt (point_width phrases) s at
    count_known = walk_known _ phrases s at c.walk here

    pub count_fits : length s ≤ 65536 → Fits w64 (count + 1)
    count_fits small = record { fits = omega (arith, c.few) }

    module _ (read : Read SeekEntry) (is : Some read ≡ next_at (point_width phrases) s at) where
      pub count_nears : length s - read.next < length s - at
      count_nears = walk_nears _ phrases s at c.walk read here is

      pub count_turns : Counting phrases s (count + 1) read.next
      count_turns =
          record {
            walk = walk_turns _ phrases s at c.walk read here is _ (λ more m same. omega arith);
            few = omega (arith, c.few, count_nears);
          }

pub ruleset entries_counted = (count_starts, count_ends, count_known, count_fits, count_nears, count_turns)

-- ONE ENTRY

pub letters_fit : (entry : SeekEntry) (letters : ℕ) → entry ≡ Order letters → letters_read entry ≤ 65536 → Fits w32 letters
unfolding letters_read
letters_fit entry letters e h = let few : letters ≤ 65536 = subst (λ (x : SeekEntry). letters_read x ≤ 65536) e h in record { fits = omega arith }

four : (entry : Entry) → length (entry_numbers entry) ≡ 4
unfolding entry_numbers
four (start value) = refl
four (stop value) = refl
four (phrase letter from to) = refl
four (order letters) = refl

numbers_read : (s : List ℕ) (at : ℕ) (entry : SeekEntry) → Sound at (length s) entry → entry_read entry ≡ entry_numbers (entry_of s at entry)
unfolding entry_read entry_numbers entry_of
numbers_read s at (Start value) h = refl
numbers_read s at (Stop value) h = refl
numbers_read s at (Phrase letter from to) h = refl
numbers_read s at (Order letters) h = ap (λ (n : ℕ). 3 ∷ 0 ∷ n ∷ 0 ∷ []) (sym (part_length s (at + 3) letters h))

few_letters : (s : List ℕ) (at : ℕ) (entry : SeekEntry) → Sound at (length s) entry → letters_read entry ≤ length s
unfolding letters_read
few_letters s at (Start value) h = omega arith
few_letters s at (Stop value) h = omega arith
few_letters s at (Phrase letter from to) h = omega arith
few_letters s at (Order letters) h = omega arith

pub numbers_many : (entries : Entries) → length (entries_numbers entries) ≡ 4 * length entries
unfolding entries_numbers
numbers_many [] = refl
numbers_many (entry ∷ entries) =
    length-append (entry_numbers entry.what) (entries_numbers entries) ∙ omega (arith, four entry.what, numbers_many entries)

entry_first : (out : List ℕ) (next : ℕ) (entry : Placed Entry) (rest : Entries)
    → sets (sets out next (entry_numbers entry.what)) (next + 4) (entries_numbers rest) ≡ sets out next (entries_numbers (entry ∷ rest))
unfolding entries_numbers
entry_first out next entry rest =
    ap (λ (n : ℕ). sets (sets out next (entry_numbers entry.what)) (next + n) (entries_numbers rest)) (sym (four entry.what))
    ∙ sets_append out next (entry_numbers entry.what) (entries_numbers rest)

-- THE TABLE

pub record Storing (phrases : Bool) (s l out : List ℕ) (at place : ℕ) : Type 0 where
  pub walk : Walking (λ rest. (place + 4 * length rest ≤ length out) × (sets out place (entries_numbers rest) ≡ sets l 0 (entries_numbers (entries_said phrases s)))) phrases s at
  pub small : length s ≤ 65536
  pub same : length out ≡ length l

pub store_starts : (phrases : Bool) (s l : List ℕ) → Formed phrases s → length s ≤ 65536 → 4 * length (entries_said phrases s) ≤ length l → Storing phrases s l l 0 0
store_starts phrases s l formed small room =
    record { walk = said_walks _ phrases s formed (omega arith, refl); small = small; same = refl }

module _ (phrases : Bool) (s l out : List ℕ) (at place : ℕ) (f : Storing phrases s l out at place) where
  pub store_kept : length out ≡ length l
  store_kept = f.same

  pub store_ends : length s ≤ at → out ≡ sets l 0 (entries_numbers (entries_said phrases s))
  unfolding entries_numbers
  store_ends past = (walk_ends _ phrases s at f.walk past).1

  module _ (here : at < length s) where
    pub store_known : KnownAt (point_width phrases) s at
    store_known = walk_known _ phrases s at f.walk here

    module _ (read : Read SeekEntry) (is : Some read ≡ next_at (point_width phrases) s at) where
      pub store_room : place + 4 ≤ length out
      store_room = walk_meets _ phrases s at f.walk read here is (λ more m held. omega (arith, held.0))

      pub store_letters : letters_read read.what ≤ 65536
      store_letters = walk_meets _ phrases s at f.walk read here is (λ more m held. omega (arith, few_letters s at read.what m.ahead.2, f.small))

      pub store_nears : length s - read.next < length s - at
      store_nears = walk_nears _ phrases s at f.walk read here is

      module _ (numbers : List ℕ) (e : numbers ≡ entry_read read.what) where
        stored : Sound at (length s) read.what → put_mid place 4 out numbers ≡ sets out place (entry_numbers (entry_of s at read.what))
        stored h =
            part_stored out numbers (entry_numbers (entry_of s at read.what)) place 4 (e ∙ numbers_read s at read.what h) (four (entry_of s at read.what)) store_room

        pub store_turns : Storing phrases s l (put_mid place 4 out numbers) read.next (place + 4)
        store_turns =
            record {
              walk =
                  walk_turns _ phrases s at f.walk read here is _
                  (λ more met held.
                  let written = stored met.ahead.2 in
                  let kept : length (put_mid place 4 out numbers) ≡ length out = ap length written ∙ length-sets out place (entry_numbers (entry_of s at read.what)) in (
                    omega (arith, held.0, kept),
                    ap (λ (x : List ℕ). sets x (place + 4) (entries_numbers more)) written ∙ entry_first out place (placed s at read.what) more ∙ held.1,
                  ));
              small = f.small;
              same = walk_meets _ phrases s at f.walk read here is
                  (λ more met held. ap length (stored met.ahead.2) ∙ length-sets out place (entry_numbers (entry_of s at read.what)) ∙ f.same);
            }

pub ruleset entries_stored = (store_starts, store_kept, store_ends, store_known, store_room, store_letters, store_nears, store_turns)
