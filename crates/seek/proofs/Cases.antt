-- What is known of an entry makes out the definitions over it: where its case is told, and where what follows it is.
use Prim.Native.Nat.{ℕ, ◌+◌, ◌<◌, ◌≤◌}
use mathlib.Core.List.{List}
use mathlib.Core.Path.{◌≡◌, refl}
use lib.ListN.{length}
use borrow.Author.Tests.{le-leb, lt-leb, eq-eqb, ne_eqb}
use Rattle.model.specs.Bytes.{◌!◌}
use Rattle.model.specs.Seek.{entry_at}
use Rattle.std.specs.Prelude.{Option, Some, None}
use Rattle.model.specs.Words.{◌up_to◌}
use Rattle.model.specs.declared.Read.{Read}
use Rattle.model.specs.declared.SeekEntry.{SeekEntry}
use Rattle.model.specs.declared.SeekEntry.TheVariants.{Start, Stop, Phrase, Order}
use Rattle.model.proofs.Tests.{if_yes, if_no}
use Rattle.model.specs.declared.PhraseAddresses.{PhraseAddresses}
use Rattle.model.specs.declared.Points.{Points}
use Rattle.seek.specs.Said.{noted, phrase_named}
use Rattle.seek.specs.Next.{past_comma, next_at, rank_of, slot_of}

-- a case that is told

module _ (entry told : SeekEntry) (same : entry ≡ told) where
  pub rank_told : (z : ℕ) → z ≡ rank_of told → z ≡ rank_of entry
  rank_told z h = rw same h

  pub slot_told : (z : ℕ) → z ≡ slot_of told → z ≡ slot_of entry
  slot_told z h = rw same h

  pub noted_told : (points : Points) (at : ℕ) (z : Points) → z ≡ noted points at told → z ≡ noted points at entry
  noted_told points at z h = rw same h

  pub named_told : (letter : ℕ) (z : Option PhraseAddresses) → z ≡ phrase_named letter told → z ≡ phrase_named letter entry
  named_told letter z h = rw same h

pub named_other : (letter : ℕ) (entry : SeekEntry) → ((name from to : ℕ) → entry ≡ Phrase name from to → ⊥) → None ≡ phrase_named letter entry
unfolding phrase_named
named_other letter (Start value) h = refl
named_other letter (Stop value) h = refl
named_other letter (Phrase name from to) h = absurd (h name from to refl)
named_other letter (Order letters) h = refl

-- what follows an entry

module _ (width : ℕ) (s : List ℕ) (at : ℕ) (found : Option (Read SeekEntry)) (is : found ≡ entry_at width s at) where
  pub next_none : found ≡ None → None ≡ next_at width s at
  unfolding next_at past_comma
  next_none e = rw (← is, e) refl

  module _ (read : Read SeekEntry) (whole : found ≡ Some read) where
    pub next_last : length s ≤ read.next → Some read ≡ next_at width s at
    unfolding next_at past_comma
    next_last h = rw (← is, whole) (if_yes _ _ _ _ (le-leb (length s) read.next h) refl)

    pub next_comma : read.next < length s → s ! read.next ≡ 0x2C → Some (read.what up_to (read.next + 1)) ≡ next_at width s at
    unfolding next_at past_comma
    next_comma h g = rw (← is, whole) (if_no _ _ _ _ (lt-leb (length s) read.next h) (if_yes _ _ _ _ (eq-eqb (s ! read.next) 0x2C g) refl))

    pub next_other : read.next < length s → (s ! read.next ≡ 0x2C → ⊥) → None ≡ next_at width s at
    unfolding next_at past_comma
    next_other h g = rw (← is, whole) (if_no _ _ _ _ (lt-leb (length s) read.next h) (if_no _ _ _ _ (ne_eqb (s ! read.next) 0x2C g) refl))

pub ruleset nexts = (next_none, next_last, next_comma, next_other)
