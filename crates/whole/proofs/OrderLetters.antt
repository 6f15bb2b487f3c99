-- A seek body that reads has one order list at most, so the letters that its entries say are those of any order list among them.
use Prim.Native.Nat.{ℕ}
use mathlib.Core.List.{List, [], ◌∷◌}
use mathlib.Core.Bool.{Bool}
use mathlib.Core.Path.{◌≡◌, refl, ap, subst}
use Rattle.model.specs.Words.{◌otherwise◌, ◌or_else◌, first_said, Placed}
use Rattle.std.specs.Prelude.{Ok}
use Rattle.model.specs.Item.{is_fine, found}
use Rattle.model.specs.Seek.{Entry, Entry.start, Entry.stop, Entry.phrase, Entry.order, tag, order_in, order_list, entry_of, seek_of}
use Rattle.model.specs.Track.{point_width}
use Rattle.model.specs.Answer.{letters_of}
use Rattle.model.specs.declared.Read.{Read}
use Rattle.model.specs.declared.SeekEntry.{SeekEntry}
use Rattle.model.specs.declared.SeekEntry.TheVariants.{Start, Stop, Phrase, Order}
use Rattle.seek.proofs.Ahead.{placed}
use Rattle.seek.proofs.Standing.{Without, Met, walk_all}

abbrev pub OrderIs : List ℕ → Entry → Type 0
OrderIs letters (start value) = Unit
OrderIs letters (stop value) = Unit
OrderIs letters (phrase letter from to) = Unit
OrderIs letters (order others) = others ≡ letters

abbrev pub OrdersAre : List ℕ → List (Placed Entry) → Type 0
OrdersAre letters [] = Unit
OrdersAre letters (entry ∷ entries) = OrderIs letters entry.what × OrdersAre letters entries

-- where no order list is
no_order : (letters : List ℕ) (entry : Entry) → (tag entry ≡ 0x534C → ⊥) → OrderIs letters entry
unfolding tag
no_order letters (start value) h = tt
no_order letters (stop value) h = tt
no_order letters (phrase letter from to) h = tt
no_order letters (order others) h = absurd (h refl)

no_orders : (letters : List ℕ) (entries : List (Placed Entry)) → Without 0x534C entries → OrdersAre letters entries
no_orders letters [] w = tt
no_orders letters (entry ∷ entries) w = (no_order letters entry.what w.0, no_orders letters entries w.1)

with_entry : (s : List ℕ) (at : ℕ) (entry : SeekEntry) (more : List (Placed Entry)) → Without (tag (entry_of s at entry)) more
    → OrdersAre (letters_of more) more → OrdersAre (letters_of (placed s at entry ∷ more)) (placed s at entry ∷ more)
unfolding letters_of order_list first_said order_in entry_of tag ◌or_else◌ ◌otherwise◌
with_entry s at (Start value) more last p = (tt, p)
with_entry s at (Stop value) more last p = (tt, p)
with_entry s at (Phrase letter from to) more last p = (tt, p)
with_entry s at (Order letters) more last p = (refl, no_orders _ more last)

one_more : (s : List ℕ) (at : ℕ) (read : Read SeekEntry) (more : List (Placed Entry)) → Met s at read more → OrdersAre (letters_of more) more
    → OrdersAre (letters_of (placed s at read.what ∷ more)) (placed s at read.what ∷ more)
one_more s at read more m p = with_entry s at read.what more m.last p

pub orders_said : (phrases : Bool) (s : List ℕ) (entries : List (Placed Entry)) → seek_of (point_width phrases) s ≡ Ok entries
    → OrdersAre (letters_of entries) entries
unfolding is_fine found
orders_said phrases s entries reads =
    subst (λ (all : List (Placed Entry)). OrdersAre (letters_of all) all) (ap found reads)
    (walk_all (λ all. OrdersAre (letters_of all) all) phrases s tt (one_more s) (ap is_fine reads))
