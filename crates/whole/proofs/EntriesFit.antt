-- What can be written in a seek body: an entry whose numbers its bytes can hold, with letters of the set where letters belong.
use Prim.Native.Nat.{ℕ, ◌^◌, ◌<◌}
use mathlib.Core.List.{List, [], ◌∷◌}
use mathlib.Core.Bool.{true}
use mathlib.Core.Path.{◌≡◌}
use lib.ListN.{length}
use Rattle.model.specs.Seek.{Entry, Entry.start, Entry.stop, Entry.phrase, Entry.order, is_letter, letters_in_front}

abbrev pub EntryFits : ℕ → Entry → Type 0
EntryFits width (start value) = value < 256 ^ width
EntryFits width (stop value) = value < 256 ^ width
EntryFits width (phrase letter from to) = (is_letter letter ≡ true) × (from < 256 ^ 4) × (to < 256 ^ 4)
EntryFits width (order letters) = letters_in_front letters ≡ length letters

abbrev pub EntriesFit : ℕ → List Entry → Type 0
EntriesFit width [] = Unit
EntriesFit width (entry ∷ entries) = EntryFits width entry × EntriesFit width entries
