-- Demand 2: what the items of a sequence have in common, which is that each can be written.
use mathlib.Core.Bool.{true}
use mathlib.Core.List.{List, [], ◌∷◌}
use mathlib.Core.Path.{◌≡◌}
use Rattle.model.specs.Item.{Item}
use Rattle.model.specs.Content.{Content}
use Rattle.model.specs.Writing.{item_fits}
use Rattle.model.specs.declared.Voice.{Voice}

abbrev pub AllFit : Voice → List (Item Content) → Type 0
AllFit voice [] = Unit
AllFit voice (item ∷ items) = (item_fits voice item ≡ true) × AllFit voice items
