-- The data of an entry as the code reads them, against the definitions: a point's width, and the room for it.
use Prim.Native.Nat.{ℕ, ◌+◌, ◌<◌, ◌≤◌}
use mathlib.Core.List.{List}
use mathlib.Core.Bool.{true, false}
use mathlib.Core.Path.{◌≡◌}
use native.Mathlib.Omega.{arith}
use lib.ListN.{length}
use borrow.Author.Tests.{lt-ltb, le-ltb}
use Rattle.model.specs.Words.{◌<?◌, ◌up_to◌}
use Rattle.std.specs.Prelude.{Some}
use Rattle.model.specs.declared.SeekEntry.TheVariants.{Start, Stop, Phrase, Order}

-- a width that a callee found

module _ (s : List ℕ) (at found width : ℕ) (is : found ≡ width) where
  pub point_short : length s < at + found → (length s <? at + width) ≡ true
  point_short h = lt-ltb (length s) (at + width) (omega arith)

  pub point_there : at + found ≤ length s → (length s <? at + width) ≡ false
  point_there h = le-ltb (length s) (at + width) (omega arith)

  pub start_is : (value said : ℕ) → value ≡ said → Some (Start value up_to (at + found)) ≡ Some (Start said up_to (at + width))
  start_is value said h = cc

  pub stop_is : (value said : ℕ) → value ≡ said → Some (Stop value up_to (at + found)) ≡ Some (Stop said up_to (at + width))
  stop_is value said h = cc

pub order_is : (at found letters : ℕ) → found ≡ letters → Some (Order found up_to (at + found)) ≡ Some (Order letters up_to (at + letters))
order_is at found letters h = cc

pub phrase_is : (letter from to start stop next : ℕ) → from ≡ start → to ≡ stop → Some (Phrase letter from to up_to next) ≡ Some (Phrase letter start stop up_to next)
phrase_is letter from to start stop next p q = cc

pub ruleset read = (point_short, point_there, start_is, stop_is, order_is)
