-- The names of kinds and channels in lent memory.
use Prim.Native.Nat.{ℕ, ◌+◌}
use mathlib.Core.List.{List, [], ◌∷◌}
use mathlib.Core.Path.{◌≡◌, refl, ◌∙◌, ap}
use lib.ListN.{length}
use lib.Seq.{sets}
use Rattle.std.specs.Prelude.{Option, Some, None}
use Rattle.model.specs.ListingText.{bytes, decimal, kind_name, channel_name, space}
use Rattle.lines.specs.Fields.{closed}
use Rattle.lines.proofs.Numbers.{closed_next}

-- the name of a kind and the space after it
pub name_next : (kind at end : ℕ) (name : List ℕ) → name ≡ kind_name kind → end ≡ at + length name → end + 1 ≡ at + length (closed (kind_name kind) space)
name_next kind at end name is e = closed_next (kind_name kind) at space end (e ∙ ap (λ (text : List ℕ). at + length text) is)

-- the field of a channel
module _ (channel : Option ℕ) (at r : ℕ) (l m : List ℕ) where
  module _ (number : ℕ) (is : channel ≡ Some number) where
    channel_voiced : decimal number ≡ channel_name channel
    unfolding channel_name
    channel_voiced = rw is refl

    pub voiced_next : r ≡ at + length (closed (decimal number) space) → r ≡ at + length (closed (channel_name channel) space)
    voiced_next e = e ∙ ap (λ (field : List ℕ). at + length (closed field space)) channel_voiced

    pub voiced_written : m ≡ sets l at (closed (decimal number) space) → m ≡ sets l at (closed (channel_name channel) space)
    voiced_written e = e ∙ ap (λ (field : List ℕ). sets l at (closed field space)) channel_voiced

  module _ (is : channel ≡ None) where
    channel_unvoiced : 0x2D ∷ 0x20 ∷ [] ≡ closed (channel_name channel) space
    unfolding closed channel_name bytes
    channel_unvoiced = rw is refl

    pub unvoiced_next : r ≡ at + 2 → r ≡ at + length (closed (channel_name channel) space)
    unvoiced_next e = e ∙ ap (λ (field : List ℕ). at + length field) channel_unvoiced

    pub unvoiced_written : m ≡ sets l at (0x2D ∷ 0x20 ∷ []) → m ≡ sets l at (closed (channel_name channel) space)
    unvoiced_written e = e ∙ ap (sets l at) channel_unvoiced

pub ruleset channels = (voiced_next, voiced_written, unvoiced_next, unvoiced_written)
