-- Demand 2: two bodies of one voice that read to the same items are the same bytes.
use Prim.Native.Nat.{ℕ, ◌<◌}
use mathlib.Core.List.{List}
use mathlib.Core.Path.{◌≡◌, sym, ◌∙◌, ap}
use Rattle.model.specs.Words.{Placed}
use Rattle.std.specs.Prelude.{Ok}
use Rattle.model.specs.Bytes.{◌!◌}
use Rattle.model.specs.Item.{Item, body_of}
use Rattle.model.specs.Plain.{bytes_of}
use Rattle.model.specs.Content.{contents_in, handy_phone}
use Rattle.model.specs.declared.Voice.{Voice}
use Rattle.model.specs.declared.Event.{Event}
use Rattle.inverse.proofs.ReadWrites.{body_writes}

pub same_bytes : (voice : Voice) (s t : List ℕ) → ((k : ℕ) → s ! k < 256) → ((k : ℕ) → t ! k < 256) → (p q : List (Placed (Item Event)))
    → body_of voice s ≡ Ok p → body_of voice t ≡ Ok q → contents_in s p ≡ contents_in t q → s ≡ t
same_bytes voice s t b c p q e f same =
    sym (body_writes voice s b p e) ∙ ap (bytes_of handy_phone) same ∙ body_writes voice t c q f
