-- What follows a place of a list: that it begins with some bytes is said by an equation, `drop at s ≡ bytes ++ rest`, and these laws go on from there.
use Prim.Native.Nat.{ℕ, ◌+◌}
use mathlib.Core.List.{List, ◌++◌}
use mathlib.Core.Path.{◌≡◌, sym, ◌∙◌, ap}
use lib.ListN.{length, take, drop, take-append-drop}
use lib.Seq.{take-append_seam, drop-append_seam, drop-drop}
use Rattle.model.specs.Bytes.{part}

module _ (s : List ℕ) (at : ℕ) (bytes rest : List ℕ) (e : drop at s ≡ bytes ++ rest) where
  -- behind the bytes is the rest
  pub follows_behind : drop (at + length bytes) s ≡ rest
  follows_behind = sym (drop-drop (length bytes) at s) ∙ ap (drop (length bytes)) e ∙ drop-append_seam bytes rest

  pub follows_part : part s at (length bytes) ≡ bytes
  follows_part = ap (take (length bytes)) e ∙ take-append_seam bytes rest

-- a part that is known begins what follows
pub part_follows : (s : List ℕ) (at size : ℕ) (bytes : List ℕ) → part s at size ≡ bytes → drop at s ≡ bytes ++ drop (at + size) s
part_follows s at size bytes e =
    sym (take-append-drop size (drop at s)) ∙ ap (λ (l : List ℕ). l ++ drop size (drop at s)) e ∙ ap (λ (l : List ℕ). bytes ++ l) (drop-drop size at s)
