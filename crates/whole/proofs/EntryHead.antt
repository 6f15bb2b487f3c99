-- The head of an entry, two tag bytes and a colon, as what stands from a place on says it, and how the reader goes by it.
use Prim.Native.Nat.{ℕ, ◌+◌, ◌/◌, ◌%◌, ◌≤◌}
use mathlib.Core.List.{List, [], ◌∷◌}
use mathlib.Core.Bool.{true}
use mathlib.Core.Path.{◌≡◌, refl, sym, ◌∙◌, ap}
use lib.ListN.{length, drop, get_or, length-drop}
use lib.Seq.{drop-drop, get_or-drop}
use native.Mathlib.Nat.{add-zero}
use native.Mathlib.Omega.{arith}
use borrow.Author.Tests.{le-ltb, ne_eqb}
use Rattle.model.specs.Words.{when◌then◌else◌, ◌and◌}
use Rattle.model.specs.Bytes.{◌!◌, number}
use Rattle.model.specs.Seek.{is_letter, data_at, phrase_at, entry_at}
use Rattle.model.specs.ChunkBytes.{number_bytes}

-- three bytes, and what stands behind them
pub record Head (s : List ℕ) (at a b c : ℕ) (behind : List ℕ) : Type 0 where
  pub first : s ! at ≡ a
  pub second : s ! (at + 1) ≡ b
  pub third : s ! (at + 2) ≡ c
  pub after : drop (at + 3) s ≡ behind
  pub long : at + 3 + length behind ≡ length s

pub head_stands : (s : List ℕ) (at a b c : ℕ) (behind : List ℕ) → drop at s ≡ a ∷ b ∷ c ∷ behind → Head s at a b c behind
head_stands s at a b c behind e =
    record {
      first = ap (λ (n : ℕ). s ! n) (sym (add-zero at)) ∙ sym (get_or-drop at s 0 0) ∙ ap (λ (l : List ℕ). get_or l 0 0) e;
      second = sym (get_or-drop at s 1 0) ∙ ap (λ (l : List ℕ). get_or l 1 0) e;
      third = sym (get_or-drop at s 2 0) ∙ ap (λ (l : List ℕ). get_or l 2 0) e;
      after = sym (drop-drop 3 at s) ∙ ap (drop 3) e;
      long = omega (arith, length-drop at s, ap length e);
    }

-- the tag as two bytes
pub tag_bytes : (n : ℕ) → number_bytes 2 n ≡ n / 256 % 256 ∷ n % 256 ∷ []
unfolding number_bytes
tag_bytes n = refl

module _ (width : ℕ) (s : List ℕ) (at : ℕ) (room : at + 3 ≤ length s) (colon : s ! (at + 2) ≡ 0x3A) where
  pub other_tag : (tagged : ℕ) → (s ! at ≡ 0x50 → ⊥) → number 2 s at ≡ tagged → entry_at width s at ≡ data_at width s tagged (at + 3)
  unfolding entry_at when◌then◌else◌ ◌and◌
  other_tag tagged other is = simp (le-ltb, colon, ne_eqb, is)

  pub phrase_tag : (letter : ℕ) → s ! at ≡ 0x50 → s ! (at + 1) ≡ letter → is_letter letter ≡ true → entry_at width s at ≡ phrase_at s letter (at + 3)
  unfolding entry_at when◌then◌else◌ ◌and◌
  phrase_tag letter p l known = simp (le-ltb, colon, p, l, known)
