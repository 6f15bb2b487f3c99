-- The letters of phrases and order lists: where they lie among the bytes, and how many stand in front.
use Prim.Native.Nat.{ℕ, zero, suc, ◌+◌, ◌-◌, ◌<◌, ◌≤◌}
use mathlib.Core.List.{List, [], ◌∷◌}
use mathlib.Core.Bool.{Bool, true, false, false≢true}
use mathlib.Core.Path.{◌≡◌, refl, sym, ◌∙◌, ap, subst}
use native.Mathlib.Nat.{add-zero, zero-add}
use native.Mathlib.Omega.{arith}
use mir.Syntax.{w64}
use mir.Val.{Fits}
use lib.ListN.{length, drop, get_or, length-drop}
use native.Mathlib.Decide.{dec_lt}
use lib.Seq.{drop-cons, drop-length, get_or-drop}
use borrow.Author.Tests.{le-leb, lt-leb, ne_eqb}
use Rattle.model.specs.Words.{when◌then◌else◌, ◌and◌, ◌or◌, ◌≡?◌, any}
use Rattle.model.specs.Seek.{is_letter, letters_in_front}
use Rattle.model.proofs.Tests.{by_test, if_all, if_true, if_false, flag_on, flag_off}

-- a byte apart from all of a list
abbrev Apart : ℕ → List ℕ → Type 0
Apart byte [] = Unit
Apart byte (letter ∷ letters) = (letter ≡ byte → ⊥) × Apart byte letters

apart_none : (byte : ℕ) (letters : List ℕ) → Apart byte letters → any (λ letter. letter ≡? byte) letters ≡ false
unfolding any ◌or◌
apart_none byte [] a = refl
apart_none byte (letter ∷ letters) a = rw (ne_eqb letter byte a.0) (apart_none byte letters a.1)

module _ (byte : ℕ) where
  pub letter_past : 0x7A < byte → false ≡ is_letter byte
  unfolding is_letter ◌and◌ ◌or◌
  letter_past h =
      let some : 0x61 ≤ byte = omega arith in
      simp (lt-leb, le-leb, apart_none byte (0x41 ∷ 0x42 ∷ 0x45 ∷ 0x49 ∷ 0x4B ∷ 0x53 ∷ 0x52 ∷ []) (omega arith))

  letter_before : byte < 0x41 → false ≡ is_letter byte
  unfolding is_letter ◌and◌ ◌or◌
  letter_before h =
      let few : byte < 0x61 = omega arith in
      simp (lt-leb, apart_none byte (0x41 ∷ 0x42 ∷ 0x45 ∷ 0x49 ∷ 0x4B ∷ 0x53 ∷ 0x52 ∷ []) (omega arith))

  pub letter_small : 0x61 ≤ byte → byte ≤ 0x7A → true ≡ is_letter byte
  unfolding is_letter ◌and◌ ◌or◌
  letter_small h g = simp le-leb

  -- a letter is one of the bytes from A to z
  pub letter_least : is_letter byte ≡ true → 0x41 ≤ byte
  letter_least h = elim (dec_lt byte 0x41) [ yes q ↦ absurd (false≢true (letter_before q ∙ h)) | no q ↦ omega arith ]

  pub letter_most : is_letter byte ≡ true → byte ≤ 0x7A
  letter_most h = elim (dec_lt 0x7A byte) [ yes q ↦ absurd (false≢true (letter_past q ∙ h)) | no q ↦ omega arith ]

-- letters in front

letters_within : (s : List ℕ) → letters_in_front s ≤ length s
unfolding letters_in_front
letters_within [] = omega arith
letters_within (byte ∷ bytes) =
    if_all (λ (n : ℕ). n ≤ suc (length bytes)) (is_letter byte) _ _ (λ h. omega (arith, letters_within bytes)) (λ h. omega arith)

pub letters_reach : (s : List ℕ) (at : ℕ) → at ≤ length s → at + letters_in_front (drop at s) ≤ length s
letters_reach s at h = omega (arith, letters_within (drop at s), length-drop at s)

-- each of them is a letter

some_in_front : (byte : ℕ) (bytes : List ℕ) (i : ℕ) → i < letters_in_front (byte ∷ bytes) → (is_letter byte ≡ true) × (i ≤ letters_in_front bytes)
unfolding letters_in_front
some_in_front byte bytes i h =
    by_test (is_letter byte)
    (λ one. let k = subst (λ (n : ℕ). i < n) (if_true _ _ _ one) h in (one, omega arith))
    (λ other. let k = subst (λ (n : ℕ). i < n) (if_false _ _ _ other) h in absurd (omega arith))

letter_in_front : (s : List ℕ) (i : ℕ) → i < letters_in_front s → is_letter (get_or s i 0) ≡ true
letter_in_front [] i h = absurd (omega (arith, letters_within []))
letter_in_front (byte ∷ bytes) zero h = (some_in_front byte bytes 0 h).0
letter_in_front (byte ∷ bytes) (suc i) h = letter_in_front bytes i (some_in_front byte bytes (suc i) h).1

pub letter_among : (s : List ℕ) (at i : ℕ) → i < letters_in_front (drop at s) → is_letter (get_or s (at + i) 0) ≡ true
letter_among s at i h = ap is_letter (sym (get_or-drop at s i 0)) ∙ letter_in_front (drop at s) i h

pub letters_fit : (s : List ℕ) (at count : ℕ) → count ≡ letters_in_front (drop at s) → at ≤ length s → length s ≤ 65536 → Fits w64 (at + count)
letters_fit s at count e h small = record { fits = omega (arith, letters_reach s at h) }

-- so many letters are counted from a place on
pub record Counting (s : List ℕ) (at count : ℕ) : Type 0 where
  pub within : at + count ≤ length s
  pub same : count + letters_in_front (drop (at + count) s) ≡ letters_in_front (drop at s)

pub letters_start : (s : List ℕ) (at : ℕ) → at ≤ length s → Counting s at 0
letters_start s at h = record { within = omega arith; same = simp (zero-add, add-zero) }

module _ (s : List ℕ) (at count : ℕ) (r : Counting s at count) where
  pub letters_end : length s - at ≤ count → count ≡ letters_in_front (drop at s)
  unfolding letters_in_front
  letters_end past =
      let end : length s ≡ at + count = omega (arith, r.within) in
      let none : letters_in_front (drop (at + count) s) ≡ 0 = rw (← end, drop-length) refl in
      sym (add-zero count) ∙ ap (λ (n : ℕ). count + n) (sym none) ∙ r.same

  module _ (here : count < length s - at) where
    in_front : letters_in_front (drop (at + count) s) ≡ (when is_letter (get_or s (at + count) 0) then suc (letters_in_front (drop (suc (at + count)) s)) else 0)
    unfolding letters_in_front
    in_front = let there : at + count < length s = omega arith in rw (drop-cons s (at + count) 0)

    pub letters_stop : is_letter (get_or s (at + count) 0) ≡ false → count ≡ letters_in_front (drop at s)
    letters_stop other =
        sym (add-zero count) ∙ ap (λ (n : ℕ). count + n) (sym (in_front ∙ if_false _ _ _ other)) ∙ r.same

    pub letters_more : is_letter (get_or s (at + count) 0) ≡ true → Counting s at (count + 1)
    letters_more one =
        let on : at + (count + 1) ≡ suc (at + count) = omega arith in
        let e = in_front ∙ if_true _ _ _ one in
        record {
          within = omega arith;
          same = rw on (omega (arith, e, r.same));
        }

pub ruleset counting = (letters_start, letters_end, letters_stop, letters_more, flag_on, flag_off)

-- the last of a chain of tests
pub or_none : (a z : Bool) → z ≡ a → z ≡ (a or false)
unfolding ◌or◌
or_none true z h = h
or_none false z h = h

pub ruleset letters = (letter_past, letter_small, or_none)
