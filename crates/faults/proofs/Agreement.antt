-- Bodies that AGREE on their first bytes, and one that goes on from the first bytes of another with bytes of its own.
use Prim.Native.Nat.{ℕ, zero, suc, ◌+◌, ◌<◌, ◌≤◌}
use mathlib.Core.List.{List, [], ◌∷◌, ◌++◌}
use mathlib.Core.Path.{◌≡◌, refl, ◌∙◌, ap}
use lib.ListN.{length, take, length-append, get_or-append}
use lib.Seq.{length-take-le, get_or-take, get_or-append-add}
use native.Mathlib.Omega.{arith}
use Rattle.model.specs.Bytes.{◌!◌}

pub record Agree (count : ℕ) (s t : List ℕ) : Type 0 where
  pub within : count ≤ length s
  pub room : count ≤ length t
  pub same : (i : ℕ) → i < count → t ! i ≡ s ! i

pub agree_fewer : (fewer count : ℕ) (s t : List ℕ) → fewer ≤ count → Agree count s t → Agree fewer s t
agree_fewer fewer count s t h a = record { within = omega arith; room = omega arith; same = λ i k. a.same i (omega arith) }

pub agree_itself : (count : ℕ) (s : List ℕ) → count ≤ length s → Agree count s s
agree_itself count s h = record { within = h; room = h; same = λ i k. refl }

-- a body of so many bytes of s, then those of rest, and any others behind
pub record Continued (s : List ℕ) (place : ℕ) (rest t : List ℕ) : Type 0 where
  pub front : Agree place s t
  pub room : place + length rest ≤ length t
  pub then_byte : (at i : ℕ) → at ≡ place + i → i < length rest → t ! at ≡ rest ! i

module _ (s : List ℕ) (place : ℕ) where
  pub continued_first : (first second t : List ℕ) → Continued s place (first ++ second) t → Continued s place first t
  continued_first first second t c =
      let n = length-append first second in
      record {
        front = c.front;
        room = omega arith;
        then_byte = λ at i e h. c.then_byte at i e (omega arith) ∙ get_or-append first second 0 i h;
      }

  pub continues : place ≤ length s → (rest : List ℕ) → Continued s place rest (take place s ++ rest)
  continues within rest =
      let front = take place s in
      let n = length-append front rest in
      let m = length-take-le place s within in
      record {
        front = record {
          within = within;
          room = omega arith;
          same = λ i h. get_or-append front rest 0 i (omega arith) ∙ get_or-take place s i 0 h;
        };
        room = omega arith;
        then_byte = λ at i e h.
            let there : at ≡ length front + i = omega arith in
            ap (λ (k : ℕ). (front ++ rest) ! k) there ∙ get_or-append-add front rest i 0;
      }

-- every one of some bytes is one
abbrev pub AreBytes : List ℕ → Type 0
AreBytes [] = Unit
AreBytes (byte ∷ rest) = (byte < 256) × AreBytes rest

pub each_byte : (list : List ℕ) → AreBytes list → (k : ℕ) → list ! k < 256
each_byte [] h k = omega arith
each_byte (byte ∷ rest) h zero = h.0
each_byte (byte ∷ rest) h (suc k) = each_byte rest h.1 k
