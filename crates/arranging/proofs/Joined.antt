-- The stretches of a track, put together, are the track that is given there.
use Prim.Native.Nat.{ℕ, ◌+◌, ◌-◌, ◌≤◌}
use mathlib.Core.Bool.{true}
use mathlib.Core.List.{List, [], ◌∷◌}
use mathlib.Core.Path.{◌≡◌, refl, ◌∙◌, ap}
use lib.ListN.{length, take, drop}
use lib.Seq.{sets, get_or-take, take-take}
use native.Mathlib.Omega.{arith}
use Rattle.model.specs.Words.{told_at, Checked}
use Rattle.model.specs.Bytes.{◌!◌, part}
use Rattle.model.specs.Item.{is_fine}
use Rattle.model.specs.Tables.{Given, first_given, track_given}
use Rattle.model.proofs.Parts.{part_length}
use Rattle.arranging.specs.declared.tables.Stretches.{Stretches}
use Rattle.arranging.specs.Apart.{given_at, Apart}
use Rattle.arranging.specs.Stages.{given_of, track_answer, track_given_bytes}

-- a part of the first seven bytes
head_part : (l : List ℕ) → part (take 7 l) 1 6 ≡ part l 1 6
head_part [] = refl
head_part (byte ∷ bytes) = take-take 6 6 bytes (omega arith)

module _ (numbers bytes : List ℕ) (p q : ℕ) (r : Stretches) (apart : Apart numbers bytes p q r) where
  abbrev there : Given
  there =
      given_of (part bytes q (q + 7 - q)) (part numbers (p + 4) (r.items - (p + 4))) (part numbers r.items (r.numbers - r.items))
      (part bytes (q + 7) (r.source - (q + 7))) (part bytes r.source (r.bytes - r.source))

  joined : there ≡ given_at numbers bytes p q
  unfolding first_given
  joined =
      let seven : q + 7 - q ≡ 7 = omega arith in
      let number : take 7 (drop q bytes) ! 0 ≡ drop q bytes ! 0 = get_or-take 7 (drop q bytes) 0 0 (omega arith) in
      rw (seven, number, head_part (drop q bytes), apart.entries, apart.items, apart.letters, apart.source) refl

  pub head_length : length (part bytes q (q + 7 - q)) ≡ 7
  head_length = part_length bytes q (q + 7 - q) (omega (arith, apart.letters_from, apart.source_from, apart.bytes_to)) ∙ omega arith

  pub at_answer : (index : ℕ) (z : Checked ℕ) → z ≡ track_answer (told_at index (track_given there)) → z ≡ track_answer (told_at index (track_given (given_at numbers bytes p q)))
  at_answer index z e = e ∙ ap (λ (g : Given). track_answer (told_at index (track_given g))) joined

  pub at_fine : is_fine (track_given (given_at numbers bytes p q)) ≡ true → is_fine (track_given there) ≡ true
  at_fine h = ap (λ (g : Given). is_fine (track_given g)) joined ∙ h

  same_bytes : track_given_bytes (track_given there) ≡ track_given_bytes (track_given (given_at numbers bytes p q))
  same_bytes = ap (λ (g : Given). track_given_bytes (track_given g)) joined

  pub at_few : length (track_given_bytes (track_given (given_at numbers bytes p q))) ≤ 65536 → length (track_given_bytes (track_given there)) ≤ 65536
  at_few h = rw same_bytes h

  module _ (l : List ℕ) (at : ℕ) where
    pub at_room : at + length (track_given_bytes (track_given (given_at numbers bytes p q))) ≤ length l → at + length (track_given_bytes (track_given there)) ≤ length l
    at_room h = rw same_bytes h

    pub at_next : (n : ℕ) → n ≡ at + length (track_given_bytes (track_given there)) → n ≡ at + length (track_given_bytes (track_given (given_at numbers bytes p q)))
    at_next n e = e ∙ ap (λ (b : List ℕ). at + length b) same_bytes

    pub at_wrote : (m : List ℕ) → m ≡ sets l at (track_given_bytes (track_given there)) → m ≡ sets l at (track_given_bytes (track_given (given_at numbers bytes p q)))
    at_wrote m e = e ∙ ap (sets l at) same_bytes

pub ruleset joining = (head_length, at_answer, at_fine, at_room, at_few, at_next, at_wrote)
