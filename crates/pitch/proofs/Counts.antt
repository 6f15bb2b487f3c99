-- The semitones of a note, as the difference of two counts.
use Prim.Native.Nat.{ℕ, zero, suc, ◌+◌, ◌-◌, ◌*◌, ◌<◌, ◌≤◌}
use mathlib.Core.Bool.{true}
use mathlib.Core.Path.{◌≡◌, refl, sym, ap, ap₂, ◌∙◌}
use native.Mathlib.Omega.{arith}
use lib.IntN.{ℤ, pos, negsuc, neg_ℤ, ◌+ℤ◌, ◌-ℤ◌, ◌*ℤ◌, +ℤ_assoc, +ℤ_comm, neg_ℤ-+ℤ}
use borrow.Author.Tests.{le-ltb, lt-ltb, le-leb, lt-leb, leb-true}
use Rattle.model.specs.Words.{◌and◌, ◌or◌, ◌≤?◌}
use Rattle.model.specs.Event.{is_shift}
use Rattle.model.specs.Pitch.{shift_of, semitones}
use Rattle.model.proofs.Tests.{if_true, if_false, and_left, and_right}

swap : (a b c : ℤ) → a +ℤ b +ℤ c ≡ a +ℤ c +ℤ b
swap a b c = +ℤ_assoc a b c ∙ ap (λ (z : ℤ). a +ℤ z) (+ℤ_comm b c) ∙ sym (+ℤ_assoc a c b)

less : (a : ℤ) (b c : ℕ) → a -ℤ pos b -ℤ pos c ≡ a -ℤ pos (b + c)
less a b c = +ℤ_assoc a (neg_ℤ (pos b)) (neg_ℤ (pos c)) ∙ ap (λ (z : ℤ). a +ℤ z) (sym (neg_ℤ-+ℤ (pos b) (pos c)))

sum : (a b c d : ℕ) → (pos a -ℤ pos b) +ℤ (pos c -ℤ pos d) ≡ pos (a + c) -ℤ pos (b + d)
sum a b c d =
    sym (+ℤ_assoc (pos a -ℤ pos b) (pos c) (neg_ℤ (pos d)))
    ∙ ap (λ (z : ℤ). z -ℤ pos d) (swap (pos a) (neg_ℤ (pos b)) (pos c))
    ∙ less (pos (a + c)) b d

-- the difference of two counts, by which is the greater
pub difference_up : (a b : ℕ) → b ≤ a → pos a -ℤ pos b ≡ pos (a - b)
difference_up a zero h = ap pos (omega arith)
difference_up a (suc b) h = rw (le-ltb a (suc b) h)

pub difference_down : (a b : ℕ) → a < b → pos a -ℤ pos b ≡ negsuc (b - suc a)
difference_down a zero h = absurd (omega arith)
difference_down a (suc b) h = rw (lt-ltb a (suc b) h)

octaves : (octave : ℕ) → pos 12 *ℤ (pos octave -ℤ pos 2) ≡ pos (12 * octave) -ℤ pos 24
octaves zero = refl
octaves (suc zero) = refl
octaves (suc (suc octave)) =
    let many : 12 * (suc (suc octave) - 2) ≡ 12 * suc (suc octave) - 24 = omega arith in
    ap (λ (z : ℤ). pos 12 *ℤ z) (difference_up (suc (suc octave)) 2 (omega arith))
    ∙ ap pos many
    ∙ sym (difference_up (12 * suc (suc octave)) 24 (omega arith))

unshifted : (octave note : ℕ) → pos 12 *ℤ (pos octave -ℤ pos 2) +ℤ (pos note -ℤ pos 9) ≡ pos (12 * octave + note) -ℤ pos 33
unshifted octave note = ap (λ (z : ℤ). z +ℤ (pos note -ℤ pos 9)) (octaves octave) ∙ sum (12 * octave) 24 note 9

downwards : (n : ℕ) → pos 12 *ℤ neg_ℤ (pos n) ≡ neg_ℤ (pos (12 * n))
downwards zero = refl
downwards (suc n) = refl

pub raised : (octave note shift : ℕ) (z : ℤ) → shift ≤ 4 → z ≡ pos (12 * octave + note + 12 * shift) -ℤ pos 33
    → z ≡ semitones octave note shift
unfolding semitones shift_of
raised octave note shift z k e =
    e
    ∙ sym (swap (pos (12 * octave + note)) (neg_ℤ (pos 33)) (pos (12 * shift)))
    ∙ ap₂ (λ (x y : ℤ). x +ℤ pos 12 *ℤ y) (sym (unshifted octave note)) (sym (if_true (shift ≤? 4) (pos shift) (neg_ℤ (pos (shift - 0x80))) (le-leb shift 4 k)))

pub lowered : (octave note shift : ℕ) (z : ℤ) → 4 < shift → z ≡ pos (12 * octave + note) -ℤ pos (33 + 12 * (shift - 0x80))
    → z ≡ semitones octave note shift
unfolding semitones shift_of
lowered octave note shift z k e =
    e
    ∙ sym (less (pos (12 * octave + note)) 33 (12 * (shift - 0x80)))
    ∙ ap₂ ◌+ℤ◌ (sym (unshifted octave note))
    (sym (downwards (shift - 0x80)) ∙ ap (λ (y : ℤ). pos 12 *ℤ y) (sym (if_false (shift ≤? 4) (pos shift) (neg_ℤ (pos (shift - 0x80))) (lt-leb shift 4 k))))

-- a shift that is not up is down
pub down : (shift : ℕ) → is_shift shift ≡ true → 4 < shift → (0x81 ≤ shift) × (shift ≤ 0x84)
unfolding is_shift ◌or◌
down shift e h =
    let both : ((0x81 ≤? shift) and (shift ≤? 0x84)) ≡ true = rw (lt-leb shift 4 h) at e in
    (leb-true 0x81 shift (and_left _ _ both), leb-true shift 0x84 (and_right _ _ both))
