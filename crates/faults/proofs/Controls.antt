-- Controls are read exactly. A second byte 3B (expression, which both voices have) and a value 00 make one readable.
use Prim.Native.Nat.{ℕ, ◌+◌, ◌/◌, ◌%◌, ◌<◌, ◌≤◌}
use mathlib.Core.Bool.{true, false, not}
use mathlib.Core.List.{List, [], ◌∷◌}
use mathlib.Core.Path.{◌≡◌, refl}
use lib.ListN.{length}
use native.Mathlib.Omega.{arith}
use borrow.Author.Tests.{lt-leb}
use Rattle.model.specs.Words.{when◌then◌else◌, ◌and◌, ◌or◌, ◌≤?◌, ◌≡?◌, ◌up_to◌, Checked, refused}
use Rattle.model.specs.Bytes.{◌!◌}
use Rattle.model.specs.Event.{has_kind, is_shift, is_value, long_kind, short_kind, long_at, short_at, formed, control_at}
use Rattle.model.specs.declared.Voice.{Voice}
use Rattle.model.specs.declared.Voice.TheVariants.{Score, Pcm}
use Rattle.model.specs.declared.Event.TheVariants.{Control}
use Rattle.std.specs.Prelude.{Ok, Err}
use Rattle.model.specs.declared.Read.{Read}
use Rattle.model.specs.declared.Event.{Event}
use Rattle.model.proofs.Tests.{if_all}
use Rattle.faults.proofs.Exact.{Seen, Seen.ends, Seen.fails, Mended, Exact, exact_ends, exact_wrong, exact_if, exact_byte, mended_end}

abbrev pub event_seen : Checked (Read Event) → Seen
event_seen (Ok read) = ends read.next
event_seen (Err why) = fails why.number why.place

-- a kind that both voices have
pub shared_kind : (voice : Voice) (kind : ℕ) → ((7 ≤? kind) and not (kind ≡? 11)) ≡ true → has_kind voice kind ≡ true
unfolding has_kind
shared_kind Score kind h = refl
shared_kind Pcm kind h = h

zero_is_value : (kind : ℕ) → is_value kind 0 ≡ true
unfolding is_value is_shift ◌or◌
zero_is_value kind =
    if_all (λ b. b ≡ true) (kind ≡? 4) _ _ (λ h. refl) (λ h. if_all (λ b. b ≡ true) (kind ≡? 5) _ _ (λ i. refl) (λ i. refl))

module _ (voice : Voice) (s : List ℕ) (at : ℕ) where
  control_mended : at + 1 ≤ length s → Mended event_seen s (λ t. control_at voice t at) (at + 1)
  unfolding control_at formed long_at is_value when◌then◌else◌ ◌and◌
  control_mended within =
      record {
        rest = 0x3B ∷ 0x00 ∷ [];
        bytes = omega arith;
        reads = λ t c.
            let room : at + 1 < length t = omega arith in
            let more : at + 2 < length t = omega arith in
            let second : t ! (at + 1) ≡ 0x3B = c.then_byte (at + 1) 0 (omega arith) (omega arith) in
            let third : t ! (at + 2) ≡ 0x00 = c.then_byte (at + 2) 1 (omega arith) (omega arith) in
            let next : at + 3 ≡ at + 1 + 2 = omega arith in
            simp (lt-leb, second, third, shared_kind voice 10 refl, next);
      }

  value_mended : at + 1 < length s → (s ! (at + 1) / 16 % 4 ≡? 3) ≡ true → (long_kind (s ! (at + 1) % 16) ≡? 0) ≡ false
      → not (has_kind voice (long_kind (s ! (at + 1) % 16))) ≡ false → Mended event_seen s (λ t. control_at voice t at) (at + 2)
  unfolding control_at formed long_at when◌then◌else◌
  value_mended within long some has =
      record {
        rest = 0x00 ∷ [];
        bytes = omega arith;
        reads = λ t c.
            let room : at + 1 < length t = omega arith in
            let more : at + 2 < length t = omega arith in
            let second = c.front.same (at + 1) (omega arith) in
            let third : t ! (at + 2) ≡ 0x00 = c.then_byte (at + 2) 0 (omega arith) (omega arith) in
            let next : at + 3 ≡ at + 2 + 1 = omega arith in
            simp (lt-leb, second, third, long, some, has, zero_is_value, next);
      }

  module _ (here : at + 1 ≤ length s) where
    long_exact : at + 1 < length s → (s ! (at + 1) / 16 % 4 ≡? 3) ≡ true
        → Exact event_seen s (λ t. control_at voice t at) (λ t. long_at voice t at (s ! (at + 1) / 64) (long_kind (s ! (at + 1) % 16))) (at + 1)
    unfolding long_at
    long_exact room long =
        exact_if event_seen s _ (at + 1) (long_kind (s ! (at + 1) % 16) ≡? 0) _ _ (λ h. exact_wrong event_seen s _ (at + 1) refl (control_mended here) (omega arith))
        (λ h. exact_if event_seen s _ (at + 1) (not (has_kind voice (long_kind (s ! (at + 1) % 16)))) _ _ (λ i. exact_wrong event_seen s _ (at + 1) refl (control_mended here) (omega arith))
        (λ i. exact_byte event_seen s _ (refused 20) (λ end. refl) (at + 1) (at + 2)
        (λ value t.
        when is_value (long_kind (s ! (at + 1) % 16)) value then Ok ((Control (long_kind (s ! (at + 1) % 16)) (s ! (at + 1) / 64) value) up_to (at + 3)) else
        refused 23 (at + 2))
        (omega arith) (mended_end event_seen s _ (at + 2) (omega arith) (value_mended room long h i))
        (λ more. exact_if event_seen s _ (at + 2) (is_value (long_kind (s ! (at + 1) % 16)) (s ! (at + 2))) _ _
        (λ k. exact_ends event_seen s _ (at + 2) refl (omega arith))
        (λ k. exact_wrong event_seen s _ (at + 2) refl (value_mended room long h i) (omega arith)))))

    short_exact : at + 1 < length s
        → Exact event_seen s (λ t. control_at voice t at) (λ t. short_at voice at (s ! (at + 1) / 64) (short_kind (s ! (at + 1) / 16 % 4)) (s ! (at + 1) % 16)) (at + 1)
    unfolding short_at
    short_exact room =
        exact_if event_seen s _ (at + 1) (not (has_kind voice (short_kind (s ! (at + 1) / 16 % 4)))) _ _ (λ h. exact_wrong event_seen s _ (at + 1) refl (control_mended here) (omega arith))
        (λ h. exact_if event_seen s _ (at + 1) (s ! (at + 1) % 16 ≡? 0) _ _ (λ i. exact_wrong event_seen s _ (at + 1) refl (control_mended here) (omega arith))
        (λ i. exact_if event_seen s _ (at + 1) (s ! (at + 1) % 16 ≡? 15) _ _ (λ j. exact_wrong event_seen s _ (at + 1) refl (control_mended here) (omega arith))
        (λ j. exact_ends event_seen s _ (at + 1) refl (omega arith))))

    pub control_exact : Exact event_seen s (λ t. control_at voice t at) (λ t. control_at voice t at) (at + 1)
    unfolding control_at formed
    control_exact =
        exact_byte event_seen s _ (refused 20) (λ end. refl) (at + 1) (at + 1) (λ second t. formed voice t at second) (omega arith)
        (mended_end event_seen s _ (at + 1) here (control_mended here))
        (λ room. exact_if event_seen s _ (at + 1) (s ! (at + 1) / 16 % 4 ≡? 3) _ _ (long_exact room) (λ h. short_exact room))
