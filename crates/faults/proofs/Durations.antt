-- Durations and gate times are read exactly. A byte 01 makes any of them readable.
use Prim.Native.Nat.{ℕ, ◌+◌, ◌<◌, ◌≤◌}
use mathlib.Core.List.{List, [], ◌∷◌}
use mathlib.Core.Path.{◌≡◌, refl, ◌∙◌, ap}
use lib.ListN.{length}
use native.Mathlib.Omega.{arith}
use borrow.Author.Tests.{lt-leb, leb-true, leb-false, lt-ltb, le-ltb, ltb-true, ltb-false, ne_eqb}
use Rattle.model.specs.Words.{when◌then◌else◌, ◌<?◌, ◌≤?◌, ◌≡?◌, ◌up_to◌, Checked, refused}
use Rattle.model.specs.Bytes.{◌!◌}
use Rattle.model.specs.Duration.{two_byte_value, duration_at, not_zero, gate_at}
use Rattle.std.specs.Prelude.{Ok, Err}
use Rattle.model.specs.declared.Read.{Read}
use Rattle.model.proofs.Tests.{by_test, if_true, if_false, if_all}
use Rattle.faults.proofs.Agreement.{Agree}
use Rattle.faults.proofs.Exact.{Seen, Seen.ends, Seen.fails, Mended, Exact, exact_ends, exact_wrong, exact_as, exact_if, exact_cut, exact_byte, mended_end}

abbrev pub duration_seen : Checked (Read ℕ) → Seen
duration_seen (Ok read) = ends read.next
duration_seen (Err why) = fails why.number why.place

-- what follows a first byte with its top bit set
second_at : ℕ → ℕ → List ℕ → Checked (Read ℕ)
second_at at first s =
    when length s ≤? at + 1 then refused 20 (length s) else
    when s ! (at + 1) <? 128 then Ok ((two_byte_value first (s ! (at + 1))) up_to (at + 2)) else
    refused 23 (at + 1)

-- TWO BYTES, of a duration or of what is made of one that is not 0
module _ (made : Checked (Read ℕ) → Checked (Read ℕ)) (kept : (value next : ℕ) → 0 < value → made (Ok (value up_to next)) ≡ Ok (value up_to next))
    (refuses : (number place : ℕ) → made (refused number place) ≡ refused number place) (at : ℕ) where
  two_read : (t : List ℕ) → at < length t → 128 ≤ t ! at → made (duration_at t at) ≡ second_at at (t ! at) t
  unfolding duration_at second_at when◌then◌else◌
  two_read t here two =
      let is : duration_at t at ≡ second_at at (t ! at) t = simp (lt-leb, le-ltb) in
      ap made is
      ∙ if_all (λ (d : Checked (Read ℕ)). made d ≡ d) (length t ≤? at + 1) _ _ (λ h. refuses 20 (length t))
      (λ h. if_all (λ (d : Checked (Read ℕ)). made d ≡ d) (t ! (at + 1) <? 128) _ _ (λ i. kept _ (at + 2) (omega arith)) (λ i. refuses 23 (at + 1)))

  module _ (s : List ℕ) (here : at < length s) (two : 128 ≤ s ! at) where
    read_as : (t : List ℕ) → Agree (at + 1) s t → made (duration_at t at) ≡ second_at at (s ! at) t
    read_as t a =
        let first = a.same at (omega arith) in
        two_read t (omega arith) (omega arith) ∙ ap (λ (byte : ℕ). second_at at byte t) first

    second_mended : Mended duration_seen s (λ t. made (duration_at t at)) (at + 1)
    unfolding second_at when◌then◌else◌
    second_mended =
        record {
          rest = 0x01 ∷ [];
          bytes = omega arith;
          reads = λ t c.
              let room : at + 1 < length t = omega arith in
              let second : t ! (at + 1) ≡ 0x01 = c.then_byte (at + 1) 0 (omega arith) (omega arith) in
              let next : at + 2 ≡ at + 1 + 1 = omega arith in
              ap duration_seen (read_as t c.front) ∙ simp (lt-leb, second, next);
        }

    two_exact : Exact duration_seen s (λ t. made (duration_at t at)) (λ t. made (duration_at t at)) at
    unfolding second_at
    two_exact =
        exact_as duration_seen s _ (second_at at (s ! at)) _ at at (at + 1) (omega arith) read_as
        (exact_byte duration_seen s _ (refused 20) (λ end. refl) at (at + 1)
        (λ second t. when second <? 128 then Ok ((two_byte_value (s ! at) second) up_to (at + 2)) else refused 23 (at + 1)) (omega arith)
        (mended_end duration_seen s _ (at + 1) (omega arith) second_mended)
        (λ room. exact_if duration_seen s _ (at + 1) (s ! (at + 1) <? 128) _ _ (λ h. exact_ends duration_seen s _ (at + 1) refl (omega arith))
        (λ h. exact_wrong duration_seen s _ (at + 1) refl second_mended (omega arith))))

module _ (s : List ℕ) (at : ℕ) where
  pub duration_exact : at < length s → Exact duration_seen s (λ t. duration_at t at) (λ t. duration_at t at) at
  unfolding duration_at when◌then◌else◌
  duration_exact here =
      by_test (s ! at <? 128)
      (λ h. exact_as duration_seen s _ (λ t. (Ok ((s ! at) up_to (at + 1)))) _ at at (at + 1) (omega arith)
      (λ t a.
      let room : at < length t = omega arith in
      let first = a.same at (omega arith) in
      simp (lt-leb, first, h))
      (exact_ends duration_seen s _ at refl (omega arith)))
      (λ h. two_exact (λ d. d) (λ value next some. refl) (λ number place. refl) at s here (ltb-false _ _ h))

  gate_mended : at ≤ length s → Mended duration_seen s (λ t. gate_at t at) at
  unfolding gate_at not_zero duration_at when◌then◌else◌
  gate_mended within =
      record {
        rest = 0x01 ∷ [];
        bytes = omega arith;
        reads = λ t c.
            let room : at < length t = omega arith in
            let byte : t ! at ≡ 0x01 = c.then_byte at 0 (omega arith) (omega arith) in
            simp (lt-leb, byte);
      }

  -- a gate time of one byte
  gate_read : (t : List ℕ) → at < length t → t ! at < 128 → gate_at t at ≡ (when t ! at ≡? 0 then refused 21 at else Ok ((t ! at) up_to (at + 1)))
  unfolding gate_at not_zero duration_at when◌then◌else◌
  gate_read t here one = simp (lt-leb, lt-ltb)

  pub gate_exact : at ≤ length s → Exact duration_seen s (λ t. gate_at t at) (λ t. gate_at t at) at
  unfolding gate_at not_zero duration_at
  gate_exact within =
      by_test (length s ≤? at)
      (λ h. exact_cut duration_seen s _ (refused 20) (λ end. refl) at _ (ap (not_zero at) (if_true _ _ _ h)) within
      (mended_end duration_seen s _ at within (gate_mended within) (leb-true _ _ h)))
      (λ h.
      let here = leb-false (length s) at h in
      by_test (s ! at <? 128)
      (λ i. exact_as duration_seen s _ (λ t. when s ! at ≡? 0 then refused 21 at else Ok ((s ! at) up_to (at + 1))) _ at at (at + 1) (omega arith)
      (λ t a.
      let first = a.same at (omega arith) in
      gate_read t (omega arith) (omega (arith, ltb-true)) ∙ ap (λ (byte : ℕ). when byte ≡? 0 then refused 21 at else Ok (byte up_to (at + 1))) first)
      (exact_if duration_seen s _ at (s ! at ≡? 0) _ _ (λ j. exact_wrong duration_seen s _ at refl (gate_mended within) (omega arith))
      (λ j. exact_ends duration_seen s _ at refl (omega arith))))
      (λ i. two_exact (not_zero at) (λ value next some. if_false _ _ _ (ne_eqb value 0 (λ e. omega arith))) (λ number place. refl) at s here (ltb-false _ _ i)))
