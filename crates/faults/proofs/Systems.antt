-- NOPs and exclusives are read exactly. A second byte 00 makes a NOP; a size 03 and its bytes make an exclusive, and so do zeros up to the last
-- byte of the size that it has, and F7 there.
use Prim.Native.Nat.{ℕ, zero, suc, ◌+◌, ◌-◌, ◌<◌, ◌≤◌}
use mathlib.Core.List.{List, [], ◌∷◌, ◌++◌}
use mathlib.Core.Path.{◌≡◌, refl, ◌∙◌}
use lib.ListN.{length, replicate, length-append, length-replicate}
use lib.Seq.{get_or_at}
use native.Mathlib.Omega.{arith}
use borrow.Author.Tests.{lt-leb, le-ltb, ltb-false, eqb-true}
use Rattle.model.specs.Words.{when◌then◌else◌, ◌<?◌, ◌≡?◌, ◌up_to◌, refused}
use Rattle.model.specs.Bytes.{◌!◌}
use Rattle.model.specs.Event.{closed_at, exclusive_at, system_at}
use Rattle.model.specs.declared.Event.TheVariants.{Nop, Exclusive}
use Rattle.std.specs.Prelude.{Ok}
use Rattle.faults.proofs.Agreement.{AreBytes}
use Rattle.faults.proofs.Exact.{Mended, Exact, exact_ends, exact_wrong, exact_if, exact_byte, exact_part, mended_end}
use Rattle.faults.proofs.Controls.{event_seen}

-- so many zeros, and F7
abbrev ending : ℕ → List ℕ
ending count = replicate count 0x00 ++ (0xF7 ∷ [])

ending_bytes : (count : ℕ) → AreBytes (ending count)
ending_bytes zero = omega arith
ending_bytes (suc count) = (omega arith, ending_bytes count)

module _ (s : List ℕ) (at : ℕ) where
  size_mended : at + 2 ≤ length s → Mended event_seen s (λ t. exclusive_at t at) (at + 2)
  unfolding exclusive_at closed_at when◌then◌else◌
  size_mended within =
      record {
        rest = 0x03 ∷ 0x00 ∷ 0x00 ∷ 0xF7 ∷ [];
        bytes = omega arith;
        reads = λ t c.
            let room : at + 2 < length t = omega arith in
            let more : at + 2 + 3 < length t = omega arith in
            let size : t ! (at + 2) ≡ 0x03 = c.then_byte (at + 2) 0 (omega arith) (omega arith) in
            let last : t ! (at + 2 + 3) ≡ 0xF7 = c.then_byte (at + 2 + 3) 3 (omega arith) (omega arith) in
            let next : at + 2 + 3 + 1 ≡ at + 2 + 4 = omega arith in
            simp (lt-leb, size, last, next);
      }

  -- inside an exclusive, past its size
  ending_mended : (place : ℕ) → at + 2 < place → place ≤ at + 2 + s ! (at + 2) → place ≤ length s → 3 ≤ s ! (at + 2)
      → Mended event_seen s (λ t. exclusive_at t at) place
  unfolding exclusive_at closed_at when◌then◌else◌
  ending_mended place past before within enough =
      let count = at + 2 + s ! (at + 2) - place in
      let zeros : List ℕ = replicate count 0x00 in
      let many : length zeros ≡ count = length-replicate count 0x00 in
      let long = length-append zeros (0xF7 ∷ []) in
      record {
        rest = ending count;
        bytes = ending_bytes count;
        reads = λ t c.
            let room : at + 2 < length t = omega arith in
            let more : at + 2 + s ! (at + 2) < length t = omega arith in
            let size = c.front.same (at + 2) (omega arith) in
            let last : t ! (at + 2 + s ! (at + 2)) ≡ 0xF7 =
            c.then_byte (at + 2 + s ! (at + 2)) count (omega arith) (omega arith) ∙ get_or_at zeros 0xF7 [] 0 count many in
            let next : at + 2 + s ! (at + 2) + 1 ≡ place + length (ending count) = omega arith in
            simp (lt-leb, size, le-ltb, last, next);
      }

  closed_exact : at + 2 < length s → Exact event_seen s (λ t. exclusive_at t at) (λ t. closed_at t at (s ! (at + 2))) (at + 2)
  unfolding closed_at
  closed_exact room =
      exact_if event_seen s _ (at + 2) (s ! (at + 2) <? 3) _ _ (λ h. exact_wrong event_seen s _ (at + 2) refl (size_mended (omega arith)) (omega arith))
      (λ h.
      let enough : 3 ≤ s ! (at + 2) = ltb-false _ _ h in
      exact_byte event_seen s _ (refused 20) (λ end. refl) (at + 2) (at + 2 + s ! (at + 2))
      (λ last t. when last ≡? 0xF7 then Ok ((Exclusive at (s ! (at + 2))) up_to (at + 2 + s ! (at + 2) + 1)) else refused 23 (at + 2 + s ! (at + 2))) (omega arith)
      (λ past. ending_mended (length s) room past (omega arith) enough)
      (λ more. exact_if event_seen s _ (at + 2 + s ! (at + 2)) (s ! (at + 2 + s ! (at + 2)) ≡? 0xF7) _ _
      (λ i. exact_ends event_seen s _ (at + 2 + s ! (at + 2)) refl (omega arith))
      (λ i. exact_wrong event_seen s _ (at + 2 + s ! (at + 2)) refl
      (ending_mended (at + 2 + s ! (at + 2)) (omega arith) (omega arith) (omega arith) enough) (omega arith))))

  exclusive_exact : at + 2 ≤ length s → Exact event_seen s (λ t. exclusive_at t at) (λ t. exclusive_at t at) (at + 2)
  unfolding exclusive_at
  exclusive_exact within =
      exact_byte event_seen s _ (refused 20) (λ end. refl) (at + 2) (at + 2) (λ size t. closed_at t at size) (omega arith)
      (mended_end event_seen s _ (at + 2) within (size_mended within)) closed_exact

  system_mended : at + 1 ≤ length s → Mended event_seen s (λ t. system_at t at) (at + 1)
  unfolding system_at when◌then◌else◌
  system_mended within =
      record {
        rest = 0x00 ∷ [];
        bytes = omega arith;
        reads = λ t c.
            let room : at + 1 < length t = omega arith in
            let second : t ! (at + 1) ≡ 0x00 = c.then_byte (at + 1) 0 (omega arith) (omega arith) in
            let next : at + 2 ≡ at + 1 + 1 = omega arith in
            simp (lt-leb, second, next);
      }

  -- FF F0, in any body
  exclusive_read : (t : List ℕ) → at + 1 < length t → t ! (at + 1) ≡ 0xF0 → system_at t at ≡ exclusive_at t at
  unfolding system_at when◌then◌else◌
  exclusive_read t room second = simp (lt-leb, second)

  pub system_exact : at + 1 ≤ length s → Exact event_seen s (λ t. system_at t at) (λ t. system_at t at) (at + 1)
  unfolding system_at
  system_exact within =
      exact_byte event_seen s _ (refused 20) (λ end. refl) (at + 1) (at + 1)
      (λ second t. when second ≡? 0x00 then Ok (Nop up_to (at + 2)) else when second ≡? 0xF0 then exclusive_at t at else refused 22 (at + 1)) (omega arith)
      (mended_end event_seen s _ (at + 1) within (system_mended within))
      (λ room. exact_if event_seen s _ (at + 1) (s ! (at + 1) ≡? 0x00) _ _ (λ h. exact_ends event_seen s _ (at + 1) refl (omega arith))
      (λ h. exact_if event_seen s _ (at + 1) (s ! (at + 1) ≡? 0xF0) _ _
      (λ i. exact_part event_seen s (λ t. exclusive_at t at) _ (at + 2)
      (λ t a. exclusive_read t (omega arith) (a.same (at + 1) (omega arith) ∙ eqb-true _ _ i)) (λ t. exclusive_at t at) (at + 1) (omega arith)
      (exclusive_exact (omega arith)))
      (λ i. exact_wrong event_seen s _ (at + 1) refl (system_mended within) (omega arith))))
