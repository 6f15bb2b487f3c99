-- Demand 2: items that are given to be written, and have no fault, are a sequence: there is one at least, and each can be written.
use Prim.Native.Nat.{ℕ, zero, suc, ◌+◌, ◌/◌, ◌<◌}
use mathlib.Core.Bool.{true}
use mathlib.Core.List.{List, []}
use mathlib.Core.Logic.{inl, inr}
use mathlib.Core.Path.{◌≡◌, refl, sym, ap, subst}
use lib.ListN.{length, drop}
use native.Mathlib.Omega.{arith}
use borrow.Author.Tests.{le-leb, eqb-false}
use Rattle.model.specs.Words.{◌≤?◌, ◌≡?◌}
use Rattle.std.specs.Prelude.{Ok}
use Rattle.model.specs.Bytes.{◌!◌}
use Rattle.model.specs.Item.{Item}
use Rattle.model.specs.Content.{Content}
use Rattle.model.specs.Writing.{item_fits, event_in, item_given, items_from, items_given}
use Rattle.model.specs.declared.Voice.{Voice}
use Rattle.model.proofs.Outcomes.{not_refused_fine, past_fine}
use Rattle.model.proofs.Tests.{if_all, both_true}
use Rattle.writing.proofs.ContentFits.{HasBytes, content_fits_lem}
use Rattle.writing.proofs.GivenItems.{given_so}
use Rattle.writing.proofs.Listed.{ahead, ahead_fine}
use Rattle.inverse.proofs.Sequence.{AllFit}

word_bytes : (word : ℕ) → HasBytes (event_in word)
unfolding event_in
word_bytes word =
    if_all HasBytes _ _ _ (λ h. tt)
    (λ h. if_all HasBytes _ _ _ (λ h. tt)
    (λ h. if_all HasBytes _ _ _ (λ h. omega arith)
    (λ h. if_all HasBytes _ _ _ (λ h. omega arith) (λ h. tt))))

module _ (voice : Voice) (source : List ℕ) where
  pub item_fit : (duration word : ℕ) (item : Item Content) → item_given voice source duration word ≡ Ok item → item_fits voice item ≡ true
  unfolding item_fits
  item_fit duration word item e =
      elim (given_so voice source duration word item e) [
        | inl mark ↦ rw mark.is refl
        | inr event ↦
            rw event.is
            (both_true (duration ≤? 16511) _ (le-leb duration 16511 event.short) (content_fits_lem voice source (event_in word) (word_bytes word) event.fits))
      ]

  all_fit : (count index : ℕ) (numbers : List ℕ) (all : List (Item Content)) → items_from voice source count index numbers ≡ Ok all
      → (length all ≡ count) × AllFit voice all
  unfolding items_from ahead
  all_fit zero index numbers all e = let none : [] ≡ all = cc in subst (λ (l : List (Item Content)). (length l ≡ 0) × AllFit voice l) none (refl, tt)
  all_fit (suc count) index numbers all e =
      let first = ahead_fine index (item_given voice source (numbers ! 0) (numbers ! 1)) _ all e in
      let rest = all_fit count (index + 1) (drop 2 numbers) first.1 first.3 in
      subst (λ (l : List (Item Content)). (length l ≡ suc count) × AllFit voice l) (sym first.4)
      (ap suc rest.0, (item_fit (numbers ! 0) (numbers ! 1) first.0 first.2, rest.1))

  pub given_fit : (numbers : List ℕ) (all : List (Item Content)) → items_given voice source numbers ≡ Ok all → (0 < length all) × AllFit voice all
  unfolding items_given
  given_fit numbers all e =
      let count = length numbers / 2 in
      let some = eqb-false count 0 (not_refused_fine (count ≡? 0) 11 0 _ all e) in
      let these = all_fit count 0 numbers all (past_fine (count ≡? 0) 11 0 _ all e) in
      (omega (arith, these.0), these.1)
