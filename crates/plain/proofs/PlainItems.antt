-- Demand 3, "one plain sequence", and the paper's "Then the end mark": the items of a plain form can all be written where its messages can,
-- and the last of them, and no other, is the end mark.
use Prim.Native.Nat.{ℕ, zero, suc, ◌-◌, ◌<◌, ◌≤◌}
use mathlib.Core.Bool.{true, false}
use mathlib.Core.List.{List, [], ◌∷◌, ◌++◌, append_assoc, append-nil}
use mathlib.Core.Path.{◌≡◌, refl, sym, ◌∙◌, ap}
use lib.ListN.{length, replicate}
use native.Mathlib.Omega.{arith}
use borrow.Author.Tests.{le-leb}
use Rattle.model.specs.Words.{◌or◌, ◌≤?◌, any, through}
use Rattle.model.specs.Item.{Item, Item.timed, Item.end_mark, is_mark}
use Rattle.model.specs.Play.{At, Tune}
use Rattle.model.specs.Plain.{Format, item_bytes, bytes_of, times, left, waits, rest, plain_after, plain_items}
use Rattle.model.specs.Content.{Content, Content.nop, handy_phone}
use Rattle.model.specs.Writing.{content_fits, item_fits}
use Rattle.model.specs.declared.Voice.{Voice}
use Rattle.model.proofs.Picking.{any_append, through_append, through_here}
use Rattle.model.proofs.Tests.{if_all, both_true}
use Rattle.inverse.proofs.Sequence.{AllFit}
use Rattle.plain.proofs.Gaps.{left_short}

-- items of which the last, and no other, is an end mark
pub record Ended {E : Type 0} (items : List (Item E)) : Type 0 where
  pub front : List (Item E)
  pub unmarked : any is_mark front ≡ false
  pub is : items ≡ front ++ (end_mark ∷ [])

-- so all of them are up to and with the first mark
pub mark_cuts_nothing : {E : Type 0} (items : List (Item E)) → Ended items → through is_mark items ≡ items
unfolding is_mark
mark_cuts_nothing {E} items ended =
    ap (through is_mark) ended.is
    ∙ through_append is_mark ended.front (end_mark ∷ []) ended.unmarked
    ∙ ap (λ (l : List (Item E)). ended.front ++ l) (through_here is_mark end_mark [] refl)
    ∙ sym ended.is

module _ (E : Type 0) (format : Format E) where
  waits_unmarked : (count duration : ℕ) (event : E) → any is_mark (replicate count (timed duration event)) ≡ false
  unfolding any is_mark ◌or◌
  waits_unmarked zero duration event = refl
  waits_unmarked (suc count) duration event = waits_unmarked count duration event

  rest_unmarked : (gap : ℕ) → any is_mark (rest format gap) ≡ false
  unfolding rest waits any is_mark ◌or◌
  rest_unmarked gap =
      let all = waits_unmarked (times format.longest gap) format.longest format.nop in
      if_all (λ (items : List (Item E)). any is_mark items ≡ false) _ _ _ (λ h. all)
      (λ h. any_append is_mark (waits format gap) (timed (left format.longest gap) format.nop ∷ []) all)

  -- THE END MARK is the last item of a plain form and no other is one.
  pub plain_ends : (past : ℕ) (messages : List (At E)) (end : ℕ) → Ended (plain_after format past messages end)
  unfolding plain_after waits any is_mark ◌or◌
  plain_ends past [] end = record { front = rest format (end - past); unmarked = rest_unmarked (end - past); is = refl }
  plain_ends past (at ∷ messages) end =
      let later = plain_ends at.step messages end in
      let gap = at.step - past in
      let here : Item E = timed (left format.longest gap) at.event in
      record {
        front = waits format gap ++ (here ∷ later.front);
        unmarked = any_append is_mark (waits format gap) (here ∷ later.front)
            (waits_unmarked (times format.longest gap) format.longest format.nop) ∙ later.unmarked;
        is = ap (λ (items : List (Item E)). waits format gap ++ (here ∷ items)) later.is
            ∙ sym (append_assoc (waits format gap) (here ∷ later.front) (end_mark ∷ []));
      }

  pub bytes_append : (front back : List (Item E)) → bytes_of format (front ++ back) ≡ bytes_of format front ++ bytes_of format back
  unfolding bytes_of
  bytes_append [] back = refl
  bytes_append (item ∷ front) back =
      ap (λ (bytes : List ℕ). item_bytes format item ++ bytes) (bytes_append front back)
      ∙ sym (append_assoc (item_bytes format item) (bytes_of format front) (bytes_of format back))

  -- The last bytes are those of the end mark, after what the other items write.
  pub ended_closes : (items : List (Item E)) (ended : Ended items) → bytes_of format items ≡ bytes_of format ended.front ++ format.end_bytes
  unfolding bytes_of item_bytes
  ended_closes items ended =
      ap (bytes_of format) ended.is
      ∙ bytes_append ended.front (end_mark ∷ [])
      ∙ ap (λ (bytes : List ℕ). bytes_of format ended.front ++ bytes) (append-nil format.end_bytes)

-- messages whose contents can all be written
abbrev pub Writable : Voice → List (At Content) → Type 0
Writable voice [] = Unit
Writable voice (at ∷ messages) = (content_fits voice at.event ≡ true) × Writable voice messages

module _ (voice : Voice) where
  fit_append : (front back : List (Item Content)) → AllFit voice front → AllFit voice back → AllFit voice (front ++ back)
  fit_append [] back f g = g
  fit_append (item ∷ front) back f g = (f.0, fit_append front back f.1 g)

  timed_fits : (duration : ℕ) (content : Content) → duration ≤ 16511 → content_fits voice content ≡ true → item_fits voice (timed duration content) ≡ true
  unfolding item_fits
  timed_fits duration content short fits = both_true (duration ≤? 16511) (content_fits voice content) (le-leb duration 16511 short) fits

  nop_fits : (duration : ℕ) → duration ≤ 16511 → item_fits voice (timed duration nop) ≡ true
  unfolding content_fits
  nop_fits duration short = timed_fits duration nop short refl

  waits_fit : (count : ℕ) → AllFit voice (replicate count (timed 16511 nop))
  waits_fit zero = tt
  waits_fit (suc count) = (nop_fits 16511 (omega arith), waits_fit count)

  rest_fits : (gap : ℕ) → AllFit voice (rest handy_phone gap)
  unfolding rest waits
  rest_fits gap =
      let all = waits_fit (times 16511 gap) in
      if_all (AllFit voice) _ _ _ (λ h. all)
      (λ h. fit_append (waits handy_phone gap) (timed (left 16511 gap) nop ∷ []) all (nop_fits (left 16511 gap) (left_short 16511 gap (omega arith)), tt))

  -- EACH ITEM of the plain form of messages that can be written can be written.
  pub plain_fits : (past : ℕ) (messages : List (At Content)) (end : ℕ) → Writable voice messages → AllFit voice (plain_after handy_phone past messages end)
  unfolding plain_after waits item_fits
  plain_fits past [] end fit = fit_append (rest handy_phone (end - past)) (end_mark ∷ []) (rest_fits (end - past)) (refl, tt)
  plain_fits past (at ∷ messages) end fit =
      let gap = at.step - past in
      fit_append (waits handy_phone gap) (timed (left 16511 gap) at.event ∷ plain_after handy_phone at.step messages end) (waits_fit (times 16511 gap))
      (timed_fits (left 16511 gap) at.event (left_short 16511 gap (omega arith)) fit.0, plain_fits at.step messages end fit.1)

-- what ends with an end mark is not empty

ended_some : (front : List (Item Content)) → 0 < length (front ++ (end_mark ∷ []))
ended_some [] = omega arith
ended_some (item ∷ front) = omega arith

pub plain_some : (tune : Tune Content) → 0 < length (plain_items handy_phone tune)
unfolding plain_items
plain_some tune = let ended = plain_ends Content handy_phone 0 tune.messages tune.end in rw ended.is (ended_some ended.front)
