-- Ticket 3: what is told from the numbers of given items is what the items' own bytes say: the same numbers are addresses, so the same rules are kept.
use Prim.Native.Nat.{ℕ, zero, suc, ◌+◌, ◌/◌}
use mathlib.Core.List.{List, [], ◌∷◌, ◌++◌}
use mathlib.Core.Bool.{Bool, true, false}
use mathlib.Core.Path.{◌≡◌, refl, sym, ◌∙◌, ap, fun_ext}
use lib.ListN.{length, drop, length-append}
use native.Mathlib.Nat.{add-zero, zero-add}
use native.Mathlib.Omega.{arith}
use Rattle.model.specs.Words.{◌or◌, ◌≡?◌, any, Placed, placed_from, Checked, ◌>>◌}
use Rattle.std.specs.Prelude.{Ok}
use Rattle.model.specs.Bytes.{◌!◌}
use Rattle.model.specs.Item.{Item, is_fine}
use Rattle.model.specs.Seek.{Entry}
use Rattle.model.specs.Points.{is_address, points_hold, is_position, order_holds}
use Rattle.model.specs.Track.{points_of}
use Rattle.model.specs.Plain.{item_bytes, bytes_of}
use Rattle.model.specs.Content.{Content, handy_phone}
use Rattle.model.specs.Writing.{item_given, items_from, items_given, items_placed}
use Rattle.model.specs.declared.Voice.{Voice}
use Rattle.model.proofs.Outcomes.{past_fine}
use Rattle.writing.specs.Parts.{given_size, given_bytes}
use Rattle.writing.proofs.GivenItems.{given_length}
use Rattle.writing.proofs.Listed.{ahead, ahead_fine}
use Rattle.entries.specs.Places.{is_start, is_place}
use Rattle.entries.specs.Rules.{rules_hold}

or_assoc : (a b c : Bool) → ((a or b) or c) ≡ (a or (b or c))
unfolding ◌or◌
or_assoc true b c = refl
or_assoc false b c = refl

abbrev size : Item Content → ℕ
size item = length (item_bytes handy_phone item)

-- the same of items from a place on
abbrev address_from : ℕ → List (Item Content) → ℕ → Bool
address_from place items address = any (λ item. item.place ≡? address) (placed_from size place items) or (place + length (bytes_of handy_phone items) ≡? address)

address_first : (place : ℕ) (item : Item Content) (rest : List (Item Content)) (address : ℕ)
    → address_from place (item ∷ rest) address ≡ ((place ≡? address) or address_from (place + length (item_bytes handy_phone item)) rest address)
unfolding placed_from bytes_of any
address_first place item rest address =
    let sum : place + length (item_bytes handy_phone item ++ bytes_of handy_phone rest) ≡ place + size item + length (bytes_of handy_phone rest) =
    omega (arith, length-append (item_bytes handy_phone item) (bytes_of handy_phone rest)) in
    rw sum (or_assoc (place ≡? address) _ _)

module _ (voice : Voice) (source : List ℕ) where
  sized : (duration word : ℕ) (item : Item Content) → item_given voice source duration word ≡ Ok item → given_size duration word ≡ length (item_bytes handy_phone item)
  unfolding is_fine given_bytes
  sized duration word item e =
      sym (given_length voice source duration word (ap is_fine e)) ∙ ap (λ (c : Checked (Item Content)). length (given_bytes c)) e

  starts_are : (address count index : ℕ) (numbers : List ℕ) (items : List (Item Content)) (place : ℕ) → items_from voice source count index numbers ≡ Ok items
      → is_start place count numbers address ≡ address_from place items address
  unfolding items_from is_start ahead placed_from bytes_of any ◌or◌
  starts_are address zero index numbers items place e =
      let none : [] ≡ items = cc in
      ap (λ (n : ℕ). n ≡? address) (sym (add-zero place)) ∙ ap (λ (l : List (Item Content)). address_from place l address) none
  starts_are address (suc count) index numbers items place e =
      let f = ahead_fine index (item_given voice source (numbers ! 0) (numbers ! 1)) _ items e in
      let long = sized (numbers ! 0) (numbers ! 1) f.0 f.2 in
      let more = starts_are address count (index + 1) (drop 2 numbers) f.1 (place + given_size (numbers ! 0) (numbers ! 1)) f.3 in
      ap (λ (b : Bool). (place ≡? address) or b) (more ∙ ap (λ (n : ℕ). address_from (place + n) f.1 address) long)
      ∙ sym (address_first place f.0 f.1 address)
      ∙ ap (λ (l : List (Item Content)). address_from place l address) (sym f.4)

  module _ (numbers : List ℕ) (items : List (Item Content)) (given : items_given voice source numbers ≡ Ok items) where
    pub place_is : (address : ℕ) → is_place numbers address ≡ is_address (items_placed items) (length (bytes_of handy_phone items)) address
    unfolding items_given items_placed is_place is_address
    place_is address =
        starts_are address (length numbers / 2) 0 numbers items 0 (past_fine (length numbers / 2 ≡? 0) 11 0 _ items given)
        ∙ ap (λ (n : ℕ). any (λ item. item.place ≡? address) (placed_from size 0 items) or (n ≡? address)) (zero-add (length (bytes_of handy_phone items)))

    pub rules_are : (phrases : Bool) (entries : List (Placed Entry))
        → rules_hold phrases (is_place numbers) entries ≡ points_of phrases (items_placed items) (length (bytes_of handy_phone items)) entries
    unfolding rules_hold points_of
    rules_are true entries = ap (λ (address : ℕ → Bool). points_hold address (is_position entries) entries >> order_holds entries) (fun_ext place_is)
    rules_are false entries = ap (λ (address : ℕ → Bool). points_hold address address entries) (fun_ext place_is)
