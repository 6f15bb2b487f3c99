-- A list of items that can be written, stored one after the other: the invariant of `write_list`'s loop, that what is still to be stored makes the whole, and what
-- each turn and the end make of it.
use Prim.Native.Nat.{ℕ, ◌+◌, ◌/◌, ◌<◌, ◌≤◌}
use mathlib.Core.Bool.{true}
use mathlib.Core.List.{List, [], ◌∷◌, ◌++◌}
use mathlib.Core.Path.{◌≡◌, refl, sym, ◌∙◌, ap}
use lib.ListN.{length, length-append}
use lib.Seq.{sets}
use native.Mathlib.Nat.{add-zero}
use native.Mathlib.Omega.{arith}
use Rattle.model.specs.Words.{◌≡?◌, Checked}
use Rattle.std.specs.Prelude.{Ok}
use Rattle.model.specs.Bytes.{◌!◌}
use Rattle.model.specs.Item.{Item, is_fine}
use Rattle.model.specs.Plain.{bytes_of}
use Rattle.model.specs.Content.{Content, handy_phone}
use Rattle.model.specs.Writing.{item_given, items_from, items_given}
use Rattle.model.specs.declared.Voice.{Voice}
use Rattle.model.proofs.Outcomes.{fine_some, past_fine}
use Rattle.model.proofs.Stores.{sets_append}
use Rattle.writing.specs.Parts.{given_bytes, list_bytes}
use Rattle.writing.proofs.Listed.{ahead_fine, listed_pair, listed_none}

-- Of the table `behind` is still to be stored, pair by pair.
pub record Filling (voice : Voice) (source numbers : List ℕ) (start : ℕ) (l out : List ℕ) (at width : ℕ) (behind : List ℕ) : Type 0 where
  pub index : ℕ
  pub rest : List (Item Content)
  pub left : items_from voice source (length behind / 2) index behind ≡ Ok rest
  pub pairs : width ≡ 2
  pub size : at + length (bytes_of handy_phone rest) ≡ start + length (list_bytes (items_given voice source numbers))
  pub room : at + length (bytes_of handy_phone rest) ≤ length out
  pub same : length out ≡ length l
  pub whole : sets out at (bytes_of handy_phone rest) ≡ sets l start (list_bytes (items_given voice source numbers))

module _ (voice : Voice) (source numbers : List ℕ) (start : ℕ) (l : List ℕ) where
  -- the items that are given are those from the first on
  all_from : (all : List (Item Content)) → items_given voice source numbers ≡ Ok all → items_from voice source (length numbers / 2) 0 numbers ≡ Ok all
  unfolding items_given
  all_from all e = past_fine (length numbers / 2 ≡? 0) 11 0 _ all e

  pub fill_starts : (width : ℕ) (behind : List ℕ) → width ≡ 2 → behind ≡ numbers → is_fine (items_given voice source numbers) ≡ true
      → start + length (list_bytes (items_given voice source numbers)) ≤ length l → Filling voice source numbers start l l start width behind
  unfolding list_bytes
  fill_starts width behind pairs all h room =
      let q = fine_some (items_given voice source numbers) h in
      let e : bytes_of handy_phone q.0 ≡ list_bytes (items_given voice source numbers) = sym (ap list_bytes q.1) in
      record {
        index = 0;
        rest = q.0;
        left = rw all (all_from q.0 q.1);
        pairs = pairs;
        size = ap (λ (b : List ℕ). start + length b) e;
        room = rw e room;
        same = refl;
        whole = ap (sets l start) e;
      }

  module _ (out : List ℕ) (at width : ℕ) (behind : List ℕ) (r : Filling voice source numbers start l out at width behind) where
    -- past the last pair
    module _ (past : length behind < width) where
      none_left : r.rest ≡ []
      none_left = let e = sym (listed_none voice source r.index behind (omega (arith, r.pairs))) ∙ r.left in let q : [] ≡ r.rest = cc in sym q

      pub filled_size : at ≡ start + length (list_bytes (items_given voice source numbers))
      unfolding bytes_of
      filled_size = sym (add-zero at) ∙ rw none_left at r.size

      pub filled : out ≡ sets l start (list_bytes (items_given voice source numbers))
      unfolding bytes_of
      filled = rw none_left at r.whole

    -- at a pair
    module _ (pair after : List ℕ) (there : behind ≡ pair ++ after) (two : length pair ≡ width) where
      abbrev one : Checked (Item Content)
      one = item_given voice source (pair ! 0) (pair ! 1)

      first : (item : Item Content) × (rest : List (Item Content)) × (one ≡ Ok item)
          × (items_from voice source (length after / 2) (r.index + 1) after ≡ Ok rest) × (r.rest ≡ item ∷ rest)
      first = ahead_fine r.index one _ r.rest (sym (listed_pair voice source r.index pair after (two ∙ r.pairs)) ∙ rw there at r.left)

      pub fill_there : is_fine (item_given voice source (pair ! 0) (pair ! 1)) ≡ true
      unfolding is_fine
      fill_there = ap is_fine first.2

      -- the bytes still to be stored: those of the item, and those after it
      split : bytes_of handy_phone r.rest ≡ given_bytes one ++ bytes_of handy_phone first.1
      unfolding bytes_of given_bytes
      split = ap (bytes_of handy_phone) first.4 ∙ ap (λ (o : Checked (Item Content)). given_bytes o ++ bytes_of handy_phone first.1) (sym first.2)

      both : length (bytes_of handy_phone r.rest) ≡ length (given_bytes one) + length (bytes_of handy_phone first.1)
      both = ap length split ∙ length-append (given_bytes one) (bytes_of handy_phone first.1)

      pub fill_room : at + length (given_bytes (item_given voice source (pair ! 0) (pair ! 1))) ≤ length out
      fill_room = omega (arith, r.room, both)

      pub fill_more : (m : List ℕ) (next kept : ℕ) → kept ≡ width → next ≡ at + length (given_bytes (item_given voice source (pair ! 0) (pair ! 1)))
          → m ≡ sets out at (given_bytes (item_given voice source (pair ! 0) (pair ! 1))) → length m ≡ length out
          → Filling voice source numbers start l m next kept after
      fill_more m next kept w n e k =
          let bytes = given_bytes one in
          let more = bytes_of handy_phone first.1 in
          let stored : sets m next more ≡ sets out at (bytes_of handy_phone r.rest) = rw (e, n, split) (sets_append out at bytes more) in
          record {
            index = r.index + 1;
            rest = first.1;
            left = first.3;
            pairs = w ∙ r.pairs;
            size = omega (arith, r.size, both);
            room = omega (arith, r.room, both);
            same = k ∙ r.same;
            whole = stored ∙ r.whole;
          }

pub ruleset fills = (fill_starts, fill_there, fill_room, fill_more, filled_size, filled)
