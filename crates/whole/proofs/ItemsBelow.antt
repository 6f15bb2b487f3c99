-- Ticket 3: the items of a body that reads, as the operation gives them, are 32-bit numbers.
use Prim.Native.Nat.{ℕ, ◌<◌, ◌≤◌}
use mathlib.Core.List.{List, [], ◌∷◌}
use mathlib.Core.Path.{◌≡◌, refl, subst}
use lib.ListN.{length}
use native.Mathlib.Omega.{arith}
use Rattle.model.specs.Words.{Placed, Step.met, Checked}
use Rattle.std.specs.Prelude.{Ok, Err}
use Rattle.model.specs.Bytes.{◌!◌}
use Rattle.model.specs.Item.{Item, Item.timed, Item.end_mark, duration_of, item_at, item_met, item_step, body_of}
use Rattle.model.specs.Word.{word_of, InWord}
use Rattle.model.specs.Writing.{event_word, item_word, items_numbers}
use Rattle.model.specs.declared.Voice.{Voice}
use Rattle.model.specs.declared.Event.{Event}
use Rattle.model.specs.declared.Event.TheVariants.{Nop, Note, Wave, Control, Exclusive}
use Rattle.model.specs.declared.ReadItem.{ReadItem}
use Rattle.model.specs.declared.ReadItem.TheVariants.{Timed, EndMark}
use Rattle.model.proofs.Walks.{Stand}
use Rattle.items.proofs.Ahead.{item_goes}
use Rattle.items.proofs.Standing.{body_stands}
use Rattle.whole.proofs.Bounded.{AllBelow, none_below, one_below}
use Rattle.whole.proofs.StandShort.{stand_short}
use Rattle.whole.proofs.ItemsAgain.{event_in_word}

word_below : (event : Event) → InWord event → event_word event < 4294967296
unfolding event_word word_of
word_below Nop h = omega arith
word_below (Note channel key gate) h = omega arith
word_below (Wave channel number gate) h = omega arith
word_below (Control kind channel value) h = omega arith
word_below (Exclusive place size) h = omega arith

module _ (voice : Voice) (s : List ℕ) (bytes : (k : ℕ) → s ! k < 256) where
  module _ (small : length s ≤ 65536) where
    abbrev Below : Item Event → Type 0
    Below item = (duration_of item < 4294967296) × (item_word item < 4294967296)

    met_below : (at : ℕ) (item : Placed (Item Event)) (next : ℕ) (j : Checked ReadItem) → item_at voice s at ≡ j → item_met at j ≡ met item next → Below item.what
    unfolding item_met duration_of item_word
    met_below at item next (Ok (Timed duration event n)) is e =
        let same : ◌≡◌ {A = Placed (Item Event)} (record { place = at; what = timed duration event }) item = cc in
        let h = event_in_word voice s bytes small at duration event n is in
        subst (λ (p : Placed (Item Event)). Below p.what) same (omega (arith, h.0), word_below event h.1)
    met_below at item next (Ok (EndMark n)) is e =
        let same : ◌≡◌ {A = Placed (Item Event)} (record { place = at; what = end_mark }) item = cc in
        subst (λ (p : Placed (Item Event)). Below p.what) same (omega arith, omega arith)
    met_below at item next (Err why) is e = let z : ◌≡◌ {A = ℕ} 0 1 = cc in absurd (omega arith)

    stand_below : (placed : List (Placed (Item Event))) (at : ℕ) → Stand (length s) (item_step voice s) at placed → AllBelow 4294967296 (items_numbers placed)
    unfolding item_step items_numbers
    stand_below [] at st = none_below 4294967296 (omega arith)
    stand_below (item ∷ rest) at st =
        let h = met_below at item st.0 (item_at voice s at) refl st.1 in
        let numbers : List ℕ = items_numbers rest in
        one_below 4294967296 (duration_of item.what) (item_word item.what ∷ numbers) h.0
        (one_below 4294967296 (item_word item.what) numbers h.1 (stand_below rest st.0 st.2))

  module _ (placed : List (Placed (Item Event))) (reads : body_of voice s ≡ Ok placed) where
    pub items_few : length placed ≤ length s
    items_few = omega (arith, stand_short (length s) (item_step voice s) (item_goes voice s) placed 0 (body_stands voice s placed reads))

    pub item_numbers_below : length s ≤ 65536 → AllBelow 4294967296 (items_numbers placed)
    item_numbers_below small = stand_below small placed 0 (body_stands voice s placed reads)
