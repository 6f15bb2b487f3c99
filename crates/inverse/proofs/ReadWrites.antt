-- Demand 2, "a written sequence reads back as exactly the items it was written from", the other way round: the items of a body that reads
-- are a sequence, and its bytes are the body's.
use Prim.Native.Nat.{ℕ, ◌+◌, ◌-◌, ◌<◌}
use mathlib.Core.List.{List, [], ◌∷◌, ◌++◌}
use mathlib.Core.Path.{◌≡◌, refl, sym, ◌∙◌, ap, ap₂}
use lib.ListN.{length, drop, take-append-drop}
use lib.Seq.{drop-length, drop-drop}
use native.Mathlib.Omega.{arith}
use Rattle.model.specs.Words.{Placed, Step.met, Checked}
use Rattle.std.specs.Prelude.{Ok, Err}
use Rattle.model.specs.Bytes.{◌!◌}
use Rattle.model.specs.Item.{Item, Item.timed, Item.end_mark, item_at, item_met, item_step, body_of}
use Rattle.model.specs.Plain.{bytes_of}
use Rattle.model.specs.Content.{content_in, contents_in, handy_phone}
use Rattle.model.specs.declared.Voice.{Voice}
use Rattle.model.specs.declared.Event.{Event}
use Rattle.model.specs.declared.ReadItem.{ReadItem}
use Rattle.model.specs.declared.ReadItem.TheVariants.{Timed, EndMark}
use Rattle.model.proofs.Walks.{Stand}
use Rattle.items.proofs.Standing.{body_stands, body_not_empty}
use Rattle.writing.proofs.WriteBack.{Written, timed_writes, mark_writes}
use Rattle.inverse.proofs.Sequence.{AllFit}

module _ (voice : Voice) (s : List ℕ) (bytes : (k : ℕ) → s ! k < 256) where
  -- one item, as the walk through the body met it
  met_writes : (at : ℕ) (item : Placed (Item Event)) (next : ℕ) (j : Checked ReadItem) → item_at voice s at ≡ j → item_met at j ≡ met item next
      → Written voice s at (content_in s item.what) next
  unfolding item_met content_in
  met_writes at item next (Ok (Timed duration event n)) is e =
      let same : ◌≡◌ {A = Placed (Item Event)} (record { place = at; what = timed duration event }) item = cc in
      let on : n ≡ next = cc in
      rw (← same, ← on) (timed_writes voice s bytes at duration event n is)
  met_writes at item next (Ok (EndMark n)) is e =
      let same : ◌≡◌ {A = Placed (Item Event)} (record { place = at; what = end_mark }) item = cc in
      let on : n ≡ next = cc in
      rw (← same, ← on) (mark_writes voice s bytes at n is)
  met_writes at item next (Err why) is e = let z : ◌≡◌ {A = ℕ} 0 1 = cc in absurd (omega arith)

  stand_writes : (placed : List (Placed (Item Event))) (at : ℕ) → Stand (length s) (item_step voice s) at placed
      → AllFit voice (contents_in s placed) × (bytes_of handy_phone (contents_in s placed) ≡ drop at s)
  unfolding item_step contents_in bytes_of
  stand_writes [] at st = (tt, sym (ap (λ (n : ℕ). drop n s) st ∙ drop-length s))
  stand_writes (item ∷ rest) at st =
      let next = st.0 in
      let w = met_writes at item next (item_at voice s at) refl st.1 in
      let r = stand_writes rest next st.2 in
      let on : at + (next - at) ≡ next = omega (arith, w.ahead) in (
        (w.fits, r.0),
        ap₂ (λ (l : List ℕ) (m : List ℕ). l ++ m) w.bytes (r.1 ∙ ap (λ (n : ℕ). drop n s) (sym on) ∙ sym (drop-drop (next - at) at s))
            ∙ take-append-drop (next - at) (drop at s),
      )

  module _ (placed : List (Placed (Item Event))) (reads : body_of voice s ≡ Ok placed) where
    pub body_some : 0 < length (contents_in s placed)
    unfolding contents_in
    body_some = go placed (body_stands voice s placed reads)
      where
        go : (items : List (Placed (Item Event))) → Stand (length s) (item_step voice s) 0 items → 0 < length (contents_in s items)
        go [] st = absurd (omega (arith, body_not_empty voice s placed reads))
        go (item ∷ rest) st = omega arith

    pub body_fits : AllFit voice (contents_in s placed)
    body_fits = (stand_writes placed 0 (body_stands voice s placed reads)).0

    pub body_writes : bytes_of handy_phone (contents_in s placed) ≡ s
    body_writes = (stand_writes placed 0 (body_stands voice s placed reads)).1
