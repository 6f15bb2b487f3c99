-- Demand 2, "a written sequence reads back as exactly the items it was written from": the bytes of a sequence are a body, and its items
-- are those of the sequence.
use Prim.Native.Nat.{ℕ, ◌+◌, ◌<◌}
use mathlib.Core.List.{List, [], ◌∷◌, append-nil}
use mathlib.Core.Path.{◌≡◌, refl, sym, ◌∙◌, ap, ap₂, subst}
use lib.ListN.{length, length-append, length-map}
use native.Mathlib.Nat.{add-zero}
use native.Mathlib.Omega.{arith}
use Rattle.model.specs.Words.{Placed, Step.met}
use Rattle.std.specs.Prelude.{Ok}
use Rattle.model.specs.Item.{Item, Item.timed, Item.end_mark, item_met, item_step, body_of}
use Rattle.model.specs.Plain.{item_bytes, bytes_of}
use Rattle.model.specs.Content.{Content, content_in, contents_in, handy_phone}
use Rattle.model.specs.declared.Voice.{Voice}
use Rattle.model.specs.declared.Event.{Event}
use Rattle.model.proofs.Walks.{GoesOn, Stand}
use Rattle.items.proofs.Ahead.{item_goes}
use Rattle.items.proofs.Standing.{body_reads_to}
use Rattle.writing.proofs.Stands.{Stands, stands_first, stands_second, stands_between}
use Rattle.writing.proofs.ReadBack.{Reads, stands_reads}
use Rattle.inverse.proofs.Sequence.{AllFit}

abbrev Items : Type 0
Items = List (Placed (Item Event))

module _ (voice : Voice) (s : List ℕ) where
  -- one item, as the walk through the body meets it
  pub meets : (at : ℕ) (item : Item Content) → Reads voice s at item
      → (placed : Placed (Item Event)) × (item_step voice s at ≡ met placed (at + length (item_bytes handy_phone item))) × (content_in s placed.what ≡ item)
  unfolding item_step item_met content_in
  meets at (timed duration content) r =
      (record { place = at; what = timed duration r.read }, ap (item_met at) r.given, ap (timed duration) r.same)
  meets at end_mark r = (record { place = at; what = end_mark }, ap (item_met at) r, refl)

  all_meet : (items : List (Item Content)) (at : ℕ) → AllFit voice items → Stands s at (bytes_of handy_phone items)
      → at + length (bytes_of handy_phone items) ≡ length s
      → (placed : Items) × Stand (length s) (item_step voice s) at placed × (contents_in s placed ≡ items)
  unfolding bytes_of contents_in
  all_meet [] at fit st ends = ([], sym (add-zero at) ∙ ends, refl)
  all_meet (item ∷ items) at fit st ends =
      let bytes = item_bytes handy_phone item in
      let n = length-append bytes (bytes_of handy_phone items) in
      let first = meets at item (stands_reads voice s at item fit.0 (stands_first s at bytes _ st)) in
      let rest = all_meet items (at + length bytes) fit.1 (stands_second s at bytes _ st) (omega arith) in
      (first.0 ∷ rest.0, (at + length bytes, first.1, rest.1), ap₂ (λ (i : Item Content) (is : List (Item Content)). i ∷ is) first.2 rest.2)

  -- a body in which something stands has bytes
  some_bytes : (placed : Items) → 0 < length placed → Stand (length s) (item_step voice s) 0 placed → 0 < length s
  some_bytes [] h st = absurd (omega arith)
  some_bytes (item ∷ rest) h st = let g : GoesOn (length s) 0 (met item st.0) = subst (GoesOn (length s) 0) st.1 (item_goes voice s 0) in omega arith

pub sequence_reads : (voice : Voice) (items : List (Item Content)) → 0 < length items → AllFit voice items
    → (placed : List (Placed (Item Event))) × (body_of voice (bytes_of handy_phone items) ≡ Ok placed) × (contents_in (bytes_of handy_phone items) placed ≡ items)
unfolding contents_in
sequence_reads voice items some fit =
    let s = bytes_of handy_phone items in
    let all = all_meet voice s items 0 fit (subst (λ (t : List ℕ). Stands t 0 s) (append-nil s) (stands_between [] s [])) (omega arith) in
    let same = all.2 in
    let many : length all.0 ≡ length items = sym (length-map all.0 _) ∙ ap length same in
    (all.0, body_reads_to voice s all.0 (some_bytes voice s all.0 (omega arith) all.1) all.1, same)
