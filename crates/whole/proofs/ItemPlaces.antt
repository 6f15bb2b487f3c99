-- Ticket 3: items stand where they are read, so points have the same addresses to name in the items that are given as in the body that these make.
use Prim.Native.Nat.{ℕ, ◌+◌, ◌<◌}
use mathlib.Core.Bool.{Bool, true, false}
use mathlib.Core.List.{List, [], ◌∷◌, map, append-nil}
use mathlib.Core.Path.{◌≡◌, refl, sym, ◌∙◌, ap, ap₂, subst, fun_ext}
use lib.ListN.{length}
use native.Mathlib.Omega.{arith}
use Rattle.model.specs.Words.{◌or◌, ◌≡?◌, any, Placed, placed_from}
use Rattle.std.specs.Prelude.{Ok}
use Rattle.model.specs.Bytes.{◌!◌}
use Rattle.model.specs.Item.{Item, item_step, body_of}
use Rattle.model.specs.Seek.{Entry}
use Rattle.model.specs.Points.{is_address}
use Rattle.model.specs.Track.{points_of}
use Rattle.model.specs.Plain.{item_bytes, bytes_of}
use Rattle.model.specs.Content.{Content, contents_in, handy_phone}
use Rattle.model.specs.Writing.{items_placed}
use Rattle.model.specs.declared.Voice.{Voice}
use Rattle.model.specs.declared.Event.{Event}
use Rattle.model.proofs.Walks.{Stand}
use Rattle.items.proofs.Addresses.{placed_at}
use Rattle.items.proofs.Standing.{body_stands}
use Rattle.writing.proofs.Stands.{Stands, stands_first, stands_second, stands_between}
use Rattle.writing.proofs.ReadBack.{stands_reads}
use Rattle.inverse.proofs.Sequence.{AllFit}
use Rattle.inverse.proofs.ReadWrites.{body_fits, body_writes}
use Rattle.inverse.proofs.WrittenReads.{meets}

abbrev pub places_of : {A : Type 0} → List (Placed A) → List ℕ
places_of things = map (λ thing. thing.place) things

-- ADDRESSES AND POINTS go by the places alone, whatever stands there
any_place : {A : Type 0} (address : ℕ) (things : List (Placed A))
    → any (λ thing. thing.place ≡? address) things ≡ any (λ place. place ≡? address) (places_of things)
unfolding any
any_place address [] = refl
any_place address (thing ∷ things) = ap (λ (b : Bool). (thing.place ≡? address) or b) (any_place address things)

module _ {E F : Type 0} (some : List (Placed (Item E))) (others : List (Placed (Item F))) (same : places_of some ≡ places_of others) (size : ℕ) where
  pub same_addresses : (address : ℕ) → is_address some size address ≡ is_address others size address
  unfolding is_address
  same_addresses address =
      ap (λ (b : Bool). b or (size ≡? address))
      (any_place address some ∙ ap (any (λ place. place ≡? address)) same ∙ sym (any_place address others))

  pub same_points : (phrases : Bool) (entries : List (Placed Entry)) → points_of phrases some size entries ≡ points_of phrases others size entries
  unfolding points_of
  same_points true entries = rw (fun_ext same_addresses)
  same_points false entries = rw (fun_ext same_addresses)

-- THE PLACES of items that are read are those that their bytes give them
module _ (voice : Voice) (s : List ℕ) where
  stand_places : (items : List (Item Content)) (placed : List (Placed (Item Event))) (at : ℕ) → AllFit voice items → Stands s at (bytes_of handy_phone items)
      → contents_in s placed ≡ items → Stand (length s) (item_step voice s) at placed
      → places_of (placed_from (λ item. length (item_bytes handy_phone item)) at items) ≡ places_of placed
  unfolding bytes_of contents_in placed_from
  stand_places [] [] at fit there same st = refl
  stand_places [] (one ∷ placed) at fit there same st = let z : ◌≡◌ {A = ℕ} 0 1 = cc in absurd (omega arith)
  stand_places (item ∷ items) [] at fit there same st = let z : ◌≡◌ {A = ℕ} 0 1 = cc in absurd (omega arith)
  stand_places (item ∷ items) (one ∷ placed) at fit there same st =
      let bytes : List ℕ = item_bytes handy_phone item in
      let first = meets voice s at item (stands_reads voice s at item fit.0 (stands_first s at bytes _ there)) in
      let next : st.0 ≡ at + length bytes = let a = first.1 in let b = st.1 in cc in
      let rest : contents_in s placed ≡ items = cc in
      let here : at ≡ one.place = sym (placed_at voice s at one st.0 st.1) in
      ap₂ (λ (place : ℕ) (places : List ℕ). place ∷ places) here
      (stand_places items placed (at + length bytes) fit.1 (stands_second s at bytes _ there) rest
      (subst (λ (n : ℕ). Stand (length s) (item_step voice s) n placed) next st.2))

pub written_places : (voice : Voice) (items : List (Item Content)) (placed : List (Placed (Item Event))) → AllFit voice items
    → body_of voice (bytes_of handy_phone items) ≡ Ok placed → contents_in (bytes_of handy_phone items) placed ≡ items
    → places_of (items_placed items) ≡ places_of placed
unfolding items_placed
written_places voice items placed fit reads same =
    let s : List ℕ = bytes_of handy_phone items in
    let all : Stands s 0 s = subst (λ (t : List ℕ). Stands t 0 s) (append-nil s) (stands_between [] s []) in
    stand_places voice s items placed 0 fit all same (body_stands voice s placed reads)

pub read_places : (voice : Voice) (s : List ℕ) (placed : List (Placed (Item Event))) → ((k : ℕ) → s ! k < 256) → body_of voice s ≡ Ok placed
    → places_of (items_placed (contents_in s placed)) ≡ places_of placed
read_places voice s placed bytes reads =
    let whole : bytes_of handy_phone (contents_in s placed) ≡ s = body_writes voice s bytes placed reads in
    written_places voice (contents_in s placed) placed (body_fits voice s bytes placed reads)
    (ap (body_of voice) whole ∙ reads) (ap (λ (t : List ℕ). contents_in t placed) whole)

-- so that points hold in the one where they hold in the other
pub written_points : (voice : Voice) (items : List (Item Content)) (placed : List (Placed (Item Event))) (phrases : Bool) (size : ℕ)
    (entries : List (Placed Entry))
    → AllFit voice items → body_of voice (bytes_of handy_phone items) ≡ Ok placed → contents_in (bytes_of handy_phone items) placed ≡ items
    → points_of phrases (items_placed items) size entries ≡ points_of phrases placed size entries
written_points voice items placed phrases size entries fit reads same =
    same_points (items_placed items) placed (written_places voice items placed fit reads same) size phrases entries

pub read_points : (voice : Voice) (s : List ℕ) (placed : List (Placed (Item Event))) (phrases : Bool) (size : ℕ) (entries : List (Placed Entry))
    → ((k : ℕ) → s ! k < 256) → body_of voice s ≡ Ok placed
    → points_of phrases (items_placed (contents_in s placed)) size entries ≡ points_of phrases placed size entries
read_points voice s placed phrases size entries bytes reads =
    same_points (items_placed (contents_in s placed)) placed (read_places voice s placed bytes reads) size phrases entries
