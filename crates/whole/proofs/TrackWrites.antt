-- A score track that is read is written: where its sub-chunks are a seek chunk or none and then the sequence chunk, its bytes are made of its fixed bytes and
-- these two bodies.
use Prim.Native.Nat.{ℕ, ◌+◌, ◌-◌, ◌/◌, ◌<◌, ◌≤◌}
use mathlib.Core.Bool.{Bool, true, false≢true}
use mathlib.Core.List.{List, [], ◌∷◌, ◌++◌, map, append_assoc}
use Rattle.std.specs.Prelude.{Option, None, Some, Ok}
use mathlib.Core.Path.{◌≡◌, refl, sym, ◌∙◌, ap, ap₂, subst}
use lib.ListN.{length}
use native.Mathlib.Nat.{add-zero}
use native.Mathlib.Omega.{arith}
use borrow.Author.Tests.{eq-eqb, ne_eqb, eqb-true}
use Rattle.model.specs.Words.{when◌then◌else◌, ◌or◌, ◌<?◌, ◌≤?◌, ◌≡?◌, first, Placed}
use Rattle.model.specs.Bytes.{◌!◌, part, MTR, MspI, Mtsq}
use Rattle.model.specs.Chunk.{Chunk, body_place, place_after, body_bytes, chunk_step}
use Rattle.model.specs.Item.{Item, is_fine, body_of}
use Rattle.model.specs.Seek.{Entry, seek_of}
use Rattle.model.specs.Track.{Track, fixed_size, score_voice, voice_of, fixed_fits, fixed_holds, part_named, point_width, seek_in, entries_of, track_of}
use Rattle.model.specs.File.{Top.readable, top_of}
use Rattle.model.specs.ChunkBytes.{chunk_bytes}
use Rattle.model.specs.SeekBytes.{seek_bytes}
use Rattle.model.specs.Arrangement.{has_phrases}
use Rattle.model.specs.Layout.{parts_laid}
use Rattle.model.specs.declared.Event.{Event}
use Rattle.model.specs.declared.Voice.{Voice}
use Rattle.model.specs.declared.Voice.TheVariants.{Score}
use Rattle.model.proofs.Outcomes.{then_fine, bind_fine, counted_fine, not_refused}
use Rattle.model.proofs.Parts.{part_length, part_at}
use Rattle.model.proofs.Tests.{by_test, if_true, if_false, and_left, and_right}
use Rattle.model.proofs.Walks.{Stand}
use Rattle.reading.proofs.Accepted.{opened_as, fixed_inside, parts_stand}
use Rattle.reading.proofs.TrackMade.{track_made}
use Rattle.whole.proofs.ChunkRow.{Bodied, bodied, row_bytes, row_of}
use Rattle.whole.proofs.ChunksWrite.{met_here, parts_joined, stand_writes}
use Rattle.whole.proofs.TrackRow.{seek_part, track_row, track_row_bytes, SeekReads}

-- WHAT THE TRACK IS MADE OF

-- its seek body has the form of its entries and nothing behind them
abbrev pub SeekLaid : Track → Option (List ℕ) → Type 0
SeekLaid track None = track.entries ≡ []
SeekLaid track (Some seek) =
    (seek_of (point_width track.phrases) seek ≡ Ok track.entries)
    × (length seek ≡ length (seek_bytes (point_width track.phrases) (map (λ entry. entry.what) track.entries)))

pub record TrackLaid (s : List ℕ) (chunk : Chunk) (track : Track) : Type 0 where
  pub seek : Option (List ℕ)
  pub held : body_bytes s chunk ≡ part s (body_place chunk) fixed_size ++ seek_part seek ++ chunk_bytes Mtsq track.body
  pub laid : SeekLaid track seek
  pub said : SeekReads track.phrases track.items (length track.body) seek track.entries
  pub reads : body_of Score track.body ≡ Ok track.items
  pub phrased : track.phrases ≡ has_phrases (part s (body_place chunk) fixed_size)
  pub six : length (part s (body_place chunk) fixed_size) ≡ 6
  pub format : part s (body_place chunk) fixed_size ! 0 ≡ 0
  pub fits : fixed_fits Score (part s (body_place chunk) fixed_size) 0 ≡ true

-- ITS VOICE
score_voice_lem : (s : List ℕ) (body size : ℕ) (voice : Voice) → score_voice s body size ≡ Ok (Some voice) → (voice ≡ Score) × (s ! body ≡ 0)
unfolding score_voice when◌then◌else◌
score_voice_lem s body size voice e =
    by_test ((size ≡? 0) or (3 ≤? s ! body))
    (λ h. let no = rw h at e in let z : ◌≡◌ {A = ℕ} 0 1 = cc in absurd (omega arith))
    (λ h.
    by_test (s ! body ≡? 0)
    (λ g. let is = rw (h, g) at e in let same : Score ≡ voice = cc in (sym same, eqb-true (s ! body) 0 g))
    (λ g. let no = rw (h, g) at e in let z : ◌≡◌ {A = ℕ} 0 1 = cc in absurd (omega arith)))

track_score : (s : List ℕ) (chunk : Chunk) (voice : Voice) → chunk.id / 256 ≡ MTR → voice_of s chunk ≡ Ok (Some voice)
    → (voice ≡ Score) × (s ! body_place chunk ≡ 0)
unfolding voice_of when◌then◌else◌
track_score s chunk voice score e =
    score_voice_lem s (body_place chunk) chunk.size voice (rw (eq-eqb (chunk.id / 256) MTR score) at e)

-- ITS FIXED BYTES, in the file and apart
fixed_passed : (s : List ℕ) (chunk : Chunk) → is_fine (fixed_holds Score s chunk) ≡ true → fixed_fits Score s (body_place chunk) ≡ true
unfolding fixed_holds when◌then◌else◌ is_fine
fixed_passed s chunk e =
    by_test (fixed_fits Score s (body_place chunk)) (λ h. h)
    (λ h.
    let enough = not_refused (chunk.size <? 6) 8 (body_place chunk) _ e in
    absurd (false≢true (rw (enough, h) at e)))

fixed_apart : (s : List ℕ) (at : ℕ) → fixed_fits Score s at ≡ true → fixed_fits Score (part s at 6) 0 ≡ true
unfolding fixed_fits
fixed_apart s at h = rw (part_at s at 6 1 (omega arith), part_at s at 6 2 (omega arith), part_at s at 6 3 (omega arith)) h

-- ITS SUB-CHUNKS: a seek body that passed its checks has the form of its entries
seek_form : (phrases : Bool) (items : List (Placed (Item Event))) (size : ℕ) (seek : List ℕ) (entries : List (Placed Entry))
    → seek_in phrases items size seek ≡ Ok entries → seek_of (point_width phrases) seek ≡ Ok entries
unfolding seek_in
seek_form phrases items size seek entries e =
    let a = bind_fine _ _ entries e in
    let b = then_fine _ _ entries a.2 in
    a.1 ∙ b.1

-- the one of an ID, where it is the first or the second
named_first : (id : ℕ) (one : Chunk) (more : List Chunk) → one.id ≡ id → part_named id (one ∷ more) ≡ Some one
unfolding part_named first
named_first id one more h = if_true (one.id ≡? id) _ _ (eq-eqb one.id id h)

named_later : (id : ℕ) (one : Chunk) (more : List Chunk) → (one.id ≡ id → ⊥) → part_named id (one ∷ more) ≡ part_named id more
unfolding part_named first
named_later id one more h = if_false (one.id ≡? id) _ _ (ne_eqb one.id id h)

named_none : (id : ℕ) → part_named id [] ≡ None
unfolding part_named first
named_none id = refl

module _ (s : List ℕ) (track : Track) (sequence : Chunk) where
  abbrev body : List ℕ
  body = body_bytes s sequence

  abbrev Laid : List Chunk → Type 0
  Laid parts =
      (seek : Option (List ℕ)) × (row_of s parts ≡ track_row seek body) × SeekLaid track seek
      × SeekReads track.phrases track.items (length body) seek track.entries

  abbrev Said : Option Chunk → Type 0
  Said seek = entries_of track.phrases track.items (length body) s seek ≡ Ok track.entries

  one_laid : (one : Chunk) → one.id ≡ Mtsq → part_named Mtsq (one ∷ []) ≡ Some sequence → Said (part_named MspI (one ∷ [])) → Laid (one ∷ [])
  unfolding row_of track_row entries_of
  one_laid one named found said =
      let first_is = named_first Mtsq one [] named in
      let same : one ≡ sequence = cc in
      let missing : part_named MspI (one ∷ []) ≡ None = named_later MspI one [] (λ e. omega arith) ∙ named_none MspI in
      let nothing = rw missing at said in
      let empty : track.entries ≡ [] = cc in
      (None, ap₂ (λ (id : ℕ) (c : Chunk). bodied id (body_bytes s c) ∷ []) named same, empty, empty)

  two_laid : (one two : Chunk) → one.id ≡ MspI → two.id ≡ Mtsq
      → one.size ≡ length (seek_bytes (point_width track.phrases) (map (λ entry. entry.what) track.entries)) → place_after one ≤ length s
      → part_named Mtsq (one ∷ two ∷ []) ≡ Some sequence → Said (part_named MspI (one ∷ two ∷ [])) → Laid (one ∷ two ∷ [])
  unfolding row_of track_row entries_of
  two_laid one two sought named sized within found said =
      let second_is = named_later Mtsq one (two ∷ []) (λ e. omega arith) ∙ named_first Mtsq two [] named in
      let same : two ≡ sequence = cc in
      let there : part_named MspI (one ∷ two ∷ []) ≡ Some one = named_first MspI one (two ∷ []) sought in
      let counted = rw there at said in
      let reads = counted_fine (body_place one) _ track.entries counted in (
        Some (body_bytes s one),
        ap₂ (λ (first : Bodied) (second : Bodied). first ∷ second ∷ [])
            (ap (λ (id : ℕ). bodied id (body_bytes s one)) sought)
            (ap₂ (λ (id : ℕ) (c : Chunk). bodied id (body_bytes s c)) named same),
        (
          seek_form track.phrases track.items (length body) (body_bytes s one) track.entries reads,
          part_length s (body_place one) one.size within ∙ sized,
        ),
        reads,
      )

  parts_laid_lem : (parts : List Chunk) (at end : ℕ) → at ≤ end → end ≤ length s → Stand end (chunk_step s end) at parts → parts_laid track parts ≡ true
      → part_named Mtsq parts ≡ Some sequence → Said (part_named MspI parts) → Laid parts
  unfolding parts_laid
  parts_laid_lem [] at end h within st ok found said = absurd (false≢true ok)
  parts_laid_lem (one ∷ []) at end h within st ok found said = one_laid one (eqb-true one.id Mtsq ok) found said
  parts_laid_lem (one ∷ two ∷ []) at end h within st ok found said =
      let m = met_here s end at one st.0 h st.1 in
      let others = and_right (one.id ≡? MspI) _ ok in
      two_laid one two (eqb-true one.id MspI (and_left (one.id ≡? MspI) _ ok)) (eqb-true two.id Mtsq (and_left (two.id ≡? Mtsq) _ others))
      (eqb-true one.size _ (and_right (two.id ≡? Mtsq) _ others)) (omega arith) found said
  parts_laid_lem (one ∷ two ∷ three ∷ more) at end h within st ok found said = absurd (false≢true ok)

-- THE WHOLE TRACK
module _ (s : List ℕ) (chunk : Chunk) (track : Track) (bytes : (k : ℕ) → s ! k < 256) (within : place_after chunk ≤ length s)
    (score : chunk.id / 256 ≡ MTR) (ok : parts_laid track track.parts ≡ true) where
  abbrev place : ℕ
  place = body_place chunk

  track_laid : s ! place ≡ 0 → track_of s Score chunk ≡ Ok track → TrackLaid s chunk track
  unfolding has_phrases
  track_laid zero-first e =
      let room = fixed_inside s Score chunk track e in
      let made = track_made s Score chunk track e in
      let stand = parts_stand s Score chunk track e in
      let p = parts_laid_lem s track made.sequence track.parts (place + 6) (place_after chunk) (omega arith) within stand ok made.named made.entries in
      let body_is : body_bytes s made.sequence ≡ track.body = sym made.body in
      let list_is : part s (place + 6) (place_after chunk - (place + 6)) ≡ seek_part p.0 ++ chunk_bytes Mtsq track.body =
      sym (stand_writes s bytes track.parts (place + 6) (place_after chunk) (omega arith) within stand)
      ∙ ap row_bytes p.1 ∙ track_row_bytes p.0 _ ∙ ap (λ (l : List ℕ). seek_part p.0 ++ chunk_bytes Mtsq l) body_is in
      let sizes : chunk.size ≡ 6 + (place_after chunk - (place + 6)) = omega arith in
      record {
        seek = p.0;
        held =
            ap (part s place) sizes ∙ parts_joined s place 6 (place_after chunk - (place + 6)) ∙ ap (λ (l : List ℕ). part s place 6 ++ l) list_is
            ∙ sym (append_assoc (part s place 6) (seek_part p.0) (chunk_bytes Mtsq track.body));
        laid = p.2;
        said = subst (λ (l : List ℕ). SeekReads track.phrases track.items (length l) p.0 track.entries) body_is p.3;
        reads = subst (λ (l : List ℕ). body_of Score l ≡ Ok track.items) body_is made.reads;
        phrased = made.phrased ∙ ap (λ (n : ℕ). n ≡? 1) (sym (part_at s place 6 1 (omega arith)));
        six = part_length s place 6 (omega arith);
        format = part_at s place 6 0 (omega arith) ∙ ap (λ (n : ℕ). s ! n) (add-zero place) ∙ zero-first;
        fits = fixed_apart s place (fixed_passed s chunk made.fixed);
      }

  pub track_writes : top_of s chunk ≡ Ok (readable chunk track) → TrackLaid s chunk track
  track_writes e =
      let o = opened_as s chunk (readable chunk track) e in
      let v = track_score s chunk o.1 score o.2 in
      track_laid v.1 (subst (λ (voice : Voice). track_of s voice chunk ≡ Ok track) v.0 o.3)
