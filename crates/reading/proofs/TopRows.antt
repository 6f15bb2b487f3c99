-- The rows of one chunk of the top level: what its voice says of them, and how they are stored.
use Prim.Native.Nat.{ℕ, ◌+◌, ◌*◌, ◌≤◌}
use mathlib.Core.Path.{◌≡◌, refl, sym, ◌∙◌, ap, subst}
use mathlib.Core.Bool.{true, false≢true}
use Rattle.std.specs.Prelude.{Some, Ok, Err, Option, None}
use mathlib.Core.List.{List, [], ◌∷◌, map}
use lib.ListN.{length}
use lib.Seq.{sets}
use native.Mathlib.Omega.{arith}
use Rattle.model.specs.Words.{Step.met, ◌>>=◌, Checked}
use Rattle.model.specs.Bytes.{number}
use Rattle.model.specs.Item.{is_fine, found, check_answer}
use Rattle.model.specs.Chunk.{Chunk, chunk_step}
use Rattle.model.specs.Track.{Track, voice_of, track_of}
use Rattle.model.specs.File.{Top.readable, top_of, opened, row_in, parts_of, numbers_of}
use Rattle.model.specs.declared.Refusal.{Refusal}
use Rattle.model.specs.declared.Voice.{Voice}
use Rattle.model.proofs.Outcomes.{bind_fine, fine_some}
use Rattle.chunks.specs.Kept.{chunks_in}
use Rattle.tracks.specs.Stages.{bare}
use Rattle.model.proofs.Walks.{GoesOn, Stand}
use Rattle.chunks.proofs.Lists.{chunk_goes}
use Rattle.chunks.proofs.Searches.{list_stands}
use Rattle.reading.specs.Stages.{placed, row_numbers, parts_by}
use Rattle.reading.proofs.OneTop.{passes, id_free, opened_from, opened_fine, a_track, listed_parts}
use Rattle.reading.proofs.Filling.{row_first}

module _ (s : List ℕ) (place size : ℕ) (ok : is_fine (top_of s (placed s place size)) ≡ true)
    (r : Checked (Option Voice)) (is : r ≡ voice_of s (placed s place size)) where
  -- an opened track
  module _ (f : Option Voice) (v : Voice) (e : r ≡ Ok f) (o : f ≡ Some v) where
    said : voice_of s (placed s place size) ≡ Ok (Some v)
    said = sym is ∙ e ∙ ap (λ (x : Option Voice). Ok x) o

    tops : top_of s (placed s place size) ≡ opened s (placed s place size) (Some v)
    unfolding top_of ◌>>=◌
    tops = rw said

    passed_check : check_answer (track_of s v (bare place size)) ≡ Ok tt
    unfolding opened
    passed_check =
        let f = fine_some (opened s (placed s place size) (Some v)) (ap is_fine (sym tops) ∙ ok) in
        let b = bind_fine (track_of s v (placed s place size)) _ f.0 f.1 in
        ap check_answer (sym (id_free s v place size) ∙ b.1) ∙ passes b.0

    the_track : (track : Track) × (track_of s v (placed s place size) ≡ Ok track)
    the_track = a_track s v place size _ refl passed_check

    pub opened_parts_from : place + 8 + 6 ≤ place + 8 + size
    opened_parts_from = opened_from s v place size _ refl passed_check

    pub opened_parts_fine : is_fine (chunks_in s (place + 8 + 6) (place + 8 + size)) ≡ true
    opened_parts_fine = opened_fine s v place size _ refl passed_check

    a_readable : top_of s (placed s place size) ≡ Ok (readable (placed s place size) the_track.0)
    unfolding opened ◌>>=◌
    a_readable = tops ∙ rw the_track.1

    pub parts_opened : parts_by (top_of s (placed s place size)) ≡ found (chunks_in s (place + 8 + 6) (place + 8 + size))
    unfolding parts_by parts_of found the_track
    parts_opened = ap parts_by a_readable ∙ sym (ap found (listed_parts s v place size _ refl passed_check))

    module _ (k : ℕ) (l : List ℕ) where
      pub opened_room : 4 * (k + 1 + length (parts_by (top_of s (placed s place size)))) ≤ length l
          → 4 * (k + 1 + length (found (chunks_in s (place + 8 + 6) (place + 8 + size)))) ≤ length l
      opened_room h = rw parts_opened at h

      pub opened_count : (n : ℕ) → n ≡ k + 1 + length (found (chunks_in s (place + 8 + 6) (place + 8 + size)))
          → n ≡ k + 1 + length (parts_by (top_of s (placed s place size)))
      opened_count n e = rw parts_opened e

      pub opened_filled : (out : List ℕ) → out ≡ sets l (4 * (k + 1)) (numbers_of (map (row_in k) (found (chunks_in s (place + 8 + 6) (place + 8 + size)))))
          → out ≡ sets l (4 * (k + 1)) (numbers_of (map (row_in k) (parts_by (top_of s (placed s place size)))))
      opened_filled out e = rw parts_opened e

  -- a closed leaf
  module _ (f : Option Voice) (e : r ≡ Ok f) (o : f ≡ None) where
    parts_closed : parts_by (top_of s (placed s place size)) ≡ []
    unfolding top_of opened parts_by parts_of ◌>>=◌
    parts_closed = rw (sym is ∙ e, o)

    pub closed_count : (k : ℕ) → k + 1 ≡ k + 1 + length (parts_by (top_of s (placed s place size)))
    closed_count k = omega (arith, ap length parts_closed)

    pub closed_filled : (k : ℕ) (l : List ℕ) → l ≡ sets l (4 * (k + 1)) (numbers_of (map (row_in k) (parts_by (top_of s (placed s place size)))))
    unfolding numbers_of
    closed_filled k l = rw parts_closed

  -- and nothing else
  module _ (why : Refusal) (e : r ≡ Err why) where
    never : ⊥
    unfolding top_of ◌>>=◌ is_fine
    never = false≢true (rw (sym is ∙ e) at ok)

    pub never_count : (k : ℕ) → k + 1 ≡ k + 1 + length (parts_by (top_of s (placed s place size)))
    never_count k = absurd never

    pub never_filled : (k : ℕ) (l : List ℕ) → l ≡ sets l (4 * (k + 1)) (numbers_of (map (row_in k) (parts_by (top_of s (placed s place size)))))
    never_filled k l = absurd never

-- a chunk of the top level brings no more rows than it has bytes

stand_few : (s : List ℕ) (end at : ℕ) (chunks : List Chunk) → at ≤ end → Stand end (chunk_step s end) at chunks → length chunks + at ≤ end
stand_few s end at [] within stand = omega arith
stand_few s end at (chunk ∷ rest) within stand =
    let g : GoesOn end at (met chunk stand.0) = subst (GoesOn end at) stand.1 (chunk_goes s end at within) in
    let h = stand_few s end stand.0 rest g.1 stand.2 in
    omega arith

pub top_few : (s : List ℕ) (place size : ℕ) → is_fine (top_of s (placed s place size)) ≡ true → length (parts_by (top_of s (placed s place size))) ≤ size
top_few s place size ok = go (voice_of s (placed s place size)) refl
  where
    go : (r : Checked (Option Voice)) → r ≡ voice_of s (placed s place size) → length (parts_by (top_of s (placed s place size))) ≤ size
    go (Ok (Some v)) is =
        let from = opened_parts_from s place size ok _ is (Some v) v refl refl in
        let stand = list_stands s (place + 8 + 6) (place + 8 + size) from (opened_parts_fine s place size ok _ is (Some v) v refl refl) in
        let few = stand_few s (place + 8 + size) (place + 8 + 6) (found (chunks_in s (place + 8 + 6) (place + 8 + size))) from stand in
        omega (arith, ap length (parts_opened s place size ok _ is (Some v) v refl refl))
    go (Ok None) is = omega (arith, closed_count s place size ok _ is None refl refl 0)
    go (Err why) is = absurd (never s place size ok _ is why refl)

-- the chunk's own row in front of those of its sub-chunks
module _ (s : List ℕ) (place size k : ℕ) (l m : List ℕ) where
  pub own_filled : (out : List ℕ) (id : ℕ) (parts : List Chunk) → id ≡ number 4 s place → m ≡ sets l (4 * k) (row_numbers id place size 0)
      → out ≡ sets m (4 * (k + 1)) (numbers_of (map (row_in k) parts)) → out ≡ sets l (4 * k) (numbers_of (row_in 0 (placed s place size) ∷ map (row_in k) parts))
  own_filled out id parts n q p =
      p
      ∙ ap (λ (x : List ℕ). sets x (4 * (k + 1)) (numbers_of (map (row_in k) parts))) q
      ∙ row_first l k id place size 0 (map (row_in k) parts)
      ∙ ap (λ (x : ℕ). sets l (4 * k) (numbers_of (row_in 0 (record { id = x; place = place; size = size }) ∷ map (row_in k) parts))) n

pub ruleset top_rows_lem = (opened_parts_from, opened_parts_fine, opened_room, opened_count, opened_filled, closed_count, closed_filled, never_count, never_filled)

pub ruleset own_rows = (own_filled)
