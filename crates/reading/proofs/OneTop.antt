-- A chunk of the top level: the voice in which it is opened, and the number of its sub-chunks.
use Prim.Native.Nat.{ℕ, ◌+◌, ◌-◌, ◌<◌, ◌≤◌}
use mathlib.Core.Path.{◌≡◌, refl, sym, ◌∙◌, ap, subst}
use mathlib.Core.Bool.{true}
use mathlib.Core.List.{List}
use Rattle.std.specs.Prelude.{Option, None, Some, Ok, Err}
use lib.ListN.{length}
use native.Mathlib.Nat.{add-zero, zero-add}
use native.Mathlib.Omega.{arith}
use Rattle.model.specs.Words.{Checked, ◌>>=◌}
use Rattle.model.specs.Item.{is_fine, found, check_answer}
use Rattle.model.specs.Chunk.{Chunk, read_chunk, chunk_step}
use Rattle.model.specs.Track.{Track, is_allowed, fixed_holds, voice_of, track_of}
use Rattle.model.specs.declared.Refusal.{Refusal}
use Rattle.model.specs.declared.ListOf.TheVariants as list
use Rattle.model.specs.declared.Voice.{Voice}
use Rattle.model.specs.declared.ReadChunk.{ReadChunk}
use Rattle.chunks.specs.Kept.{chunks_in}
use Rattle.model.proofs.Walks.{Stand}
use Rattle.chunks.proofs.Lists.{ChunkAhead, chunk_ahead}
use Rattle.chunks.proofs.Searches.{list_stands, none_left, never_cut, first_left, checked_chunks}
use Rattle.model.specs.File.{opened, top_of, parts_of}
use Rattle.model.proofs.Outcomes.{fine_some}
use Rattle.tracks.specs.Stages.{bare}
use Rattle.model.proofs.Answers.{answer_refused, answer_passed}
use Rattle.tracks.proofs.Stages.{fixed_room}
use Rattle.reading.specs.Stages.{placed, top_rows, top_answer}
use Rattle.reading.proofs.TrackMade.{track_made}

-- the count of a list: what is passed and what is left are all

pub record Counting (s : List ℕ) (start end count at : ℕ) : Type 0 where
  pub rest : List Chunk
  pub stand : Stand end (chunk_step s end) at rest
  pub within : at ≤ end
  pub few : count ≤ at
  pub small : end ≤ 65536
  pub same : count + length rest ≡ length (found (chunks_in s start end))

pub count_starts : (s : List ℕ) (start end : ℕ) → start ≤ end → end ≤ 65536 → is_fine (chunks_in s start end) ≡ true → Counting s start end 0 start
count_starts s start end h small ok =
    record { rest = found (chunks_in s start end); stand = list_stands s start end h ok; within = h; few = omega arith; small = small; same = zero-add _ }

module _ (s : List ℕ) (start end count at : ℕ) (c : Counting s start end count at) where
  pub count_ends : end ≤ at → count ≡ length (found (chunks_in s start end))
  count_ends past =
      sym (add-zero count) ∙ ap (λ (chunks : List Chunk). count + length chunks) (sym (none_left s end at c.within c.rest c.stand past)) ∙ c.same

  module _ (r : Option ReadChunk) (here : at < end) (is : r ≡ read_chunk s end at) where
    pub count_never : r ≡ None → count ≡ length (found (chunks_in s start end))
    count_never e = absurd (never_cut s end at c.within r is c.rest here c.stand e)

    module _ (read : ReadChunk) (e : r ≡ Some read) where
      ahead : ChunkAhead s end at (Some read)
      ahead = subst (ChunkAhead s end at) (sym is ∙ e) (chunk_ahead s end at c.within)

      pub count_nears : end - read.next < end - at
      count_nears = let a = ahead in omega arith

      pub count_turns : Counting s start end (count + 1) read.next
      count_turns =
          let a = ahead in
          let l = first_left s end at c.within r is c.rest read here c.stand e in
          record {
            rest = l.0;
            stand = l.2;
            within = a.2;
            few = omega (arith, c.few);
            small = c.small;
            same = omega (arith, ap length l.1, c.same);
          }

pub ruleset countings = (count_starts, count_ends, count_never, count_nears, count_turns)

-- a track that is opened, and how many rows it brings

pub passes : {A : Type 0} (a : A) → check_answer (Ok a) ≡ Ok tt
unfolding check_answer
passes a = refl

pub id_free : (s : List ℕ) (voice : Voice) (place size : ℕ) → track_of s voice (placed s place size) ≡ track_of s voice (bare place size)
unfolding track_of fixed_holds
id_free s voice place size = refl

module _ (s : List ℕ) (voice : Voice) (place size : ℕ) (r : Checked (Unit {0})) (is : r ≡ check_answer (track_of s voice (bare place size))) where
  pub opened_refused : (why : Refusal) → r ≡ Err why → Err why ≡ top_answer (opened s (placed s place size) (Some voice))
  unfolding opened top_answer ◌>>=◌
  opened_refused why e = sym (rw (id_free s voice place size ∙ answer_refused _ why (sym is ∙ e)))

  pub a_track : r ≡ Ok tt → (track : Track) × (track_of s voice (placed s place size) ≡ Ok track)
  a_track e = go (track_of s voice (placed s place size)) (id_free s voice place size)
    where
      go : (c : Checked Track) → c ≡ track_of s voice (bare place size) → (track : Track) × (c ≡ Ok track)
      go c q = fine_some c (ap is_fine q ∙ answer_passed _ (sym is ∙ e))

  module _ (e : r ≡ Ok tt) where
    pub opened_room : 6 ≤ size
    unfolding fixed_holds
    opened_room =
        let f = fine_some (fixed_holds voice s (bare place size)) (track_made s voice (placed s place size) (a_track e).0 (a_track e).1).fixed in
        fixed_room voice s place size (check_answer (fixed_holds voice s (bare place size))) refl (ap check_answer f.1 ∙ passes f.0)

    pub opened_from : place + 8 + 6 ≤ place + 8 + size
    opened_from = let h = opened_room in omega arith

    pub listed_parts : chunks_in s (place + 8 + 6) (place + 8 + size) ≡ Ok (a_track e).0.parts
    listed_parts =
        checked_chunks (is_allowed (list.Track voice)) s (place + 8 + 6) (place + 8 + size) _ (let h = opened_room in omega arith)
        (track_made s voice (placed s place size) (a_track e).0 (a_track e).1).listed

    pub opened_fine : is_fine (chunks_in s (place + 8 + 6) (place + 8 + size)) ≡ true
    unfolding is_fine
    opened_fine = ap is_fine listed_parts

    pub opened_rows : (n : ℕ) → n ≡ length (found (chunks_in s (place + 8 + 6) (place + 8 + size)))
        → Ok (1 + n) ≡ top_answer (opened s (placed s place size) (Some voice))
    unfolding opened top_answer top_rows parts_of found ◌>>=◌
    opened_rows n h =
        ap (λ (k : ℕ). (Ok (1 + k))) (h ∙ ap (λ (c : Checked (List Chunk)). length (found c)) listed_parts) ∙ sym (rw (a_track e).1)

pub ruleset openings = (opened_refused, opened_rows)

-- a chunk of the top level

module _ (s : List ℕ) (place size : ℕ) (r : Checked (Option Voice)) (is : r ≡ voice_of s (placed s place size)) where
  pub top_refused : (why : Refusal) → r ≡ Err why → Err why ≡ top_answer (top_of s (placed s place size))
  unfolding top_of top_answer ◌>>=◌
  top_refused why e = sym (rw (sym is ∙ e))

  pub top_closed : (f : Option Voice) → r ≡ Ok f → f ≡ None → Ok 1 ≡ top_answer (top_of s (placed s place size))
  unfolding top_of opened top_answer top_rows parts_of ◌>>=◌
  top_closed f e h = sym (rw (sym is ∙ e, h))

  pub top_opened : (f : Option Voice) (v : Voice) (z : Checked ℕ) → r ≡ Ok f → f ≡ Some v → z ≡ top_answer (opened s (placed s place size) (Some v))
      → z ≡ top_answer (top_of s (placed s place size))
  unfolding top_of ◌>>=◌
  top_opened f v z e h q = rw (sym is ∙ e, h) q

pub ruleset tops = (top_refused, top_closed, top_opened)
