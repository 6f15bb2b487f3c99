-- What an accepted file is made of: its frame, the chunks of its top level one after the other, and what each of them was opened as.
use Prim.Native.Nat.{ℕ, ◌+◌, ◌-◌, ◌≤◌}
use mathlib.Core.Path.{◌≡◌, refl, sym, ◌∙◌, ap, subst}
use mathlib.Core.List.{List, [], ◌∷◌}
use Rattle.std.specs.Prelude.{Option, None, Some, Ok, Err}
use lib.ListN.{length, take}
use native.Mathlib.Omega.{arith}
use borrow.Author.Tests.{ltb-false, eqb-true}
use Rattle.model.specs.Words.{◌<?◌, ◌≡?◌, Checked, passed, Step.met, each}
use Rattle.model.specs.Bytes.{number}
use Rattle.model.specs.CheckCode.{check_code}
use Rattle.model.specs.Item.{is_fine, found}
use Rattle.model.specs.Chunk.{Chunk, chunk_at, read_chunk, chunk_met, chunk_step}
use Rattle.model.specs.Track.{Track, is_allowed, fixed_holds, voice_of, track_of}
use Rattle.model.specs.File.{File, Top, Top.leaf, Top.readable, frame_of, opened, top_of, contents_of, file_of}
use Rattle.model.specs.declared.ListOf.TheVariants as list
use Rattle.model.specs.declared.Voice.{Voice}
use Rattle.model.specs.declared.ReadChunk.{ReadChunk}
use Rattle.model.proofs.Outcomes.{then_fine, bind_fine, not_refused, was_passed, neither_first, neither_second}
use Rattle.model.proofs.Walks.{Stand}
use Rattle.chunks.specs.Kept.{chunks_in}
use Rattle.chunks.proofs.Lists.{ChunkAhead, chunk_ahead}
use Rattle.chunks.proofs.Searches.{list_stands, checked_chunks}
use Rattle.reading.specs.Stages.{placed}
use Rattle.reading.proofs.TrackMade.{track_made}
use Rattle.reading.proofs.Files.{long_enough, frame_chunks}

-- THE STATED BYTES of a buffer are all there, and they are what is read.
pub stated_bytes : (buffer : List ℕ) (n : ℕ) (file : File) → file_of buffer n ≡ Ok file → (n ≤ length buffer) × (contents_of (take n buffer) ≡ Ok file)
unfolding file_of
stated_bytes buffer n file e =
    let a = then_fine _ _ file e in
    (ltb-false (length buffer) n (neither_first (length buffer <? n) _ (not_refused _ 1 0 passed a.0)), a.1)

-- and they are not over 65,536
pub stated_small : (buffer : List ℕ) (n : ℕ) (file : File) → file_of buffer n ≡ Ok file → n ≤ 65536
unfolding file_of
stated_small buffer n file e =
    let a = then_fine _ _ file e in
    ltb-false 65536 n (neither_second (length buffer <? n) _ (not_refused _ 1 0 passed a.0))

-- THE FILE'S OWN CHUNK, whose size counts all that follows its header
pub whole_size_lem : (s : List ℕ) (chunks : List Chunk) → frame_of s ≡ Ok chunks → number 4 s 4 + 8 ≡ length s
unfolding frame_of
whole_size_lem s chunks e =
    let a = then_fine _ _ chunks e in
    let b = then_fine _ _ chunks a.1 in
    eqb-true _ _ (was_passed (number 4 s 4 + 8 ≡? length s) 3 4 passed b.0)

-- what the file says of its contents

abbrev file_in : Checked File → File → File
file_in (Ok file) other = file
file_in (Err why) other = other

pub record Made (s : List ℕ) (file : File) : Type 0 where
  pub chunks : List Chunk
  pub long : 10 ≤ length s
  pub whole : file.chunk ≡ chunk_at s 0
  pub coded : file.code ≡ check_code (take (length s - 2) s)
  pub matched : file.matches ≡ (number 2 s (length s - 2) ≡? check_code (take (length s - 2) s))
  pub framed : frame_of s ≡ Ok chunks
  pub listed : chunks_in s 8 (length s - 2) ≡ Ok chunks
  pub stand : Stand (length s - 2) (chunk_step s (length s - 2)) 8 chunks
  pub opens : each (top_of s) chunks ≡ Ok file.tops

-- the chunks that a list was read as stand in it
read_stand : (s : List ℕ) (start end : ℕ) (chunks : List Chunk) → start ≤ end → chunks_in s start end ≡ Ok chunks
    → Stand end (chunk_step s end) start chunks
unfolding found is_fine
read_stand s start end chunks h e =
    subst (λ (c : Checked (List Chunk)). Stand end (chunk_step s end) start (found c)) e (list_stands s start end h (ap is_fine e))

pub contents_made : (s : List ℕ) (file : File) → contents_of s ≡ Ok file → Made s file
unfolding contents_of
contents_made s file e =
    let a = bind_fine _ _ file e in
    let b = bind_fine _ _ file a.2 in
    let long = long_enough s a.0 a.1 in
    let same = ap (λ (c : Checked File). file_in c file) b.2 in
    record {
      chunks = a.0;
      long = long;
      whole = sym (ap (λ (f : File). f.chunk) same);
      coded = sym (ap (λ (f : File). f.code) same);
      matched = sym (ap (λ (f : File). f.matches) same);
      framed = a.1;
      listed = frame_chunks s a.0 a.1;
      stand = read_stand s 8 (length s - 2) a.0 (omega arith) (frame_chunks s a.0 a.1);
      opens = b.1 ∙ ap (λ (f : File). Ok f.tops) same;
    }

-- THE FIRST CHUNK of those that stand from a place on begins there, and the next begins where it ends.
met_is : (s : List ℕ) (end at : ℕ) (r : Option ReadChunk) (chunk : Chunk) (next : ℕ) → ChunkAhead s end at r → chunk_met at r ≡ met chunk next
    → (chunk.place ≡ at) × (next ≡ at + 8 + chunk.size) × (next ≤ end) × (chunk ≡ placed s at chunk.size)
unfolding chunk_met
met_is s end at (Some read) chunk next a e =
    let one : Chunk = record { id = read.id; place = at; size = read.size } in
    let same : one ≡ chunk = cc in
    let on : read.next ≡ next = cc in
    let size_is : read.size ≡ chunk.size = ap (λ (c : Chunk). c.size) same in
    let placed_is : one ≡ placed s at chunk.size = rw (a.0, size_is) in
    (sym (ap (λ (c : Chunk). c.place) same), omega arith, omega arith, sym same ∙ placed_is)
met_is s end at None chunk next a e = let z : ◌≡◌ {A = ℕ} 0 1 = cc in absurd (omega arith)

pub stands_first : (s : List ℕ) (end at : ℕ) (chunk : Chunk) (next : ℕ) → at ≤ end → chunk_step s end at ≡ met chunk next
    → (chunk.place ≡ at) × (next ≡ at + 8 + chunk.size) × (next ≤ end) × (chunk ≡ placed s at chunk.size)
unfolding chunk_step
stands_first s end at chunk next within e = met_is s end at (read_chunk s end at) chunk next (chunk_ahead s end at within) e

-- EACH CHUNK of the top level has become a closed leaf or a readable track.

pub each_fine : {A B : Type 0} (check : A → Checked B) (a : A) (rest : List A) (all : List B) → each check (a ∷ rest) ≡ Ok all
    → (b : B) × (bs : List B) × (check a ≡ Ok b) × (each check rest ≡ Ok bs) × (all ≡ b ∷ bs)
unfolding each
each_fine check a rest all e =
    let p = bind_fine _ _ all e in
    let q = bind_fine _ _ all p.2 in
    (p.0, q.0, p.1, q.1, cc)

pub each_none : {A B : Type 0} (check : A → Checked B) (all : List B) → each check [] ≡ Ok all → all ≡ []
unfolding each
each_none check all e = cc

abbrev pub OpenedAs : List ℕ → Chunk → Top → Type 0
OpenedAs s chunk (leaf one) = (one ≡ chunk) × (voice_of s chunk ≡ Ok None)
OpenedAs s chunk (readable one track) = (one ≡ chunk) × (voice : Voice) × (voice_of s chunk ≡ Ok (Some voice)) × (track_of s voice chunk ≡ Ok track)

opened_so : (s : List ℕ) (chunk : Chunk) (voice : Option Voice) (top : Top) → voice_of s chunk ≡ Ok voice → opened s chunk voice ≡ Ok top
    → OpenedAs s chunk top
unfolding opened
opened_so s chunk None top v e = let is : leaf chunk ≡ top = cc in subst (OpenedAs s chunk) is (refl, v)
opened_so s chunk (Some voice) top v e =
    let a = bind_fine _ _ top e in
    let made = a.2 in
    let is : readable chunk a.0 ≡ top = cc in
    subst (OpenedAs s chunk) is (refl, voice, v, a.1)

pub opened_as : (s : List ℕ) (chunk : Chunk) (top : Top) → top_of s chunk ≡ Ok top → OpenedAs s chunk top
unfolding top_of
opened_as s chunk top e = let a = bind_fine _ _ top e in opened_so s chunk a.0 top a.1 a.2

-- A READABLE TRACK has its fixed bytes, and its sub-chunks stand from there to its end.
module _ (s : List ℕ) (voice : Voice) (chunk : Chunk) (track : Track) (e : track_of s voice chunk ≡ Ok track) where
  pub fixed_inside : 6 ≤ chunk.size
  unfolding fixed_holds
  fixed_inside = ltb-false chunk.size 6 (not_refused (chunk.size <? 6) 8 (chunk.place + 8) _ (track_made s voice chunk track e).fixed)

  pub parts_read : chunks_in s (chunk.place + 8 + 6) (chunk.place + 8 + chunk.size) ≡ Ok track.parts
  parts_read =
      checked_chunks (is_allowed (list.Track voice)) s (chunk.place + 8 + 6) (chunk.place + 8 + chunk.size) track.parts
      (let h = fixed_inside in omega arith) (track_made s voice chunk track e).listed

  pub parts_stand : Stand (chunk.place + 8 + chunk.size) (chunk_step s (chunk.place + 8 + chunk.size)) (chunk.place + 8 + 6) track.parts
  parts_stand = read_stand s (chunk.place + 8 + 6) (chunk.place + 8 + chunk.size) track.parts (let h = fixed_inside in omega arith) parts_read
