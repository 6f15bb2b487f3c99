-- Ticket 3: the tracks of a file that was read in the layout: there is one at least, and no number comes twice.
use Prim.Native.Nat.{ℕ, ◌+◌, ◌-◌, ◌*◌, ◌%◌, ◌<◌}
use mathlib.Core.Bool.{Bool, true, false, false≢true}
use mathlib.Core.List.{List, [], ◌∷◌, map}
use mathlib.Core.Path.{◌≡◌, refl, ◌∙◌, subst}
use lib.ListN.{length}
use native.Mathlib.Omega.{arith}
use borrow.Author.Tests.{ne_eqb, eqb-false}
use Rattle.model.specs.Words.{◌or◌, ◌≡?◌, any, passed}
use Rattle.std.specs.Prelude.{Ok}
use Rattle.model.specs.Bytes.{CNTI, MTR}
use Rattle.model.specs.Chunk.{Chunk, chunk_step, allowed_once, chunk_list}
use Rattle.model.specs.Track.{is_track, is_wanted, has_one, is_allowed}
use Rattle.model.specs.File.{Top, Top.leaf, Top.readable, File, chunk_of, frame_of}
use Rattle.model.specs.Tables.{Given, once_from}
use Rattle.model.specs.declared.ListOf.TheVariants as list
use Rattle.model.specs.declared.Wanted.TheVariants as wanted
use Rattle.model.proofs.Outcomes.{then_fine, bind_fine, not_refused_fine, past_fine, was_passed, neither_first, neither_second}
use Rattle.model.proofs.Tests.{if_false}
use Rattle.model.proofs.Walks.{Pass, stand_iff}
use Rattle.chunks.proofs.Lists.{chunk_goes}
use Rattle.reading.proofs.Files.{long_enough}
use Rattle.whole.proofs.FrameWrites.{frame_list}
use Rattle.whole.proofs.TrackAgain.{given_held}
use Rattle.whole.proofs.FileLaid.{TracksLaid, FileLaid}

-- the tracks as they are given
unfoldable pub givens_held : List ℕ → List Top → List Given
givens_held s [] = []
givens_held s (leaf chunk ∷ tops) = givens_held s tops
givens_held s (readable chunk track ∷ tops) = given_held s chunk track ∷ givens_held s tops

-- ONE AT LEAST
frame_tracked : (s : List ℕ) (chunks : List Chunk) → frame_of s ≡ Ok chunks → has_one wanted.Track chunks ≡ true
unfolding frame_of
frame_tracked s chunks e =
    let a = then_fine _ _ chunks e in
    let b = then_fine _ _ chunks a.1 in
    let c = bind_fine _ _ chunks b.1 in
    let d = then_fine _ _ chunks c.2 in
    let f = then_fine _ _ chunks d.1 in
    let same : c.0 ≡ chunks = let q = f.1 in cc in
    subst (λ (l : List Chunk). has_one wanted.Track l ≡ true) same (was_passed (has_one wanted.Track c.0) 7 (length s - 2) passed f.0)

some_track : (contents : Chunk) (tops : List Top) → contents.id ≡ CNTI → has_one wanted.Track (contents ∷ map chunk_of tops) ≡ true → 0 < length tops
unfolding has_one any is_wanted is_track ◌or◌
some_track contents [] named has = absurd (false≢true (rw named at has))
some_track contents (top ∷ tops) named has = omega arith

-- NONE TWICE: the numbers of the tracks before, by their chunks
abbrev Numbered : List ℕ → List Chunk → Type 0
Numbered [] chunks = Unit
Numbered (number ∷ numbers) [] = ⊥
Numbered (number ∷ numbers) (chunk ∷ chunks) = (chunk.id ≡ MTR * 256 + number) × Numbered numbers chunks

other_number : (before : List ℕ) (chunks : List Chunk) (number id : ℕ) → id ≡ MTR * 256 + number → Numbered before chunks
    → any (λ earlier. earlier.id ≡? id) chunks ≡ false → any (λ earlier. earlier ≡? number) before ≡ false
unfolding any ◌or◌
other_number [] chunks number id is are none = refl
other_number (one ∷ before) [] number id is are none = absurd are
other_number (one ∷ before) (chunk ∷ chunks) number id is are none =
    let first = eqb-false chunk.id id (neither_first (chunk.id ≡? id) _ none) in
    let same = are.0 in
    let other : one ≡ number → ⊥ = λ e. first (omega arith) in
    rw (ne_eqb one number other) (other_number before chunks number id is are.1 (neither_second (chunk.id ≡? id) _ none))

module _ (s : List ℕ) (allowed : ℕ → Bool) where
  tracks_once : (tops : List Top) (chunks : List Chunk) (before : List ℕ) (index : ℕ) → TracksLaid s tops → Numbered before chunks
      → Pass (allowed_once allowed) chunks (map chunk_of tops) → once_from before index (givens_held s tops) ≡ passed
  unfolding givens_held once_from chunk_of given_held allowed_once
  tracks_once [] chunks before index laid are pass = refl
  tracks_once (leaf chunk ∷ tops) chunks before index laid are pass = absurd laid
  tracks_once (readable chunk track ∷ tops) chunks before index laid are pass =
      let score = laid.0 in
      let id : chunk.id ≡ MTR * 256 + chunk.id % 256 = omega arith in
      let fresh =
      not_refused_fine (any (λ earlier. earlier.id ≡? chunk.id) chunks) 6 chunk.place passed tt (past_fine _ 9 chunk.place _ tt pass.0) in
      if_false _ _ _ (other_number before chunks (chunk.id % 256) chunk.id id are fresh)
      ∙ tracks_once tops (chunk ∷ chunks) (chunk.id % 256 ∷ before) (index + 1) laid.2 (id, are) pass.1

module _ (s : List ℕ) (file : File) (laid : FileLaid s file) where
  pub file_tracked : 0 < length laid.tracks
  file_tracked = some_track laid.contents laid.tracks laid.named (frame_tracked s (laid.contents ∷ map chunk_of laid.tracks) laid.framed)

  pub file_once : once_from [] 0 (givens_held s laid.tracks) ≡ passed
  unfolding chunk_list
  file_once =
      let chunks : List Chunk = laid.contents ∷ map chunk_of laid.tracks in
      let end : ℕ = length s - 2 in
      let long = long_enough s chunks laid.framed in
      let listed = frame_list s chunks laid.framed in
      let passes = ((stand_iff 4 end (chunk_step s end) (allowed_once (is_allowed list.File)) (λ at g. chunk_goes s end at g) 8 chunks (omega arith)).0 listed).1 in
      tracks_once s (is_allowed list.File) laid.tracks (laid.contents ∷ []) [] 0 laid.laid tt passes.1
