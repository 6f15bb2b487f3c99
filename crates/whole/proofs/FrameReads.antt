-- A written frame is read: the chunks of a file that is made of a row of chunks are those of the row, and its check code is the one that is computed.
use Prim.Native.Nat.{ℕ, ◌+◌, ◌-◌, ◌<◌, ◌≤◌}
use mathlib.Core.Bool.{Bool, true, false}
use mathlib.Core.List.{List, [], ◌∷◌, ◌++◌, append_assoc, append-nil}
use mathlib.Core.Path.{◌≡◌, refl, sym, ◌∙◌, ap}
use lib.ListN.{length, take, drop, length-append}
use lib.Seq.{take-append_seam, drop-append_seam}
use native.Mathlib.Omega.{arith}
use borrow.Author.Tests.{le-ltb, le-leb, eq-eqb}
use Rattle.model.specs.Words.{when◌then◌else◌, ◌and◌, ◌or◌, ◌<?◌, ◌≡?◌, any, ◌>>=◌, ◌>>◌}
use Rattle.std.specs.Prelude.{Ok}
use Rattle.model.specs.Bytes.{number, MMMD, CNTI}
use Rattle.model.specs.CheckCode.{check_code}
use Rattle.model.specs.Chunk.{Chunk, chunk_list}
use Rattle.model.specs.Track.{is_track, is_wanted, has_one, is_allowed}
use Rattle.model.specs.File.{opens_with_contents, frame_of}
use Rattle.model.specs.ChunkBytes.{number_bytes, chunk_bytes, with_check_code, file_with}
use Rattle.model.specs.declared.ListOf.TheVariants as list
use Rattle.model.specs.declared.Wanted.TheVariants as wanted
use Rattle.entries.proofs.NumberBytes.{number_bytes_length, number_back}
use Rattle.whole.proofs.ChunkRow.{Bodied, row_bytes, chunks_from, RowNamed, RowAllowed, RowHeld}
use Rattle.whole.proofs.ChunksRead.{id_read, size_read, body_follows, row_fits, row_held, chunks_read}

pub code_small : (bytes : List ℕ) → check_code bytes < 65536
unfolding check_code
code_small bytes = omega arith

-- A FILE IS ONE CHUNK, whose body is the bytes of its chunks and the check code.
module _ (chunks : List ℕ) where
  -- the bytes before the check code
  abbrev coded : List ℕ
  coded = number_bytes 4 MMMD ++ number_bytes 4 (length chunks + 2) ++ chunks

  abbrev body : List ℕ
  body = chunks ++ number_bytes 2 (check_code coded)

  body_long : length body ≡ length chunks + 2
  body_long = length-append chunks _ ∙ omega (arith, number_bytes_length 2 (check_code coded))

  file_chunk : file_with chunks ≡ chunk_bytes MMMD body ++ []
  unfolding file_with with_check_code chunk_bytes
  file_chunk =
      append_assoc (number_bytes 4 MMMD ++ number_bytes 4 (length chunks + 2)) chunks (number_bytes 2 (check_code coded))
      ∙ ap (λ (n : ℕ). number_bytes 4 MMMD ++ number_bytes 4 n ++ body) (sym body_long)
      ∙ sym (append-nil _)

  coded_long : length coded ≡ 8 + length chunks
  coded_long = simp length-append (omega (arith, number_bytes_length 4 MMMD, number_bytes_length 4 (length chunks + 2)))

  pub file_length : length (file_with chunks) ≡ 10 + length chunks
  unfolding file_with with_check_code
  file_length = length-append coded _ ∙ omega (arith, coded_long, number_bytes_length 2 (check_code coded))

  -- its chunks stand behind its header
  pub file_follows : drop 8 (file_with chunks) ≡ chunks ++ number_bytes 2 (check_code coded)
  file_follows = body_follows (file_with chunks) 0 MMMD body [] file_chunk ∙ append-nil body

  -- and it ends with the check code of all before it
  pub file_code : number 2 (file_with chunks) (length (file_with chunks) - 2) ≡ check_code (take (length (file_with chunks) - 2) (file_with chunks))
  unfolding file_with with_check_code
  file_code =
      let code : ℕ = check_code coded in
      let s : List ℕ = coded ++ number_bytes 2 code in
      let ends : length s - 2 ≡ length coded = omega (arith, length-append coded (number_bytes 2 code), number_bytes_length 2 code) in
      ap (number 2 s) ends
      ∙ number_back 2 code s (length coded) [] (code_small coded) (drop-append_seam coded (number_bytes 2 code) ∙ sym (append-nil _))
      ∙ ap check_code (sym (ap (λ (n : ℕ). take n s) ends ∙ take-append_seam coded (number_bytes 2 code)))

pub file_holds : (row : List Bodied) → RowHeld (file_with (row_bytes row)) 8 row
file_holds row = row_held (file_with (row_bytes row)) row 8 _ (file_follows (row_bytes row))

-- THE FRAME, where each of its checks passes
frame_passes : (s : List ℕ) (chunks : List Chunk) → (length s <? 10) ≡ false → (number 4 s 0 ≡? MMMD) ≡ true → (number 4 s 4 + 8 ≡? length s) ≡ true
    → chunk_list (is_allowed list.File) s 8 (length s - 2) ≡ Ok chunks → opens_with_contents chunks ≡ true → has_one wanted.Track chunks ≡ true
    → frame_of s ≡ Ok chunks
unfolding frame_of when◌then◌else◌ ◌or◌ ◌>>◌ ◌>>=◌
frame_passes s chunks long named sized listed opens tracks = rw (long, named, sized, listed, opens, tracks)

row_opens : (at : ℕ) (contents : Bodied) (more : List Bodied) → contents.id ≡ CNTI → 5 ≤ length contents.body
    → opens_with_contents (chunks_from at (contents ∷ more)) ≡ true
unfolding chunks_from opens_with_contents ◌and◌
row_opens at contents more named long = rw (eq-eqb contents.id CNTI named, le-leb 5 (length contents.body) long)

row_tracks : (at : ℕ) (row : List Bodied) → has_one wanted.Track (chunks_from at row) ≡ any (λ one. is_track one.id) row
unfolding chunks_from has_one any is_wanted
row_tracks at [] = refl
row_tracks at (one ∷ more) = ap (λ (b : Bool). is_track one.id or b) (row_tracks (at + 8 + length one.body) more)

or_later : (a b : Bool) → b ≡ true → (a or b) ≡ true
unfolding ◌or◌
or_later true b h = refl
or_later false b h = h

some_track : (at : ℕ) (first : Bodied) (more : List Bodied) → any (λ one. is_track one.id) more ≡ true
    → has_one wanted.Track (chunks_from at (first ∷ more)) ≡ true
unfolding any
some_track at first more h = row_tracks at (first ∷ more) ∙ or_later (is_track first.id) _ h

-- The first chunk is the contents chunk, and one behind it is a track.
module _ (contents : Bodied) (more : List Bodied) (named : contents.id ≡ CNTI) (long : 5 ≤ length contents.body)
    (tracks : any (λ one. is_track one.id) more ≡ true) (ids : RowNamed (contents ∷ more)) (ok : RowAllowed (is_allowed list.File) [] (contents ∷ more))
    (few : length (row_bytes (contents ∷ more)) + 2 < 4294967296) where
  pub frame_reads : frame_of (file_with (row_bytes (contents ∷ more))) ≡ Ok (chunks_from 8 (contents ∷ more))
  frame_reads =
      let row : List Bodied = contents ∷ more in
      let chunks : List ℕ = row_bytes row in
      let s : List ℕ = file_with chunks in
      let l = file_length chunks in
      let b = body_long chunks in
      let size = size_read s 0 MMMD (body chunks) [] (file_chunk chunks) (omega arith) in
      frame_passes s (chunks_from 8 row)
      (le-ltb (length s) 10 (omega arith))
      (eq-eqb (number 4 s 0) MMMD (id_read s 0 MMMD (body chunks) [] (file_chunk chunks) (omega arith)))
      (eq-eqb (number 4 s 4 + 8) (length s) (omega arith))
      (chunks_read (is_allowed list.File) s row 8 (length s - 2) _ (row_fits row ids (omega arith)) ok (file_follows chunks) (omega arith))
      (row_opens 8 contents more named long)
      (some_track 8 contents more tracks)
