-- Ticket 3, "reading the result gives verdict yes and exactly what was put in", for a file that the operation wrote into lent memory: the bytes that it reports
-- are a file that reads, and it holds what the two tables gave.
use Prim.Native.Nat.{ℕ, ◌≤◌}
use mathlib.Core.Bool.{true}
use mathlib.Core.List.{List}
use mathlib.Core.Path.{◌≡◌, refl, ◌∙◌, ap, subst}
use lib.ListN.{length, take, length-take}
use native.Mathlib.Omega.{arith}
use borrow.Author.Tests.{le-ltb, ltb-false}
use Rattle.model.specs.Words.{when◌then◌else◌, ◌or◌, ◌>>◌}
use Rattle.std.specs.Prelude.{Ok}
use Rattle.model.specs.File.{File, contents_of, file_of}
use Rattle.model.specs.Arrangement.{Arrangement, file_bytes}
use Rattle.model.specs.Tables.{arrangement_of}
use Rattle.model.specs.Layout.{held_in, is_laid}
use Rattle.model.specs.Answer.{within_room, write_of, write_room}
use Rattle.model.proofs.Outcomes.{then_fine, bind_fine, not_refused_fine, past_fine, neither_first}
use Rattle.inverse.proofs.ItemsBack.{front}
use Rattle.whole.proofs.Bounded.{AllBelow}
use Rattle.whole.proofs.FileReads.{ReadsBack, written_reads}

-- the front of a buffer that is a file
file_in_lem : (buffer : List ℕ) (n : ℕ) (s : List ℕ) (file : File) → take n buffer ≡ s → n ≡ length s → n ≤ 65536 → contents_of s ≡ Ok file
    → file_of buffer n ≡ Ok file
unfolding file_of when◌then◌else◌ ◌or◌ ◌>>◌
file_in_lem buffer n s file is long few reads =
    let there : n ≤ length buffer = omega (arith, length-take n buffer, ap length is) in
    rw (le-ltb (length buffer) n there, le-ltb 65536 n few, is) reads

-- what was written, of which arrangement
wrote_what : (numbers bytes : List ℕ) (room : ℕ) (written : List ℕ) → write_of numbers bytes room ≡ Ok written
    → (arrangement : Arrangement) × (arrangement_of numbers bytes ≡ Ok arrangement) × (file_bytes arrangement ≡ written) × (length written ≤ 65536)
unfolding write_of within_room
wrote_what numbers bytes room written e =
    let a = bind_fine _ _ written e in
    let b = then_fine _ _ written a.2 in
    let same : file_bytes a.0 ≡ written = let q = past_fine _ 24 0 _ written b.1 in cc in
    let few = ltb-false 65536 (length (file_bytes a.0)) (neither_first _ _ (not_refused_fine (_ or _) 24 0 _ written b.1)) in
    (a.0, a.1, same, omega (arith, ap length same))

module _ (numbers bytes room written : List ℕ) (small : AllBelow 4294967296 numbers) (below : AllBelow 256 bytes)
    (wrote : write_of numbers bytes (length room) ≡ Ok written) where
  abbrev after : List ℕ
  after = write_room room (write_of numbers bytes (length room))

  pub file_reads_back : (arrangement : Arrangement) × (arrangement_of numbers bytes ≡ Ok arrangement)
      × (file : File) × (file_of after (length written) ≡ Ok file) × (file.matches ≡ true)
      × (held_in (take (length written) after) file ≡ arrangement) × (is_laid file ≡ true)
  file_reads_back =
      let w = wrote_what numbers bytes (length room) written wrote in
      let few = w.3 in
      let same = w.2 in
      let back : ReadsBack (file_bytes w.0) w.0 = written_reads numbers bytes w.0 small below w.1 (omega (arith, ap length same)) in
      let stored : take (length written) after ≡ written = front room _ written wrote in
      let read : ReadsBack written w.0 = subst (λ (s : List ℕ). ReadsBack s w.0) same back in (
        w.0,
        w.1,
        read.file,
        file_in_lem after (length written) written read.file stored refl few read.reads,
        read.matches,
        ap (λ (s : List ℕ). held_in s read.file) stored ∙ read.holds,
        read.laid,
      )
