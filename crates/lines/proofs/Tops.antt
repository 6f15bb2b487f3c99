-- The chunks of a file as the reading head meets them: that one is there, and how long a step of its track lasts at most.
use Prim.Native.Nat.{ℕ, ◌+◌, ◌-◌, ◌<◌, ◌≤◌}
use mathlib.Core.List.{List}
use Rattle.std.specs.Prelude.{Option, Some}
use mathlib.Core.Path.{◌≡◌, sym, ◌∙◌, subst}
use lib.ListN.{length}
use native.Mathlib.Omega.{arith}
use Rattle.model.specs.Words.{◌≡?◌}
use Rattle.model.specs.TimeBase.{milliseconds}
use Rattle.model.specs.Chunk.{read_chunk}
use Rattle.model.specs.declared.ReadChunk.{ReadChunk}
use Rattle.model.proofs.Tests.{if_all}
use Rattle.chunks.proofs.Lists.{ChunkAhead, chunk_ahead}

-- the longest step
pub milliseconds_low : (code : ℕ) → milliseconds code ≤ 50
unfolding milliseconds
milliseconds_low code =
    if_all (λ n. n ≤ 50) (code ≡? 0x00) _ _ (λ _. omega arith)
    (λ _. if_all (λ n. n ≤ 50) (code ≡? 0x01) _ _ (λ _. omega arith)
    (λ _. if_all (λ n. n ≤ 50) (code ≡? 0x02) _ _ (λ _. omega arith)
    (λ _. if_all (λ n. n ≤ 50) (code ≡? 0x03) _ _ (λ _. omega arith)
    (λ _. if_all (λ n. n ≤ 50) (code ≡? 0x10) _ _ (λ _. omega arith)
    (λ _. if_all (λ n. n ≤ 50) (code ≡? 0x11) _ _ (λ _. omega arith)
    (λ _. if_all (λ n. n ≤ 50) (code ≡? 0x12) _ _ (λ _. omega arith)
    (λ _. if_all (λ n. n ≤ 50) (code ≡? 0x13) _ _ (λ _. omega arith) (λ _. omega arith))))))))

-- the chunk that is read at a place stands in the file
pub chunk_there : (s : List ℕ) (at : ℕ) (r : Option ReadChunk) (read : ReadChunk) → r ≡ read_chunk s (length s - 2) at → r ≡ Some read
    → at < length s - 2 → at + 8 + read.size ≤ length s
chunk_there s at r read is e here =
    let end = length s - 2 in
    let a : ChunkAhead s end at (Some read) = subst (ChunkAhead s end at) (sym is ∙ e) (chunk_ahead s end at (omega arith)) in
    omega arith
