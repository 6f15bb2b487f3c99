-- A row of chunks to be written: IDs and bodies. Its bytes, and the chunks that are read where those stand.
use Prim.Native.Nat.{ℕ, ◌+◌, ◌<◌}
use mathlib.Core.Bool.{Bool, true, false}
use mathlib.Core.List.{List, [], ◌∷◌, ◌++◌, map}
use mathlib.Core.Path.{◌≡◌}
use lib.ListN.{length}
use Rattle.model.specs.Words.{◌≡?◌, any}
use Rattle.model.specs.Chunk.{Chunk, body_bytes}
use Rattle.model.specs.ChunkBytes.{chunk_bytes}

pub record Bodied : Type 0 where
  pub id : ℕ
  pub body : List ℕ

abbrev pub bodied : ℕ → List ℕ → Bodied
bodied id body = record { id = id; body = body }

unfoldable pub row_bytes : List Bodied → List ℕ
row_bytes [] = []
row_bytes (one ∷ rest) = chunk_bytes one.id one.body ++ row_bytes rest

-- the chunk that is read where it stands at a place
abbrev pub chunk_from : ℕ → Bodied → Chunk
chunk_from at one = record { id = one.id; place = at; size = length one.body }

unfoldable pub chunks_from : ℕ → List Bodied → List Chunk
chunks_from at [] = []
chunks_from at (one ∷ rest) = chunk_from at one ∷ chunks_from (at + 8 + length one.body) rest

-- the row that some chunks of a file are
unfoldable pub row_of : List ℕ → List Chunk → List Bodied
row_of s chunks = map (λ chunk. bodied chunk.id (body_bytes s chunk)) chunks

-- an ID and a size are numbers of four bytes
abbrev pub RowNamed : List Bodied → Type 0
RowNamed [] = Unit
RowNamed (one ∷ rest) = (one.id < 4294967296) × RowNamed rest

abbrev pub RowFits : List Bodied → Type 0
RowFits [] = Unit
RowFits (one ∷ rest) = (one.id < 4294967296) × (length one.body < 4294967296) × RowFits rest

-- each ID is allowed and is none of those before it, the latest first
abbrev pub RowAllowed : (ℕ → Bool) → List ℕ → List Bodied → Type 0
RowAllowed allowed before [] = Unit
RowAllowed allowed before (one ∷ rest) =
    (allowed one.id ≡ true) × (any (λ earlier. earlier ≡? one.id) before ≡ false) × RowAllowed allowed (one.id ∷ before) rest

-- each body is that of the chunk that is read
abbrev pub RowHeld : List ℕ → ℕ → List Bodied → Type 0
RowHeld s at [] = Unit
RowHeld s at (one ∷ rest) = (body_bytes s (chunk_from at one) ≡ one.body) × RowHeld s (at + 8 + length one.body) rest
