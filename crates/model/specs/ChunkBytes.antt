-- Paper, "Chunks", the other way round: numbers, chunks and files as bytes.
use Rattle.std.specs.Prelude.{ℕ, zero, suc, ◌+◌, ◌/◌, ◌%◌, List, [], ◌∷◌, ◌++◌, length}
use Rattle.model.specs.Bytes.{MMMD}
use Rattle.model.specs.CheckCode.{check_code}

-- so many bytes of a number, the most significant one first
unfoldable pub number_bytes : ℕ → ℕ → List ℕ
number_bytes zero n = []
number_bytes (suc width) n = number_bytes width (n / 256) ++ (n % 256 ∷ [])

-- ID, size, body
unfoldable pub chunk_bytes : ℕ → List ℕ → List ℕ
chunk_bytes id body = number_bytes 4 id ++ number_bytes 4 (length body) ++ body

-- the check code is over all bytes before it
unfoldable pub with_check_code : List ℕ → List ℕ
with_check_code bytes = bytes ++ number_bytes 2 (check_code bytes)

-- A file is one chunk; its body is a list of chunks and then the check code, and its size counts both.
unfoldable pub file_with : List ℕ → List ℕ
file_with chunks = with_check_code (number_bytes 4 MMMD ++ number_bytes 4 (length chunks + 2) ++ chunks)
