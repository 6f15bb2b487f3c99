-- THE STATED BYTES of a buffer: 1 where there are none, and otherwise the contents of so many bytes from its head. What READ, PLAY and
-- FLATTEN begin with.
use Prim.Native.Nat.{ℕ, ◌<◌, ◌≤◌}
use mathlib.Core.Path.{◌≡◌}
use mathlib.Core.Bool.{true}
use mathlib.Core.List.{List}
use lib.ListN.{length, take, length-take}
use native.Mathlib.Omega.{arith}
use borrow.Author.Tests.{lt-ltb, le-ltb}
use Rattle.model.specs.Words.{when◌then◌else◌, ◌or◌, ◌<?◌, ◌>>◌, refused}
use Rattle.model.specs.File.{contents_of, file_of}

module _ (buffer : List ℕ) (n : ℕ) where
  unstated : ((length buffer <? n) or (65536 <? n)) ≡ true → file_of buffer n ≡ refused 1 0
  unfolding file_of ◌>>◌ when◌then◌else◌
  unstated h = rw h

  pub stated_past : length buffer < n → file_of buffer n ≡ refused 1 0
  unfolding ◌or◌
  stated_past h = unstated (simp lt-ltb)

  pub stated_over : n ≤ length buffer → 65536 < n → file_of buffer n ≡ refused 1 0
  unfolding ◌or◌
  stated_over h k = unstated (simp (le-ltb, lt-ltb))

  module _ (h : n ≤ length buffer) (k : n ≤ 65536) where
    pub stated_within : file_of buffer n ≡ contents_of (take n buffer)
    unfolding file_of ◌>>◌ when◌then◌else◌ ◌or◌
    stated_within = simp le-ltb

    pub stated_small : length (take n buffer) ≤ 65536
    stated_small = simp length-take (omega arith)
