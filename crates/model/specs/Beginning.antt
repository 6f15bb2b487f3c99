-- Ticket 1 once more, apart from the reader's tests: which byte is the first that cannot stand is a statement about accepted bodies.
use Rattle.std.specs.Prelude.{ℕ, ◌+◌, ◌<◌, List, ◌++◌, true, ◌≡◌, take}
use Rattle.model.specs.Words.{◌or◌, ◌≡?◌}
use Rattle.model.specs.Bytes.{◌!◌}
use Rattle.model.specs.Item.{body_of, is_fine}
use Rattle.model.specs.declared.Voice.{Voice}

-- Bytes are a beginning where some accepted body begins with them: other bytes can follow, so that the whole is accepted.
pub record Beginning (voice : Voice) (front : List ℕ) : Type 0 where
  pub rest : List ℕ
  pub bytes : (k : ℕ) → rest ! k < 256
  pub accepted : is_fine (body_of voice (front ++ rest)) ≡ true

-- Three zeros where an item starts, the last of them at a place: they could still become an end mark, but are told as a short form's 0. An
-- item starts at the head of a body and where what stands before is an accepted body by itself.
pub record ThreeZeros (voice : Voice) (s : List ℕ) (place : ℕ) : Type 0 where
  pub start : ℕ
  pub starts : ((start ≡? 0) or is_fine (body_of voice (take start s))) ≡ true
  pub last : place ≡ start + 2
  pub zeros : (s ! start ≡ 0) × (s ! (start + 1) ≡ 0) × (s ! place ≡ 0)
