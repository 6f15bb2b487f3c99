-- What every call of FLATTEN has, whatever the file: where it answers a length, so many bytes at the head of the room are the plain form of
-- what the track plays, which plays the same (demand 3); and two results that satisfy its promise are equal.
use Prim.Native.Nat.{ℕ, ◌<◌}
use mathlib.Core.List.{List}
use mathlib.Core.Path.{◌≡◌, refl, sym, ◌∙◌, ap, ap₂}
use lib.ListN.{length, take, drop}
use lib.Seq.{take-append_seam}
use native.Mathlib.Omega.{arith}
use Rattle.model.specs.Words.{Checked}
use Rattle.std.specs.Prelude.{Ok, Err}
use Rattle.model.specs.Bytes.{◌!◌}
use Rattle.model.specs.Answer.{Performance, performed, plain_of, written_over, memory_after, flatten_of, flatten_answer, flatten_room}
use Rattle.plain.proofs.PlainTracks.{Flattened, plays_the_same}
use Rattle.plain.proofs.Flattening.{flattened_only_so}

-- what `flatten` ensures, of its answer and of the room afterwards
pub record Flattens (buffer : List ℕ) (n row : ℕ) (room : List ℕ) (answer : Checked ℕ) (after : List ℕ) : Type 0 where
  pub answers : answer ≡ flatten_answer (flatten_of buffer n row (length room))
  pub leaves : after ≡ flatten_room room (flatten_of buffer n row (length room))

-- AN ANSWERED CALL PLAYS THE SAME

answered : (o : Checked (List ℕ)) (many : ℕ) → Ok many ≡ flatten_answer o → (bytes : List ℕ) × (o ≡ Ok bytes) × (many ≡ length bytes)
unfolding flatten_answer
answered (Ok bytes) many e = (bytes, refl, cc)
answered (Err why) many e = let z : ◌≡◌ {A = ℕ} 0 1 = cc in absurd (omega arith)

room_front : (room bytes : List ℕ) → take (length bytes) (flatten_room room (Ok bytes)) ≡ bytes
unfolding flatten_room memory_after written_over
room_front room bytes = take-append_seam bytes (drop (length bytes) room)

pub answered_plays_the_same : (buffer : List ℕ) (n row : ℕ) (room after : List ℕ) (many : ℕ) → ((k : ℕ) → buffer ! k < 256)
    → Flattens buffer n row room (Ok many) after
    → (performance : Performance) × (performed buffer n row ≡ Ok performance) × (take many after ≡ plain_of performance) × Flattened performance
answered_plays_the_same buffer n row room after many bytes call =
    let told = answered (flatten_of buffer n row (length room)) many call.answers in
    let plain = flattened_only_so buffer n row (length room) told.0 told.1 in (
      plain.0,
      plain.1,
      ap₂ (λ (k : ℕ) (l : List ℕ). take k l) told.2 (call.leaves ∙ ap (flatten_room room) told.1) ∙ room_front room told.0 ∙ plain.2,
      plays_the_same buffer n row plain.0 bytes plain.1,
    )

-- TWO RESULTS that satisfy the promise are equal

pub one_result : (buffer : List ℕ) (n row : ℕ) (room : List ℕ) (answer other : Checked ℕ) (after after-other : List ℕ)
    → Flattens buffer n row room answer after → Flattens buffer n row room other after-other → (answer ≡ other) × (after ≡ after-other)
one_result buffer n row room answer other after after-other one two = (one.answers ∙ sym two.answers, one.leaves ∙ sym two.leaves)
