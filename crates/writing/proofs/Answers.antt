-- The answer to a write of items and the memory after it, from what was found before the first store.
use Prim.Native.Nat.{ℕ, ◌+◌, ◌<◌, ◌≤◌}
use mathlib.Core.Bool.{true}
use mathlib.Core.List.{List, ◌++◌}
use mathlib.Core.Logic.{◌⊎◌, inl, inr}
use mathlib.Core.Path.{◌≡◌, refl, sym, ◌∙◌, ap}
use lib.ListN.{length, drop}
use lib.Seq.{sets, sets-eq}
use native.Mathlib.Omega.{arith}
use borrow.Author.Tests.{le-ltb, lt-ltb}
use Rattle.model.specs.Words.{when◌then◌else◌, ◌or◌, Checked, ◌>>=◌, refused}
use Rattle.std.specs.Prelude.{Ok, Err}
use Rattle.model.specs.Item.{Item, is_fine}
use Rattle.model.specs.Plain.{bytes_of}
use Rattle.model.specs.Content.{Content, handy_phone}
use Rattle.model.specs.Writing.{items_given}
use Rattle.model.specs.Answer.{written_over, memory_after, within_room, write_items_of, write_answer, write_room}
use Rattle.model.specs.declared.Refusal.{Refusal}
use Rattle.model.specs.declared.Voice.{Voice}
use Rattle.writing.specs.Parts.{limited, list_bytes, size_answer}
use Rattle.writing.proofs.Limits.{limited_over, limited_exact}

-- bytes from the head on
pub front_stored : (l bytes : List ℕ) → length bytes ≤ length l → sets l 0 bytes ≡ written_over l bytes
unfolding written_over
front_stored l bytes room =
    let all : 0 + length bytes ≡ length bytes = omega arith in
    sets-eq bytes l 0 (omega arith) ∙ ap (λ (n : ℕ). bytes ++ drop n l) all

module _ (voice : Voice) (source numbers l : List ℕ) (answer : Checked ℕ) (found : answer ≡ size_answer (items_given voice source numbers)) where
  abbrev outcome : Checked (List ℕ)
  outcome = write_items_of voice source numbers (length l)

  -- refused before any size
  module _ (why : Refusal) (refuses : answer ≡ Err why) where
    not-given : (o : Checked (List (Item Content))) → size_answer o ≡ Err why → o ≡ Err why
    unfolding size_answer
    not-given (Ok items) e = let z : ◌≡◌ {A = ℕ} 0 1 = cc in absurd (omega arith)
    not-given (Err found) e = cc

    stays : outcome ≡ Err why
    unfolding write_items_of ◌>>=◌
    stays = rw (not-given (items_given voice source numbers) (sym found ∙ refuses))

    pub refused_answer : Err why ≡ write_answer (write_items_of voice source numbers (length l))
    unfolding write_answer
    refused_answer = rw stays

    pub refused_kept : l ≡ write_room l (write_items_of voice source numbers (length l))
    unfolding write_room memory_after
    refused_kept = rw stays

  -- a size was found
  module _ (size : ℕ) (sized : answer ≡ Ok size) where
    given : (o : Checked (List (Item Content))) → size_answer o ≡ Ok size → (items : List (Item Content)) × (o ≡ Ok items) × (size ≡ limited (length (bytes_of handy_phone items)))
    unfolding size_answer
    given (Ok items) e = (items, refl, cc)
    given (Err why) e = let z : ◌≡◌ {A = ℕ} 0 1 = cc in absurd (omega arith)

    these : (items : List (Item Content)) × (items_given voice source numbers ≡ Ok items) × (size ≡ limited (length (bytes_of handy_phone items)))
    these = given (items_given voice source numbers) (sym found ∙ sized)

    abbrev bytes : List ℕ
    bytes = bytes_of handy_phone these.0

    within : outcome ≡ within_room (length l) bytes
    unfolding write_items_of ◌>>=◌
    within = rw these.1

    -- too much
    too_long : 65536 < size → outcome ≡ refused 24 0
    unfolding within_room when◌then◌else◌ ◌or◌
    too_long h = let over = limited_over (length bytes) 65536 (omega arith) (omega (arith, these.2)) in within ∙ simp lt-ltb

    no_room : size ≤ 65536 → length l < size → outcome ≡ refused 24 0
    unfolding within_room when◌then◌else◌ ◌or◌
    no_room few h =
        let exact = limited_exact (length bytes) (omega (arith, these.2)) in
        let small : length bytes ≤ 65536 = omega (arith, these.2) in
        let over : length l < length bytes = omega (arith, these.2) in
        within ∙ simp (le-ltb, lt-ltb)

    module _ (over : (65536 < size) ⊎ ((size ≤ 65536) × (length l < size))) where
      too_much : outcome ≡ refused 24 0
      too_much = elim over [ inl long ↦ too_long long | inr full ↦ no_room full.0 full.1 ]

      pub over_answer : refused 24 0 ≡ write_answer (write_items_of voice source numbers (length l))
      unfolding write_answer
      over_answer = rw too_much

      pub over_kept : l ≡ write_room l (write_items_of voice source numbers (length l))
      unfolding write_room memory_after
      over_kept = rw too_much

    -- written
    module _ (few : size ≤ 65536) (room : size ≤ length l) where
      exact : size ≡ length bytes
      exact = let e = limited_exact (length bytes) (omega (arith, these.2)) in these.2 ∙ e

      is_fine_lem : outcome ≡ Ok bytes
      unfolding within_room when◌then◌else◌ ◌or◌
      is_fine_lem =
          let small : length bytes ≤ 65536 = omega (arith, exact) in
          let fits : length bytes ≤ length l = omega (arith, exact) in
          within ∙ simp le-ltb

      listed : list_bytes (items_given voice source numbers) ≡ bytes
      unfolding list_bytes
      listed = ap list_bytes these.1

      pub list-given : is_fine (items_given voice source numbers) ≡ true
      unfolding is_fine
      list-given = ap is_fine these.1

      pub list-room : 0 + length (list_bytes (items_given voice source numbers)) ≤ length l
      list-room = rw listed (omega (arith, exact))

      pub bytes-answer : (next : ℕ) → next ≡ 0 + length (list_bytes (items_given voice source numbers))
          → Ok next ≡ write_answer (write_items_of voice source numbers (length l))
      unfolding write_answer
      bytes-answer next e = rw is_fine_lem (ap (λ (n : ℕ). Ok n) (e ∙ rw listed (omega arith)))

      pub bytes-written : (m : List ℕ) → m ≡ sets l 0 (list_bytes (items_given voice source numbers))
          → m ≡ write_room l (write_items_of voice source numbers (length l))
      unfolding write_room memory_after
      bytes-written m e =
          let fits : length bytes ≤ length l = omega (arith, exact) in
          rw is_fine_lem (e ∙ ap (sets l 0) listed ∙ front_stored l bytes fits)

pub ruleset answered = (
  refused_answer,
  refused_kept,
  over_answer,
  over_kept,
  list-given,
  list-room,
  bytes-answer,
  bytes-written,
)
