-- An item in memory: a duration and an event after it, with room for both or for neither.
use Prim.Native.Nat.{ℕ, ◌+◌, ◌-◌, ◌<◌, ◌≤◌}
use mathlib.Core.Bool.{Bool, true, false, not}
use mathlib.Core.List.{List}
use mathlib.Core.Path.{◌≡◌, refl, sym, ◌∙◌, ap}
use lib.ListN.{length, length-append}
use lib.Seq.{sets}
use native.Mathlib.Omega.{arith}
use borrow.Author.Tests.{le-ltb, le-leb, lt-leb}
use Rattle.model.specs.Words.{when◌then◌else◌}
use Rattle.model.specs.Duration.{duration_bytes}
use Rattle.model.specs.Plain.{item_bytes}
use Rattle.model.specs.Content.{content_of, content_bytes}
use Rattle.model.specs.Writing.{event_fits, timed_bytes, put_answer, memory_after_put, put_memory}
use Rattle.model.specs.declared.Voice.{Voice}
use Rattle.model.specs.declared.Event.{Event}
use Rattle.std.specs.Prelude.{Result, Ok, Err}
use Rattle.model.specs.declared.Unwritten.{Unwritten}
use Rattle.model.specs.declared.Unwritten.TheVariants.{Full, Unfit}
use Rattle.model.proofs.Tests.{flag_on, flag_off}
use Rattle.model.proofs.Stores.{sets_append}
use Rattle.writing.specs.Parts.{event_size}
use Rattle.writing.proofs.Contents.{event_length_lem}

pub timed_length : (s : List ℕ) (duration : ℕ) (event : Event)
    → length (timed_bytes s duration event) ≡ length (duration_bytes duration) + length (content_bytes (content_of s event))
unfolding timed_bytes item_bytes
timed_length s duration event = length-append (duration_bytes duration) (content_bytes (content_of s event))

-- the room for both parts
module _ (s : List ℕ) (duration : ℕ) (event : Event) (l : List ℕ) (at : ℕ) (room : at + length (timed_bytes s duration event) ≤ length l) where
  pub first_room : at + length (duration_bytes duration) ≤ length l
  first_room = omega (arith, timed_length s duration event)

  pub second_room : (k : List ℕ) (middle : ℕ) → middle ≡ at + length (duration_bytes duration) → length k ≡ length l
      → middle + length (content_bytes (content_of s event)) ≤ length k
  second_room k middle q p = omega (arith, timed_length s duration event)

module _ (s : List ℕ) (duration : ℕ) (event : Event) (at middle : ℕ) (between : middle ≡ at + length (duration_bytes duration)) where
  pub item_next : (r : ℕ) → r ≡ middle + length (content_bytes (content_of s event)) → r ≡ at + length (timed_bytes s duration event)
  item_next r q = omega (arith, timed_length s duration event)

  pub item_wrote : (l k m : List ℕ) → k ≡ sets l at (duration_bytes duration) → m ≡ sets k middle (content_bytes (content_of s event))
      → m ≡ sets l at (timed_bytes s duration event)
  unfolding timed_bytes item_bytes
  item_wrote l k m q h =
      let bytes = content_bytes (content_of s event) in
      h ∙ ap (λ (x : List ℕ). sets x middle bytes) q ∙ ap (λ (n : ℕ). sets (sets l at (duration_bytes duration)) n bytes) between
      ∙ sets_append l at (duration_bytes duration) bytes

pub ruleset parts = (first_room, second_room, item_next, item_wrote)

-- memory by the answer
module _ (l : List ℕ) (at : ℕ) (bytes : List ℕ) (answer : Result ℕ Unwritten) where
  memory_done : (m : List ℕ) (next : ℕ) → Ok next ≡ answer → m ≡ sets l at bytes → m ≡ memory_after_put l at bytes answer
  unfolding memory_after_put
  memory_done m next p h = rw (← p) h

  pub memory_full : (Err Full) ≡ answer → l ≡ memory_after_put l at bytes answer
  unfolding memory_after_put
  memory_full p = rw (← p)

  pub memory_unfit : (Err Unfit) ≡ answer → l ≡ memory_after_put l at bytes answer
  unfolding memory_after_put
  memory_unfit p = rw (← p)

-- the answers, from the tests that lead to each: `size` is what the code found, `fit` what it found of the event
module _ (voice : Voice) (s : List ℕ) (duration : ℕ) (event : Event) (l : List ℕ) (at : ℕ) where
  pub too_long : 16511 < duration → Err Unfit ≡ put_answer voice s duration event (length l) at
  unfolding put_answer when◌then◌else◌
  too_long h = simp lt-leb

  module _ (lasts : duration ≤ 16511) (fit : Bool) (same : fit ≡ event_fits voice s event) where
    pub no_event : not fit ≡ true → Err Unfit ≡ put_answer voice s duration event (length l) at
    unfolding put_answer when◌then◌else◌
    no_event h = let e = flag_off same h in simp (le-leb, e)

    module _ (holds : not fit ≡ false) where
      fits : event_fits voice s event ≡ true
      fits = flag_on same holds

      pub past_end : length l < at → Err Full ≡ put_answer voice s duration event (length l) at
      unfolding put_answer when◌then◌else◌
      past_end h = let e = fits in simp (le-leb, e)

      module _ (within : at ≤ length l) (size : ℕ) (sized : size ≡ length (duration_bytes duration) + event_size event) where
        item_size : size ≡ length (timed_bytes s duration event)
        item_size = sized ∙ ap (λ (n : ℕ). length (duration_bytes duration) + n) (sym (event_length_lem voice s event fits)) ∙ sym (timed_length s duration event)

        pub no_room : length l - at < size → Err Full ≡ put_answer voice s duration event (length l) at
        unfolding put_answer when◌then◌else◌
        no_room h = let e = fits in simp (le-leb, e, le-ltb, ← item_size)

        pub has_room : size ≤ length l - at → at + length (timed_bytes s duration event) ≤ length l
        has_room h = let e = item_size in omega arith

        pub all_done : (next : ℕ) → size ≤ length l - at → next ≡ at + length (timed_bytes s duration event)
            → Ok next ≡ put_answer voice s duration event (length l) at
        unfolding put_answer when◌then◌else◌
        all_done next h p = let e = fits in simp (le-leb, e, le-ltb, ← item_size) (ap (λ (n : ℕ). Ok n) (p ∙ ap (λ (n : ℕ). at + n) (sym item_size)))

        pub all_written : (m : List ℕ) → size ≤ length l - at → m ≡ sets l at (timed_bytes s duration event) → m ≡ put_memory voice s duration event l at
        unfolding put_memory
        all_written m h p = memory_done l at (timed_bytes s duration event) _ m _ (all_done _ h refl) p

pub ruleset answers = (too_long, no_event, past_end, no_room, all_done)

pub ruleset memories = (memory_full, memory_unfit)
