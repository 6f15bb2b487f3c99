-- 18, or the plain form of an order: what its size tells before a byte is written.
use Prim.Native.Nat.{ℕ, ◌<◌, ◌≤◌}
use mathlib.Core.List.{List, ◌++◌}
use mathlib.Core.Path.{◌≡◌, sym, ◌∙◌, ap}
use lib.ListN.{length, drop}
use lib.Seq.{sets, sets-eq}
use native.Mathlib.Nat.{zero-add}
use native.Mathlib.Omega.{arith}
use borrow.Author.Tests.{lt-ltb, le-ltb}
use Rattle.model.specs.Words.{when◌then◌else◌, ◌or◌, Checked, refused}
use Rattle.std.specs.Prelude.{Ok}
use Rattle.model.specs.Answer.{written_over, memory_after, flatten_answer, flatten_room}
use Rattle.model.specs.declared.Span.{Span}
use Rattle.sections.specs.Spans.{Items}
use Rattle.playing.proofs.Together.{short_enough}
use Rattle.flattening.specs.declared.Measure.{Measure}
use Rattle.flattening.specs.Orders.{order_bytes, AllShaped, Measured, fitted}

module _ (header room : ℕ) (bytes : List ℕ) where
  too_long : 65536 < length bytes → fitted header room bytes ≡ refused 18 header
  unfolding fitted ◌or◌ when◌then◌else◌
  too_long h = simp lt-ltb

  no_room : length bytes ≤ 65536 → room < length bytes → fitted header room bytes ≡ refused 18 header
  unfolding fitted ◌or◌ when◌then◌else◌
  no_room k h = simp (le-ltb, lt-ltb)

  all_fits : length bytes ≤ 65536 → length bytes ≤ room → fitted header room bytes ≡ Ok bytes
  unfolding fitted ◌or◌ when◌then◌else◌
  all_fits k h = simp le-ltb

module _ (o : Checked (List ℕ)) (number place : ℕ) (is : o ≡ refused number place) where
  pub refused_answer : refused number place ≡ flatten_answer o
  unfolding flatten_answer
  refused_answer = ap flatten_answer (sym is)

  pub refused_room : (l : List ℕ) → l ≡ flatten_room l o
  unfolding flatten_room memory_after
  refused_room l = ap (flatten_room l) (sym is)

module _ (s : List ℕ) (items : Items) (spans : List Span) (letters : List ℕ) (measure : Measure) (m : Measured s items spans letters measure) where
  abbrev whole : List ℕ
  whole = order_bytes s items spans 0 0 letters

  module _ (header : ℕ) (l : List ℕ) (long : 65536 < measure.bytes) where
    over : fitted header (length l) whole ≡ refused 18 header
    over = too_long header (length l) whole (m.over long)

    pub over_answer : refused 18 header ≡ flatten_answer (fitted header (length l) (order_bytes s items spans 0 0 letters))
    over_answer = refused_answer _ 18 header over

    pub over_room : l ≡ flatten_room l (fitted header (length l) (order_bytes s items spans 0 0 letters))
    over_room = refused_room _ 18 header over l

  module _ (within : measure.bytes ≤ 65536) where
    pub measured_shapes : AllShaped s items spans measure.shapes letters
    measured_shapes = m.shaped within

    module _ (l : List ℕ) where
      module _ (header : ℕ) (small : length l < measure.bytes) where
        short : fitted header (length l) whole ≡ refused 18 header
        short = no_room header (length l) whole (omega (arith, m.size within)) (omega (arith, m.size within))

        pub short_answer : refused 18 header ≡ flatten_answer (fitted header (length l) (order_bytes s items spans 0 0 letters))
        short_answer = refused_answer _ 18 header short

        pub short_room : l ≡ flatten_room l (fitted header (length l) (order_bytes s items spans 0 0 letters))
        short_room = refused_room _ 18 header short l

      module _ (enough : measure.bytes ≤ length l) where
        pub fits_room : length (order_bytes s items spans 0 0 letters) ≤ length l
        fits_room = omega (arith, m.size within)

        module _ (header : ℕ) where
          fits : fitted header (length l) whole ≡ Ok whole
          fits = all_fits header (length l) whole (omega (arith, m.size within)) fits_room

          pub fits_answer : (n : ℕ) → n ≡ length (order_bytes s items spans 0 0 letters)
              → Ok n ≡ flatten_answer (fitted header (length l) (order_bytes s items spans 0 0 letters))
          unfolding flatten_answer
          fits_answer n q = ap (λ (k : ℕ). (Ok k)) q ∙ ap flatten_answer (sym fits)

          pub fits_written : (k : List ℕ) → k ≡ sets l 0 (order_bytes s items spans 0 0 letters)
              → k ≡ flatten_room l (fitted header (length l) (order_bytes s items spans 0 0 letters))
          unfolding flatten_room memory_after written_over
          fits_written k q =
              q ∙ sets-eq whole l 0 (omega (arith, fits_room)) ∙ ap (λ (n : ℕ). whole ++ drop n l) (zero-add (length whole)) ∙ ap (flatten_room l) (sym fits)

pub ruleset flattened_order = (over_answer, over_room, measured_shapes, short_enough, short_answer, short_room, fits_room, fits_answer, fits_written)
