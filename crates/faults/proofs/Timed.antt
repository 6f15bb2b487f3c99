-- An item that is no end mark, a duration and an event, is read exactly.
use Prim.Native.Nat.{ℕ, ◌+◌, ◌<◌}
use mathlib.Core.List.{List, [], ◌∷◌, ◌++◌}
use mathlib.Core.Path.{◌≡◌, refl, ◌∙◌, ap}
use lib.ListN.{length, length-append}
use lib.Seq.{get_or-append-add}
use native.Mathlib.Omega.{arith}
use Rattle.model.specs.Duration.{duration_at}
use Rattle.model.specs.Event.{event_at}
use Rattle.model.specs.Item.{with_event, with_duration}
use Rattle.model.specs.declared.Voice.{Voice}
use Rattle.std.specs.Prelude.{Ok, Err}
use Rattle.model.specs.Words.{Checked, refused}
use Rattle.model.specs.declared.Read.{Read}
use Rattle.model.specs.declared.Event.{Event}
use Rattle.model.specs.declared.ReadItem.{ReadItem}
use Rattle.model.specs.declared.ReadItem.TheVariants.{Timed, EndMark}
use Rattle.items.proofs.Ahead.{DurationAhead, duration_ahead}
use Rattle.faults.proofs.Agreement.{Agree, Continued, continued_first, AreBytes}
use Rattle.faults.proofs.Exact.{Seen, Seen.ends, Seen.fails, cause_as, Fault, ExactAs, Exact, is_exact, exact_as, exact_made}
use Rattle.faults.proofs.Durations.{duration_seen, duration_exact}
use Rattle.faults.proofs.Controls.{event_seen}
use Rattle.faults.proofs.Events.{nop_reads, event_exact}

abbrev pub item_seen : Checked ReadItem → Seen
item_seen (Ok (Timed duration event next)) = ends next
item_seen (Ok (EndMark next)) = ends next
item_seen (Err why) = fails why.number why.place

abbrev pub timed_at : Voice → List ℕ → ℕ → Checked ReadItem
timed_at voice s at = with_duration voice s (duration_at s at)

event_seen_lem : (value : ℕ) (e : Checked (Read Event)) → item_seen (with_event value e) ≡ event_seen e
unfolding with_event
event_seen_lem value (Ok read) = refl
event_seen_lem value (Err why) = refl

bytes_both : (first second : List ℕ) → AreBytes first → AreBytes second → AreBytes (first ++ second)
bytes_both [] second h k = k
bytes_both (byte ∷ first) second h k = (h.0, bytes_both first second h.1 k)

module _ (voice : Voice) (s : List ℕ) (at : ℕ) where
  -- a duration that is made readable, and a NOP after it
  nop_follows : (t : List ℕ) (place : ℕ) (rest : List ℕ) → Continued s place (rest ++ (0xFF ∷ 0x00 ∷ [])) t → (d : Checked (Read ℕ))
      → duration_seen d ≡ ends (place + length rest) → item_seen (with_duration voice t d) ≡ ends (place + length (rest ++ (0xFF ∷ 0x00 ∷ [])))
  unfolding with_duration with_event
  nop_follows t place rest c (Ok read) e =
      let long : length (rest ++ (0xFF ∷ 0x00 ∷ [])) ≡ length rest + 2 = length-append rest (0xFF ∷ 0x00 ∷ []) in
      let there : read.next ≡ place + length rest = cc in
      let first = c.then_byte read.next (length rest + 0) (omega arith) (omega arith) ∙ get_or-append-add rest (0xFF ∷ 0x00 ∷ []) 0 0 in
      let second = c.then_byte (read.next + 1) (length rest + 1) (omega arith) (omega arith) ∙ get_or-append-add rest (0xFF ∷ 0x00 ∷ []) 1 0 in
      ap (λ (r : Checked (Read Event)). item_seen (with_event read.what r)) (nop_reads voice t read.next (omega (arith, c.room)) first second) ∙ ap ends (omega arith)
  nop_follows t place rest c (Err why) e = let z : ◌≡◌ {A = ℕ} 0 1 = cc in absurd (omega arith)

  -- a fault of the duration is one of the item
  duration_fault : (number place : ℕ) → duration_at s at ≡ refused number place
      → Fault duration_seen s (λ t. duration_at t at) (λ t. duration_at t at) at (refused number place) number place
      → Exact item_seen s (λ t. timed_at voice t at) (λ t. timed_at voice t at) at
  unfolding with_duration
  duration_fault number place e f =
      let m = f.mended in
      is_exact item_seen s _ (λ t. timed_at voice t at) at (refused number place) (fails number place) (ap (with_duration voice s) e) refl
      (record {
        past = f.past;
        cause = cause_as s _ _ _ _ number place (λ t a q. ap (with_duration voice t) q) f.cause;
        mended = record {
          rest = m.rest ++ (0xFF ∷ 0x00 ∷ []);
          bytes = bytes_both m.rest _ m.bytes (omega arith);
          reads = λ t c. nop_follows t place m.rest c (duration_at t at) (m.reads t (continued_first s place m.rest _ t c));
        };
      })

  pub timed_exact : at < length s → Exact item_seen s (λ t. timed_at voice t at) (λ t. timed_at voice t at) at
  unfolding with_duration
  timed_exact here = go (duration_at s at) refl (duration_ahead s at) (duration_exact s at here).exactly
    where
      go : (d : Checked (Read ℕ)) → duration_at s at ≡ d → DurationAhead at (length s) d
          → ExactAs duration_seen s (λ t. duration_at t at) (λ t. duration_at t at) at d (duration_seen d) → Exact item_seen s (λ t. timed_at voice t at) (λ t. timed_at voice t at) at
      go (Ok read) e ahead x =
          let alike : (t : List ℕ) → Agree read.next s t → timed_at voice t at ≡ with_event read.what (event_at voice t read.next) = λ t a. ap (with_duration voice t) (x.1 t a) in
          exact_as item_seen s _ _ (λ t. timed_at voice t at) at read.next read.next (omega arith) alike
          (exact_made event_seen item_seen (with_event read.what) (event_seen_lem read.what) s (λ t. event_at voice t read.next) _ read.next alike _ read.next (omega arith)
          (event_exact voice s read.next ahead.1))
      go (Err why) e ahead f = duration_fault why.number why.place e f
