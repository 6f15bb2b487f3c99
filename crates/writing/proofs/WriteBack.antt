-- Demand 2, "a written sequence reads back as exactly the items it was written from", the other way round, for ONE ITEM that was read:
-- it can be written, and its bytes are those that stood there. The list's elements are bytes.
use Prim.Native.Nat.{ℕ, ◌+◌, ◌-◌, ◌<◌, ◌≤◌}
use mathlib.Core.Bool.{true}
use mathlib.Core.List.{List}
use mathlib.Core.Path.{◌≡◌, refl, sym, ◌∙◌, ap, subst}
use lib.ListN.{length, length-append}
use native.Mathlib.Omega.{arith}
use borrow.Author.Tests.{le-leb, leb-true, eqb-true}
use Rattle.model.specs.Words.{◌≤?◌, ◌≡?◌, Checked}
use Rattle.model.specs.Bytes.{◌!◌, part}
use Rattle.model.specs.Duration.{duration_at, duration_bytes}
use Rattle.model.specs.Event.{event_at}
use Rattle.model.specs.Item.{is_end_mark, with_event, with_duration, item_at, Item, Item.timed, Item.end_mark}
use Rattle.model.specs.Plain.{item_bytes}
use Rattle.model.specs.Content.{Content, content_of, content_bytes, handy_phone}
use Rattle.model.specs.Writing.{item_fits}
use Rattle.model.specs.declared.Voice.{Voice}
use Rattle.model.specs.declared.Event.{Event}
use Rattle.std.specs.Prelude.{Ok, Err}
use Rattle.model.specs.declared.Read.{Read}
use Rattle.model.specs.declared.ReadItem.{ReadItem}
use Rattle.model.specs.declared.ReadItem.TheVariants.{Timed, EndMark}
use Rattle.model.proofs.Tests.{and_left, and_right, if_all, both_true}
use Rattle.writing.proofs.Durations.{some_bytes}
use Rattle.writing.proofs.EventStands.{DurationStands, duration_stands, EventStands, event_stands}
use Rattle.writing.proofs.Stands.{Stands, stands_both, stands_here, stands_within, stands_part}

-- An item that can be written and whose bytes are the part of a list from a place up to another.
pub record Written (voice : Voice) (s : List ℕ) (at : ℕ) (what : Item Content) (next : ℕ) : Type 0 where
  pub fits : item_fits voice what ≡ true
  pub stands : Stands s at (item_bytes handy_phone what)
  pub ends : next ≡ at + length (item_bytes handy_phone what)
  pub ahead : at < next
  pub within : next ≤ length s
  pub bytes : item_bytes handy_phone what ≡ part s at (next - at)

abbrev ItemWritten : Voice → List ℕ → ℕ → Checked ReadItem → Type 0
ItemWritten voice s at (Ok (Timed value what next)) = Written voice s at (timed value (content_of s what)) next
ItemWritten voice s at (Ok (EndMark next)) = Written voice s at end_mark next
ItemWritten voice s at (Err why) = Unit

-- bytes that stand there are the part up to the place after them
stands_written : (voice : Voice) (s : List ℕ) (at : ℕ) (what : Item Content) (next : ℕ) → item_fits voice what ≡ true
    → 0 < length (item_bytes handy_phone what) → Stands s at (item_bytes handy_phone what) → next ≡ at + length (item_bytes handy_phone what)
    → Written voice s at what next
stands_written voice s at what next fits some st ends =
    let here = stands_here s at (item_bytes handy_phone what) some st in
    let e : next - at ≡ length (item_bytes handy_phone what) = omega arith in
    record {
      fits = fits;
      stands = st;
      ends = ends;
      ahead = omega arith;
      within = omega (arith, stands_within s at (item_bytes handy_phone what) (omega arith) st);
      bytes = sym (ap (part s at) e ∙ stands_part s at (item_bytes handy_phone what) st);
    }

module _ (voice : Voice) (s : List ℕ) (bytes : (k : ℕ) → s ! k < 256) (at : ℕ) where
  with_event_written : (value next : ℕ) → value ≤ 16511 → Stands s at (duration_bytes value) → next ≡ at + length (duration_bytes value)
      → (e : Checked (Read Event)) → EventStands voice s next e → ItemWritten voice s at (with_event value e)
  unfolding with_event item_fits item_bytes
  with_event_written value next h st p (Ok read) su =
      let content = content_bytes (content_of s read.what) in
      let n = length-append (duration_bytes value) content in
      let q = su.2 in
      let some = some_bytes value in
      stands_written voice s at (timed value (content_of s read.what)) read.next (both_true (value ≤? 16511) _ (le-leb value 16511 h) su.0) (omega arith)
      (stands_both s at (duration_bytes value) content st (subst (λ (k : ℕ). Stands s k content) p su.1))
      (omega arith)
  with_event_written value next h st p (Err why) su = tt

  with_duration_written : (d : Checked (Read ℕ)) → DurationStands s at d → ItemWritten voice s at (with_duration voice s d)
  unfolding with_duration
  with_duration_written (Ok read) st =
      with_event_written read.what read.next st.0 st.1 st.2 (event_at voice s read.next) (event_stands s bytes voice read.next)
  with_duration_written (Err why) st = tt

  mark_written : is_end_mark s at ≡ true → Written voice s at end_mark (at + 4)
  unfolding is_end_mark item_fits item_bytes
  mark_written h =
      let k = and_right (at + 4 ≤? length s) _ h in
      let l = and_right (s ! at ≡? 0) _ k in
      let m = and_right (s ! (at + 1) ≡? 0) _ l in
      let room = leb-true (at + 4) (length s) (and_left _ _ h) in
      let two : at + 1 + 1 ≡ at + 2 = omega arith in
      let three : at + 2 + 1 ≡ at + 3 = omega arith in
      let h1 : at < length s = omega arith in
      let h2 : at + 1 < length s = omega arith in
      let h3 : at + 2 < length s = omega arith in
      let h4 : at + 3 < length s = omega arith in
      let e1 = eqb-true (s ! at) 0 (and_left _ _ k) in
      let e2 = eqb-true (s ! (at + 1)) 0 (and_left _ _ l) in
      let e3 = eqb-true (s ! (at + 2)) 0 (and_left _ _ m) in
      let e4 = eqb-true (s ! (at + 3)) 0 (and_right (s ! (at + 2) ≡? 0) _ m) in
      stands_written voice s at end_mark (at + 4) refl (omega arith) (h1, e1, (h2, e2, rw two (h3, e3, rw three (h4, e4, tt)))) refl

  item_written : ItemWritten voice s at (item_at voice s at)
  unfolding item_at
  item_written =
      if_all (ItemWritten voice s at) (is_end_mark s at) _ _ mark_written (λ h. with_duration_written (duration_at s at) (duration_stands s bytes at))

  -- an item that was read, written again
  pub timed_writes : (value : ℕ) (what : Event) (next : ℕ) → item_at voice s at ≡ Ok (Timed value what next)
      → Written voice s at (timed value (content_of s what)) next
  timed_writes value what next p = subst (ItemWritten voice s at) p item_written

  pub mark_writes : (next : ℕ) → item_at voice s at ≡ Ok (EndMark next) → Written voice s at end_mark next
  mark_writes next p = subst (ItemWritten voice s at) p item_written
