-- What a span comes to: it plays at most a message for every three bytes of the body, and lasts at most as long as all of its items.
use Prim.Native.Nat.{ℕ, ◌+◌, ◌*◌, ◌<◌, ◌≤◌}
use mathlib.Core.Bool.{Bool, true}
use mathlib.Core.List.{List, [], ◌∷◌}
use Rattle.std.specs.Prelude.{None}
use mathlib.Core.Path.{◌≡◌, sym, subst}
use lib.ListN.{length}
use native.Mathlib.Omega.{arith}
use Rattle.model.specs.Words.{when◌then◌else◌, ◌<?◌, keep, sum, Placed}
use Rattle.model.specs.Bytes.{◌!◌}
use Rattle.model.specs.Item.{Item, duration_of, lasting, body_of, is_fine, items_of}
use Rattle.model.specs.Play.{At, onsets_after, messages_of, Section, is_within, reaches, items_within}
use Rattle.model.specs.Points.{time_of}
use Rattle.model.specs.Word.{is_message}
use Rattle.model.specs.Order.{between, stream_section}
use Rattle.model.specs.declared.Voice.{Voice}
use Rattle.model.specs.declared.Event.{Event}
use Rattle.model.specs.declared.Span.{Span}
use Rattle.model.specs.declared.Passage.{Passage}
use Rattle.model.proofs.Tests.{by_test}
use Rattle.items.proofs.Addresses.{stands_ahead, stands_far, reads_to_items}
use Rattle.items.proofs.Standing.{body_stands}
use Rattle.sections.specs.Spans.{Items, span_of, passage_of, passage_between, span_from, Small}
use Rattle.sections.proofs.Places.{Standing, item_short}
use Rattle.sections.proofs.Marks.{lasts_within}
use Rattle.sections.proofs.Stretches.{cut_few}
use Rattle.sections.proofs.Nearing.{heard_one, says}

pub kept_lasting : (test : Placed (Item Event) → Bool) (items : Items) → lasting (keep test items) ≤ lasting items
unfolding keep lasting sum when◌then◌else◌
kept_lasting test [] = omega arith
kept_lasting test (item ∷ items) =
    let rest = kept_lasting test items in
    by_test (test item) (λ t. simp t (omega arith)) (λ t. simp t (omega arith))

module _ (voice : Voice) (s : List ℕ) where
  pub messages_few : (test : At (Placed (Item Event)) → Bool) (past at : ℕ) (items : Items) → Standing voice s at items
      → at + 3 * length (messages_of is_message (keep test (onsets_after past items))) ≤ length s
  unfolding keep onsets_after messages_of when◌then◌else◌
  messages_few test past at [] st = omega arith
  messages_few test past at (item ∷ items) st =
      let onset = past + duration_of item.what in
      let a = stands_far voice s at item st.0 st.1 in
      let rest = messages_few test onset st.0 items st.2 in
      let one = heard_one item.what in
      let l = messages_of is_message (keep test (onsets_after onset items)) in
      let told = says item.what onset l in
      by_test (test (record { step = onset; event = item })) (λ t. simp t (omega arith)) (λ t. simp t (omega arith))

  module _ (bytes : (k : ℕ) → s ! k < 256) (small : length s ≤ 65536) where
    pub lasting_short : (at : ℕ) (items : Items) → Standing voice s at items → lasting items + 16511 * at ≤ 16511 * length s
    unfolding lasting sum
    lasting_short at [] st = omega arith
    lasting_short at (item ∷ items) st =
        let a = stands_ahead voice s at item st.0 st.1 in
        let d = item_short voice s bytes small at item st.0 st.1 in
        let rest = lasting_short st.0 items st.2 in
        omega arith

    module _ (fine : is_fine (body_of voice s) ≡ true) where
      section_small : (section : Section) → section.lasts ≤ lasting (items_of voice s) → Small (length s) (span_of (items_of voice s) (length s) section)
      unfolding span_of items_within
      section_small section h =
          let items = items_of voice s in
          let st = body_stands voice s items (reads_to_items voice s fine) in
          let few = messages_few (λ at. is_within section at.step) 0 0 items st in
          let cut = cut_few (λ at. is_within section at.step) (reaches section) (onsets_after 0 items) in
          let all = lasting_short 0 items st in
          record { few = omega arith; short = omega (arith, lasts_within section items h) }

      pub between_small : (r : Passage) (start stop : ℕ) → r ≡ passage_between (items_of voice s) (length s) start stop → Small (length s) r.span
      unfolding passage_of between time_of
      between_small r start stop e =
          let whole = kept_lasting (λ item. item.place <? stop) (items_of voice s) in
          subst (λ (x : Passage). Small (length s) x.span) (sym e) (section_small (between (items_of voice s) start stop) (omega arith))

      pub stream_small : (r : Span) (start : ℕ) → r ≡ span_from (items_of voice s) (length s) start → Small (length s) r
      unfolding stream_section
      stream_small r start e = subst (Small (length s)) (sym e) (section_small (stream_section (items_of voice s) start None) (omega arith))
