-- A LETTER'S SPAN IS BOUNDED: it plays no more messages than the body has bytes, and lasts no longer than as many of the longest
-- durations, if the body's elements are bytes. Its steps never fall, and none is past its end.
use Prim.Native.Nat.{ℕ, ◌+◌, ◌<◌, ◌≤◌}
use mathlib.Core.Bool.{true}
use mathlib.Core.List.{List}
use Rattle.std.specs.Prelude.{Option, None, Some}
use mathlib.Core.Path.{◌≡◌, refl, sym, subst}
use lib.ListN.{length}
use native.Mathlib.Omega.{arith}
use Rattle.model.specs.Words.{Placed}
use Rattle.model.specs.Bytes.{◌!◌}
use Rattle.model.specs.Item.{body_of, is_fine, items_of}
use Rattle.model.specs.Seek.{Entry, Addresses, phrase_of}
use Rattle.model.specs.Play.{Section}
use Rattle.model.specs.Order.{phrase_section}
use Rattle.model.specs.declared.Voice.{Voice}
use Rattle.model.specs.declared.Span.{Span}
use Rattle.sections.specs.Spans.{span_of, passage_of, span_rows, Small, Rising, SpanRises}
use Rattle.sections.proofs.Stretches.{span_sounds}
use Rattle.sections.proofs.Tunes.{Rises, phrase_section_rises}
use Rattle.sections.proofs.Small.{between_small}
use Rattle.playing.specs.Performing.{letter_section, letter_span}

module _ (voice : Voice) (s : List ℕ) (bytes : (k : ℕ) → s ! k < 256) (small : length s ≤ 65536) (reads : is_fine (body_of voice s) ≡ true) where
  phrase_small : (phrase : Option Addresses) → Small (length s) (span_of (items_of voice s) (length s) (phrase_section (items_of voice s) phrase))
  unfolding phrase_section passage_of
  phrase_small None = between_small voice s bytes small reads _ 0 0 refl
  phrase_small (Some addresses) = between_small voice s bytes small reads _ addresses.from addresses.to refl

  module _ (entries : List (Placed Entry)) (letter : ℕ) where
    letter_small : Small (length s) (letter_span (items_of voice s) (length s) entries letter)
    unfolding letter_span letter_section
    letter_small = phrase_small (phrase_of letter entries)

    pub letter_few : (letter_span (items_of voice s) (length s) entries letter).messages ≤ 65536
    letter_few = omega (arith, letter_small.few)

    pub letter_short : (letter_span (items_of voice s) (length s) entries letter).lasts ≤ 1082064896
    letter_short = omega (arith, letter_small.short)

-- the span of a section that rises, rises
pub span_rises : (voice : Voice) (body : List ℕ) → is_fine (body_of voice body) ≡ true → (section : Section) → Rises (items_of voice body) section
    → (span : Span) → span ≡ span_of (items_of voice body) (length body) section → SpanRises (items_of voice body) span
unfolding span_of
span_rises voice body reads section rises span is before =
    subst (λ (one : Span). Rising before (before + one.lasts) (span_rows (items_of voice body) one before)) (sym is)
    (subst (Rising before (before + (span_of (items_of voice body) (length body) section).lasts)) (sym (span_sounds voice body reads section before)) (rises before))

pub letter_rises : (voice : Voice) (body : List ℕ) → is_fine (body_of voice body) ≡ true → (entries : List (Placed Entry)) (letter : ℕ)
    → SpanRises (items_of voice body) (letter_span (items_of voice body) (length body) entries letter)
unfolding letter_span letter_section
letter_rises voice body reads entries letter =
    span_rises voice body reads (phrase_section (items_of voice body) (phrase_of letter entries)) (phrase_section_rises (items_of voice body) (phrase_of letter entries)) _ refl
