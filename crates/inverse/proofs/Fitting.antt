-- An event that was read can be written: what is read at a place fits. The list's elements are bytes.
use Prim.Native.Nat.{ℕ, ◌+◌, ◌/◌, ◌%◌, ◌<◌, ◌≤◌}
use mathlib.Core.Bool.{true, not}
use mathlib.Core.List.{List}
use mathlib.Core.Path.{◌≡◌, subst}
use lib.ListN.{length}
use native.Mathlib.Omega.{arith}
use borrow.Author.Tests.{le-leb, leb-false, ltb-false}
use Rattle.model.specs.Words.{◌<?◌, ◌≤?◌, ◌≡?◌, Checked}
use Rattle.model.specs.Bytes.{◌!◌}
use Rattle.model.specs.Duration.{duration_at, gate_at}
use Rattle.model.specs.Event.{is_sound, sound, gated, sound_at, long_kind, short_kind, has_kind, is_value, long_at, short_at, formed, control_at, closed_at, exclusive_at, system_at, event_at}
use Rattle.model.specs.Item.{is_end_mark, with_event, with_duration, item_at}
use Rattle.model.specs.Content.{content_of}
use Rattle.model.specs.Writing.{control_fits, exclusive_fits, event_fits, content_fits}
use Rattle.model.specs.declared.Voice.{Voice}
use Rattle.model.specs.declared.Voice.TheVariants.{Score, Pcm}
use Rattle.model.specs.declared.Event.{Event}
use Rattle.model.specs.declared.Event.TheVariants.{Nop, Note, Wave, Control, Exclusive}
use Rattle.std.specs.Prelude.{Ok, Err}
use Rattle.model.specs.declared.Read.{Read}
use Rattle.model.specs.declared.ReadItem.{ReadItem}
use Rattle.model.specs.declared.ReadItem.TheVariants.{Timed, EndMark}
use Rattle.model.proofs.Tests.{if_all, and_left, both_true}
use Rattle.writing.proofs.EventStands.{EventStands, event_stands}

-- an exclusive lies within the list
abbrev Inside : List ℕ → Event → Type 0
Inside s Nop = Unit
Inside s (Note channel key gate) = Unit
Inside s (Wave channel number gate) = Unit
Inside s (Control kind channel value) = Unit
Inside s (Exclusive place size) = exclusive_fits s place size ≡ true

abbrev ReadInside : List ℕ → Checked (Read Event) → Type 0
ReadInside s (Ok read) = Inside s read.what
ReadInside s (Err why) = Unit

module _ (s : List ℕ) where
  gated_inside : (voice : Voice) (byte : ℕ) (d : Checked (Read ℕ)) → ReadInside s (gated voice byte d)
  unfolding gated sound
  gated_inside Score byte (Ok read) = tt
  gated_inside Pcm byte (Ok read) = tt
  gated_inside voice byte (Err why) = tt

  module _ (voice : Voice) (at : ℕ) where
    sound_inside : ReadInside s (sound_at voice s at)
    unfolding sound_at
    sound_inside = if_all (ReadInside s) (is_sound voice (s ! at)) _ _ (λ h. gated_inside voice (s ! at) (gate_at s (at + 1))) (λ h. tt)

    formed_inside : (byte : ℕ) → ReadInside s (formed voice s at byte)
    unfolding formed long_at short_at
    formed_inside byte =
        let P = ReadInside s in
        if_all P (byte / 16 % 4 ≡? 3) _ _
        (λ a. let kind = long_kind (byte % 16) in
        if_all P (kind ≡? 0) _ _ (λ b. tt)
        (λ b. if_all P (not (has_kind voice kind)) _ _ (λ c. tt)
        (λ c. if_all P (length s ≤? at + 2) _ _ (λ d. tt)
        (λ d. if_all P (is_value kind (s ! (at + 2))) _ _ (λ e. tt) (λ e. tt)))))
        (λ a. let kind = short_kind (byte / 16 % 4) in
        if_all P (not (has_kind voice kind)) _ _ (λ b. tt)
        (λ b. if_all P (byte % 16 ≡? 0) _ _ (λ c. tt)
        (λ c. if_all P (byte % 16 ≡? 15) _ _ (λ d. tt) (λ d. tt))))

    control_inside : ReadInside s (control_at voice s at)
    unfolding control_at
    control_inside = if_all (ReadInside s) (length s ≤? at + 1) _ _ (λ h. tt) (λ h. formed_inside (s ! (at + 1)))

    closed_inside : (size : ℕ) → ReadInside s (closed_at s at size)
    unfolding closed_at exclusive_fits
    closed_inside size =
        let P = ReadInside s in
        if_all P (size <? 3) _ _ (λ a. tt)
        (λ a. if_all P (length s ≤? at + 2 + size) _ _ (λ b. tt)
        (λ b. if_all P (s ! (at + 2 + size) ≡? 0xF7) _ _
        (λ c.
        let long = ltb-false size 3 a in
        let far = leb-false (length s) (at + 2 + size) b in
        let within : at + 3 + size ≤ length s = omega arith in
        both_true (3 ≤? size) _ (le-leb 3 size long) (both_true (at + 3 + size ≤? length s) _ (le-leb (at + 3 + size) (length s) within) c))
        (λ c. tt)))

    system_inside : ReadInside s (system_at s at)
    unfolding system_at exclusive_at
    system_inside =
        let P = ReadInside s in
        if_all P (length s ≤? at + 1) _ _ (λ a. tt)
        (λ a. if_all P (s ! (at + 1) ≡? 0x00) _ _ (λ b. tt)
        (λ b. if_all P (s ! (at + 1) ≡? 0xF0) _ _
        (λ c. if_all P (length s ≤? at + 2) _ _ (λ d. tt) (λ d. closed_inside (s ! (at + 2))))
        (λ c. tt)))

    event_inside : ReadInside s (event_at voice s at)
    unfolding event_at
    event_inside =
        let P = ReadInside s in
        if_all P (length s ≤? at) _ _ (λ a. tt)
        (λ a. if_all P (s ! at ≡? 0x00) _ _ (λ b. control_inside)
        (λ b. if_all P (s ! at ≡? 0xFF) _ _ (λ c. system_inside) (λ c. sound_inside)))

  fits_inside : (voice : Voice) (what : Event) → content_fits voice (content_of s what) ≡ true → Inside s what → event_fits voice s what ≡ true
  unfolding event_fits content_fits content_of
  fits_inside voice Nop h i = h
  fits_inside voice (Note channel key gate) h i = h
  fits_inside voice (Wave channel number gate) h i = h
  fits_inside voice (Control kind channel value) h i = and_left (control_fits voice kind channel value) _ h
  fits_inside voice (Exclusive place size) h i = i

  module _ (bytes : (k : ℕ) → s ! k < 256) (voice : Voice) where
    abbrev ItemFits : Checked ReadItem → Type 0
    ItemFits (Ok (Timed duration what next)) = event_fits voice s what ≡ true
    ItemFits (Ok (EndMark next)) = Unit
    ItemFits (Err why) = Unit

    with_event_fits : (value next : ℕ) (e : Checked (Read Event)) → EventStands voice s next e → ReadInside s e → ItemFits (with_event value e)
    unfolding with_event
    with_event_fits value next (Ok read) st i = fits_inside voice read.what st.0 i
    with_event_fits value next (Err why) st i = tt

    with_duration_fits : (d : Checked (Read ℕ)) → ItemFits (with_duration voice s d)
    unfolding with_duration
    with_duration_fits (Ok read) =
        with_event_fits read.what read.next (event_at voice s read.next) (event_stands s bytes voice read.next) (event_inside voice read.next)
    with_duration_fits (Err why) = tt

    item_fits : (at : ℕ) → ItemFits (item_at voice s at)
    unfolding item_at
    item_fits at = if_all ItemFits (is_end_mark s at) _ _ (λ h. tt) (λ h. with_duration_fits (duration_at s at))

    pub read_fits : (at value : ℕ) (what : Event) (next : ℕ) → item_at voice s at ≡ Ok (Timed value what next) → event_fits voice s what ≡ true
    read_fits at value what next e = subst ItemFits e (item_fits at)
