-- What is read within a body of at most 65536 bytes has numbers that its word has the bits for, and its duration is at most the longest.
use Prim.Native.Nat.{ℕ, ◌+◌, ◌/◌, ◌%◌, ◌<◌, ◌≤◌}
use mathlib.Core.Bool.{not}
use mathlib.Core.List.{List}
use lib.ListN.{length}
use native.Mathlib.Omega.{arith}
use borrow.Author.Tests.{ltb-true, leb-false, eqb-false}
use Rattle.model.specs.Words.{◌<?◌, ◌≤?◌, ◌≡?◌, Checked}
use Rattle.model.specs.Bytes.{◌!◌}
use Rattle.model.specs.Duration.{duration_at, not_zero, gate_at}
use Rattle.model.specs.Event.{is_sound, sound, gated, sound_at, long_kind, short_kind, has_kind, is_value, long_at, short_at, formed, control_at, closed_at, exclusive_at, system_at, event_at}
use Rattle.model.specs.Item.{is_end_mark, with_event, with_duration, item_at}
use Rattle.model.specs.Word.{InWord}
use Rattle.model.specs.declared.Voice.{Voice}
use Rattle.model.specs.declared.Voice.TheVariants.{Score, Pcm}
use Rattle.std.specs.Prelude.{Ok, Err}
use Rattle.model.specs.declared.Read.{Read}
use Rattle.model.specs.declared.Event.{Event}
use Rattle.model.specs.declared.ReadItem.{ReadItem}
use Rattle.model.specs.declared.ReadItem.TheVariants.{Timed, EndMark}
use Rattle.model.proofs.Tests.{if_all}
use Rattle.model.proofs.Codes.{kind_from, kind_to}

abbrev pub DurationShort : Checked (Read ℕ) → Type 0
DurationShort (Ok read) = read.what ≤ 16511
DurationShort (Err why) = Unit

abbrev EventInWord : Checked (Read Event) → Type 0
EventInWord (Ok read) = InWord read.what
EventInWord (Err why) = Unit

abbrev pub ItemInWord : Checked ReadItem → Type 0
ItemInWord (Ok (Timed duration what next)) = (duration ≤ 16511) × InWord what
ItemInWord (Ok (EndMark next)) = Unit
ItemInWord (Err why) = Unit

module _ (s : List ℕ) (bytes : (k : ℕ) → s ! k < 256) where
  pub duration_short : (at : ℕ) → DurationShort (duration_at s at)
  unfolding duration_at
  duration_short at =
      let one = bytes at in
      if_all DurationShort (length s ≤? at) _ _ (λ h. tt)
      (λ h. if_all DurationShort (s ! at <? 128) _ _ (λ i. omega arith)
      (λ i. if_all DurationShort (length s ≤? at + 1) _ _ (λ j. tt)
      (λ j. if_all DurationShort (s ! (at + 1) <? 128) _ _ (λ k. omega (arith, ltb-true)) (λ k. tt))))

  pub gate_short : (at : ℕ) (d : Checked (Read ℕ)) → DurationShort d → DurationShort (not_zero at d)
  unfolding not_zero
  gate_short at (Ok read) h = if_all DurationShort (read.what ≡? 0) _ _ (λ i. tt) (λ i. h)
  gate_short at (Err why) h = tt

  gated_in_word : (voice : Voice) (byte : ℕ) (d : Checked (Read ℕ)) → byte < 256 → DurationShort d → EventInWord (gated voice byte d)
  unfolding gated sound
  gated_in_word Score byte (Ok read) h k = omega arith
  gated_in_word Pcm byte (Ok read) h k = omega arith
  gated_in_word voice byte (Err why) h k = tt

  module _ (voice : Voice) (at : ℕ) where
    sound_in_word : EventInWord (sound_at voice s at)
    unfolding sound_at gate_at
    sound_in_word =
        if_all EventInWord (is_sound voice (s ! at)) _ _
        (λ h. gated_in_word voice (s ! at) _ (bytes at) (gate_short (at + 1) (duration_at s (at + 1)) (duration_short (at + 1))))
        (λ h. tt)

    long_in_word : (byte : ℕ) → byte < 256 → EventInWord (long_at voice s at (byte / 64) (long_kind (byte % 16)))
    unfolding long_at
    long_in_word byte b =
        let kind = long_kind (byte % 16) in
        let low : byte % 16 < 16 = omega arith in
        if_all EventInWord (kind ≡? 0) _ _ (λ h. tt)
        (λ h. if_all EventInWord (not (has_kind voice kind)) _ _ (λ i. tt)
        (λ i. if_all EventInWord (length s ≤? at + 2) _ _ (λ j. tt)
        (λ j. if_all EventInWord (is_value kind (s ! (at + 2))) _ _
        (λ k. omega (arith, kind_from (byte % 16) low (eqb-false kind 0 h), kind_to (byte % 16) low, bytes (at + 2)))
        (λ k. tt))))

    short_in_word : (byte : ℕ) → byte < 256 → EventInWord (short_at voice at (byte / 64) (short_kind (byte / 16 % 4)) (byte % 16))
    unfolding short_at
    short_in_word byte b =
        if_all EventInWord (not (has_kind voice (short_kind (byte / 16 % 4)))) _ _ (λ h. tt)
        (λ h. if_all EventInWord (byte % 16 ≡? 0) _ _ (λ i. tt)
        (λ i. if_all EventInWord (byte % 16 ≡? 15) _ _ (λ j. tt) (λ j. omega arith)))

    control_in_word : EventInWord (control_at voice s at)
    unfolding control_at formed
    control_in_word =
        let byte = s ! (at + 1) in
        if_all EventInWord (length s ≤? at + 1) _ _ (λ h. tt)
        (λ h. if_all EventInWord (byte / 16 % 4 ≡? 3) _ _ (λ i. long_in_word byte (bytes (at + 1))) (λ i. short_in_word byte (bytes (at + 1))))

  module _ (small : length s ≤ 65536) where
    exclusive_in_word : (at : ℕ) → EventInWord (exclusive_at s at)
    unfolding exclusive_at closed_at
    exclusive_in_word at =
        let size = s ! (at + 2) in
        if_all EventInWord (length s ≤? at + 2) _ _ (λ h. tt)
        (λ h. if_all EventInWord (size <? 3) _ _ (λ i. tt)
        (λ i. if_all EventInWord (length s ≤? at + 2 + size) _ _ (λ j. tt)
        (λ j. if_all EventInWord (s ! (at + 2 + size) ≡? 0xF7) _ _ (λ k. omega (arith, leb-false (length s) (at + 2) h, bytes (at + 2))) (λ k. tt))))

    system_in_word : (at : ℕ) → EventInWord (system_at s at)
    unfolding system_at
    system_in_word at =
        if_all EventInWord (length s ≤? at + 1) _ _ (λ h. tt)
        (λ h. if_all EventInWord (s ! (at + 1) ≡? 0x00) _ _ (λ i. tt)
        (λ i. if_all EventInWord (s ! (at + 1) ≡? 0xF0) _ _ (λ j. exclusive_in_word at) (λ j. tt)))

    event_in_word : (voice : Voice) (at : ℕ) → EventInWord (event_at voice s at)
    unfolding event_at
    event_in_word voice at =
        if_all EventInWord (length s ≤? at) _ _ (λ h. tt)
        (λ h. if_all EventInWord (s ! at ≡? 0x00) _ _ (λ i. control_in_word voice at)
        (λ i. if_all EventInWord (s ! at ≡? 0xFF) _ _ (λ j. system_in_word at) (λ j. sound_in_word voice at)))

    with_event_lem : (value : ℕ) (e : Checked (Read Event)) → value ≤ 16511 → EventInWord e → ItemInWord (with_event value e)
    unfolding with_event
    with_event_lem value (Ok read) h k = (h, k)
    with_event_lem value (Err why) h k = tt

    with_duration_lem : (voice : Voice) (d : Checked (Read ℕ)) → DurationShort d → ItemInWord (with_duration voice s d)
    unfolding with_duration
    with_duration_lem voice (Ok read) h = with_event_lem read.what (event_at voice s read.next) h (event_in_word voice read.next)
    with_duration_lem voice (Err why) h = tt

    pub item_in_word : (voice : Voice) (at : ℕ) → ItemInWord (item_at voice s at)
    unfolding item_at
    item_in_word voice at =
        if_all ItemInWord (is_end_mark s at) _ _ (λ h. tt) (λ h. with_duration_lem voice (duration_at s at) (duration_short at))
