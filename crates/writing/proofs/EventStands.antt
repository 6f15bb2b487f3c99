-- What the readers of durations and events accept stands there as the bytes of what they give, and fits (half of demand 2, for
-- WriteBack.antt). The list's elements are bytes.
use Prim.Native.Nat.{ℕ, ◌+◌, ◌-◌, ◌/◌, ◌%◌, ◌<◌, ◌≤◌}
use mathlib.Core.Bool.{true, not}
use mathlib.Core.List.{List}
use mathlib.Core.Path.{◌≡◌, refl, sym, ◌∙◌}
use lib.ListN.{length}
use native.Mathlib.Omega.{arith}
use borrow.Author.Tests.{le-ltb, le-leb, ltb-true, ltb-false, leb-false, eqb-true, eqb-false, not-false}
use Rattle.model.specs.Words.{when◌then◌else◌, ◌and◌, ◌<?◌, ◌≤?◌, ◌≡?◌, ◌up_to◌, Checked}
use Rattle.model.specs.Bytes.{◌!◌}
use Rattle.model.specs.Duration.{two_byte_value, duration_at, not_zero, gate_at, duration_bytes}
use Rattle.model.specs.Event.{is_note, is_wave, is_sound, sound, gated, sound_at, long_kind, short_kind, has_kind, is_value, long_at, short_at, formed, control_at, closed_at, exclusive_at, system_at, event_at}
use Rattle.model.specs.Content.{content_of, code_of, content_bytes}
use Rattle.model.specs.Writing.{is_gate, note_fits, wave_fits, value_fits, control_fits, content_fits}
use Rattle.model.specs.declared.Voice.{Voice}
use Rattle.model.specs.declared.Voice.TheVariants.{Score, Pcm}
use Rattle.model.specs.declared.Event.TheVariants.{Nop, Control, Exclusive}
use Rattle.std.specs.Prelude.{Ok, Err}
use Rattle.model.specs.declared.Read.{Read}
use Rattle.model.specs.declared.Event.{Event}
use Rattle.model.proofs.Parts.{part_length}
use Rattle.model.proofs.Tests.{if_all}
use Rattle.model.proofs.Codes.{code_back, kind_from, kind_to}
use Rattle.writing.proofs.ContentFits.{exclusive_fits_lem}
use Rattle.writing.proofs.Durations.{one_byte, two_bytes}
use Rattle.writing.proofs.Events.{control_long, control_short}
use Rattle.writing.proofs.Stands.{Stands, part_stands}

abbrev pub DurationStands : List ℕ → ℕ → Checked (Read ℕ) → Type 0
DurationStands s at (Ok read) = (read.what ≤ 16511) × Stands s at (duration_bytes read.what) × (read.next ≡ at + length (duration_bytes read.what))
DurationStands s at (Err why) = Unit

abbrev GateStands : List ℕ → ℕ → Checked (Read ℕ) → Type 0
GateStands s at (Ok read) =
    (1 ≤ read.what) × (read.what ≤ 16511) × Stands s at (duration_bytes read.what) × (read.next ≡ at + length (duration_bytes read.what))
GateStands s at (Err why) = Unit

abbrev pub EventStands : Voice → List ℕ → ℕ → Checked (Read Event) → Type 0
EventStands voice s at (Ok read) =
    (content_fits voice (content_of s read.what) ≡ true)
    × Stands s at (content_bytes (content_of s read.what))
    × (read.next ≡ at + length (content_bytes (content_of s read.what)))
EventStands voice s at (Err why) = Unit

module _ (s : List ℕ) (bytes : (k : ℕ) → s ! k < 256) where
  short_stands : (at : ℕ) → at < length s → s ! at < 128 → DurationStands s at (Ok ((s ! at) up_to (at + 1)))
  short_stands at h k = rw (one_byte (s ! at) k) (omega arith, (h, refl, tt), refl)

  long_stands : (at : ℕ) → at + 1 < length s → 128 ≤ s ! at → s ! (at + 1) < 128
      → DurationStands s at (Ok ((two_byte_value (s ! at) (s ! (at + 1))) up_to (at + 2)))
  long_stands at h k l =
      let b = bytes at in
      let v : 128 ≤ two_byte_value (s ! at) (s ! (at + 1)) = omega arith in
      rw (two_bytes (two_byte_value (s ! at) (s ! (at + 1))) v) (omega arith, (omega arith, omega arith, (h, omega arith, tt)), refl)

  pub duration_stands : (at : ℕ) → DurationStands s at (duration_at s at)
  unfolding duration_at
  duration_stands at =
      if_all (DurationStands s at) (length s ≤? at) _ _ (λ a. tt)
      (λ a. if_all (DurationStands s at) (s ! at <? 128) _ _ (λ b. short_stands at (leb-false (length s) at a) (ltb-true (s ! at) 128 b))
      (λ b. if_all (DurationStands s at) (length s ≤? at + 1) _ _ (λ c. tt)
      (λ c. if_all (DurationStands s at) (s ! (at + 1) <? 128) _ _
      (λ d. long_stands at (leb-false (length s) (at + 1) c) (ltb-false (s ! at) 128 b) (ltb-true (s ! (at + 1)) 128 d))
      (λ d. tt))))

  not_zero_stands : (at : ℕ) (d : Checked (Read ℕ)) → DurationStands s at d → GateStands s at (not_zero at d)
  unfolding not_zero
  not_zero_stands at (Ok read) st =
      if_all (GateStands s at) (read.what ≡? 0) _ _ (λ z. tt) (λ z. let n = eqb-false read.what 0 z in (omega arith, st.0, st.1, st.2))
  not_zero_stands at (Err why) st = tt

  gate_stands : (at : ℕ) → GateStands s at (gate_at s at)
  unfolding gate_at
  gate_stands at = not_zero_stands at (duration_at s at) (duration_stands at)

  -- a note or a wave
  module _ (at : ℕ) (here : at < length s) where
    note_stands : is_note (s ! at % 16) ≡ true → (d : Checked (Read ℕ)) → GateStands s (at + 1) d → EventStands Score s at (gated Score (s ! at) d)
    unfolding gated sound content_of content_fits content_bytes note_fits is_gate ◌and◌
    note_stands n (Ok read) st =
        let b = bytes at in
        let g = st.0 in
        let t = st.1 in
        let m = st.3 in
        let c : s ! at / 64 ≤ 3 = omega arith in
        let k : s ! at % 64 ≤ 63 = omega arith in
        let l : s ! at % 64 % 16 ≡ s ! at % 16 = omega arith in
        (simp (le-leb, l, n), (here, omega arith, st.2), omega arith)
    note_stands n (Err why) st = tt

    wave_stands : is_wave (s ! at % 64) ≡ true → (d : Checked (Read ℕ)) → GateStands s (at + 1) d → EventStands Pcm s at (gated Pcm (s ! at) d)
    unfolding gated sound content_of content_fits content_bytes wave_fits is_gate ◌and◌
    wave_stands w (Ok read) st =
        let b = bytes at in
        let g = st.0 in
        let t = st.1 in
        let m = st.3 in
        let c : s ! at / 64 ≤ 3 = omega arith in
        (simp (le-leb, w), (here, omega arith, st.2), omega arith)
    wave_stands w (Err why) st = tt

    sound_stands : (voice : Voice) → EventStands voice s at (sound_at voice s at)
    unfolding sound_at is_sound
    sound_stands Score =
        if_all (EventStands Score s at) (is_note (s ! at % 16)) _ _ (λ n. note_stands n (gate_at s (at + 1)) (gate_stands (at + 1))) (λ n. tt)
    sound_stands Pcm =
        if_all (EventStands Pcm s at) (is_wave (s ! at % 64)) _ _ (λ w. wave_stands w (gate_at s (at + 1)) (gate_stands (at + 1))) (λ w. tt)

  -- a control, whose first byte is 00
  module _ (voice : Voice) (at : ℕ) (here : at < length s) (zero-here : s ! at ≡ 0x00) (next_here : at + 1 < length s) where
    long_control : (kind : ℕ) → kind ≡ long_kind (s ! (at + 1) % 16) → s ! (at + 1) / 16 % 4 ≡ 3 → (kind ≡ 0 → ⊥) → has_kind voice kind ≡ true
        → at + 2 < length s → is_value kind (s ! (at + 2)) ≡ true → EventStands voice s at (Ok ((Control kind (s ! (at + 1) / 64) (s ! (at + 2))) up_to (at + 3)))
    unfolding content_of content_fits content_bytes control_fits value_fits when◌then◌else◌ ◌and◌
    long_control kind is form some has there ok =
        let b = bytes (at + 1) in
        let v = bytes (at + 2) in
        let low : s ! (at + 1) % 16 < 16 = omega arith in
        let known : long_kind (s ! (at + 1) % 16) ≡ 0 → ⊥ = λ z. some (is ∙ z) in
        let from : 3 ≤ kind = rw is (kind_from (s ! (at + 1) % 16) low known) in
        let to : kind < 11 = rw is (kind_to (s ! (at + 1) % 16) low) in
        let top : kind ≤ 13 = omega arith in
        let small : s ! (at + 2) ≤ 255 = omega arith in
        let c : s ! (at + 1) / 64 ≤ 3 = omega arith in
        let code : code_of kind ≡ s ! (at + 1) % 16 = rw is (code_back (s ! (at + 1) % 16) low known) in
        let p : at + 1 + 1 ≡ at + 2 = omega arith in (
          simp (le-leb, has, ok),
          rw (control_long kind (s ! (at + 1) / 64) (s ! (at + 2)) to)
              (here, zero-here, (next_here, omega arith, rw p (there, refl, tt))),
          rw (control_long kind (s ! (at + 1) / 64) (s ! (at + 2)) to),
        )

    short_control : (kind : ℕ) → kind ≡ 13 - s ! (at + 1) / 16 % 4 → (s ! (at + 1) / 16 % 4 ≡ 3 → ⊥) → has_kind voice kind ≡ true
        → (s ! (at + 1) % 16 ≡ 0 → ⊥) → (s ! (at + 1) % 16 ≡ 15 → ⊥)
        → EventStands voice s at (Ok ((Control kind (s ! (at + 1) / 64) (s ! (at + 1) % 16)) up_to (at + 2)))
    unfolding content_of content_fits content_bytes control_fits value_fits when◌then◌else◌ ◌and◌
    short_control kind is form has some less =
        let b = bytes (at + 1) in
        let from : 3 ≤ kind = omega arith in
        let to : 11 ≤ kind = omega arith in
        let top : kind ≤ 13 = omega arith in
        let c : s ! (at + 1) / 64 ≤ 3 = omega arith in
        let low : 1 ≤ s ! (at + 1) % 16 = omega arith in
        let high : s ! (at + 1) % 16 ≤ 14 = omega arith in
        let small : s ! (at + 1) % 16 ≤ 255 = omega arith in (
          simp (le-leb, le-ltb, has),
          rw (control_short kind (s ! (at + 1) / 64) (s ! (at + 1) % 16) to) (here, zero-here, (next_here, omega arith, tt)),
          rw (control_short kind (s ! (at + 1) / 64) (s ! (at + 1) % 16) to),
        )

    formed_stands : EventStands voice s at (formed voice s at (s ! (at + 1)))
    unfolding formed long_at short_at
    formed_stands =
        let byte = s ! (at + 1) in
        let P = EventStands voice s at in
        if_all P (byte / 16 % 4 ≡? 3) _ _
        (λ a. let kind = long_kind (byte % 16) in
        if_all P (kind ≡? 0) _ _ (λ b. tt)
        (λ b. if_all P (not (has_kind voice kind)) _ _ (λ c. tt)
        (λ c. if_all P (length s ≤? at + 2) _ _ (λ d. tt)
        (λ d. if_all P (is_value kind (s ! (at + 2))) _ _
        (λ e. long_control kind refl (eqb-true (byte / 16 % 4) 3 a) (eqb-false kind 0 b) (not-false (has_kind voice kind) c) (leb-false (length s) (at + 2) d) e)
        (λ e. tt)))))
        (λ a. let kind = short_kind (byte / 16 % 4) in
        if_all P (not (has_kind voice kind)) _ _ (λ b. tt)
        (λ b. if_all P (byte % 16 ≡? 0) _ _ (λ c. tt)
        (λ c. if_all P (byte % 16 ≡? 15) _ _ (λ d. tt)
        (λ d. short_control kind refl (eqb-false (byte / 16 % 4) 3 a) (not-false (has_kind voice kind) b) (eqb-false (byte % 16) 0 c) (eqb-false (byte % 16) 15 d)))))

  control_stands : (voice : Voice) (at : ℕ) → at < length s → s ! at ≡ 0x00 → EventStands voice s at (control_at voice s at)
  unfolding control_at
  control_stands voice at h z =
      if_all (EventStands voice s at) (length s ≤? at + 1) _ _ (λ a. tt) (λ a. formed_stands voice at h z (leb-false (length s) (at + 1) a))

  -- a NOP or an exclusive, whose first byte is FF
  module _ (voice : Voice) (at : ℕ) (here : at < length s) (first : s ! at ≡ 0xFF) (next_here : at + 1 < length s) where
    nop_stands : s ! (at + 1) ≡ 0x00 → EventStands voice s at (Ok (Nop up_to (at + 2)))
    unfolding content_of content_fits content_bytes
    nop_stands z = (refl, (here, first, (next_here, z, tt)), refl)

    closed_stands : (size : ℕ) → s ! (at + 1) ≡ 0xF0 → size ≡ s ! (at + 2) → 3 ≤ size → at + 2 + size < length s → s ! (at + 2 + size) ≡ 0xF7
        → EventStands voice s at (Ok ((Exclusive at size) up_to (at + 2 + size + 1)))
    unfolding content_of content_bytes
    closed_stands size second is many there last =
        let v = bytes (at + 2) in
        let inside : at + 3 + size ≤ length s = omega arith in
        let sized = part_length s (at + 3) size inside in
        let two : at + 1 + 1 ≡ at + 2 = omega arith in
        let three : at + 2 + 1 ≡ at + 3 = omega arith in
        let size_here : at + 2 < length s = omega arith in
        let body = part_stands s (at + 3) size inside in (
          exclusive_fits_lem voice s at size many (omega arith) inside last,
          rw sized (here, first, (next_here, second, rw two (size_here, sym is, rw three body))),
          omega arith,
        )

    exclusive_stands : s ! (at + 1) ≡ 0xF0 → EventStands voice s at (exclusive_at s at)
    unfolding exclusive_at closed_at
    exclusive_stands second =
        let size = s ! (at + 2) in
        let P = EventStands voice s at in
        if_all P (length s ≤? at + 2) _ _ (λ a. tt)
        (λ a. if_all P (size <? 3) _ _ (λ b. tt)
        (λ b. if_all P (length s ≤? at + 2 + size) _ _ (λ c. tt)
        (λ c. if_all P (s ! (at + 2 + size) ≡? 0xF7) _ _
        (λ d. closed_stands size second refl (ltb-false size 3 b) (leb-false (length s) (at + 2 + size) c) (eqb-true (s ! (at + 2 + size)) 0xF7 d))
        (λ d. tt))))

  system_stands : (voice : Voice) (at : ℕ) → at < length s → s ! at ≡ 0xFF → EventStands voice s at (system_at s at)
  unfolding system_at
  system_stands voice at h f =
      let P = EventStands voice s at in
      if_all P (length s ≤? at + 1) _ _ (λ a. tt)
      (λ a. let k = leb-false (length s) (at + 1) a in
      if_all P (s ! (at + 1) ≡? 0x00) _ _ (λ b. nop_stands voice at h f k (eqb-true (s ! (at + 1)) 0x00 b))
      (λ b. if_all P (s ! (at + 1) ≡? 0xF0) _ _ (λ c. exclusive_stands voice at h f k (eqb-true (s ! (at + 1)) 0xF0 c)) (λ c. tt)))

  pub event_stands : (voice : Voice) (at : ℕ) → EventStands voice s at (event_at voice s at)
  unfolding event_at
  event_stands voice at =
      let P = EventStands voice s at in
      if_all P (length s ≤? at) _ _ (λ a. tt)
      (λ a. let h = leb-false (length s) at a in
      if_all P (s ! at ≡? 0x00) _ _ (λ b. control_stands voice at h (eqb-true (s ! at) 0x00 b))
      (λ b. if_all P (s ! at ≡? 0xFF) _ _ (λ c. system_stands voice at h (eqb-true (s ! at) 0xFF c)) (λ c. sound_stands at h voice)))
