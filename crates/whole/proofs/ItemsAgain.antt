-- Ticket 3: the items of a body that reads, as the numbers that the operation gives, are taken for the same items; the body is the source of their exclusives.
use Prim.Native.Nat.{ℕ, ◌+◌, ◌*◌, ◌/◌, ◌<◌, ◌≤◌}
use mathlib.Core.Bool.{Bool, true}
use mathlib.Core.List.{List, [], ◌∷◌}
use mathlib.Core.Path.{◌≡◌, refl, sym, ◌∙◌, ap, subst}
use lib.ListN.{length, length-map}
use native.Mathlib.Omega.{arith}
use borrow.Author.Tests.{le-leb, le-ltb, eq-eqb, ne_eqb, leb-true}
use Rattle.model.specs.Words.{when◌then◌else◌, ◌and◌, ◌or◌, ◌≤?◌, Placed, passed, ◌>>=◌, ◌>>◌, told_at, Step.met, Checked}
use Rattle.std.specs.Prelude.{Ok, Err}
use Rattle.model.specs.Bytes.{◌!◌, part}
use Rattle.model.specs.Item.{Item, Item.timed, Item.end_mark, duration_of, item_at, item_met, item_step, body_of}
use Rattle.model.specs.Word.{word_of, InWord}
use Rattle.model.specs.Event.{is_wave, has_kind}
use Rattle.model.specs.Content.{content_of, content_in, contents_in}
use Rattle.model.specs.Writing.{note_fits, wave_fits, control_fits, event_fits, content_fits, item_fits, kind_in, event_in, event_word, mark_word, item_word, is_kind}
use Rattle.model.specs.Writing.{sound_given, event_given, word_given, item_given, items_from, items_given, items_numbers}
use Rattle.model.specs.declared.Voice.{Voice}
use Rattle.model.specs.declared.Voice.TheVariants.{Score, Pcm}
use Rattle.model.specs.declared.Event.{Event}
use Rattle.model.specs.declared.Event.TheVariants.{Nop, Note, Wave, Control, Exclusive}
use Rattle.model.specs.declared.ReadItem.{ReadItem}
use Rattle.model.specs.declared.ReadItem.TheVariants.{Timed, EndMark}
use Rattle.model.proofs.Parts.{part_length}
use Rattle.model.proofs.Tests.{and_left, and_right, both_true}
use Rattle.model.proofs.Walks.{Stand}
use Rattle.items.proofs.Standing.{body_stands}
use Rattle.writing.proofs.Numbers.{is_note_lem, is_wave_lem, is_control, is_exclusive}
use Rattle.writing.proofs.WriteBack.{timed_writes}
use Rattle.inverse.proofs.Fitting.{read_fits}
use Rattle.inverse.proofs.ReadWrites.{body_some}
use Rattle.inverse.proofs.WordBack.{given_word_back}

-- ITS NUMBERS have their bits in a word, where it fits a body of at most 65536 bytes
in_word : (voice : Voice) (s : List ℕ) (event : Event) → length s ≤ 65536 → event_fits voice s event ≡ true → content_fits voice (content_of s event) ≡ true
    → InWord event
unfolding event_fits content_fits content_of
in_word voice s Nop small fits said = tt
in_word voice s (Note channel key gate) small fits said =
    let n = is_note_lem voice channel key gate fits in let g = n.lasts in (omega arith, omega arith, omega arith)
in_word voice s (Wave channel number gate) small fits said =
    let w = is_wave_lem voice channel number gate fits in let g = w.lasts in (omega arith, omega arith, omega arith)
in_word voice s (Control kind channel value) small fits said =
    let c = is_control voice kind channel value fits in
    let v = leb-true value 255 (and_right (control_fits voice kind channel value) _ said) in
    (omega arith, omega arith, omega arith, omega arith)
in_word voice s (Exclusive place size) small fits said =
    let x = is_exclusive s place size fits in
    let bytes : List ℕ = part s (place + 3) size in
    let long : length bytes ≡ size = part_length s (place + 3) size x.inside in
    let few = leb-true (length bytes) 255 (and_left _ _ (and_right (3 ≤? length bytes) _ said)) in
    let inside = x.inside in
    (omega arith, omega arith)

-- ITS KIND is one of its voice, and no mark's
abbrev kind_of : Event → ℕ
kind_of Nop = 15
kind_of (Note channel key gate) = 1
kind_of (Wave channel number gate) = 2
kind_of (Control kind channel value) = kind
kind_of (Exclusive place size) = 14

kind_back : (event : Event) → InWord event → kind_in (event_word event) ≡ kind_of event
unfolding event_word word_of
kind_back Nop h = refl
kind_back (Note channel key gate) h = omega arith
kind_back (Wave channel number gate) h = omega arith
kind_back (Control kind channel value) h = omega arith
kind_back (Exclusive place size) h = omega arith

kind_known : (voice : Voice) (s : List ℕ) (event : Event) → event_fits voice s event ≡ true → is_kind voice (kind_of event) ≡ true
unfolding event_fits note_fits wave_fits is_kind ◌and◌ ◌or◌ has_kind
kind_known Score s Nop fits = refl
kind_known Pcm s Nop fits = refl
kind_known Score s (Note channel key gate) fits = refl
kind_known Pcm s (Note channel key gate) fits = fits
kind_known Score s (Wave channel number gate) fits = fits
kind_known Pcm s (Wave channel number gate) fits = refl
kind_known Score s (Control kind channel value) fits =
    let c = is_control Score kind channel value fits in
    let from : 1 ≤ kind = omega arith in
    let other : kind ≡ 2 → ⊥ = λ e. omega arith in
    let to : kind ≤ 16 = omega arith in
    simp (le-leb, ne_eqb)
kind_known Pcm s (Control kind channel value) fits =
    let c = is_control Pcm kind channel value fits in
    let other : kind ≡ 2 → ⊥ = λ e. omega arith in
    let to : kind ≤ 16 = omega arith in
    let has = c.has in
    simp (le-leb, ne_eqb, has)
kind_known Score s (Exclusive place size) fits = refl
kind_known Pcm s (Exclusive place size) fits = refl

no_mark : (event : Event) → InWord event → kind_of event ≡ 16 → ⊥
no_mark Nop h e = omega arith
no_mark (Note channel key gate) h e = omega arith
no_mark (Wave channel number gate) h e = omega arith
no_mark (Control kind channel value) h e = omega arith
no_mark (Exclusive place size) h e = omega arith

-- IT HAS NO FAULT
sound_passes : (allowed : Bool) (gate : ℕ) → allowed ≡ true → 1 ≤ gate → gate ≤ 16511 → sound_given allowed gate ≡ passed
unfolding sound_given when◌then◌else◌
sound_passes allowed gate h some few =
    let other : gate ≡ 0 → ⊥ = λ e. omega arith in
    simp (h, ne_eqb, le-ltb)

event_passes : (voice : Voice) (s : List ℕ) (event : Event) → event_fits voice s event ≡ true → event_given s event ≡ passed
unfolding event_fits control_fits event_given is_wave when◌then◌else◌
event_passes voice s Nop fits = refl
event_passes voice s (Note channel key gate) fits =
    let n = is_note_lem voice channel key gate fits in
    sound_passes _ gate (both_true _ _ (le-leb key 63 n.small) n.note) n.lasts.sounds n.lasts.short
event_passes voice s (Wave channel number gate) fits =
    let w = is_wave_lem voice channel number gate fits in
    sound_passes _ gate (both_true _ _ (le-leb 1 number w.from) (le-leb number 62 w.to)) w.lasts.sounds w.lasts.short
event_passes voice s (Control kind channel value) fits =
    let k = and_right (channel ≤? 3) _ fits in
    let l = and_right (3 ≤? kind) _ k in
    let m = and_right (kind ≤? 13) _ l in
    let v = and_right (has_kind voice kind) _ m in
    rw v
event_passes voice s (Exclusive place size) fits = rw fits

-- two numbers each
pub item_numbers_length : (placed : List (Placed (Item Event))) → length (items_numbers placed) ≡ 2 * length placed
unfolding items_numbers
item_numbers_length [] = refl
item_numbers_length (item ∷ rest) = omega (arith, item_numbers_length rest)

-- so that its duration and word are taken for it
word_taken : (voice : Voice) (s : List ℕ) (duration word : ℕ) (event : Event) → duration ≤ 16511 → (kind_in word ≡ 16 → ⊥) → is_kind voice (kind_in word) ≡ true
    → event_in word ≡ event → event_given s event ≡ passed → event_word event ≡ word → item_given voice s duration word ≡ Ok (timed duration (content_of s event))
unfolding item_given word_given when◌then◌else◌ ◌or◌ ◌and◌ ◌>>◌
word_taken voice s duration word event short other known says passes exact =
    let same = eq-eqb word word refl in
    simp (le-ltb, ne_eqb, known, says, passes, exact, same)

mark_taken : (voice : Voice) (s : List ℕ) → item_given voice s 0 mark_word ≡ Ok end_mark
unfolding item_given is_kind when◌then◌else◌ ◌or◌ ◌and◌ ◌>>◌
mark_taken Score s = refl
mark_taken Pcm s = refl

module _ (voice : Voice) (s : List ℕ) (bytes : (k : ℕ) → s ! k < 256) (small : length s ≤ 65536) where
  abbrev Taken : Item Event → Type 0
  Taken item = item_given voice s (duration_of item) (item_word item) ≡ Ok (content_in s item)

  -- an event that was read, and its duration
  pub event_in_word : (at duration : ℕ) (event : Event) (next : ℕ) → item_at voice s at ≡ Ok (Timed duration event next) → (duration ≤ 16511) × InWord event
  unfolding item_fits
  event_in_word at duration event next e =
      let fits = read_fits s bytes voice at duration event next e in
      let written = (timed_writes voice s bytes at duration event next e).fits in
      (leb-true duration 16511 (and_left _ _ written), in_word voice s event small fits (and_right (duration ≤? 16511) _ written))

  event_taken : (at duration : ℕ) (event : Event) (next : ℕ) → item_at voice s at ≡ Ok (Timed duration event next)
      → item_given voice s duration (event_word event) ≡ Ok (timed duration (content_of s event))
  event_taken at duration event next e =
      let fits = read_fits s bytes voice at duration event next e in
      let inside = event_in_word at duration event next e in
      let kind = kind_back event inside.1 in
      word_taken voice s duration (event_word event) event inside.0 (λ k. no_mark event inside.1 (sym kind ∙ k))
      (ap (is_kind voice) kind ∙ kind_known voice s event fits) (given_word_back event inside.1) (event_passes voice s event fits) refl

  met_taken : (at : ℕ) (item : Placed (Item Event)) (next : ℕ) (j : Checked ReadItem) → item_at voice s at ≡ j → item_met at j ≡ met item next → Taken item.what
  unfolding item_met duration_of item_word content_in
  met_taken at item next (Ok (Timed duration event n)) is e =
      let same : ◌≡◌ {A = Placed (Item Event)} (record { place = at; what = timed duration event }) item = cc in
      subst (λ (p : Placed (Item Event)). Taken p.what) same (event_taken at duration event n is)
  met_taken at item next (Ok (EndMark n)) is e =
      let same : ◌≡◌ {A = Placed (Item Event)} (record { place = at; what = end_mark }) item = cc in
      subst (λ (p : Placed (Item Event)). Taken p.what) same (mark_taken voice s)
  met_taken at item next (Err why) is e = let z : ◌≡◌ {A = ℕ} 0 1 = cc in absurd (omega arith)

  from_taken : (placed : List (Placed (Item Event))) (at index : ℕ) → Stand (length s) (item_step voice s) at placed
      → items_from voice s (length placed) index (items_numbers placed) ≡ Ok (contents_in s placed)
  unfolding item_step items_from items_numbers contents_in told_at ◌>>=◌
  from_taken [] at index st = refl
  from_taken (item ∷ rest) at index st =
      let first = met_taken at item st.0 (item_at voice s at) refl st.1 in
      rw (first, from_taken rest st.0 (index + 1) st.2)

  pub items_given_again : (placed : List (Placed (Item Event))) → body_of voice s ≡ Ok placed
      → items_given voice s (items_numbers placed) ≡ Ok (contents_in s placed)
  unfolding items_given when◌then◌else◌ contents_in
  items_given_again placed reads =
      let count : length (items_numbers placed) / 2 ≡ length placed = omega (arith, item_numbers_length placed) in
      let some : length placed ≡ 0 → ⊥ = λ e. omega (arith, body_some voice s bytes placed reads, length-map placed (λ item. content_in s item.what)) in
      rw (count, ne_eqb (length placed) 0 some) (from_taken placed 0 0 (body_stands voice s placed reads))
