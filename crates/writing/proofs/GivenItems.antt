-- One item that is given: what its checks say, event by event, and what it is where it passes them.
use Prim.Native.Nat.{ℕ, ◌+◌, ◌%◌, ◌<◌, ◌≤◌}
use mathlib.Core.Bool.{Bool, true, false, not, false≢true}
use mathlib.Core.List.{List, [], ◌∷◌}
use mathlib.Core.Logic.{◌⊎◌, inl, inr}
use mathlib.Core.Path.{◌≡◌, refl, sym, ◌∙◌, ap}
use lib.ListN.{length}
use lib.Seq.{sets}
use native.Mathlib.Omega.{arith}
use borrow.Author.Tests.{ne_eqb, eqb-true, eqb-false, le-leb, le-ltb, lt-ltb, ltb-false, leb-true}
use Rattle.model.specs.Words.{when◌then◌else◌, ◌and◌, ◌or◌, ◌<?◌, ◌≤?◌, ◌≡?◌, Checked, passed, ◌>>◌, refused}
use Rattle.std.specs.Prelude.{Ok, Err}
use Rattle.model.specs.Duration.{duration_bytes}
use Rattle.model.specs.Event.{is_note, is_wave, has_kind}
use Rattle.model.specs.Item.{Item, Item.timed, Item.end_mark, is_fine}
use Rattle.model.specs.Plain.{item_bytes}
use Rattle.model.specs.Content.{Content, content_of, handy_phone}
use Rattle.model.specs.Writing.{is_gate, note_fits, wave_fits, value_fits, control_fits, exclusive_fits, event_fits, timed_bytes, kind_in, channel_in, value_in, gate_in, event_in, event_word, mark_word, is_kind, sound_given, event_given, word_given, item_given}
use Rattle.model.specs.declared.Refusal.{Refusal}
use Rattle.model.specs.declared.Voice.{Voice}
use Rattle.model.specs.declared.Voice.TheVariants.{Score, Pcm}
use Rattle.model.specs.declared.Event.{Event}
use Rattle.model.specs.declared.Event.TheVariants.{Nop, Note, Wave, Control, Exclusive}
use Rattle.model.proofs.Tests.{by_test, and_left, and_right, both_true, flag_on, flag_off}
use Rattle.model.proofs.Outcomes.{then_fine, fine_some, not_refused, was_passed, neither_first, neither_second}
use Rattle.writing.specs.Parts.{checked, event_size, given_size, given_bytes}
use Rattle.writing.proofs.Contents.{event_length_lem}
use Rattle.writing.proofs.Items.{timed_length}
use Rattle.writing.proofs.WordCases.{in_note, in_wave, in_exclusive, in_nothing, in_control}

-- CHECKS, as the code makes them: `z` is what a check says

module _ (source : List ℕ) (event : Event) (z : Checked (Unit {0})) where
  pub check_nop : event ≡ Nop → z ≡ passed → z ≡ event_given source event
  unfolding event_given
  check_nop p h = rw p h

  pub check_note : (channel key gate : ℕ) → event ≡ Note channel key gate → (allowed : Bool) → allowed ≡ ((key ≤? 63) and is_note (key % 16))
      → z ≡ sound_given allowed gate → z ≡ event_given source event
  unfolding event_given
  check_note channel key gate p allowed a h = rw (p, ← a) h

  pub check_wave : (channel number gate : ℕ) → event ≡ Wave channel number gate → (allowed : Bool) → allowed ≡ is_wave number
      → z ≡ sound_given allowed gate → z ≡ event_given source event
  unfolding event_given
  check_wave channel number gate p allowed a h = rw (p, ← a) h

  pub check_control : (kind channel value : ℕ) → event ≡ Control kind channel value → (fits : Bool) → fits ≡ value_fits kind value
      → z ≡ (when fits then passed else refused 23 0) → z ≡ event_given source event
  unfolding event_given
  check_control kind channel value p fits a h = rw (p, ← a) h

  pub check_exclusive : (place size : ℕ) → event ≡ Exclusive place size → (fits : Bool) → fits ≡ exclusive_fits source place size
      → z ≡ (when fits then passed else refused 23 0) → z ≡ event_given source event
  unfolding event_given
  check_exclusive place size p fits a h = rw (p, ← a) h

pub ruleset event_checks = (check_nop, check_note, check_wave, check_control, check_exclusive)

-- what fits passes, whatever it is
pub fits_passed : {A : Type 0} (b : Bool) (a : A) → (when b then passed else refused 23 0) ≡ checked (when b then Ok a else refused 23 0)
unfolding when◌then◌else◌ ◌>>◌
fits_passed true a = refl
fits_passed false a = refl

module _ (source : List ℕ) (word : ℕ) (event : Event) (said : event ≡ event_in word) (first : Checked (Unit {0})) (is : first ≡ event_given source event)
    (z : Checked (Unit {0})) (duration : ℕ) where
  pub word_refused : (why : Refusal) → first ≡ Err why → z ≡ Err why → z ≡ checked (word_given source duration word)
  unfolding word_given ◌>>◌
  word_refused why e h = rw (← said, ← is, e) h

  pub word_exact : first ≡ passed → (exact : Bool) → exact ≡ (event_word (event_in word) ≡? word) → z ≡ (when exact then passed else refused 23 0)
      → z ≡ checked (word_given source duration word)
  unfolding word_given ◌>>◌
  word_exact e exact q h =
      rw (← said, ← is, e) (h ∙ fits_passed exact (timed duration (content_of source event)) ∙ rw (q, ← said))

-- the whole item
module _ (voice : Voice) (source : List ℕ) (duration word : ℕ) where
  pub item_long : 16511 < duration → refused 23 0 ≡ checked (item_given voice source duration word)
  unfolding item_given when◌then◌else◌ ◌or◌ ◌>>◌
  item_long h = simp lt-ltb

  module _ (short : duration ≤ 16511) where
    pub mark_lasts : kind_in word ≡ 16 → (duration ≡ 0 → ⊥) → refused 23 0 ≡ checked (item_given voice source duration word)
    unfolding item_given when◌then◌else◌ ◌or◌ ◌and◌ ◌>>◌
    mark_lasts k h = simp (le-ltb, k, ne_eqb)

    pub mark_exact : (z : Checked (Unit {0})) → kind_in word ≡ 16 → duration ≡ 0 → z ≡ (when word ≡? mark_word then passed else refused 23 0)
        → z ≡ checked (item_given voice source duration word)
    unfolding item_given when◌then◌else◌ ◌or◌ ◌and◌ ◌>>◌ is_kind
    mark_exact z k h q = go voice
      where
        go : (v : Voice) → z ≡ checked (item_given v source duration word)
        go Score = simp (k, h) (q ∙ fits_passed {A = Item Content} (word ≡? mark_word) end_mark)
        go Pcm = simp (k, h) (q ∙ fits_passed {A = Item Content} (word ≡? mark_word) end_mark)

    module _ (other : kind_in word ≡ 16 → ⊥) (known : Bool) (is : known ≡ is_kind voice (kind_in word)) where
      pub item_kind : not known ≡ true → refused 22 0 ≡ checked (item_given voice source duration word)
      unfolding item_given when◌then◌else◌ ◌or◌ ◌and◌ ◌>>◌
      item_kind h = let off = flag_off is h in simp (le-ltb, ne_eqb, off)

      pub item_word : (z : Checked (Unit {0})) → not known ≡ false → z ≡ checked (word_given source duration word)
          → z ≡ checked (item_given voice source duration word)
      unfolding item_given when◌then◌else◌ ◌or◌ ◌and◌ ◌>>◌
      item_word z h q = let on = flag_on is h in simp (le-ltb, ne_eqb, on) q

pub ruleset item_checks = (item_long, mark_lasts, mark_exact, item_kind, item_word)

-- a refusal has a number over 0
abbrev pub Numbered : {A : Type 0} → Checked A → Type 0
Numbered (Ok a) = Unit
Numbered (Err why) = 0 < why.number

pub then_numbered : {A B : Type 0} (o : Checked A) (rest : Checked B) → Numbered o → Numbered rest → Numbered (o >> rest)
unfolding ◌>>◌
then_numbered (Ok a) rest h k = k
then_numbered (Err why) rest h k = h

-- WHAT AN ITEM IS that has no fault: an end mark, or a duration and an event that can be written

pub record GivenMark (duration word : ℕ) (item : Item Content) : Type 0 where
  pub kind : kind_in word ≡ 16
  pub lasts : duration ≡ 0
  pub exact : word ≡ mark_word
  pub is : item ≡ end_mark

pub record GivenEvent (voice : Voice) (source : List ℕ) (duration word : ℕ) (item : Item Content) : Type 0 where
  pub kind : kind_in word ≡ 16 → ⊥
  pub short : duration ≤ 16511
  pub fits : event_fits voice source (event_in word) ≡ true
  pub exact : event_word (event_in word) ≡ word
  pub is : item ≡ timed duration (content_of source (event_in word))

-- a test that gives something or refuses
given_if : {A : Type 0} (b : Bool) (a x : A) (number place : ℕ) → (when b then Ok a else refused number place) ≡ Ok x → (b ≡ true) × (x ≡ a)
unfolding when◌then◌else◌
given_if true a x number place e = (refl, cc)
given_if false a x number place e = let z : ◌≡◌ {A = ℕ} 0 1 = cc in absurd (omega arith)

-- a sound, a value or an exclusive that is given can be written
past_fine : {A : Type 0} (b : Bool) (number place : ℕ) (o : Checked A) → is_fine (when b then refused number place else o) ≡ true → is_fine o ≡ true
unfolding when◌then◌else◌ is_fine
past_fine true number place o e = absurd (false≢true e)
past_fine false number place o e = e

on_not : (b : Bool) → not b ≡ false → b ≡ true
on_not true h = refl
on_not false h = absurd (false≢true (sym h))

sound_fits : (allowed : Bool) (gate : ℕ) → is_fine (sound_given allowed gate) ≡ true → (allowed ≡ true) × (is_gate gate ≡ true)
unfolding sound_given is_gate
sound_fits allowed gate h =
    let some = past_fine (not allowed) 21 0 _ h in
    let last = past_fine (gate ≡? 0) 21 0 _ some in
    let over = eqb-false gate 0 (not_refused (gate ≡? 0) 21 0 _ some) in
    let low : 1 ≤ gate = omega arith in
    let high : gate ≤ 16511 = ltb-false 16511 gate (not_refused (16511 <? gate) 23 0 passed last) in
    (on_not allowed (not_refused (not allowed) 21 0 _ h), both_true _ _ (le-leb 1 gate low) (le-leb gate 16511 high))

module _ (source : List ℕ) (word : ℕ) (fault_free : is_fine (event_given source (event_in word)) ≡ true) where
  note_fits_lem : (voice : Voice) → kind_in word ≡ 1 → is_kind voice (kind_in word) ≡ true → event_fits voice source (event_in word) ≡ true
  unfolding event_fits note_fits event_given is_kind ◌and◌ ◌or◌
  note_fits_lem Score k known =
      let g = sound_fits ((value_in word ≤? 63) and is_note (value_in word % 16)) (gate_in word) (rw (in_note word k) at fault_free) in
      let few : channel_in word ≤ 3 = omega arith in
      rw (in_note word k)
      (both_true _ _ (le-leb (channel_in word) 3 few)
      (both_true _ _ (and_left (value_in word ≤? 63) _ g.0) (both_true _ _ (and_right (value_in word ≤? 63) _ g.0) g.1)))
  note_fits_lem Pcm k known = absurd (false≢true (simp k at known))

  wave_fits_lem : (voice : Voice) → kind_in word ≡ 2 → is_kind voice (kind_in word) ≡ true → event_fits voice source (event_in word) ≡ true
  unfolding event_fits wave_fits event_given is_kind ◌and◌ ◌or◌
  wave_fits_lem Score k known = absurd (false≢true (simp k at known))
  wave_fits_lem Pcm k known =
      let g = sound_fits (is_wave (value_in word)) (gate_in word) (rw (in_wave word k) at fault_free) in
      let few : channel_in word ≤ 3 = omega arith in
      rw (in_wave word k) (both_true _ _ (le-leb (channel_in word) 3 few) (both_true _ _ g.0 g.1))

  exclusive_fits_lem : (voice : Voice) → kind_in word ≡ 14 → event_fits voice source (event_in word) ≡ true
  unfolding event_fits event_given
  exclusive_fits_lem voice k = rw (in_exclusive word k) (was_passed _ 23 0 passed (rw (in_exclusive word k) at fault_free))

  nop_fits : (voice : Voice) → kind_in word ≡ 15 → event_fits voice source (event_in word) ≡ true
  unfolding event_fits
  nop_fits voice k = rw (in_nothing word (inr (omega arith)) (λ e. omega arith) (λ e. omega arith)) refl

  module _ (note : kind_in word ≡ 1 → ⊥) (wave : kind_in word ≡ 2 → ⊥) (exclusive : kind_in word ≡ 14 → ⊥) (nop : kind_in word ≡ 15 → ⊥) (mark : kind_in word ≡ 16 → ⊥) where
    -- a kind of the voice that is none of these is a control of it
    kind_has : (voice : Voice) → is_kind voice (kind_in word) ≡ true → (3 ≤ kind_in word) × (kind_in word ≤ 13) × (has_kind voice (kind_in word) ≡ true)
    unfolding is_kind has_kind ◌and◌ ◌or◌
    kind_has Score known =
        let low = leb-true 1 (kind_in word) (and_left _ _ known) in
        let high = leb-true (kind_in word) 16 (and_right (not (kind_in word ≡? 2)) _ (and_right (1 ≤? kind_in word) _ known)) in
        (omega arith, omega arith, refl)
    kind_has Pcm known =
        let has = and_left ((kind_in word ≡? 2) or ((7 ≤? kind_in word) and not (kind_in word ≡? 11))) _ known in
        let high = leb-true (kind_in word) 16 (and_right ((kind_in word ≡? 2) or ((7 ≤? kind_in word) and not (kind_in word ≡? 11))) _ known) in
        let so = simp (ne_eqb (kind_in word) 2 wave) at has in
        let low = leb-true 7 (kind_in word) (and_left _ _ so) in
        (omega arith, omega arith, so)

    control_fits_lem : (voice : Voice) → is_kind voice (kind_in word) ≡ true → event_fits voice source (event_in word) ≡ true
    unfolding event_fits control_fits event_given
    control_fits_lem voice known =
        let h = kind_has voice known in
        let is = in_control word h.0 h.1 in
        let few : channel_in word ≤ 3 = omega arith in
        rw is
        (both_true _ _ (le-leb (channel_in word) 3 few)
        (both_true _ _ (le-leb 3 (kind_in word) h.0)
        (both_true _ _ (le-leb (kind_in word) 13 h.1) (both_true _ _ h.2 (was_passed _ 23 0 passed (rw is at fault_free))))))

event_fits_lem : (voice : Voice) (source : List ℕ) (word : ℕ) → (kind_in word ≡ 16 → ⊥) → is_kind voice (kind_in word) ≡ true
    → is_fine (event_given source (event_in word)) ≡ true → event_fits voice source (event_in word) ≡ true
event_fits_lem voice source word other known h =
    by_test (kind_in word ≡? 1) (λ k. note_fits_lem source word h voice (eqb-true _ 1 k) known)
    (λ note. by_test (kind_in word ≡? 2) (λ k. wave_fits_lem source word h voice (eqb-true _ 2 k) known)
    (λ wave. by_test (kind_in word ≡? 14) (λ k. exclusive_fits_lem source word h voice (eqb-true _ 14 k))
    (λ exclusive. by_test (kind_in word ≡? 15) (λ k. nop_fits source word h voice (eqb-true _ 15 k))
    (λ nop. control_fits_lem source word h (eqb-false _ 1 note) (eqb-false _ 2 wave) (eqb-false _ 14 exclusive) (eqb-false _ 15 nop) other voice known))))

module _ (voice : Voice) (source : List ℕ) (duration word : ℕ) (item : Item Content) where
  abbrev rest : Checked (Item Content)
  rest = when not (kind_in word ≡? 16) then word_given source duration word else when word ≡? mark_word then Ok end_mark else refused 23 0

  given_mark : (kind_in word ≡? 16) ≡ true → ((kind_in word ≡? 16) and not (duration ≡? 0)) ≡ false → rest ≡ Ok item → GivenMark duration word item
  unfolding when◌then◌else◌ ◌and◌
  given_mark k timeless e =
      let zero_test = simp k at timeless in
      let g = given_if (word ≡? mark_word) end_mark item 23 0 (simp k at e) in
      record {
        kind = eqb-true (kind_in word) 16 k;
        lasts = by_test (duration ≡? 0) (λ h. eqb-true duration 0 h) (λ h. absurd (false≢true (sym (simp h at zero_test))));
        exact = eqb-true word mark_word g.0;
        is = g.1;
      }

  given_event : duration ≤ 16511 → (kind_in word ≡? 16) ≡ false → is_kind voice (kind_in word) ≡ true → rest ≡ Ok item → GivenEvent voice source duration word item
  unfolding when◌then◌else◌ word_given
  given_event short k known e =
      let a = then_fine _ _ item (simp k at e) in
      let g = given_if (event_word (event_in word) ≡? word) _ item 23 0 a.1 in
      let other = eqb-false (kind_in word) 16 k in
      record { kind = other; short = short; fits = event_fits_lem voice source word other known a.0; exact = eqb-true _ word g.0; is = g.1 }

pub given_so : (voice : Voice) (source : List ℕ) (duration word : ℕ) (item : Item Content) → item_given voice source duration word ≡ Ok item
    → GivenMark duration word item ⊎ GivenEvent voice source duration word item
unfolding item_given word_given
given_so voice source duration word item e =
    let a = then_fine _ _ item e in
    let b = then_fine _ _ item a.1 in
    let untimed = not_refused _ 23 0 passed a.0 in
    let short : duration ≤ 16511 = ltb-false 16511 duration (neither_first (16511 <? duration) _ untimed) in
    let known = was_passed (is_kind voice (kind_in word)) 22 0 passed b.0 in
    by_test (kind_in word ≡? 16)
    (λ k. inl (given_mark voice source duration word item k (neither_second (16511 <? duration) _ untimed) b.1))
    (λ k. inr (given_event voice source duration word item short k known b.1))

-- ITS SIZE AND ITS BYTES

module _ (duration word : ℕ) where
  pub size_mark : kind_in word ≡ 16 → 4 ≡ given_size duration word
  unfolding given_size when◌then◌else◌
  size_mark k = simp k

  pub size_event : (kind_in word ≡ 16 → ⊥) → (event : Event) → event ≡ event_in word → (size : ℕ) → size ≡ length (duration_bytes duration) + event_size event
      → size ≡ given_size duration word
  unfolding given_size when◌then◌else◌
  size_event other event is size e = rw (← is) (simp ne_eqb e)

pub ruleset given_sizes = (size_mark, size_event)

module _ (voice : Voice) (source : List ℕ) (duration word : ℕ) (there : is_fine (item_given voice source duration word) ≡ true) where
  the_item : (item : Item Content) × (item_given voice source duration word ≡ Ok item)
  the_item = fine_some _ there

  so : GivenMark duration word the_item.0 ⊎ GivenEvent voice source duration word the_item.0
  so = given_so voice source duration word the_item.0 the_item.1

  module _ (mark : kind_in word ≡ 16) where
    mark_bytes : given_bytes (item_given voice source duration word) ≡ 0 ∷ 0 ∷ 0 ∷ 0 ∷ []
    unfolding given_bytes item_bytes
    mark_bytes =
        elim so [
          | inl m ↦ ap given_bytes the_item.1 ∙ ap (item_bytes handy_phone) m.is
          | inr e ↦ absurd (e.kind mark)
        ]

    module _ (l : List ℕ) (at : ℕ) where
      pub mark_room : at + length (given_bytes (item_given voice source duration word)) ≤ length l → at + 4 ≤ length l
      mark_room h = rw mark_bytes at h

      pub mark_next : (n : ℕ) → n ≡ at + 4 → n ≡ at + length (given_bytes (item_given voice source duration word))
      mark_next n h = rw mark_bytes h

      pub mark_wrote : (m : List ℕ) → m ≡ sets l at (0 ∷ 0 ∷ 0 ∷ 0 ∷ []) → m ≡ sets l at (given_bytes (item_given voice source duration word))
      mark_wrote m h = rw mark_bytes h

  module _ (other : kind_in word ≡ 16 → ⊥) where
    an_event : GivenEvent voice source duration word the_item.0
    an_event = elim so [ inl m ↦ absurd (other m.kind) | inr e ↦ e ]

    pub given_short : duration ≤ 16511
    given_short = an_event.short

    module _ (event : Event) (is : event ≡ event_in word) where
      pub given_fits : event_fits voice source event ≡ true
      given_fits = ap (event_fits voice source) is ∙ an_event.fits

      pub event_bytes : given_bytes (item_given voice source duration word) ≡ timed_bytes source duration event
      unfolding given_bytes timed_bytes
      event_bytes = ap given_bytes the_item.1 ∙ ap (item_bytes handy_phone) an_event.is ∙ ap (timed_bytes source duration) (sym is)

      module _ (l : List ℕ) (at : ℕ) where
        pub given_room : at + length (given_bytes (item_given voice source duration word)) ≤ length l → at + length (timed_bytes source duration event) ≤ length l
        given_room h = rw event_bytes at h

        pub given_next : (n : ℕ) → n ≡ at + length (timed_bytes source duration event) → n ≡ at + length (given_bytes (item_given voice source duration word))
        given_next n h = rw event_bytes h

        pub given_wrote : (m : List ℕ) → m ≡ sets l at (timed_bytes source duration event) → m ≡ sets l at (given_bytes (item_given voice source duration word))
        given_wrote m h = rw event_bytes h

  pub given_length : length (given_bytes (item_given voice source duration word)) ≡ given_size duration word
  unfolding given_size when◌then◌else◌
  given_length =
      elim so [
        | inl m ↦ let k = m.kind in ap length (mark_bytes k) ∙ simp k
        | inr e ↦ let k = e.kind in
            ap length (event_bytes k (event_in word) refl)
            ∙ timed_length source duration (event_in word)
            ∙ ap (λ (n : ℕ). length (duration_bytes duration) + n) (event_length_lem voice source (event_in word) e.fits)
            ∙ simp ne_eqb
      ]

pub ruleset given_parts = (mark_room, mark_next, mark_wrote, given_short, given_fits, given_room, given_next, given_wrote)
