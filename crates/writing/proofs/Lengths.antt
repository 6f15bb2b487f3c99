-- Lengths of given items, as the code finds them, kind by kind: 0 is the length of an item that cannot be written.
use Prim.Native.Nat.{ℕ, ◌+◌, ◌%◌, ◌<◌, ◌≤◌}
use mathlib.Core.Bool.{Bool, true, false, not, false≢true}
use mathlib.Core.List.{List}
use mathlib.Core.Logic.{inr}
use mathlib.Core.Path.{◌≡◌, refl, sym, ◌∙◌, ap}
use lib.ListN.{length}
use native.Mathlib.Decide.{dec_lt}
use native.Mathlib.Omega.{arith}
use borrow.Author.Tests.{eq-eqb, ne_eqb, eqb-true, eqb-false, leb-true, le-ltb, lt-ltb}
use Rattle.model.specs.Words.{when◌then◌else◌, ◌and◌, ◌or◌, ◌<?◌, ◌≤?◌, ◌≡?◌, Checked, passed, ◌>>◌, refused}
use Rattle.std.specs.Prelude.{Ok, Err}
use Rattle.model.specs.Duration.{duration_bytes}
use Rattle.model.specs.Event.{is_note, is_wave}
use Rattle.model.specs.Item.{Item, Item.timed, is_fine}
use Rattle.model.specs.Content.{Content, content_of}
use Rattle.model.specs.Writing.{value_fits, exclusive_fits, kind_in, channel_in, value_in, gate_in, place_in, size_in, event_in, event_word, mark_word, is_kind, sound_given, event_given, word_given, item_given}
use Rattle.model.specs.declared.Refusal.{Refusal}
use Rattle.model.specs.declared.Voice.{Voice}
use Rattle.model.specs.declared.Voice.TheVariants.{Score, Pcm}
use Rattle.model.specs.declared.Event.{Event}
use Rattle.model.specs.declared.Event.TheVariants.{Nop, Note, Wave, Control, Exclusive}
use Rattle.model.proofs.Tests.{by_test, if_true, if_false, and_left, and_right, flag_on, flag_off}
use Rattle.writing.specs.Parts.{checked, event_size, given_bytes, event_length, sound_length, control_length, exclusive_length}
use Rattle.writing.proofs.WordCases.{in_note, in_wave, in_exclusive, in_nothing, in_control, exact_note, exact_wave, exact_exclusive, exact_control}
use Rattle.writing.proofs.GivenItems.{item_long, mark_lasts, mark_exact, item_kind, item_word, size_mark, size_event, given_length}

-- BY KIND

module _ (word : ℕ) where
  pub sound_sized : (allowed : Bool) (n : ℕ) → not allowed ≡ false → word % 4 ≡ 0 → (gate_in word ≡ 0 → ⊥) → gate_in word ≤ 16511
      → n ≡ length (duration_bytes (gate_in word)) → 1 + n ≡ sound_length allowed word
  unfolding sound_length when◌then◌else◌
  sound_sized allowed n a b c d e = simp (a, b, ne_eqb, le-ltb) (ap (λ (k : ℕ). 1 + k) e)

  module _ (fits : Bool) (exact : word % 0x20000 ≡ 0) (is : fits ≡ value_fits (kind_in word) (value_in word)) where
    pub control_unfit : not fits ≡ true → 0 ≡ control_length word
    unfolding control_length when◌then◌else◌
    control_unfit h = let off = flag_off is h in simp (exact, off)

    module _ (h : not fits ≡ false) where
      pub control_long : kind_in word < 11 → 3 ≡ control_length word
      unfolding control_length when◌then◌else◌
      control_long k = let on = flag_on is h in simp (exact, on, lt-ltb)

      pub control_brief : 11 ≤ kind_in word → 2 ≡ control_length word
      unfolding control_length when◌then◌else◌
      control_brief k = let on = flag_on is h in simp (exact, on, le-ltb)

pub ruleset control_lengths = (control_unfit, control_long, control_brief)

-- a length that two tests allow, in the order of the definition
abbrev sized : Bool → Bool → ℕ → ℕ
sized given exact size = when given and exact then size else 0

sound_is : (allowed : Bool) (word : ℕ)
    → sound_length allowed word ≡ sized (is_fine (sound_given allowed (gate_in word))) (word % 4 ≡? 0) (1 + length (duration_bytes (gate_in word)))
unfolding sound_length sound_given is_fine when◌then◌else◌ ◌and◌
sound_is allowed word =
    by_test (not allowed) (λ a. simp a)
    (λ a. by_test (word % 4 ≡? 0)
    (λ b. by_test (gate_in word ≡? 0) (λ c. simp (a, b, c)) (λ c. by_test (16511 <? gate_in word) (λ d. simp (a, b, c, d)) (λ d. simp (a, b, c, d))))
    (λ b. by_test (gate_in word ≡? 0) (λ c. simp (a, b, c)) (λ c. by_test (16511 <? gate_in word) (λ d. simp (a, b, c, d)) (λ d. simp (a, b, c, d)))))

control_is : (word : ℕ)
    → control_length word
    ≡ sized (is_fine (when value_fits (kind_in word) (value_in word) then passed else refused 23 0)) (word % 0x20000 ≡? 0) (when kind_in word <? 11 then 3 else 2)
unfolding control_length is_fine when◌then◌else◌ ◌and◌
control_is word =
    by_test (word % 0x20000 ≡? 0)
    (λ b. by_test (value_fits (kind_in word) (value_in word)) (λ c. simp (b, c)) (λ c. simp (b, c)))
    (λ b. by_test (value_fits (kind_in word) (value_in word)) (λ c. simp (b, c)) (λ c. simp (b, c)))

exclusive_is : (source : List ℕ) (word : ℕ)
    → exclusive_length source word
    ≡ sized (is_fine (when exclusive_fits source (place_in word) (size_in word) then passed else refused 23 0)) (word % 8 ≡? 0) (3 + size_in word)
unfolding exclusive_length is_fine when◌then◌else◌ ◌and◌
exclusive_is source word =
    by_test (word % 8 ≡? 0)
    (λ b. by_test (exclusive_fits source (place_in word) (size_in word)) (λ c. simp (b, c)) (λ c. simp (b, c)))
    (λ b. by_test (exclusive_fits source (place_in word) (size_in word)) (λ c. simp (b, c)) (λ c. simp (b, c)))

module _ (source : List ℕ) (word : ℕ) where
  -- what is known of the event that a word says
  event_is : (event : Event) → event_in word ≡ event → (exact : Bool) → exact ≡ (event_word (event_in word) ≡? word)
      → sized (is_fine (event_given source event)) exact (event_size event) ≡ event_length source word
  unfolding event_length
  event_is event is exact e = rw (e, ← is) refl

  module _ (r : ℕ) where
    pub length_note : kind_in word ≡ 1 → (allowed : Bool) → allowed ≡ ((value_in word ≤? 63) and is_note (value_in word % 16)) → r ≡ sound_length allowed word
        → r ≡ event_length source word
    unfolding event_given event_size
    length_note k allowed a h =
        h ∙ sound_is allowed word ∙ rw a (event_is (Note (channel_in word) (value_in word) (gate_in word)) (in_note word k) (word % 4 ≡? 0) (exact_note word _ k refl))

    pub length_wave : kind_in word ≡ 2 → (allowed : Bool) → allowed ≡ is_wave (value_in word) → r ≡ sound_length allowed word → r ≡ event_length source word
    unfolding event_given event_size
    length_wave k allowed a h =
        h ∙ sound_is allowed word ∙ rw a (event_is (Wave (channel_in word) (value_in word) (gate_in word)) (in_wave word k) (word % 4 ≡? 0) (exact_wave word _ k refl))

    pub length_control : 0 < kind_in word → (kind_in word ≡ 1 → ⊥) → (kind_in word ≡ 2 → ⊥) → kind_in word < 14 → r ≡ control_length word → r ≡ event_length source word
    unfolding event_given event_size
    length_control some note wave low h =
        let from : 3 ≤ kind_in word = omega arith in
        let to : kind_in word ≤ 13 = omega arith in
        h ∙ control_is word
        ∙ event_is (Control (kind_in word) (channel_in word) (value_in word)) (in_control word from to) (word % 0x20000 ≡? 0) (exact_control word _ from to refl)

    pub length_exclusive : kind_in word ≡ 14 → r ≡ exclusive_length source word → r ≡ event_length source word
    unfolding event_given event_size
    length_exclusive k h =
        h ∙ exclusive_is source word ∙ event_is (Exclusive (place_in word) (size_in word)) (in_exclusive word k) (word % 8 ≡? 0) (exact_exclusive word _ k refl)

  module _ (past : 14 < kind_in word) where
    nothing : event_in word ≡ Nop
    nothing = in_nothing word (inr past) (λ e. omega arith) (λ e. omega arith)

  pub length_other : 14 ≤ kind_in word → (kind_in word ≡ 14 → ⊥) → (word ≡ 0x78000000 → ⊥) → 0 ≡ event_length source word
  unfolding event_length event_given event_word is_fine when◌then◌else◌ ◌and◌
  length_other past exclusive h = let far : 14 < kind_in word = omega arith in rw (nothing far) (simp (ne_eqb 0x78000000 word (λ e. h (sym e))))

  pub length_nop : word ≡ 0x78000000 → 2 ≡ event_length source word
  unfolding event_length event_given event_word event_size is_fine when◌then◌else◌ ◌and◌
  length_nop h = let past : 14 < kind_in word = omega arith in rw (nothing past) (simp (eq-eqb 0x78000000 word (sym h)))

pub ruleset event_lengths = (length_note, length_wave, length_control, length_exclusive, length_other, length_nop)

-- THE WHOLE ITEM: one that is at fault has no bytes

pub refused_none : (o : Checked (Item Content)) (why : Refusal) → Err why ≡ checked o → 0 ≡ length (given_bytes o)
unfolding given_bytes ◌>>◌
refused_none (Ok item) why e = let z : ◌≡◌ {A = ℕ} 0 1 = cc in absurd (omega arith)
refused_none (Err found) why e = refl

pub passed_fine : {A : Type 0} (o : Checked A) → passed ≡ checked o → is_fine o ≡ true
unfolding is_fine ◌>>◌
passed_fine (Ok a) e = refl
passed_fine (Err why) e = let z : ◌≡◌ {A = ℕ} 0 1 = cc in absurd (omega arith)

module _ (exact : Bool) (item : Item Content) where
  abbrev then_exact : Checked (Unit {0}) → Checked (Unit {0})
  then_exact o = checked (o >> (when exact then Ok item else refused 23 0))

  exact_passed : (o : Checked (Unit {0})) → (is_fine o and exact) ≡ true → passed ≡ then_exact o
  unfolding is_fine ◌>>◌ ◌and◌ when◌then◌else◌
  exact_passed (Ok a) h = simp h
  exact_passed (Err why) h = absurd (false≢true h)

  exact_refused : (o : Checked (Unit {0})) → (is_fine o and exact) ≡ false → (why : Refusal) × (Err why ≡ then_exact o)
  unfolding is_fine ◌>>◌ ◌and◌ when◌then◌else◌
  exact_refused (Ok a) h = (record { number = 23; place = 0 }, simp h)
  exact_refused (Err why) h = (why, refl)

size_some : (event : Event) → 0 < event_size event
unfolding event_size when◌then◌else◌
size_some Nop = omega arith
size_some (Note channel key gate) = omega arith
size_some (Wave channel number gate) = omega arith
size_some (Control kind channel value) = by_test (kind <? 11) (λ h. simp h (omega arith)) (λ h. simp h (omega arith))
size_some (Exclusive place size) = omega arith

module _ (voice : Voice) (source : List ℕ) (duration word : ℕ) where
  faulty : (why : Refusal) → Err why ≡ checked (item_given voice source duration word) → 0 ≡ length (given_bytes (item_given voice source duration word))
  faulty = refused_none (item_given voice source duration word)

  faultless : passed ≡ checked (item_given voice source duration word) → is_fine (item_given voice source duration word) ≡ true
  faultless = passed_fine (item_given voice source duration word)

  pub length_long : 16511 < duration → 0 ≡ length (given_bytes (item_given voice source duration word))
  length_long h = faulty _ (item_long voice source duration word h)

  module _ (short : duration ≤ 16511) where
    pub length_mark : word ≡ 0x80000000 → duration ≡ 0 → 4 ≡ length (given_bytes (item_given voice source duration word))
    unfolding when◌then◌else◌
    length_mark w h =
        let k : kind_in word ≡ 16 = omega arith in
        let free = mark_exact voice source duration word short passed k h (simp (eq-eqb word mark_word w)) in
        size_mark duration word k ∙ sym (given_length voice source duration word (faultless free))

    pub length_lasting : word ≡ 0x80000000 → (duration ≡ 0 → ⊥) → 0 ≡ length (given_bytes (item_given voice source duration word))
    length_lasting w h = let k : kind_in word ≡ 16 = omega arith in faulty _ (mark_lasts voice source duration word short k h)

    module _ (other : word ≡ 0x80000000 → ⊥) where
      stray_mark : kind_in word ≡ 16 → 0 ≡ length (given_bytes (item_given voice source duration word))
      unfolding when◌then◌else◌
      stray_mark k =
          by_test (duration ≡? 0)
          (λ h. faulty _ (mark_exact voice source duration word short (refused 23 0) k (eqb-true duration 0 h) (simp (ne_eqb word mark_word other))))
          (λ h. faulty _ (mark_lasts voice source duration word short k (eqb-false duration 0 h)))

      module _ (known : Bool) (is : known ≡ is_kind voice (kind_in word)) where
        pub length_kind : not known ≡ true → 0 ≡ length (given_bytes (item_given voice source duration word))
        length_kind h =
            by_test (kind_in word ≡? 16) (λ k. stray_mark (eqb-true _ 16 k))
            (λ k. faulty _ (item_kind voice source duration word short (eqb-false _ 16 k) known is h))

        pub kind_some : not known ≡ false → 0 < kind_in word
        unfolding is_kind ◌and◌ ◌or◌
        kind_some h = go voice (flag_on is h)
          where
            go : (v : Voice) → is_kind v (kind_in word) ≡ true → 0 < kind_in word
            go Score q = let low = leb-true 1 (kind_in word) (and_left _ _ q) in omega arith
            go Pcm q = elim (dec_lt 0 (kind_in word)) [ yes p ↦ p | no p ↦ let z : kind_in word ≡ 0 = omega arith in absurd (false≢true (simp z at q)) ]

        module _ (holds : not known ≡ false) (size : ℕ) (sized : size ≡ event_length source word) where
          pub length_none : size ≡ 0 → 0 ≡ length (given_bytes (item_given voice source duration word))
          unfolding event_length word_given
          length_none h =
              by_test (kind_in word ≡? 16) (λ k. stray_mark (eqb-true _ 16 k))
              (λ k.
              let off : (is_fine (event_given source (event_in word)) and (event_word (event_in word) ≡? word)) ≡ false =
              by_test (is_fine (event_given source (event_in word)) and (event_word (event_in word) ≡? word))
              (λ q. let e = sized ∙ if_true _ (event_size (event_in word)) 0 q in let some = size_some (event_in word) in absurd (omega arith)) (λ q. q) in
              let at_fault = exact_refused (event_word (event_in word) ≡? word) (timed duration (content_of source (event_in word))) (event_given source (event_in word)) off in
              faulty at_fault.0 (item_word voice source duration word short (eqb-false _ 16 k) known is _ holds at_fault.1))

          pub length_some : (more : ℕ) → (size ≡ 0 → ⊥) → more ≡ length (duration_bytes duration) → more + size ≡ length (given_bytes (item_given voice source duration word))
          unfolding event_length word_given event_word
          length_some more h lasts =
              let test = is_fine (event_given source (event_in word)) and (event_word (event_in word) ≡? word) in
              let on : test ≡ true = by_test test (λ q. q) (λ q. absurd (h (sized ∙ if_false test (event_size (event_in word)) 0 q))) in
              let exact = eqb-true _ word (and_right (is_fine (event_given source (event_in word))) _ on) in
              let kind : kind_in word ≡ 16 → ⊥ = λ k.
              let e : 0x78000000 ≡ word = ap event_word (sym (in_nothing word (inr (omega arith)) (λ q. omega arith) (λ q. omega arith))) ∙ exact in omega arith in
              let free = exact_passed (event_word (event_in word) ≡? word) (timed duration (content_of source (event_in word))) (event_given source (event_in word)) on in
              let there = faultless (item_word voice source duration word short kind known is passed holds free) in
              let all : more + size ≡ length (duration_bytes duration) + event_size (event_in word) =
              ap (λ (n : ℕ). n + size) lasts ∙ ap (λ (n : ℕ). length (duration_bytes duration) + n) (sized ∙ if_true test (event_size (event_in word)) 0 on) in
              size_event duration word kind (event_in word) refl (more + size) all ∙ sym (given_length voice source duration word there)

pub ruleset item_lengths = (length_long, length_mark, length_lasting, length_kind, kind_some, length_none, length_some)
