-- Words kind by kind: the event that a word says, and whether it has other bits than its event's.
use Prim.Native.Nat.{ℕ, ◌/◌, ◌%◌, ◌<◌, ◌≤◌}
use mathlib.Core.Bool.{Bool, true, false}
use mathlib.Core.Logic.{◌⊎◌, inl, inr}
use mathlib.Core.Path.{◌≡◌, refl, sym, ◌∙◌}
use native.Mathlib.Omega.{arith}
use borrow.Author.Tests.{eq-eqb, ne_eqb, eqb-true, eqb-false, le-leb, lt-leb}
use Rattle.model.specs.Words.{when◌then◌else◌, ◌and◌, ◌or◌, ◌≤?◌, ◌≡?◌}
use Rattle.model.specs.Word.{packed, packed_exclusive, word_of}
use Rattle.model.specs.Writing.{kind_in, channel_in, value_in, gate_in, place_in, size_in, event_in, event_word, is_kind}
use Rattle.model.specs.declared.Voice.{Voice}
use Rattle.model.specs.declared.Voice.TheVariants.{Score, Pcm}
use Rattle.model.specs.declared.Event.TheVariants.{Nop, Note, Wave, Control, Exclusive}
use Rattle.model.proofs.Tests.{by_test}

module _ (word : ℕ) where
  pub in_note : kind_in word ≡ 1 → event_in word ≡ Note (channel_in word) (value_in word) (gate_in word)
  unfolding event_in when◌then◌else◌
  in_note k = simp k

  pub in_wave : kind_in word ≡ 2 → event_in word ≡ Wave (channel_in word) (value_in word) (gate_in word)
  unfolding event_in when◌then◌else◌
  in_wave k = simp k

  pub in_exclusive : kind_in word ≡ 14 → event_in word ≡ Exclusive (place_in word) (size_in word)
  unfolding event_in when◌then◌else◌
  in_exclusive k = simp k

  pub in_nothing : (kind_in word < 3) ⊎ (14 < kind_in word) → (kind_in word ≡ 1 → ⊥) → (kind_in word ≡ 2 → ⊥) → event_in word ≡ Nop
  unfolding event_in when◌then◌else◌ ◌and◌
  in_nothing (inl low) a b = let c : kind_in word ≡ 14 → ⊥ = λ e. omega arith in simp (ne_eqb, lt-leb)
  in_nothing (inr high) a b =
      let c : kind_in word ≡ 14 → ⊥ = λ e. omega arith in
      let from : 3 ≤ kind_in word = omega arith in
      let past : 13 < kind_in word = omega arith in
      simp (ne_eqb, le-leb, lt-leb)

  pub in_control : 3 ≤ kind_in word → kind_in word ≤ 13 → event_in word ≡ Control (kind_in word) (channel_in word) (value_in word)
  unfolding event_in when◌then◌else◌ ◌and◌
  in_control from to =
      let a : kind_in word ≡ 1 → ⊥ = λ e. omega arith in
      let b : kind_in word ≡ 2 → ⊥ = λ e. omega arith in
      let c : kind_in word ≡ 14 → ⊥ = λ e. omega arith in
      simp (ne_eqb, le-leb)

  -- a test of the low bits is a test of the whole word
  same_test : (back bits : ℕ) → (bits ≡ 0 → back ≡ word) → (back ≡ word → bits ≡ 0) → (bits ≡? 0) ≡ (back ≡? word)
  same_test back bits there here =
      by_test (bits ≡? 0)
      (λ h. h ∙ sym (eq-eqb back word (there (eqb-true bits 0 h))))
      (λ h. h ∙ sym (ne_eqb back word (λ e. eqb-false bits 0 h (here e))))

  module _ (z : Bool) where
    pub exact_note : kind_in word ≡ 1 → z ≡ (word % 4 ≡? 0) → z ≡ (event_word (event_in word) ≡? word)
    unfolding event_word word_of
    exact_note k e =
        let low : word / 0x20000 ≡ word / 4 / 0x8000 = omega arith in
        let high : word / 0x2000000 ≡ word / 0x20000 / 256 = omega arith in
        let top : word / 0x8000000 ≡ word / 0x2000000 / 4 = omega arith in
        rw (in_note k)
        (e ∙ same_test (packed 1 (channel_in word) (value_in word) (gate_in word)) (word % 4) (λ h. omega arith) (λ h. omega arith))

    pub exact_wave : kind_in word ≡ 2 → z ≡ (word % 4 ≡? 0) → z ≡ (event_word (event_in word) ≡? word)
    unfolding event_word word_of
    exact_wave k e =
        let low : word / 0x20000 ≡ word / 4 / 0x8000 = omega arith in
        let high : word / 0x2000000 ≡ word / 0x20000 / 256 = omega arith in
        let top : word / 0x8000000 ≡ word / 0x2000000 / 4 = omega arith in
        rw (in_wave k)
        (e ∙ same_test (packed 2 (channel_in word) (value_in word) (gate_in word)) (word % 4) (λ h. omega arith) (λ h. omega arith))

    pub exact_exclusive : kind_in word ≡ 14 → z ≡ (word % 8 ≡? 0) → z ≡ (event_word (event_in word) ≡? word)
    unfolding event_word word_of
    exact_exclusive k e = rw (in_exclusive k) (e ∙ same_test (packed_exclusive (place_in word) (size_in word)) (word % 8) (λ h. omega arith) (λ h. omega arith))

    module _ (note : kind_in word ≡ 1 → ⊥) (wave : kind_in word ≡ 2 → ⊥) where
      pub exact_none : kind_in word < 3 → z ≡ false → z ≡ (event_word (event_in word) ≡? word)
      unfolding event_word
      exact_none low e = rw (in_nothing (inl low) note wave) (e ∙ sym (ne_eqb (packed 15 0 0 0) word (λ e. omega arith)))

      pub exact_nop : 3 ≤ kind_in word → (kind_in word ≡ 14 → ⊥) → 13 < kind_in word → z ≡ (word ≡? 0x78000000) → z ≡ (event_word (event_in word) ≡? word)
      unfolding event_word
      exact_nop from exclusive high e =
          let past : 14 < kind_in word = omega arith in
          rw (in_nothing (inr past) note wave)
          (e ∙ by_test (word ≡? 0x78000000) (λ h. h ∙ sym (eq-eqb (packed 15 0 0 0) word (sym (eqb-true word _ h))))
          (λ h. h ∙ sym (ne_eqb (packed 15 0 0 0) word (λ q. eqb-false word _ h (sym q)))))

    pub exact_control : 3 ≤ kind_in word → kind_in word ≤ 13 → z ≡ (word % 0x20000 ≡? 0) → z ≡ (event_word (event_in word) ≡? word)
    unfolding event_word word_of
    exact_control from to e =
        rw (in_control from to)
        (e ∙ same_test (packed (kind_in word) (channel_in word) (value_in word) 0) (word % 0x20000) (λ h. omega arith) (λ h. omega arith))

pub ruleset exact = (exact_note, exact_wave, exact_exclusive, exact_none, exact_nop, exact_control)

-- the kinds of a voice, test by test
module _ (voice : Voice) (kind : ℕ) where
  module _ (is : voice ≡ Score) where
    pub score_none : kind < 1 → false ≡ is_kind voice kind
    unfolding is_kind ◌and◌
    score_none h = rw is (simp lt-leb)

    pub score_wave : kind ≡ 2 → false ≡ is_kind voice kind
    unfolding is_kind ◌and◌
    score_wave h = rw (is, h) refl

    pub score_kind : (z : Bool) → 1 ≤ kind → (kind ≡ 2 → ⊥) → z ≡ (kind ≤? 16) → z ≡ is_kind voice kind
    unfolding is_kind ◌and◌
    score_kind z h k e = rw is (simp (le-leb, ne_eqb) e)

  module _ (is : voice ≡ Pcm) where
    pub pcm_wave : kind ≡ 2 → true ≡ is_kind voice kind
    unfolding is_kind ◌and◌ ◌or◌
    pcm_wave h = rw (is, h) refl

    module _ (other : kind ≡ 2 → ⊥) where
      pub pcm_none : kind < 7 → false ≡ is_kind voice kind
      unfolding is_kind ◌and◌ ◌or◌
      pcm_none h = rw is (simp (ne_eqb, lt-leb))

      pub pcm_short : 7 ≤ kind → kind ≡ 11 → false ≡ is_kind voice kind
      unfolding is_kind ◌and◌ ◌or◌
      pcm_short h k = rw (is, k) refl

      pub pcm_kind : (z : Bool) → 7 ≤ kind → (kind ≡ 11 → ⊥) → z ≡ (kind ≤? 16) → z ≡ is_kind voice kind
      unfolding is_kind ◌and◌ ◌or◌
      pcm_kind z h k e = rw is (simp (le-leb, ne_eqb) e)

pub ruleset kinds = (score_none, score_wave, score_kind, pcm_wave, pcm_none, pcm_short, pcm_kind)
