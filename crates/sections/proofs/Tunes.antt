-- THE STEPS OF A TUNE never fall, and none is past its end, whatever the play order of the track.
use Prim.Native.Nat.{ℕ, ◌+◌}
use mathlib.Core.Bool.{Bool, true, false}
use mathlib.Core.List.{List, [], ◌∷◌, ◌++◌, map}
use Rattle.std.specs.Prelude.{Option, None, Some}
use mathlib.Core.Path.{◌≡◌, subst}
use native.Mathlib.Nat.{zero-add}
use native.Mathlib.Omega.{arith}
use Rattle.model.specs.Words.{when◌then◌else◌, ◌otherwise◌, through, sum, Placed}
use Rattle.model.specs.Play.{At, onsets_after, Section, sounding, lasts_in, stops_in, sections_played, played_from, all_played, tune_of}
use Rattle.model.specs.Word.{is_message}
use Rattle.model.specs.Seek.{Entry, Addresses, start_point, stop_point, phrase_of, order_list}
use Rattle.model.specs.Order.{stream_section, phrase_section, letters_played, phrase_order, order_of, play_order, tune_in}
use Rattle.model.specs.Track.{Track}
use Rattle.model.specs.declared.Event.{Event}
use Rattle.model.proofs.Tests.{by_test}
use Rattle.sections.specs.Spans.{Items, Rising}
use Rattle.sections.proofs.Steps.{rising_from, between_rises, stream_rises}

rising_append : (low middle high : ℕ) (rows more : List (At Event)) → Rising low middle rows → Rising middle high more → Rising low high (rows ++ more)
rising_append low middle high [] more h k = rising_from middle low high more h k
rising_append low middle high (row ∷ rows) more h k = (h.0, rising_append row.step middle high rows more h.1 k)

module _ (items : Items) where
  -- each section's steps rise, whatever has been played before
  abbrev pub Rises : Section → Type 0
  Rises section =
      (before : ℕ) → Rising before (before + lasts_in (onsets_after 0 items) section) (sounding is_message (onsets_after 0 items) before section)

  abbrev EachRises : List Section → Type 0
  EachRises [] = Unit
  EachRises (section ∷ sections) = Rises section × EachRises sections

  -- also of those up to where playing stops
  through_each : (test : Section → Bool) (sections : List Section) → EachRises sections → EachRises (through test sections)
  unfolding through when◌then◌else◌
  through_each test [] each = tt
  through_each test (section ∷ sections) each =
      by_test (test section) (λ t. simp t (each.0, tt)) (λ t. simp t (each.0, through_each test sections each.1))

  -- what sections last together
  abbrev together : List Section → ℕ
  together sections = sum (map (lasts_in (onsets_after 0 items)) sections)

  played_rises : (before : ℕ) (sections : List Section) → EachRises sections
      → Rising before (before + together sections) (played_from is_message (onsets_after 0 items) before sections)
  unfolding played_from sum
  played_rises before [] each = omega arith
  played_rises before (section ∷ sections) each =
      let lasts = lasts_in (onsets_after 0 items) section in
      let rest = played_rises (before + lasts) sections each.1 in
      let all : before + lasts + together sections ≡ before + (lasts + together sections) = omega arith in
      rising_append before (before + lasts) _
      (sounding is_message (onsets_after 0 items) before section) (played_from is_message (onsets_after 0 items) (before + lasts) sections)
      (each.0 before) (rw all at rest)

  pub stream_section_rises : (start : ℕ) (stop : Option ℕ) → Rises (stream_section items start stop)
  unfolding stream_section
  stream_section_rises start None before = stream_rises before start items
  stream_section_rises start (Some stop) before = between_rises before start stop items

  pub phrase_section_rises : (addresses : Option Addresses) → Rises (phrase_section items addresses)
  unfolding phrase_section
  phrase_section_rises None before = between_rises before 0 0 items
  phrase_section_rises (Some addresses) before = between_rises before addresses.from addresses.to items

  phrases_each : (entries : List (Placed Entry)) (letters : List ℕ) → EachRises (map (λ letter. phrase_section items (phrase_of letter entries)) letters)
  phrases_each entries [] = tt
  phrases_each entries (letter ∷ letters) = (phrase_section_rises (phrase_of letter entries), phrases_each entries letters)

  order_each : (phrases : Bool) (entries : List (Placed Entry)) (sections : List Section) → order_of phrases items entries ≡ Some sections → EachRises sections
  unfolding order_of phrase_order
  order_each true entries sections e = go (order_list entries) e
    where
      go : (order : Option (List ℕ)) → phrase_order items entries order ≡ Some sections → EachRises sections
      go None q = let z : ◌≡◌ {A = ℕ} 0 1 = cc in absurd (omega arith)
      go (Some letters) q =
          let same : map (λ letter. phrase_section items (phrase_of letter entries)) (letters_played entries letters) ≡ sections = cc in
          subst EachRises same (phrases_each entries (letters_played entries letters))
  order_each false entries sections e =
      let same : stream_section items (start_point entries otherwise 0) (stop_point entries) ∷ [] ≡ sections = cc in
      subst EachRises same (stream_section_rises (start_point entries otherwise 0) (stop_point entries), tt)

pub tune_rises : (track : Track) (sections : List Section) → play_order track ≡ Some sections
    → Rising 0 (tune_in track sections).end (tune_in track sections).messages
unfolding play_order tune_in tune_of sections_played all_played
tune_rises track sections e =
    let each = order_each track.items track.phrases track.entries sections e in
    rw zero-add at (played_rises track.items 0 (through (stops_in (onsets_after 0 track.items)) sections) (through_each track.items (stops_in (onsets_after 0 track.items)) sections each))
