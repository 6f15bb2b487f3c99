-- How long a tune can last: each section lasts no longer than all items of the body, and an order list has no more letters than a file has
-- bytes.
use Prim.Native.Nat.{ℕ, ◌*◌, ◌≤◌}
use mathlib.Core.Bool.{Bool, true, false}
use mathlib.Core.List.{List, [], ◌∷◌, map}
use Rattle.std.specs.Prelude.{Option, None, Some}
use mathlib.Core.Path.{◌≡◌, refl, subst}
use lib.ListN.{length, length-take, length-drop}
use native.Mathlib.Omega.{arith}
use Rattle.model.specs.Words.{when◌then◌else◌, ◌<?◌, through, sum, ◌otherwise◌, Placed}
use Rattle.model.specs.Item.{lasting}
use Rattle.model.specs.Play.{onsets_after, Section, lasts_in, stops_in, sections_played, all_played, tune_of}
use Rattle.model.specs.Points.{time_of}
use Rattle.model.specs.Seek.{Entry, Addresses, start_point, stop_point, phrase_of, order_list}
use Rattle.model.specs.Order.{between, stream_section, phrase_section, letters_played, phrase_order, order_of, play_order, tune_in}
use Rattle.model.specs.Track.{Track}
use Rattle.sections.specs.Spans.{Items}
use Rattle.model.proofs.Tests.{by_test}
use Rattle.sections.proofs.Marks.{lasts_within}
use Rattle.sections.proofs.Small.{kept_lasting}

-- the longest durations of all the bytes of a file
abbrev pub longest_body : ℕ
longest_body = 1082064896

-- no section would last longer than all items
abbrev EachShort : Items → List Section → Type 0
EachShort items [] = Unit
EachShort items (section ∷ sections) = (section.lasts ≤ lasting items) × EachShort items sections

-- what sections last together, those up to where playing stops
short_sum : (items : Items) → lasting items ≤ longest_body → (test : Section → Bool) (sections : List Section) → EachShort items sections
    → sum (map (lasts_in (onsets_after 0 items)) (through test sections)) ≤ 1082064896 * length sections
unfolding through sum when◌then◌else◌
short_sum items short test [] each = omega arith
short_sum items short test (section ∷ sections) each =
    let rest = short_sum items short test sections each.1 in
    let here = lasts_within section items each.0 in
    by_test (test section) (λ t. simp t (omega arith)) (λ t. simp t (omega arith))

module _ (items : Items) where
  stream_short : (start : ℕ) (stop : Option ℕ) → (stream_section items start stop).lasts ≤ lasting items
  unfolding stream_section between time_of
  stream_short start None = omega arith
  stream_short start (Some stop) = omega (arith, kept_lasting (λ item. item.place <? stop) items)

  phrase_short : (addresses : Option Addresses) → (phrase_section items addresses).lasts ≤ lasting items
  unfolding phrase_section between time_of
  phrase_short None = omega arith
  phrase_short (Some addresses) = omega (arith, kept_lasting (λ item. item.place <? addresses.to) items)

  letters_short : (entries : List (Placed Entry)) (letters : List ℕ) → EachShort items (map (λ letter. phrase_section items (phrase_of letter entries)) letters)
  letters_short entries [] = tt
  letters_short entries (letter ∷ letters) = (phrase_short (phrase_of letter entries), letters_short entries letters)

  map_length : (entries : List (Placed Entry)) (letters : List ℕ)
      → length (map (λ letter. phrase_section items (phrase_of letter entries)) letters) ≡ length letters
  map_length entries [] = refl
  map_length entries (letter ∷ letters) = let rest = map_length entries letters in omega arith

  played_few : (entries : List (Placed Entry)) (letters : List ℕ) → length (letters_played entries letters) ≤ length letters
  unfolding letters_played
  played_few entries letters = simp (length-take, length-drop) (omega arith)

  -- an order has no more sections than a file has bytes, and none of them would last longer than all items
  order_short : (phrases : Bool) (entries : List (Placed Entry)) (sections : List Section)
      → ((letters : List ℕ) → phrases ≡ true → order_list entries ≡ Some letters → length letters ≤ 65536)
      → order_of phrases items entries ≡ Some sections → EachShort items sections × (length sections ≤ 65536)
  unfolding order_of phrase_order
  order_short true entries sections few e = go (order_list entries) refl e
    where
      go : (order : Option (List ℕ)) → order_list entries ≡ order → phrase_order items entries order ≡ Some sections
          → EachShort items sections × (length sections ≤ 65536)
      go None is q = let z : ◌≡◌ {A = ℕ} 0 1 = cc in absurd (omega arith)
      go (Some letters) is q =
          let played = letters_played entries letters in
          let same : map (λ letter. phrase_section items (phrase_of letter entries)) played ≡ sections = cc in
          subst (λ (l : List Section). EachShort items l × (length l ≤ 65536)) same
          (letters_short entries played, omega (arith, map_length entries played, played_few entries letters, few letters refl is))
  order_short false entries sections few e =
      let same : stream_section items (start_point entries otherwise 0) (stop_point entries) ∷ [] ≡ sections = cc in
      subst (λ (l : List Section). EachShort items l × (length l ≤ 65536)) same
      ((stream_short (start_point entries otherwise 0) (stop_point entries), tt), omega arith)

pub tune_short : (track : Track) (sections : List Section) → play_order track ≡ Some sections → lasting track.items ≤ longest_body
    → ((letters : List ℕ) → track.phrases ≡ true → order_list track.entries ≡ Some letters → length letters ≤ 65536)
    → (tune_in track sections).end ≤ 70914205024256
unfolding play_order tune_in tune_of sections_played all_played
tune_short track sections e short few =
    let all = order_short track.items track.phrases track.entries sections few e in
    omega (arith, short_sum track.items short (stops_in (onsets_after 0 track.items)) sections all.0, all.1)
