-- The lines of rows, one after the other: what is still to be written makes the whole. And a listing in its parts.
use Prim.Native.Nat.{ℕ, suc, ◌+◌, ◌-◌, ◌*◌, ◌<◌, ◌≤◌}
use mathlib.Core.List.{List, [], ◌∷◌, ◌++◌, append_assoc}
use mathlib.Core.Path.{◌≡◌, refl, sym, ◌∙◌, ap, ap₂}
use mir.Val.{Fits}
use mir.Syntax.{w64}
use lib.ListN.{length, drop, length-append}
use lib.Seq.{sets, drop-cons}
use native.Mathlib.Nat.{mul-le-mul_left, sub-zero}
use native.Mathlib.Omega.{arith}
use Rattle.model.specs.Bytes.{◌!◌}
use Rattle.model.specs.Writing.{event_in}
use Rattle.model.specs.Listing.{Line, shifts_after, line_of, lines_of}
use Rattle.model.specs.ListingText.{bytes, decimal, fields, line_text, lines_text, listing_text}
use Rattle.std.specs.Prelude.{Err}
use Rattle.model.specs.declared.Refusal.{Refusal}
use Rattle.model.specs.declared.Event.{Event}
use Rattle.lines.specs.declared.line.Printed.{Printed}
use Rattle.lines.specs.Fields.{closed, said, messages_in, rows_text, pair_text, tune_text, Early}
use Rattle.lines.proofs.Numbers.{joined_next, joined_written}

-- MILLISECONDS that fit
pub milliseconds_fit : (step milliseconds : ℕ) → step ≤ 368934881474191032 → milliseconds ≤ 50 → Fits w64 (step * milliseconds)
milliseconds_fit step milliseconds early low =
    let most : step * milliseconds ≤ step * 50 = mul-le-mul_left step low in
    record { fits = omega arith }

-- WHAT IS LEFT to be written, of so many rows from the heads of two tables on
abbrev text_of : ℕ → List ℕ → ℕ → List ℕ → List ℕ → List ℕ
text_of base shifts count steps words = lines_text (lines_of base shifts (messages_in count steps words))

first_line : (base : ℕ) (shifts : List ℕ) (count step word : ℕ) (steps words : List ℕ)
    → text_of base shifts (suc count) (step ∷ steps) (word ∷ words)
    ≡ line_text (line_of shifts step (step * base) (event_in word)) ++ text_of base (shifts_after shifts (event_in word)) count steps words
unfolding lines_text lines_of messages_in
first_line base shifts count step word steps words = refl

no_lines : (base : ℕ) (shifts : List ℕ) (count : ℕ) (steps words : List ℕ) → count ≡ 0 → text_of base shifts count steps words ≡ []
unfolding lines_text lines_of messages_in
no_lines base shifts count steps words e = rw e

pub record Rowing (l : List ℕ) (at : ℕ) (steps words : List ℕ) (count base : ℕ) (out shifts : List ℕ) (place i : ℕ) : Type 0 where
  pub within : i ≤ count
  pub same : length out ≡ length l
  pub near : place ≤ at + 118 * i
  pub size : place + length (text_of base shifts (count - i) (drop i steps) (drop i words)) ≡ at + length (rows_text base count steps words)
  pub whole : sets out place (text_of base shifts (count - i) (drop i steps) (drop i words)) ≡ sets l at (rows_text base count steps words)

module _ (l : List ℕ) (at : ℕ) (steps words : List ℕ) (count base : ℕ) where
  pub rows_start : Rowing l at steps words count base l (0 ∷ 0 ∷ 0 ∷ 0 ∷ []) at 0
  unfolding rows_text
  rows_start =
      let all = sub-zero count in
      record {
        within = omega arith;
        same = refl;
        near = omega arith;
        size = ap (λ (n : ℕ). at + length (text_of base (0 ∷ 0 ∷ 0 ∷ 0 ∷ []) n steps words)) all;
        whole = ap (λ (n : ℕ). sets l at (text_of base (0 ∷ 0 ∷ 0 ∷ 0 ∷ []) n steps words)) all;
      }

  module _ (out shifts : List ℕ) (place i : ℕ) (r : Rowing l at steps words count base out shifts place i) where
    pub rows_room : at + 118 * count ≤ length l → i < count → place + 118 ≤ length out
    rows_room room h = omega (arith, r.near, r.same)

    pub rows_done : count ≤ i → place ≡ at + length (rows_text base count steps words)
    rows_done past =
        let none_left = no_lines base shifts (count - i) (drop i steps) (drop i words) (omega arith) in
        omega (arith, r.size, ap length none_left)

    pub rows_ended : count ≤ i → place ≤ at + 118 * count
    rows_ended past = omega (arith, r.near, r.within)

    pub rows_written : count ≤ i → out ≡ sets l at (rows_text base count steps words)
    rows_written past =
        let none_left = no_lines base shifts (count - i) (drop i steps) (drop i words) (omega arith) in
        ap (sets out place) (sym none_left) ∙ r.whole

    pub rows_kept : length out ≡ length l
    rows_kept = r.same

    module _ (h : i < count) where
      pub rows_step : count ≤ length steps → i < length steps
      rows_step few = omega arith

      pub rows_early : Early count steps → steps ! i ≤ 368934881474191032
      rows_early early = early i h

      module _ (few : count ≤ length steps) (many : count ≤ length words) where
        abbrev line : Line
        line = line_of shifts (steps ! i) (steps ! i * base) (event_in (words ! i))

        abbrev later : List ℕ
        later = text_of base (shifts_after shifts (event_in (words ! i))) (count - (i + 1)) (drop (i + 1) steps) (drop (i + 1) words)

        ahead : text_of base shifts (count - i) (drop i steps) (drop i words) ≡ line_text line ++ later
        ahead =
            let left : count - i ≡ suc (count - (i + 1)) = omega arith in
            let next : suc i ≡ i + 1 = omega arith in
            ap₂ (λ (n : ℕ) (s : List ℕ). text_of base shifts n s (drop i words)) left (drop-cons steps i 0 (omega arith))
            ∙ ap (λ (w : List ℕ). text_of base shifts (suc (count - (i + 1))) (steps ! i ∷ drop (suc i) steps) w) (drop-cons words i 0 (omega arith))
            ∙ first_line base shifts (count - (i + 1)) (steps ! i) (words ! i) (drop (suc i) steps) (drop (suc i) words)
            ∙ ap (λ (n : ℕ). line_text line ++ text_of base (shifts_after shifts (event_in (words ! i))) (count - (i + 1)) (drop n steps) (drop n words)) next

        module _ (event : Event) (ms : ℕ) (printed : Printed) (is : event ≡ event_in (words ! i)) (times : ms ≡ steps ! i * base)
            (prints : said printed ≡ line_of shifts (steps ! i) ms event) where
          line_is : said printed ≡ line
          line_is = prints ∙ ap₂ (λ (n : ℕ) (e : Event). line_of shifts (steps ! i) n e) times is

          pub rows_next : (m shifts' : List ℕ) (next : ℕ) → next ≡ place + length (line_text (said printed)) → next ≤ place + 118
              → m ≡ sets out place (line_text (said printed)) → length m ≡ length out → shifts' ≡ shifts_after shifts event
              → Rowing l at steps words count base m shifts' next (i + 1)
          rows_next m shifts' next after near written kept shifted =
              let there : next ≡ place + length (line_text line) = after ∙ ap (λ (x : Line). place + length (line_text x)) line_is in
              let now : shifts' ≡ shifts_after shifts (event_in (words ! i)) = shifted ∙ ap (shifts_after shifts) is in
              let both = ap length ahead in
              record {
                within = omega arith;
                same = kept ∙ r.same;
                near = omega (arith, r.near);
                size = rw now (omega (arith, r.size, both, length-append (line_text line) later));
                whole = rw now
                    (joined_written (line_text line) later place next there out m _ (written ∙ ap (λ (x : Line). sets out place (line_text x)) line_is) refl
                    ∙ ap (sets out place) (sym ahead) ∙ r.whole);
              }

pub ruleset rowing = (rows_start, rows_room, rows_kept, rows_step, rows_early, rows_next, rows_done, rows_ended, rows_written)

-- A PAIR on its line
module _ (word : List ℕ) (first second at middle last : ℕ) (p : middle ≡ at + length word) (q : last ≡ middle + length (closed (decimal first) 0x20)) where
  abbrev front : List ℕ
  front = word ++ closed (decimal first) 0x20

  there : last ≡ at + length front
  there = joined_next word (closed (decimal first) 0x20) at middle p last q

  pub pair_next : (r : ℕ) → r ≡ last + length (closed (decimal second) 0x0A) → r ≡ at + length (pair_text word first second)
  unfolding pair_text
  pair_next r e = joined_next front (closed (decimal second) 0x0A) at last there r e

  pub pair_written : (l one two m : List ℕ) → one ≡ sets l at word → two ≡ sets one middle (closed (decimal first) 0x20)
      → m ≡ sets two last (closed (decimal second) 0x0A) → m ≡ sets l at (pair_text word first second)
  unfolding pair_text
  pair_written l one two m e f g =
      joined_written front (closed (decimal second) 0x0A) at last there l two m (joined_written word (closed (decimal first) 0x20) at middle p l one two e f) g

pub ruleset pairs = (pair_next, pair_written)

pub pair_fields : (word : List ℕ) (first second : ℕ) → fields (word ∷ decimal first ∷ decimal second ∷ []) ≡ pair_text (word ++ (0x20 ∷ [])) first second
unfolding fields pair_text closed
pair_fields word first second = sym (simp append_assoc)

-- A REFUSAL
refusal_text : (why : Refusal) → pair_text (bytes "refused ") why.number why.place ≡ listing_text (Err why)
unfolding listing_text bytes
refusal_text why = sym (pair_fields (bytes "refused") why.number why.place)

module _ (why : Refusal) where
  pub refusal_next : (r : ℕ) → r ≡ 0 + length (pair_text (0x72 ∷ 0x65 ∷ 0x66 ∷ 0x75 ∷ 0x73 ∷ 0x65 ∷ 0x64 ∷ 0x20 ∷ []) why.number why.place)
      → r ≡ length (listing_text (Err why))
  unfolding bytes
  refusal_next r e = omega (arith, e, ap length (refusal_text why))

  pub refusal_written : (l m : List ℕ) → m ≡ sets l 0 (pair_text (0x72 ∷ 0x65 ∷ 0x66 ∷ 0x75 ∷ 0x73 ∷ 0x65 ∷ 0x64 ∷ 0x20 ∷ []) why.number why.place)
      → m ≡ sets l 0 (listing_text (Err why))
  unfolding bytes
  refusal_written l m e = e ∙ ap (sets l 0) (refusal_text why)

pub ruleset refusals = (refusal_next, refusal_written)

-- A LISTING, from its head line to its end
abbrev head_line : List ℕ
head_line =
    0x73 ∷ 0x74 ∷ 0x65 ∷ 0x70 ∷ 0x20 ∷ 0x6D ∷ 0x73 ∷ 0x20 ∷ 0x63 ∷ 0x68 ∷ 0x20 ∷ 0x6B ∷ 0x69 ∷ 0x6E ∷ 0x64 ∷ 0x20
    ∷ 0x76 ∷ 0x61 ∷ 0x6C ∷ 0x75 ∷ 0x65 ∷ 0x20 ∷ 0x67 ∷ 0x61 ∷ 0x74 ∷ 0x65 ∷ 0x0A ∷ []

abbrev end_word : List ℕ
end_word = 0x65 ∷ 0x6E ∷ 0x64 ∷ 0x20 ∷ []

module _ (base count : ℕ) (steps words : List ℕ) (end ms first last : ℕ) (times : ms ≡ end * base) (p : first ≡ 0 + 27)
    (q : last ≡ first + length (rows_text base count steps words)) where
  abbrev rows : List ℕ
  rows = rows_text base count steps words

  parts : head_line ++ rows ++ pair_text end_word end ms ≡ tune_text base count steps words end
  unfolding tune_text bytes
  parts = ap (λ (n : ℕ). head_line ++ rows ++ pair_text end_word end n) times

  middle : last ≡ 0 + length (head_line ++ rows)
  middle = joined_next head_line rows 0 first p last q

  pub listing_next : (r : ℕ) → r ≡ last + length (pair_text (0x65 ∷ 0x6E ∷ 0x64 ∷ 0x20 ∷ []) end ms) → r ≡ length (tune_text base count steps words end)
  listing_next r e =
      let all = joined_next (head_line ++ rows) (pair_text end_word end ms) 0 last middle r e in
      omega (arith, ap length parts)

  pub listing_written : (l one two m : List ℕ)
      → one ≡ sets l 0 (0x73 ∷ 0x74 ∷ 0x65 ∷ 0x70 ∷ 0x20 ∷ 0x6D ∷ 0x73 ∷ 0x20 ∷ 0x63 ∷ 0x68 ∷ 0x20 ∷ 0x6B ∷ 0x69 ∷ 0x6E ∷ 0x64 ∷ 0x20
      ∷ 0x76 ∷ 0x61 ∷ 0x6C ∷ 0x75 ∷ 0x65 ∷ 0x20 ∷ 0x67 ∷ 0x61 ∷ 0x74 ∷ 0x65 ∷ 0x0A ∷ [])
      → two ≡ sets one first (rows_text base count steps words) → m ≡ sets two last (pair_text (0x65 ∷ 0x6E ∷ 0x64 ∷ 0x20 ∷ []) end ms)
      → m ≡ sets l 0 (tune_text base count steps words end)
  listing_written l one two m e f g =
      joined_written (head_line ++ rows) (pair_text end_word end ms) 0 last middle l two m (joined_written head_line rows 0 first p l one two e f) g
      ∙ ap (sets l 0) parts

pub ruleset listings = (listing_next, listing_written)
