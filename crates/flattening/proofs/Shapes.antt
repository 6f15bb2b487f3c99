-- WHAT A SHAPE TELLS: the bytes of a span's messages, wherever the span is played, and the time from the last of them to the span's end.
use Prim.Native.Nat.{ℕ, ◌+◌, ◌-◌, ◌≤◌}
use mathlib.Core.Bool.{true, false}
use mathlib.Core.List.{List, [], ◌∷◌, ◌++◌, map}
use mathlib.Core.Path.{◌≡◌, refl, sym, ◌∙◌, ap, subst}
use lib.Dec.{T}
use lib.ListN.{length, take, length-append}
use native.Mathlib.Nat.{add-zero, zero-add, sub-zero}
use native.Mathlib.Omega.{arith}
use Rattle.model.specs.Words.{when◌then◌else◌}
use Rattle.model.specs.Item.{Item, Item.timed}
use Rattle.model.specs.Play.{At}
use Rattle.model.specs.Plain.{bytes_of, left, waits}
use Rattle.model.specs.Content.{Content, content_of, content_bytes, handy_phone}
use Rattle.model.specs.declared.Event.{Event}
use Rattle.model.specs.declared.Outline.{Outline}
use Rattle.model.specs.declared.Span.{Span}
use Rattle.model.proofs.Tests.{by_test}
use Rattle.sections.specs.Spans.{Items, messages_after, items_from, counted, span_rows, Rising, SpanRises}
use Rattle.flattening.specs.Parts.{plain_part, last_step, told, part_bytes, part_last, gap_bytes, shape_of, span_shape, bytes_after_gap, span_bytes, silence, joined, shaped}
use Rattle.flattening.proofs.Joining.{first_after_gap, after_gap_length, first_length}

-- rows joined to an outline one after the other
unfoldable pub outlined : List ℕ → Outline → List (At Event) → Outline
outlined s outline [] = outline
outlined s outline (row ∷ rows) = outlined s (joined outline row.step (length (content_bytes (content_of s row.event)))) rows

abbrev heard_at : ℕ → ℕ → ℕ → Outline
heard_at lead last bytes = record { heard = true; lead = lead; bytes = bytes; last = last }

module _ (s : List ℕ) where
  -- after a message, a gap and a message for each row
  heard_outlined : (lead bytes last : ℕ) (rows : List (At Event))
      → outlined s (heard_at lead last bytes) rows
      ≡ heard_at lead (last_step last (told s rows)) (bytes + length (bytes_of handy_phone (plain_part last (told s rows))))
  unfolding outlined joined told last_step plain_part bytes_of when◌then◌else◌
  heard_outlined lead bytes last [] = ap (heard_at lead last) (sym (add-zero bytes))
  heard_outlined lead bytes last (row ∷ rows) =
      let size = length (content_bytes (content_of s row.event)) in
      let gap = length (gap_bytes (row.step - last)) in
      let more = length (bytes_of handy_phone (plain_part row.step (told s rows))) in
      let here : At Content = record { step = row.step; event = content_of s row.event } in
      let whole : bytes + (gap + size) + more ≡ bytes + length (bytes_of handy_phone (plain_part last (here ∷ told s rows))) =
      omega (arith, first_length last here (told s rows)) in
      heard_outlined lead (bytes + (gap + size)) row.step rows ∙ ap (heard_at lead (last_step row.step (told s rows))) whole

  pub outline_shapes : (lasts : ℕ) (rows : List (At Event)) → shaped lasts (outlined s silence rows) ≡ shape_of lasts (told s rows)
  unfolding outlined joined told shaped shape_of when◌then◌else◌
  outline_shapes lasts [] = ap (λ (n : ℕ). record { heard = false; lead = 0; bytes = 0; tail = n }) (sub-zero lasts)
  outline_shapes lasts (row ∷ rows) =
      ap (shaped lasts) (heard_outlined row.step (length (content_bytes (content_of s row.event))) row.step rows)

-- where so much has been played before, all steps are later by it and no gap changes
module _ (s : List ℕ) (before start : ℕ) where
  abbrev rows_at : ℕ → List (At Event) → List (At Event)
  rows_at from messages = map (counted from start) messages

  later_part : (past : ℕ) (messages : List (At Event))
      → plain_part (before + past) (told s (rows_at before messages)) ≡ plain_part past (told s (rows_at 0 messages))
  unfolding plain_part told
  later_part past [] = refl
  later_part past (at ∷ messages) =
      let step = at.step - start in
      let what = content_of s at.event in
      let gap : before + step - (before + past) ≡ 0 + step - past = omega arith in
      ap (λ (n : ℕ). waits handy_phone n ++ (timed (left 16511 n) what ∷ plain_part (before + step) (told s (rows_at before messages)))) gap
      ∙ ap (λ (items : List (Item Content)). waits handy_phone (0 + step - past) ++ (timed (left 16511 (0 + step - past)) what ∷ items))
      (later_part step messages ∙ ap (λ (n : ℕ). plain_part n (told s (rows_at 0 messages))) (sym (zero-add step)))

  later_last : (past : ℕ) (messages : List (At Event))
      → last_step (before + past) (told s (rows_at before messages)) ≡ before + last_step past (told s (rows_at 0 messages))
  unfolding last_step told
  later_last past [] = refl
  later_last past (at ∷ messages) =
      let step = at.step - start in
      later_last step messages ∙ ap (λ (n : ℕ). before + last_step n (told s (rows_at 0 messages))) (sym (zero-add step))

  -- what the shape of the rows with nothing before tells of the rows
  module _ (lasts past : ℕ) where
    messages_bytes : (messages : List (At Event)) → (shape_of lasts (told s (rows_at 0 messages))).heard ≡ true
        → part_bytes s past (rows_at before messages)
        ≡ gap_bytes (before + (shape_of lasts (told s (rows_at 0 messages))).lead - past) ++ bytes_after_gap (told s (rows_at 0 messages))
    unfolding shape_of told part_bytes bytes_after_gap
    messages_bytes [] h = absurd (subst T (sym h) tt)
    messages_bytes (at ∷ messages) h =
        let step = at.step - start in
        let what = content_of s at.event in
        let others = plain_part (0 + step) (told s (rows_at 0 messages)) in
        let same = later_part step messages ∙ ap (λ (n : ℕ). plain_part n (told s (rows_at 0 messages))) (sym (zero-add step)) in
        first_after_gap past (record { step = before + step; event = what }) (told s (rows_at before messages))
        ∙ ap (λ (items : List (Item Content)). gap_bytes (before + step - past) ++ (content_bytes what ++ bytes_of handy_phone items)) same
        ∙ ap (λ (n : ℕ). gap_bytes (before + n - past) ++ (content_bytes what ++ bytes_of handy_phone others)) (sym (zero-add step))

    messages_tail : (messages : List (At Event)) → (shape_of lasts (told s (rows_at 0 messages))).heard ≡ true
        → before + lasts - part_last s past (rows_at before messages) ≡ (shape_of lasts (told s (rows_at 0 messages))).tail
    unfolding shape_of told part_last last_step
    messages_tail [] h = absurd (subst T (sym h) tt)
    messages_tail (at ∷ messages) h =
        let step = at.step - start in
        let last = later_last step messages ∙ ap (λ (n : ℕ). before + last_step n (told s (rows_at 0 messages))) (sym (zero-add step)) in
        omega (arith, last)

    messages_silent : (messages : List (At Event)) → (shape_of lasts (told s (rows_at 0 messages))).heard ≡ false → rows_at before messages ≡ []
    unfolding shape_of told
    messages_silent [] h = refl
    messages_silent (at ∷ messages) h = absurd (subst T h tt)

-- the bytes after the gap to the first message are as many as the shape says
after_gap_counted : (lasts : ℕ) (messages : List (At Content)) → length (bytes_after_gap messages) ≡ (shape_of lasts messages).bytes
unfolding bytes_after_gap shape_of
after_gap_counted lasts [] = refl
after_gap_counted lasts (first ∷ others) = after_gap_length first others

pub span_counted : (s : List ℕ) (items : Items) (span : Span) → length (span_bytes s items span) ≡ (span_shape s items span).bytes
unfolding span_bytes span_shape
span_counted s items span = after_gap_counted span.lasts (told s (span_rows items span 0))

module _ (s : List ℕ) (items : Items) (span : Span) (before past : ℕ) where
  abbrev messages : List (At Event)
  messages = take span.messages (messages_after span.past (items_from span.first items))

  module _ (heard : (span_shape s items span).heard ≡ true) where
    -- THE BYTES of a span's messages: the gap before the first, and those that are the same wherever the span is played
    pub span_bytes_lem : part_bytes s past (span_rows items span before) ≡ gap_bytes (before + (span_shape s items span).lead - past) ++ span_bytes s items span
    unfolding span_shape span_bytes span_rows
    span_bytes_lem = messages_bytes s before span.start span.lasts past messages heard

    -- how many they are
    pub span_size : length (part_bytes s past (span_rows items span before))
        ≡ length (gap_bytes (before + (span_shape s items span).lead - past)) + (span_shape s items span).bytes
    span_size =
        let gap = before + (span_shape s items span).lead - past in
        ap length span_bytes_lem ∙ omega (arith, length-append (gap_bytes gap) (span_bytes s items span), span_counted s items span)

    -- from the last message to the end of the span
    pub span_tail : before + span.lasts - part_last s past (span_rows items span before) ≡ (span_shape s items span).tail
    unfolding span_shape span_rows
    span_tail = messages_tail s before span.start span.lasts past messages heard

  -- a span without a message
  pub span_silent : (span_shape s items span).heard ≡ false → span_rows items span before ≡ []
  unfolding span_shape span_rows
  span_silent h = messages_silent s before span.start span.lasts past messages h

none_written : (s : List ℕ) (items : Items) (span : Span) (before past : ℕ) → (span_shape s items span).heard ≡ false
    → part_bytes s past (span_rows items span before) ≡ span_bytes s items span
unfolding part_bytes span_bytes told plain_part bytes_of bytes_after_gap
none_written s items span before past h = rw (span_silent s items span before past h, span_silent s items span 0 past h) refl

-- what is written of a span ends with those bytes, whether it is heard or silent
pub span_ends : (s : List ℕ) (items : Items) (span : Span) (before past : ℕ)
    → (front : List ℕ) × (part_bytes s past (span_rows items span before) ≡ front ++ span_bytes s items span)
span_ends s items span before past =
    by_test (span_shape s items span).heard (λ h. (gap_bytes _, span_bytes_lem s items span before past h)) (λ h. ([], none_written s items span before past h))

-- what a shape says lies within its span
lead_within : (s : List ℕ) (lasts : ℕ) (rows : List (At Event)) → Rising 0 lasts rows → (shape_of lasts (told s rows)).lead ≤ lasts
unfolding shape_of told
lead_within s lasts [] rising = omega arith
lead_within s lasts (row ∷ rows) rising = later row.step rows rising.1
  where
    later : (low : ℕ) (others : List (At Event)) → Rising low lasts others → low ≤ lasts
    later low [] r = r
    later low (other ∷ others) r = let h = later other.step others r.1 in omega arith

tail_within : (s : List ℕ) (lasts : ℕ) (rows : List (At Event)) → (shape_of lasts (told s rows)).tail ≤ lasts
unfolding shape_of told
tail_within s lasts [] = omega arith
tail_within s lasts (row ∷ rows) = omega arith

module _ (s : List ℕ) (items : Items) (span : Span) where
  pub span_lead_within : SpanRises items span → (span_shape s items span).lead ≤ span.lasts
  unfolding span_shape
  span_lead_within rises =
      let rows = span_rows items span 0 in
      lead_within s span.lasts rows (subst (λ (n : ℕ). Rising 0 n rows) (zero-add span.lasts) (rises 0))

  pub span_tail_within : (span_shape s items span).tail ≤ span.lasts
  unfolding span_shape
  span_tail_within = tail_within s span.lasts (span_rows items span 0)

-- the last of steps that never fall is at most their end
pub last_within : (s : List ℕ) (past low high : ℕ) (rows : List (At Event)) → past ≤ low → Rising low high rows → part_last s past rows ≤ high
unfolding part_last last_step told
last_within s past low high [] early rising = omega (arith, rising)
last_within s past low high (row ∷ rows) early rising = last_within s row.step row.step high rows (omega arith) rising.1
