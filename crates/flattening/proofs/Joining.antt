-- A plain form in parts: the parts one after the other are the whole, and a part's bytes are known from its shape.
use Prim.Native.Nat.{ℕ, ◌+◌, ◌-◌}
use mathlib.Core.List.{List, [], ◌∷◌, ◌++◌, append_assoc}
use mathlib.Core.Path.{◌≡◌, refl, sym, ◌∙◌, ap}
use lib.ListN.{length, length-append}
use native.Mathlib.Omega.{arith}
use Rattle.model.specs.Item.{Item, Item.timed}
use Rattle.model.specs.Play.{At}
use Rattle.model.specs.Plain.{item_bytes, bytes_of, left, waits, plain_after}
use Rattle.model.specs.Duration.{duration_bytes}
use Rattle.model.specs.Content.{Content, content_of, content_bytes, handy_phone}
use Rattle.model.specs.Writing.{timed_bytes}
use Rattle.model.specs.declared.Event.{Event}
use Rattle.plain.proofs.PlainItems.{bytes_append}
use Rattle.flattening.specs.Parts.{plain_part, last_step, told, part_bytes, message_bytes, gap_bytes, bytes_after_gap}

-- THE PARTS MAKE THE WHOLE: the messages of a part, then those after it
pub plain_append : (past : ℕ) (one two : List (At Content)) (end : ℕ)
    → plain_after handy_phone past (one ++ two) end ≡ plain_part past one ++ plain_after handy_phone (last_step past one) two end
unfolding plain_after plain_part last_step
plain_append past [] two end = refl
plain_append past (at ∷ one) two end =
    let gap = at.step - past in
    let here : Item Content = timed (left 16511 gap) at.event in
    ap (λ (items : List (Item Content)). waits handy_phone gap ++ (here ∷ items)) (plain_append at.step one two end)
    ∙ sym (append_assoc (waits handy_phone gap) (here ∷ plain_part at.step one) (plain_after handy_phone (last_step at.step one) two end))

pub plain_bytes : (past : ℕ) (one two : List (At Content)) (end : ℕ)
    → bytes_of handy_phone (plain_after handy_phone past (one ++ two) end)
    ≡ bytes_of handy_phone (plain_part past one) ++ bytes_of handy_phone (plain_after handy_phone (last_step past one) two end)
plain_bytes past one two end =
    ap (bytes_of handy_phone) (plain_append past one two end)
    ∙ bytes_append Content handy_phone (plain_part past one) (plain_after handy_phone (last_step past one) two end)

-- the first message of a part, and those after it
first_bytes : (past : ℕ) (at : At Content) (messages : List (At Content))
    → bytes_of handy_phone (plain_part past (at ∷ messages))
    ≡ (bytes_of handy_phone (waits handy_phone (at.step - past)) ++ (duration_bytes (left 16511 (at.step - past)) ++ content_bytes at.event))
    ++ bytes_of handy_phone (plain_part at.step messages)
unfolding plain_part bytes_of item_bytes
first_bytes past at messages =
    let gap = at.step - past in
    let here : Item Content = timed (left 16511 gap) at.event in
    bytes_append Content handy_phone (waits handy_phone gap) (here ∷ plain_part at.step messages)
    ∙ sym (append_assoc (bytes_of handy_phone (waits handy_phone gap)) (duration_bytes (left 16511 gap) ++ content_bytes at.event)
    (bytes_of handy_phone (plain_part at.step messages)))

pub part_first : (body : List ℕ) (past step : ℕ) (event : Event) (rows : List (At Event))
    → part_bytes body past (record { step = step; event = event } ∷ rows) ≡ message_bytes body (step - past) event ++ part_bytes body step rows
unfolding part_bytes told message_bytes timed_bytes item_bytes
part_first body past step event rows = first_bytes past (record { step = step; event = content_of body event }) (told body rows)

-- the gap to the first message of a part, and what is written after it
pub first_after_gap : (past : ℕ) (at : At Content) (messages : List (At Content))
    → bytes_of handy_phone (plain_part past (at ∷ messages)) ≡ gap_bytes (at.step - past) ++ bytes_after_gap (at ∷ messages)
unfolding gap_bytes bytes_after_gap
first_after_gap past at messages =
    let gap = bytes_of handy_phone (waits handy_phone (at.step - past)) in
    let duration = duration_bytes (left 16511 (at.step - past)) in
    let content = content_bytes at.event in
    let rest = bytes_of handy_phone (plain_part at.step messages) in
    first_bytes past at messages
    ∙ ap (λ (bytes : List ℕ). bytes ++ rest) (sym (append_assoc gap duration content))
    ∙ append_assoc (gap ++ duration) content rest

pub after_gap_length : (at : At Content) (messages : List (At Content))
    → length (bytes_after_gap (at ∷ messages)) ≡ length (content_bytes at.event) + length (bytes_of handy_phone (plain_part at.step messages))
unfolding bytes_after_gap
after_gap_length at messages = length-append (content_bytes at.event) (bytes_of handy_phone (plain_part at.step messages))

pub first_length : (past : ℕ) (at : At Content) (messages : List (At Content))
    → length (bytes_of handy_phone (plain_part past (at ∷ messages)))
    ≡ length (gap_bytes (at.step - past)) + (length (content_bytes at.event) + length (bytes_of handy_phone (plain_part at.step messages)))
first_length past at messages =
    ap length (first_after_gap past at messages)
    ∙ omega (arith, length-append (gap_bytes (at.step - past)) (bytes_after_gap (at ∷ messages)), after_gap_length at messages)
