-- The content of an event that can be written can be written: what is tested of an event is tested of its content. Its numbers are bytes
-- where the format has a byte.
use Prim.Native.Nat.{ℕ, ◌+◌, ◌-◌, ◌<◌, ◌≤◌}
use mathlib.Core.Bool.{true}
use mathlib.Core.List.{List}
use mathlib.Core.Path.{◌≡◌, ◌∙◌, ap}
use lib.ListN.{length, drop}
use lib.Seq.{get_or-take, get_or-drop}
use native.Mathlib.Omega.{arith}
use borrow.Author.Tests.{le-leb}
use Rattle.model.specs.Words.{◌and◌}
use Rattle.model.specs.Bytes.{◌!◌, part}
use Rattle.model.specs.Content.{Content.exclusive, content_of}
use Rattle.model.specs.Writing.{event_fits, content_fits}
use Rattle.model.specs.declared.Voice.{Voice}
use Rattle.model.specs.declared.Event.{Event}
use Rattle.model.specs.declared.Event.TheVariants.{Nop, Note, Wave, Control, Exclusive}
use Rattle.model.proofs.Parts.{part_length}
use Rattle.model.proofs.Tests.{both_true}
use Rattle.writing.proofs.Numbers.{is_exclusive}

pub exclusive_fits_lem : (voice : Voice) (s : List ℕ) (place size : ℕ) → 3 ≤ size → size ≤ 255 → place + 3 + size ≤ length s → s ! (place + 2 + size) ≡ 0xF7
    → content_fits voice (exclusive (part s (place + 3) size)) ≡ true
unfolding content_fits ◌and◌
exclusive_fits_lem voice s place size many few inside last =
    let sized = part_length s (place + 3) size inside in
    let there : place + 3 + (size - 1) ≡ place + 2 + size = omega arith in
    let below : size - 1 < size = omega arith in
    let closed : part s (place + 3) size ! (size - 1) ≡ 0xF7 =
    get_or-take size (drop (place + 3) s) (size - 1) 0 below ∙ get_or-drop (place + 3) s (size - 1) 0 ∙ ap (λ (n : ℕ). s ! n) there ∙ last in
    rw sized (simp (le-leb, closed))

-- an event as code holds it: its value or its size is a byte
abbrev pub HasBytes : Event → Type 0
HasBytes Nop = Unit
HasBytes (Note channel key gate) = Unit
HasBytes (Wave channel number gate) = Unit
HasBytes (Control kind channel value) = value < 256
HasBytes (Exclusive place size) = size < 256

pub content_fits_lem : (voice : Voice) (s : List ℕ) (event : Event) → HasBytes event → event_fits voice s event ≡ true → content_fits voice (content_of s event) ≡ true
unfolding event_fits content_of content_fits
content_fits_lem voice s Nop b h = h
content_fits_lem voice s (Note channel key gate) b h = h
content_fits_lem voice s (Wave channel number gate) b h = h
content_fits_lem voice s (Control kind channel value) b h = both_true _ _ h (le-leb value 255 (omega arith))
content_fits_lem voice s (Exclusive place size) b h =
    let n = is_exclusive s place size h in
    exclusive_fits_lem voice s place size n.enough (omega arith) n.inside n.closed
