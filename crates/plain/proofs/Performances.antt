-- Paper, "Playing": all that a readable track plays are messages of its body, so that its tune can be written.
use Prim.Native.Nat.{ℕ}
use mathlib.Core.Bool.{true}
use mathlib.Core.List.{List, [], ◌∷◌, map}
use Rattle.std.specs.Prelude.{Some}
use mathlib.Core.Path.{◌≡◌, ◌∙◌}
use Rattle.model.specs.Words.{◌≤?◌}
use Rattle.model.specs.Item.{Item, Item.timed, Item.end_mark}
use Rattle.model.specs.Play.{At, Section, retold}
use Rattle.model.specs.Track.{Track}
use Rattle.model.specs.Order.{play_order, tune_in}
use Rattle.model.specs.Content.{content_of, content_in, contents_in, is_said}
use Rattle.model.specs.Writing.{content_fits, item_fits}
use Rattle.model.specs.declared.Voice.{Voice}
use Rattle.model.specs.declared.Event.{Event}
use Rattle.model.proofs.Tests.{and_right}
use Rattle.inverse.proofs.Sequence.{AllFit}
use Rattle.inverse.proofs.ReadWrites.{body_fits}
use Rattle.sections.specs.Spans.{Items, Rising}
use Rattle.sections.proofs.Throughout.{OfItem, OfItems, OfMessages, of_tune}
use Rattle.sections.proofs.Tunes.{tune_rises}
use Rattle.plain.proofs.PlainPlays.{Rises, AllSaid}
use Rattle.plain.proofs.PlainItems.{Writable}
use Rattle.plain.proofs.Streams.{said_so, told}
use Rattle.plain.proofs.PlainReads.{WritableTune}
use Rattle.plain.proofs.NamedTracks.{Readable}

module _ (voice : Voice) (body : List ℕ) where
  -- events that can be written
  abbrev Fits : Event → Type 0
  Fits event = content_fits voice (content_of body event) ≡ true

  abbrev Sound : List (At Event) → Type 0
  Sound messages = OfMessages Fits messages

  item_sound : (item : Item Event) → item_fits voice (content_in body item) ≡ true → OfItem Fits item
  unfolding content_in item_fits
  item_sound (timed duration event) fits = and_right (duration ≤? 16511) _ fits
  item_sound end_mark fits = tt

  items_sound : (items : Items) → AllFit voice (contents_in body items) → OfItems Fits items
  unfolding contents_in
  items_sound [] fit = tt
  items_sound (item ∷ items) fit = (item_sound item.what fit.0, items_sound items fit.1)

  -- told by their contents

  told_rises : (low high : ℕ) (messages : List (At Event)) → Rising low high messages → Rises low high (map (told body) messages)
  told_rises low high [] r = r
  told_rises low high (at ∷ messages) r = (r.0, told_rises at.step high messages r.1)

  told_said : (messages : List (At Event)) → Sound messages → AllSaid is_said (map (told body) messages)
  told_said [] s = tt
  told_said (at ∷ messages) s = (said_so body at.event ∙ s.0, told_said messages s.2)

  told_writable : (messages : List (At Event)) → Sound messages → Writable voice (map (told body) messages)
  told_writable [] s = tt
  told_writable (at ∷ messages) s = (s.1, told_writable messages s.2)

-- THE TUNE of a readable track in its play order can be written.
pub tune_writable : (track : Track) (sections : List Section) → Readable track → play_order track ≡ Some sections
    → WritableTune track.voice (retold (content_of track.body) (tune_in track sections))
unfolding tune_in retold
tune_writable track sections readable e =
    let fit = body_fits track.voice track.body readable.bytes track.items readable.reads in
    let sound =
    of_tune (Fits track.voice track.body) track.items (items_sound track.voice track.body track.items fit) sections in
    let tune = tune_in track sections in
    record {
      rises = told_rises track.voice track.body 0 tune.end tune.messages (tune_rises track sections e);
      said = told_said track.voice track.body tune.messages sound;
      writable = told_writable track.voice track.body tune.messages sound;
    }
