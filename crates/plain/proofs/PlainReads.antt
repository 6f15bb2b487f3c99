-- Demand 3, "one plain sequence that plays the same messages, in the same order, at the same steps, with the same end", for any tune whose
-- messages can be written: its plain form is a body, the body's items are exactly what was written, the last of them and no other is an end mark, and as a
-- stream without points it plays that tune. Flattening it again gives it.
use Prim.Native.Nat.{ℕ}
use mathlib.Core.List.{List, [], ◌∷◌, ◌++◌, map-map}
use mathlib.Core.Path.{◌≡◌, refl, ◌∙◌, ap, ap₂}
use native.Mathlib.Omega.{arith}
use Rattle.model.specs.Words.{}
use Rattle.std.specs.Prelude.{Ok}
use Rattle.model.specs.Item.{body_of}
use Rattle.model.specs.Play.{At, Tune, retold}
use Rattle.model.specs.Plain.{bytes_of, plain_items, plain_form}
use Rattle.model.specs.Content.{Content, content_of, contents_in, is_said, handy_phone}
use Rattle.model.specs.declared.Voice.{Voice}
use Rattle.inverse.proofs.WrittenReads.{sequence_reads}
use Rattle.sections.specs.Spans.{Items}
use Rattle.sections.proofs.WholeStream.{streamed}
use Rattle.plain.proofs.PlainItems.{Ended, plain_ends, ended_closes, Writable, plain_fits, plain_some}
use Rattle.plain.proofs.PlainPlays.{Rises, AllSaid, unplaced, plain_plays, plain_lasts}
use Rattle.plain.proofs.Streams.{told_items, stream_told}

-- a tune that can be written: its messages never fall back, end where it ends, and are messages of the voice
pub record WritableTune (voice : Voice) (tune : Tune Content) : Type 0 where
  pub rises : Rises 0 tune.end tune.messages
  pub said : AllSaid is_said tune.messages
  pub writable : Writable voice tune.messages

-- its plain form, read
pub record Plain (voice : Voice) (tune : Tune Content) : Type 0 where
  pub items : Items
  pub reads : body_of voice (plain_form handy_phone tune) ≡ Ok items
  pub written : contents_in (plain_form handy_phone tune) items ≡ plain_items handy_phone tune
  pub ended : Ended (contents_in (plain_form handy_phone tune) items)
  pub closed : plain_form handy_phone tune ≡ bytes_of handy_phone ended.front ++ (0 ∷ 0 ∷ 0 ∷ 0 ∷ [])
  pub same : retold (content_of (plain_form handy_phone tune)) (streamed items) ≡ tune
  pub again : plain_form handy_phone (retold (content_of (plain_form handy_phone tune)) (streamed items)) ≡ plain_form handy_phone tune

module _ (voice : Voice) (tune : Tune Content) (ok : WritableTune voice tune) where
  -- items with the contents that were written play the tune
  contents_play : (body : List ℕ) (items : Items) → contents_in body items ≡ plain_items handy_phone tune → retold (content_of body) (streamed items) ≡ tune
  unfolding contents_in plain_items is_said
  contents_play body items e =
      let what : unplaced (told_items body items) ≡ plain_items handy_phone tune = map-map _ _ items ∙ e in
      let lasts = plain_lasts Content handy_phone (omega arith) 0 tune.messages tune.end ok.rises (told_items body items) what in
      stream_told body items
      ∙ ap₂ (λ (messages : List (At Content)) (end : ℕ). record { messages = messages; end = end })
      (plain_plays Content handy_phone (omega arith) is_said refl 0 tune.messages tune.end ok.rises ok.said (told_items body items) what)
      (omega arith)

  pub plain_reads : Plain voice tune
  unfolding plain_form plain_items
  plain_reads =
      let fit = plain_fits voice 0 tune.messages tune.end ok.writable in
      let read = sequence_reads voice (plain_items handy_phone tune) (plain_some tune) fit in
      let last = plain_ends Content handy_phone 0 tune.messages tune.end in
      let same = contents_play (plain_form handy_phone tune) read.0 read.2 in
      record {
        items = read.0;
        reads = read.1;
        written = read.2;
        ended = record { front = last.front; unmarked = last.unmarked; is = read.2 ∙ last.is };
        closed = ended_closes Content handy_phone (plain_items handy_phone tune) last;
        same = same;
        again = ap (plain_form handy_phone) same;
      }
