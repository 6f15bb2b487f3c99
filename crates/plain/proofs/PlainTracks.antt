-- DEMAND 3: "Each readable track can be turned into one plain sequence that plays the same messages, in the same order, at the same steps,
-- with the same end." Over every accepted file and every row that names a readable track with a play order: the plain form is a body of the
-- track's voice, its items are exactly what was written, it has one end mark, which is its last four bytes, and as a stream without points it plays the
-- tune that the track plays, exclusives by their bytes. And it is its own plain form.
use Prim.Native.Nat.{ℕ, ◌<◌}
use mathlib.Core.Bool.{false}
use mathlib.Core.List.{List, [], ◌∷◌, ◌++◌}
use Rattle.std.specs.Prelude.{None, Some, Ok}
use mathlib.Core.Path.{◌≡◌, refl, sym, ◌∙◌, ap₂, subst}
use Rattle.model.specs.Words.{◌otherwise◌, first_said, Placed}
use Rattle.model.specs.Bytes.{◌!◌}
use Rattle.model.specs.Item.{Item, body_of}
use Rattle.model.specs.Seek.{start_point, stop_point}
use Rattle.model.specs.Play.{retold}
use Rattle.model.specs.Track.{Track}
use Rattle.model.specs.Order.{stream_section, order_of, play_order, tune_in}
use Rattle.model.specs.Plain.{bytes_of, plain_items, plain_form}
use Rattle.model.specs.Content.{content_of, contents_in, handy_phone}
use Rattle.model.specs.Answer.{Performance, ordered, performed, plain_of}
use Rattle.model.specs.declared.Event.{Event}
use Rattle.reading.proofs.Performed.{performed_so}
use Rattle.sections.proofs.WholeStream.{streamed}
use Rattle.plain.proofs.PlainItems.{Ended}
use Rattle.plain.proofs.PlainReads.{WritableTune, plain_reads}
use Rattle.plain.proofs.NamedTracks.{named_reads}
use Rattle.plain.proofs.Performances.{tune_writable}

performance_writable : (buffer : List ℕ) (n row : ℕ) (performance : Performance) → ((k : ℕ) → buffer ! k < 256) → performed buffer n row ≡ Ok performance
    → WritableTune performance.track.voice (retold (content_of performance.track.body) performance.tune)
performance_writable buffer n row performance bytes e =
    let so = performed_so buffer n row performance e in
    subst (λ (p : Performance). WritableTune p.track.voice (retold (content_of p.track.body) p.tune)) (sym so.is)
    (tune_writable so.track so.sections (named_reads buffer n row so.file so.track bytes so.reads so.names) so.orders)

-- THE PLAIN FORM of a performance: its items; that they are what was written, and the last of them, and no other, is an end mark; its bytes, which are
-- what the items before the mark write, and four zeros; that as a stream without points it plays the same tune; and that flattening it again
-- gives it.
pub record Flattened (performance : Performance) : Type 0 where
  pub items : List (Placed (Item Event))
  pub reads : body_of performance.track.voice (plain_of performance) ≡ Ok items
  pub written : contents_in (plain_of performance) items ≡ plain_items handy_phone (retold (content_of performance.track.body) performance.tune)
  pub ended : Ended (contents_in (plain_of performance) items)
  pub closed : plain_of performance ≡ bytes_of handy_phone ended.front ++ (0 ∷ 0 ∷ 0 ∷ 0 ∷ [])
  pub same : retold (content_of (plain_of performance)) (streamed items) ≡ retold (content_of performance.track.body) performance.tune
  pub again : plain_form handy_phone (retold (content_of (plain_of performance)) (streamed items)) ≡ plain_of performance

pub plays_the_same : (buffer : List ℕ) (n row : ℕ) (performance : Performance) → ((k : ℕ) → buffer ! k < 256) → performed buffer n row ≡ Ok performance
    → Flattened performance
unfolding plain_of
plays_the_same buffer n row performance bytes e =
    let plain =
    plain_reads performance.track.voice (retold (content_of performance.track.body) performance.tune)
    (performance_writable buffer n row performance bytes e) in
    record {
      items = plain.items;
      reads = plain.reads;
      written = plain.written;
      ended = plain.ended;
      closed = plain.closed;
      same = plain.same;
      again = plain.again;
    }

-- FLATTENED AGAIN: a stream without points whose body is a plain form has that plain form.

whole_order : (track : Track) → track.phrases ≡ false → track.entries ≡ [] → play_order track ≡ Some (stream_section track.items 0 None ∷ [])
unfolding play_order order_of start_point stop_point first_said ◌otherwise◌
whole_order track stream points = rw (stream, points) refl

-- the plain form of a body with these items, as such a stream
abbrev stream_plain : List ℕ → List (Placed (Item Event)) → List ℕ
stream_plain body items = plain_form handy_phone (retold (content_of body) (streamed items))

whole_plain : (track : Track)
    → plain_of (record { track = track; tune = tune_in track (stream_section track.items 0 None ∷ []) }) ≡ stream_plain track.body track.items
unfolding plain_of tune_in
whole_plain track = refl

pub plain_of_plain : (performance : Performance) (track : Track) → Flattened performance → track.voice ≡ performance.track.voice
    → track.body ≡ plain_of performance → body_of track.voice track.body ≡ Ok track.items → track.phrases ≡ false → track.entries ≡ []
    → (again : Performance) × (ordered track (play_order track) ≡ Ok again) × (plain_of again ≡ plain_of performance)
unfolding ordered
plain_of_plain performance track flat voice body reads stream points =
    let order = stream_section track.items 0 None ∷ [] in
    let both : Ok track.items ≡ Ok flat.items = sym reads ∙ rw (voice, body) flat.reads in
    let items : track.items ≡ flat.items = cc in (
      record { track = track; tune = tune_in track order },
      rw (whole_order track stream points) refl,
      whole_plain track ∙ ap₂ stream_plain body items ∙ flat.again,
    )
