-- WHAT A READABLE TRACK IS MADE OF: `track_of`, taken apart where it is accepted.
use Prim.Native.Nat.{ℕ, ◌+◌}
use mathlib.Core.Path.{◌≡◌, refl, ap, subst}
use mathlib.Core.Bool.{true}
use mathlib.Core.List.{List}
use Rattle.std.specs.Prelude.{Option, None, Some, Ok, Err}
use lib.ListN.{length}
use native.Mathlib.Omega.{arith}
use Rattle.model.specs.Words.{◌≡?◌, Checked}
use Rattle.model.specs.Bytes.{◌!◌}
use Rattle.model.specs.Chunk.{Chunk, body_bytes, chunk_list}
use Rattle.model.specs.Item.{is_fine, body_of}
use Rattle.model.specs.Track.{Track, part_id, part_named, is_allowed, place_of_d, fixed_holds, required, entries_of, track_of}
use Rattle.model.specs.declared.ListOf.TheVariants as list
use Rattle.model.specs.declared.Part.TheVariants as parts
use Rattle.model.specs.declared.Voice.{Voice}
use Rattle.model.proofs.Outcomes.{then_fine, bind_fine, counted_fine}

required_is : (header : ℕ) (o : Option Chunk) (chunk : Chunk) → required header o ≡ Ok chunk → o ≡ Some chunk
unfolding required
required_is header None chunk e = let z : ◌≡◌ {A = ℕ} 0 1 = cc in absurd (omega arith)
required_is header (Some one) chunk e = let same : one ≡ chunk = cc in ap Some same

-- its fixed bytes hold, its parts are those of its list, and its body, items and entries are those of its parts
pub record TrackMade (s : List ℕ) (voice : Voice) (chunk : Chunk) (track : Track) : Type 0 where
  pub fixed : is_fine (fixed_holds voice s chunk) ≡ true
  pub listed : chunk_list (is_allowed (list.Track voice)) s (chunk.place + 8 + 6) (chunk.place + 8 + chunk.size) ≡ Ok track.parts
  pub sequence : Chunk
  pub named : part_named (part_id parts.Sequence voice) track.parts ≡ Some sequence
  pub body : track.body ≡ body_bytes s sequence
  pub reads : body_of voice (body_bytes s sequence) ≡ Ok track.items
  pub entries : entries_of track.phrases track.items (length (body_bytes s sequence)) s (part_named (part_id parts.Seek voice) track.parts)
      ≡ Ok track.entries
  pub header : track.header ≡ chunk.place
  pub voiced : track.voice ≡ voice
  pub phrased : track.phrases ≡ (s ! (chunk.place + 8 + 1) ≡? 1)
  pub based : track.base_d ≡ s ! (chunk.place + 8 + place_of_d voice)

abbrev track_or : Checked Track → Track → Track
track_or (Ok track) other = track
track_or (Err why) other = other

pub track_made : (s : List ℕ) (voice : Voice) (chunk : Chunk) (track : Track) → track_of s voice chunk ≡ Ok track → TrackMade s voice chunk track
unfolding track_of
track_made s voice chunk track e =
    let a = then_fine _ _ track e in
    let b = bind_fine _ _ track a.1 in
    let c = bind_fine _ _ track b.2 in
    let d = then_fine _ _ track c.2 in
    let f = then_fine _ _ track d.1 in
    let g = bind_fine _ _ track f.1 in
    let h = bind_fine _ _ track g.2 in
    subst (TrackMade s voice chunk) (ap (λ (t : Checked Track). track_or t track) h.2)
    (record {
      fixed = a.0;
      listed = b.1;
      sequence = c.0;
      named = required_is chunk.place _ c.0 c.1;
      body = refl;
      reads = counted_fine _ _ g.0 g.1;
      entries = h.1;
      header = refl;
      voiced = refl;
      phrased = refl;
      based = refl;
    })
