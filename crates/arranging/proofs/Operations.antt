-- The answer to a write and the room after it, from what was found of the tables stage by stage.
use Prim.Native.Nat.{ℕ, suc, ◌+◌, ◌<◌, ◌≤◌, min}
use mathlib.Core.Bool.{true}
use mathlib.Core.List.{List, [], ◌∷◌}
use mathlib.Core.Path.{◌≡◌, refl, sym, ◌∙◌, ap}
use lib.ListN.{length, take}
use native.Mathlib.Omega.{arith}
use borrow.Author.Tests.{eqb-false}
use Rattle.model.specs.Words.{when◌then◌else◌, ◌<?◌, ◌≡?◌, Checked, passed, ◌>>=◌, ◌>>◌, refused}
use Rattle.std.specs.Prelude.{Ok, Err}
use Rattle.model.specs.declared.Refusal.{Refusal}
use Rattle.model.specs.ChunkBytes.{file_with}
use Rattle.model.specs.Item.{is_fine}
use Rattle.model.specs.Arrangement.{ScoreTrack, file_bytes}
use Rattle.model.specs.Tables.{Given, given_in, once_from, tracks_from, arrangement_of}
use Rattle.model.specs.Answer.{memory_after, within_room, write_of, write_answer, write_room}
use Rattle.model.proofs.Outcomes.{bind_fine, then_fine, not_refused_fine, past_fine}
use Rattle.model.proofs.Tests.{by_test}
use Rattle.writing.specs.Parts.{limited}
use Rattle.arranging.specs.Stages.{how_many, tracks_answer, tracks_given_bytes, bare_bytes, whole_bytes, sized_of}
use Rattle.arranging.proofs.Clipping.{clip_next, clip_to}
use Rattle.arranging.proofs.Tracks.{left_starts, left_bytes}

-- refused before anything is written
module _ (numbers bytes l : List ℕ) (why : Refusal) (refuses : write_of numbers bytes (length l) ≡ Err why) where
  refused_answer : Err why ≡ write_answer (write_of numbers bytes (length l))
  unfolding write_answer
  refused_answer = rw refuses

  refused_kept : l ≡ write_room l (write_of numbers bytes (length l))
  unfolding write_room memory_after
  refused_kept = rw refuses

-- the rest of a write, behind 6 and 7
unfoldable pub behind : List ℕ → List ℕ → ℕ → Checked (List ℕ)
behind numbers bytes room = do
  tracks ← tracks_from 0 (given_in numbers bytes)
  sized_of numbers bytes room

tracks_many : (index : ℕ) (given : List Given) (tracks : List ScoreTrack) → tracks_from index given ≡ Ok tracks → length tracks ≡ length given
unfolding tracks_from
tracks_many index [] tracks e = let none : [] ≡ tracks = cc in ap length (sym none)
tracks_many index (one ∷ given) tracks e =
    let a = bind_fine _ _ tracks e in
    let b = bind_fine _ _ tracks a.2 in
    let same : a.0 ∷ b.0 ≡ tracks = let q = b.2 in cc in
    ap length (sym same) ∙ ap suc (tracks_many (index + 1) given b.0 b.1)

module _ (numbers bytes : List ℕ) (room : ℕ) where
  abbrev given : List Given
  given = given_in numbers bytes

  -- with the tracks at hand, what is left goes by their bytes alone
  sized_so : (tracks : List ScoreTrack) → tracks_from 0 given ≡ Ok tracks
      → ((when 16 <? length tracks then refused 24 0 else passed) >> within_room room (file_bytes (record { contents = take 5 bytes; tracks = tracks })))
      ≡ sized_of numbers bytes room
  unfolding sized_of file_bytes file_with whole_bytes bare_bytes tracks_given_bytes
  sized_so tracks e = rw (tracks_many 0 given tracks e, e) refl

  -- 6 and 7, and then the rest
  staged : write_of numbers bytes room ≡ (how_many given >>= λ count. behind numbers bytes room)
  unfolding write_of arrangement_of how_many behind ◌>>=◌ ◌>>◌ when◌then◌else◌
  staged = go (once_from [] 0 given) refl (tracks_from 0 given) refl
    where
      go : (o : Checked (Unit {0})) → once_from [] 0 given ≡ o → (p : Checked (List ScoreTrack)) → tracks_from 0 given ≡ p
          → write_of numbers bytes room ≡ (how_many given >>= λ count. behind numbers bytes room)
      go (Err why) e p f = rw e
      go (Ok u) e (Err why) f = by_test (length given ≡? 0) (λ h. rw (e, h)) (λ h. rw (e, h, f))
      go (Ok u) e (Ok tracks) f = by_test (length given ≡? 0) (λ h. rw (e, h)) (λ h. rw (e, h, f) (sized_so tracks f))

how_many_lem : (given : List Given) (count : ℕ) → how_many given ≡ Ok count → (count ≡ length given) × (0 < count)
unfolding how_many
how_many_lem given count e =
    let a = then_fine _ _ count e in
    let some = eqb-false (length given) 0 (not_refused_fine _ 7 0 _ count a.1) in
    let same : length given ≡ count = let q = past_fine _ 7 0 _ count a.1 in cc in
    (sym same, omega arith)

tracks_refused : (o : Checked (List ScoreTrack)) (why : Refusal) → tracks_answer o ≡ Err why → o ≡ Err why
unfolding tracks_answer
tracks_refused (Ok tracks) why e = let z : ◌≡◌ {A = ℕ} 0 1 = cc in absurd (omega arith)
tracks_refused (Err told) why e = let same : told ≡ why = cc in rw same refl

tracks_fine : (o : Checked (List ScoreTrack)) (size : ℕ) → tracks_answer o ≡ Ok size
    → (tracks : List ScoreTrack) × (o ≡ Ok tracks) × (size ≡ limited (length (tracks_given_bytes o)))
unfolding tracks_answer tracks_given_bytes
tracks_fine (Ok tracks) size e = (tracks, refl, cc)
tracks_fine (Err why) size e = let z : ◌≡◌ {A = ℕ} 0 1 = cc in absurd (omega arith)

module _ (numbers bytes l : List ℕ) (many : Checked ℕ) (counts : many ≡ how_many (given_in numbers bytes)) where
  module _ (why : Refusal) (refuses : many ≡ Err why) where
    none_written : write_of numbers bytes (length l) ≡ Err why
    unfolding ◌>>=◌
    none_written = staged numbers bytes (length l) ∙ rw (sym counts ∙ refuses)

    pub count_refused : Err why ≡ write_answer (write_of numbers bytes (length l))
    count_refused = refused_answer numbers bytes l why none_written

    pub count_kept : l ≡ write_room l (write_of numbers bytes (length l))
    count_kept = refused_kept numbers bytes l why none_written

  module _ (count : ℕ) (counted-so : many ≡ Ok count) where
    is_fine_lem : how_many (given_in numbers bytes) ≡ Ok count
    is_fine_lem = sym counts ∙ counted-so

    pub count_is : count ≡ length (given_in numbers bytes)
    count_is = (how_many_lem (given_in numbers bytes) count is_fine_lem).0

    pub contents_there : 5 ≤ length bytes
    contents_there =
        let q = min (0 + 5) (length bytes) in
        let from = left_starts numbers bytes q (clip_next bytes 0 5 q (omega arith) refl) (clip_to bytes 0 5 q (omega arith) refl) in
        let some : 0 < length (given_in numbers bytes) = omega (arith, how_many_lem (given_in numbers bytes) count is_fine_lem) in
        omega (arith, left_bytes numbers bytes 0 q (given_in numbers bytes) from some)

    rests : write_of numbers bytes (length l) ≡ behind numbers bytes (length l)
    unfolding ◌>>=◌
    rests = staged numbers bytes (length l) ∙ rw is_fine_lem

    module _ (answer : Checked ℕ) (is : answer ≡ tracks_answer (tracks_from 0 (given_in numbers bytes))) where
      module _ (why : Refusal) (refuses : answer ≡ Err why) where
        not_written : write_of numbers bytes (length l) ≡ Err why
        unfolding behind ◌>>=◌
        not_written = rests ∙ rw (tracks_refused (tracks_from 0 (given_in numbers bytes)) why (sym is ∙ refuses))

        pub tracks_answer_lem : Err why ≡ write_answer (write_of numbers bytes (length l))
        tracks_answer_lem = refused_answer numbers bytes l why not_written

        pub tracks_kept : l ≡ write_room l (write_of numbers bytes (length l))
        tracks_kept = refused_kept numbers bytes l why not_written

      module _ (size : ℕ) (sized : answer ≡ Ok size) where
        these : (tracks : List ScoreTrack) × (tracks_from 0 (given_in numbers bytes) ≡ Ok tracks)
            × (size ≡ limited (length (tracks_given_bytes (tracks_from 0 (given_in numbers bytes)))))
        these = tracks_fine (tracks_from 0 (given_in numbers bytes)) size (sym is ∙ sized)

        pub tracks_given : is_fine (tracks_from 0 (given_in numbers bytes)) ≡ true
        unfolding is_fine
        tracks_given = ap is_fine these.1

        pub tracks_sized : size ≡ limited (length (tracks_given_bytes (tracks_from 0 (given_in numbers bytes))))
        tracks_sized = these.2

        goes_on : write_of numbers bytes (length l) ≡ sized_of numbers bytes (length l)
        unfolding behind ◌>>=◌
        goes_on = rests ∙ rw these.1

        pub sized_answer : (z : Checked ℕ) → z ≡ write_answer (sized_of numbers bytes (length l)) → z ≡ write_answer (write_of numbers bytes (length l))
        sized_answer z e = e ∙ ap write_answer (sym goes_on)

        pub sized_room : (m : List ℕ) → m ≡ write_room l (sized_of numbers bytes (length l)) → m ≡ write_room l (write_of numbers bytes (length l))
        sized_room m e = e ∙ ap (write_room l) (sym goes_on)

pub ruleset written = (
  count_refused,
  count_kept,
  count_is,
  contents_there,
  tracks_answer_lem,
  tracks_kept,
  tracks_given,
  tracks_sized,
  sized_answer,
  sized_room,
)
