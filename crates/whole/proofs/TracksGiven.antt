-- Ticket 3: the tracks that two tables give to be written, where none has a fault: there is one at least, no number comes twice, and each is ready to be read.
use Prim.Native.Nat.{ℕ, zero, suc, ◌+◌, ◌*◌, ◌<◌, ◌≤◌}
use mathlib.Core.Bool.{false}
use mathlib.Core.List.{List, [], ◌∷◌}
use mathlib.Core.Path.{◌≡◌, refl, sym, ap, subst}
use lib.ListN.{length, take, drop, length-take, length-drop}
use native.Mathlib.Omega.{arith}
use borrow.Author.Tests.{eqb-false, ltb-false}
use Rattle.model.specs.Words.{◌<?◌, ◌≡?◌, any, passed}
use Rattle.std.specs.Prelude.{Ok}
use Rattle.model.specs.Bytes.{◌!◌}
use Rattle.model.specs.Arrangement.{ScoreTrack, Arrangement}
use Rattle.model.specs.Tables.{Given, numbers_taken, bytes_taken, first_given, given_from, given_in, once_from, track_given, tracks_from, arrangement_of}
use Rattle.model.proofs.Outcomes.{then_fine, bind_fine, fine_some, not_refused, not_refused_fine, past_fine, neither_second}
use Rattle.model.proofs.Parts.{part_length}
use Rattle.model.proofs.Tests.{if_all}
use Rattle.writing.proofs.Listed.{told_fine}
use Rattle.whole.proofs.Bounded.{AllBelow, drop_below, part_below}
use Rattle.whole.proofs.TrackNumbers.{NumbersOnce}
use Rattle.whole.proofs.TrackGiven.{GivenWell, TrackReady, track_ready}

-- THE TABLES: each track has what is asked of it
abbrev AllWell : List Given → Type 0
AllWell [] = Unit
AllWell (given ∷ rest) = GivenWell given × AllWell rest

first_well : (numbers bytes : List ℕ) → AllBelow 4294967296 numbers → AllBelow 256 bytes → 7 ≤ length bytes → GivenWell (first_given numbers bytes)
unfolding first_given
first_well numbers bytes small below long =
    record {
      byte = below 0;
      six = part_length bytes 1 6 (omega arith);
      small = part_below 4294967296 4 (4 * numbers ! 0) numbers small;
    }

all_well : (turns : ℕ) (numbers bytes : List ℕ) → AllBelow 4294967296 numbers → AllBelow 256 bytes → AllWell (given_from turns numbers bytes)
unfolding given_from
all_well zero numbers bytes small below = tt
all_well (suc turns) numbers bytes small below =
    if_all AllWell _ _ _ (λ h. tt)
    (λ h.
    let long = ltb-false (length bytes) 7 (neither_second (length numbers <? 4) _ h) in
    let taken : ℕ = numbers_taken numbers in
    let gone : ℕ = bytes_taken numbers in (
      first_well numbers bytes small below long,
      all_well turns (drop taken numbers) (drop gone bytes) (drop_below 4294967296 taken numbers small) (drop_below 256 gone bytes below),
    ))

-- where a track is there, its bytes are
some_bytes : (turns : ℕ) (numbers bytes : List ℕ) → 0 < length (given_from turns numbers bytes) → 0 < length bytes
unfolding given_from
some_bytes zero numbers bytes = λ some. absurd (omega arith)
some_bytes (suc turns) numbers bytes =
    if_all (λ (l : List Given). 0 < length l → 0 < length bytes) _ _ _ (λ h some. absurd (omega arith))
    (λ h some. omega (arith, ltb-false (length bytes) 7 (neither_second (length numbers <? 4) _ h)))

-- THE TRACKS
abbrev pub AllReady : List ScoreTrack → Type 0
AllReady [] = Unit
AllReady (track ∷ tracks) = TrackReady track × AllReady tracks

abbrev pub number_of : ScoreTrack → ℕ
number_of track = track.number

abbrev ReadyOnce : List ℕ → ℕ → List ScoreTrack → Type 0
ReadyOnce before count tracks = (length tracks ≡ count) × NumbersOnce number_of before tracks × AllReady tracks

tracks_ready : (givens : List Given) (before : List ℕ) (at index : ℕ) (tracks : List ScoreTrack) → AllWell givens → once_from before at givens ≡ passed
    → tracks_from index givens ≡ Ok tracks → ReadyOnce before (length givens) tracks
unfolding once_from tracks_from
tracks_ready [] before at index tracks well once e = let none : [] ≡ tracks = cc in subst (ReadyOnce before 0) none (refl, tt, tt)
tracks_ready (given ∷ rest) before at index tracks well once e =
    let a = bind_fine _ _ tracks e in
    let b = bind_fine _ _ tracks a.2 in
    let same : a.0 ∷ b.0 ≡ tracks = let q = b.2 in cc in
    let first = track_ready given well.0 a.0 (told_fine index (track_given given) a.0 a.1) in
    let number : given.number ≡ a.0.number = sym first.1 in
    let other = not_refused_fine (any (λ earlier. earlier ≡? given.number) before) 6 at _ tt once in
    let more = tracks_ready rest (given.number ∷ before) (at + 1) (index + 1) b.0 well.1 (past_fine _ 6 at _ tt once) b.1 in
    let fresh = subst (λ (n : ℕ). any (λ earlier. earlier ≡? n) before ≡ false) number other in
    let onces = subst (λ (n : ℕ). NumbersOnce number_of (n ∷ before) b.0) number more.1 in
    subst (ReadyOnce before (suc (length rest))) same (ap suc more.0, (first.0.byte, fresh, onces), (first.0, more.2))

-- THE ARRANGEMENT
pub record Ready (arrangement : Arrangement) : Type 0 where
  pub five : length arrangement.contents ≡ 5
  pub some : 0 < length arrangement.tracks
  pub once : NumbersOnce number_of [] arrangement.tracks
  pub ready : AllReady arrangement.tracks

pub arrangement_ready : (numbers bytes : List ℕ) (arrangement : Arrangement) → AllBelow 4294967296 numbers → AllBelow 256 bytes
    → arrangement_of numbers bytes ≡ Ok arrangement → Ready arrangement
unfolding arrangement_of given_in
arrangement_ready numbers bytes arrangement small below e =
    let a = then_fine _ _ arrangement e in
    let b = then_fine _ _ arrangement a.1 in
    let c = bind_fine _ _ arrangement b.1 in
    let same : record { contents = take 5 bytes; tracks = c.0 } ≡ arrangement = let q = c.2 in cc in
    let count : ℕ = length (given_from (length numbers) numbers (drop 5 bytes)) in
    let some = eqb-false count 0 (not_refused (count ≡? 0) 7 0 passed b.0) in
    let well = all_well (length numbers) numbers (drop 5 bytes) small (drop_below 256 5 bytes below) in
    let all = tracks_ready _ [] 0 0 c.0 well (fine_some _ a.0).1 c.1 in
    let long = some_bytes (length numbers) numbers (drop 5 bytes) (omega arith) in
    let five : length (take 5 bytes) ≡ 5 = simp length-take (omega (arith, length-drop 5 bytes)) in
    subst Ready same (record { five = five; some = omega (arith, all.0); once = all.1; ready = all.2 })
