-- The sub-chunks of a track: a law for each case of the definitions that go by cases, and what a setup chunk answers.
use Prim.Native.Nat.{ℕ, ◌+◌, ◌-◌, ◌≤◌}
use mathlib.Core.Path.{◌≡◌, refl, sym, ◌∙◌, ap, subst}
use mathlib.Core.Bool.{Bool, true, false}
use mathlib.Core.List.{List}
use lib.ListN.{length, take, drop}
use native.Mathlib.Omega.{arith}
use Rattle.model.specs.Words.{when◌then◌else◌, Checked}
use Rattle.std.specs.Option.{is_some}
use Rattle.model.specs.Bytes.{◌!◌, part}
use Rattle.model.specs.TimeBase.{is_time_base, time_base_of}
use Rattle.model.specs.Item.{setup_of, check_answer}
use Rattle.model.specs.Chunk.{Chunk}
use Rattle.model.specs.Track.{has_one, has_waves, setup_holds}
use Rattle.model.specs.declared.Voice.{Voice}
use Rattle.model.specs.declared.Voice.TheVariants.{Score, Pcm}
use Rattle.model.specs.declared.Wanted.TheVariants as wanted
use Rattle.model.specs.declared.TimeBase.{TimeBase}
use Rattle.std.specs.Prelude.{Ok, Option, Some, None}
use Rattle.model.specs.declared.FoundChunk.{FoundChunk}
use Rattle.model.proofs.Parts.{part_within}
use Rattle.tracks.specs.Stages.{bare_of, Inside, Near, moved}
use Rattle.items.proofs.Within.{setup_refused_within}
use Rattle.tracks.proofs.Answers.{answer_moved, answer_done, answer_near}

pub waves_score : (voice : Voice) (chunks : List Chunk) (z : Bool) → voice ≡ Score → z ≡ true → z ≡ has_waves voice chunks
unfolding has_waves
waves_score voice chunks z p h = rw p h

pub waves_pcm : (voice : Voice) (chunks : List Chunk) (z : Bool) → voice ≡ Pcm → z ≡ has_one wanted.Wave chunks → z ≡ has_waves voice chunks
unfolding has_waves
waves_pcm voice chunks z p h = rw p h

pub ruleset voices = (waves_score, waves_pcm)

-- time bases

pub base_known : (code : ℕ) (r : Option TimeBase) (known : Bool) → r ≡ time_base_of code → known ≡ is_some r → known ≡ is_time_base code
unfolding time_base_of when◌then◌else◌
base_known code r known p e = e ∙ ap (λ (o : Option TimeBase). is_some o) p ∙ go (is_time_base code)
  where
    go : (t : Bool) → is_some (when◌then◌else◌ {A = Option TimeBase} t (Some (record { code = code })) None) ≡ t
    go true = refl
    go false = refl

pub base_at : (s : List ℕ) (body at place : ℕ) (known : Bool) → at ≡ place → known ≡ is_time_base (s ! (body + at)) → known ≡ is_time_base (s ! (body + place))
base_at s body at place known p h = rw (← p) h

-- a body, as the code cuts it out
pub cut_out : (s : List ℕ) (place size : ℕ) → take (place + 8 + size - (place + 8)) (drop (place + 8) s) ≡ part s (place + 8) size
cut_out s place size = let e : place + 8 + size - (place + 8) ≡ size = omega arith in ap (λ (n : ℕ). take n (drop (place + 8) s)) e

-- a setup chunk

module _ (s : List ℕ) (setup : Option FoundChunk) (chunk : FoundChunk) (is : setup ≡ Some chunk) where
  chunk_inside : Inside s setup → chunk.place + 8 + chunk.size ≤ length s
  chunk_inside h = subst (Inside s) is h

  pub setup_near : (body : List ℕ) (r : Checked (Unit {0})) → body ≡ part s (chunk.place + 8) chunk.size → r ≡ check_answer (setup_of body) → Inside s setup → length s ≤ 65536 → Near r
  setup_near body r b e inside small =
      let room = chunk_inside inside in
      let short = part_within s (chunk.place + 8) chunk.size in
      answer_near (setup_of body) r (length body) e (omega (arith, ap length b)) (setup_refused_within body)

  pub setup_checked : (body : List ℕ) (r z : Checked (Unit {0})) → body ≡ part s (chunk.place + 8) chunk.size → r ≡ check_answer (setup_of body) → z ≡ moved (chunk.place + 8) r
      → z ≡ check_answer (setup_holds s (bare_of setup))
  unfolding setup_holds
  setup_checked body r z b e m =
      m ∙ ap (moved (chunk.place + 8)) (e ∙ ap (λ (bytes : List ℕ). check_answer (setup_of bytes)) b)
      ∙ sym (answer_moved (chunk.place + 8) (setup_of (part s (chunk.place + 8) chunk.size)))
      ∙ sym (answer_done _)
      ∙ ap (λ (f : Option FoundChunk). check_answer (setup_holds s (bare_of f))) (sym is)

pub setup_none : (s : List ℕ) (setup : Option FoundChunk) (z : Checked (Unit {0})) → setup ≡ None → z ≡ Ok tt → z ≡ check_answer (setup_holds s (bare_of setup))
unfolding setup_holds check_answer
setup_none s setup z p h = h ∙ ap (λ (f : Option FoundChunk). check_answer (setup_holds s (bare_of f))) (sym p)

pub ruleset setups = (setup_near, setup_checked, setup_none)
