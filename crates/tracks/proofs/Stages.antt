-- The checks of a track from one of them on: what each answers where the one before it is known.
use Prim.Native.Nat.{ℕ, ◌+◌, ◌≤◌}
use mathlib.Core.Path.{◌≡◌, refl, sym, ◌∙◌, ap, subst}
use mathlib.Core.Bool.{Bool, true, false, not}
use mathlib.Core.List.{List, [], ◌∷◌}
use Rattle.std.specs.Prelude.{Option, None, Some, Ok, Err}
use lib.ListN.{length}
use native.Mathlib.Omega.{arith}
use borrow.Author.Tests.{ltb-false, not-true, not-false}
use Rattle.model.specs.Words.{when◌then◌else◌, ◌<?◌, ◌≡?◌, first, Placed, Checked, passed, ◌>>=◌, ◌>>◌, counted_from, Step.met, refused}
use Rattle.model.specs.Bytes.{◌!◌, part}
use Rattle.model.specs.Item.{Item, is_fine, found, body_of, items_of, check_answer}
use Rattle.model.specs.Chunk.{Chunk, read_chunk, chunk_met, chunk_step, chunk_list, found_chunk}
use Rattle.model.specs.Track.{Track, fixed_holds, is_allowed, part_id, part_named, required, has_waves, setup_holds, entries_of, track_of}
use Rattle.model.specs.declared.Voice.{Voice}
use Rattle.model.specs.declared.Event.{Event}
use Rattle.model.specs.declared.ListOf.TheVariants as list
use Rattle.model.specs.declared.Part.TheVariants as parts
use Rattle.model.specs.declared.ReadChunk.{ReadChunk}
use Rattle.model.specs.declared.FoundChunk.{FoundChunk}
use Rattle.model.specs.declared.Refusal.{Refusal}
use Rattle.chunks.specs.Kept.{chunks_in}
use Rattle.tracks.specs.Stages.{bare, bare_of, Inside, after_setup, after_parts, parts_then}
use Rattle.model.proofs.Tests.{if_all, if_true, by_test}
use Rattle.model.proofs.Answers.{answer_passed, bind_refused, bind_passed, then_refused, then_passed, needs_yes, needs_no}
use Rattle.model.proofs.Walks.{Stand, GoesOn, fine_found}
use Rattle.chunks.proofs.Lists.{ChunkAhead, chunk_ahead, chunk_goes}
use Rattle.chunks.proofs.Searches.{list_stands, checked_chunks}

-- a chunk that is found in a list lies before the list's end

abbrev Before : ℕ → Option Chunk → Type 0
Before end None = Unit
Before end (Some chunk) = chunk.place + 8 + chunk.size ≤ end

met_before_lem : (s : List ℕ) (end at : ℕ) (r : Option ReadChunk) (chunk : Chunk) (next : ℕ) → ChunkAhead s end at r → chunk_met at r ≡ met chunk next
    → chunk.place + 8 + chunk.size ≤ end
unfolding chunk_met
met_before_lem s end at (Some read) chunk next a e =
    let one : Chunk = record { id = read.id; place = at; size = read.size } in
    let same : one ≡ chunk = cc in
    subst (λ (c : Chunk). c.place + 8 + c.size ≤ end) same (omega arith)
met_before_lem s end at None chunk next a e = let z : ◌≡◌ {A = ℕ} 0 1 = cc in absurd (omega arith)

named_before : (id : ℕ) (s : List ℕ) (end at : ℕ) (chunks : List Chunk) → at ≤ end → Stand end (chunk_step s end) at chunks → Before end (part_named id chunks)
unfolding part_named first chunk_step
named_before id s end at [] h st = tt
named_before id s end at (chunk ∷ chunks) h st =
    let g : GoesOn end at (met chunk st.0) = subst (GoesOn end at) st.1 (chunk_goes s end at h) in
    if_all (Before end) _ _ _ (λ hit. met_before_lem s end at (read_chunk s end at) chunk st.0 (chunk_ahead s end at h) st.1)
    (λ miss. named_before id s end st.0 chunks g.1 st.2)

before_inside : (s : List ℕ) (end : ℕ) (o : Option Chunk) → end ≤ length s → Before end o → Inside s (found_chunk o)
unfolding found_chunk
before_inside s end None h b = tt
before_inside s end (Some chunk) h b = omega arith

module _ (s : List ℕ) (start end id : ℕ) (f : Option FoundChunk) (is : f ≡ found_chunk (part_named id (found (chunks_in s start end))))
    (from : start ≤ end) (inside : end ≤ length s) (ok : is_fine (chunks_in s start end) ≡ true) where
  pub part_inside : Inside s f
  part_inside = subst (Inside s) (sym is) (before_inside s end _ inside (named_before id s end start _ from (list_stands s start end from ok)))

  pub part_there : (chunk : FoundChunk) → f ≡ Some chunk → chunk.place + 8 + chunk.size ≤ length s
  part_there chunk e = subst (Inside s) e part_inside

-- a chunk's ID does not matter where its body is read

setup_bare : (s : List ℕ) (o : Option Chunk) → setup_holds s (bare_of (found_chunk o)) ≡ setup_holds s o
unfolding setup_holds found_chunk
setup_bare s None = refl
setup_bare s (Some chunk) = refl

entries_bare : (phrases : Bool) (items : List (Placed (Item Event))) (size : ℕ) (s : List ℕ) (o : Option Chunk)
    → entries_of phrases items size s (bare_of (found_chunk o)) ≡ entries_of phrases items size s o
unfolding entries_of found_chunk
entries_bare phrases items size s None = refl
entries_bare phrases items size s (Some chunk) = refl

-- 11, and then 12 to 14

answer_bound : {A B : Type 0} (c : Checked A) (f : A → B) → check_answer (c >>= λ a. Ok (f a)) ≡ check_answer c
unfolding check_answer ◌>>=◌
answer_bound (Ok a) f = refl
answer_bound (Err why) f = refl

counted_fine : {A : Type 0} (base : ℕ) (c : Checked A) → is_fine (counted_from base c) ≡ is_fine c
unfolding is_fine counted_from
counted_fine base (Ok a) = refl
counted_fine base (Err why) = refl

counted_found : {A : Type 0} (base : ℕ) (c : Checked (List A)) → found (counted_from base c) ≡ found c
unfolding found counted_from
counted_found base (Ok a) = refl
counted_found base (Err why) = refl

module _ (voice : Voice) (s : List ℕ) (header start end place size : ℕ) (r : Checked (Unit {0}))
    (is : r ≡ check_answer (counted_from (place + 8) (body_of voice (part s (place + 8) size)))) where
  abbrev after : Checked Track
  after = after_setup s voice (bare header 0) (found (chunks_in s start end)) (bare place size)

  pub after_refused : (why : Refusal) → r ≡ Err why
      → Err why ≡ check_answer (after_setup s voice (bare header 0) (found (chunks_in s start end)) (bare place size))
  unfolding after_setup
  after_refused why e = bind_refused (counted_from (place + 8) (body_of voice (part s (place + 8) size))) r (Err why) _ why is e refl

  pub after_passed : (phrases : Bool) (bytes : List ℕ) (f : Option FoundChunk) (z : Checked (Unit {0})) → r ≡ Ok tt → bytes ≡ part s (place + 8) size
      → f ≡ found_chunk (part_named (part_id parts.Seek voice) (found (chunks_in s start end))) → phrases ≡ (s ! (header + 8 + 1) ≡? 1)
      → z ≡ check_answer (entries_of phrases (items_of voice bytes) (length bytes) s (bare_of f))
      → z ≡ check_answer (after_setup s voice (bare header 0) (found (chunks_in s start end)) (bare place size))
  unfolding after_setup items_of
  after_passed phrases bytes f z e b q p h =
      let body = part s (place + 8) size in
      let o = part_named (part_id parts.Seek voice) (found (chunks_in s start end)) in
      bind_passed (counted_from (place + 8) (body_of voice body)) r z _ is e
      (h
      ∙ ap (λ (bs : List ℕ). check_answer (entries_of phrases (found (body_of voice bs)) (length bs) s (bare_of f))) b
      ∙ ap (λ (g : Option FoundChunk). check_answer (entries_of phrases (found (body_of voice body)) (length body) s (bare_of g))) q
      ∙ ap check_answer (entries_bare phrases (found (body_of voice body)) (length body) s o)
      ∙ ap (λ (t : Bool). check_answer (entries_of t (found (body_of voice body)) (length body) s o)) p
      ∙ ap (λ (items : List (Placed (Item Event))). check_answer (entries_of (s ! (header + 8 + 1) ≡? 1) items (length body) s o)) (sym (counted_found (place + 8) (body_of voice body)))
      ∙ sym (answer_bound (entries_of (s ! (header + 8 + 1) ≡? 1) (found (counted_from (place + 8) (body_of voice body))) (length body) s o) _))

pub sequence_fine : (voice : Voice) (s : List ℕ) (place size : ℕ) (r : Checked (Unit {0})) (bytes : List ℕ)
    → r ≡ check_answer (counted_from (place + 8) (body_of voice (part s (place + 8) size))) → r ≡ Ok tt → bytes ≡ part s (place + 8) size
    → is_fine (body_of voice bytes) ≡ true
sequence_fine voice s place size r bytes is e b =
    ap (λ (bs : List ℕ). is_fine (body_of voice bs)) b ∙ sym (counted_fine (place + 8) _) ∙ answer_passed _ (sym is ∙ e)

pub ruleset afters = (after_refused, after_passed)

-- 9 where something is missing, and 10

found_at : (o : Option Chunk) (at : FoundChunk) → found_chunk o ≡ Some at
    → (chunk : Chunk) × (o ≡ Some chunk) × ◌≡◌ {A = FoundChunk} (record { place = chunk.place; size = chunk.size }) at
unfolding found_chunk
found_at None at e = let z : ◌≡◌ {A = ℕ} 0 1 = cc in absurd (omega arith)
found_at (Some chunk) at e = (chunk, refl, cc)

found_none : (o : Option Chunk) → found_chunk o ≡ None → o ≡ None
unfolding found_chunk
found_none None e = refl
found_none (Some chunk) e = let z : ◌≡◌ {A = ℕ} 0 1 = cc in absurd (omega arith)

after_bare : (voice : Voice) (s : List ℕ) (header : ℕ) (chunks : List Chunk) (chunk : Chunk)
    → after_setup s voice (bare header 0) chunks chunk ≡ after_setup s voice (bare header 0) chunks (bare chunk.place chunk.size)
unfolding after_setup
after_bare voice s header chunks chunk = refl

module _ (voice : Voice) (s : List ℕ) (header start end : ℕ) (f : Option FoundChunk)
    (is : f ≡ found_chunk (part_named (part_id parts.Sequence voice) (found (chunks_in s start end)))) where
  pub sequence_missing : f ≡ None → refused 9 header ≡ check_answer (after_parts s voice (bare header 0) (found (chunks_in s start end)))
  unfolding after_parts required ◌>>=◌ check_answer
  sequence_missing e = sym (rw (found_none _ (sym is ∙ e)))

  module _ (sequence : FoundChunk) (e : f ≡ Some sequence) where
    sequence_there : after_parts s voice (bare header 0) (found (chunks_in s start end))
        ≡ ((when has_waves voice (found (chunks_in s start end)) then passed else refused 9 header)
        >> (setup_holds s (part_named (part_id parts.Setup voice) (found (chunks_in s start end)))
        >> after_setup s voice (bare header 0) (found (chunks_in s start end)) (bare sequence.place sequence.size)))
    unfolding after_parts required ◌>>=◌
    sequence_there =
        let a = found_at _ sequence (sym is ∙ e) in
        let all = found (chunks_in s start end) in
        rw a.1
        (ap (λ (t : Checked Track). (when has_waves voice all then passed else refused 9 header) >> (setup_holds s (part_named (part_id parts.Setup voice) all) >> t))
        (after_bare voice s header all a.0
        ∙ ap (λ (at : FoundChunk). after_setup s voice (bare header 0) all (bare at.place at.size)) a.2))

    module _ (w : Bool) (p : w ≡ has_waves voice (found (chunks_in s start end))) where
      pub waves_missing : not w ≡ true → refused 9 header ≡ check_answer (after_parts s voice (bare header 0) (found (chunks_in s start end)))
      waves_missing h =
          needs_no (has_waves voice (found (chunks_in s start end))) 9 header _ (refused 9 header) (sym p ∙ not-true w h) refl
          ∙ ap check_answer (sym sequence_there)

      module _ (h : not w ≡ false) (g : Option FoundChunk) (q : g ≡ found_chunk (part_named (part_id parts.Setup voice) (found (chunks_in s start end))))
          (r : Checked (Unit {0})) (k : r ≡ check_answer (setup_holds s (bare_of g))) where
        held : r ≡ check_answer (setup_holds s (part_named (part_id parts.Setup voice) (found (chunks_in s start end))))
        held = k ∙ ap (λ (o : Option FoundChunk). check_answer (setup_holds s (bare_of o))) q ∙ ap check_answer (setup_bare s _)

        waves_there : (z : Checked (Unit {0})) → z ≡ check_answer (setup_holds s (part_named (part_id parts.Setup voice) (found (chunks_in s start end)))
            >> after_setup s voice (bare header 0) (found (chunks_in s start end)) (bare sequence.place sequence.size))
            → z ≡ check_answer (after_parts s voice (bare header 0) (found (chunks_in s start end)))
        waves_there z y =
            needs_yes (has_waves voice (found (chunks_in s start end))) 9 header _ z (sym p ∙ not-false w h) y ∙ ap check_answer (sym sequence_there)

        pub setup_refused : (why : Refusal) → r ≡ Err why
            → Err why ≡ check_answer (after_parts s voice (bare header 0) (found (chunks_in s start end)))
        setup_refused why j = waves_there _ (then_refused _ r (Err why) _ why held j refl)

        pub setup_passed : (z : Checked (Unit {0})) → r ≡ Ok tt
            → z ≡ check_answer (after_setup s voice (bare header 0) (found (chunks_in s start end)) (bare sequence.place sequence.size))
            → z ≡ check_answer (after_parts s voice (bare header 0) (found (chunks_in s start end)))
        setup_passed z j y = waves_there z (then_passed _ r z _ held j y)

pub ruleset missing = (sequence_missing, waves_missing, setup_refused, setup_passed)

-- the list of a track

parts_bare : (voice : Voice) (s : List ℕ) (place size : ℕ) (chunks : List Chunk) → after_parts s voice (bare place 0) chunks ≡ after_parts s voice (bare place size) chunks
unfolding after_parts after_setup
parts_bare voice s place size chunks = refl

module _ (voice : Voice) (s : List ℕ) (place size : ℕ) (r : Checked (Unit {0})) (long : 6 ≤ size)
    (is : r ≡ check_answer (chunk_list (is_allowed (list.Track voice)) s (place + 8 + 6) (place + 8 + size))) where
  pub parts_refused : (why : Refusal) → r ≡ Err why → Err why ≡ check_answer (parts_then s voice (bare place size))
  unfolding parts_then
  parts_refused why e = bind_refused _ r (Err why) _ why is e refl

  same_parts : r ≡ Ok tt → chunks_in s (place + 8 + 6) (place + 8 + size) ≡ chunk_list (is_allowed (list.Track voice)) s (place + 8 + 6) (place + 8 + size)
  same_parts e =
      let q = fine_found (chunk_list (is_allowed (list.Track voice)) s (place + 8 + 6) (place + 8 + size)) (answer_passed _ (sym is ∙ e)) in
      checked_chunks (is_allowed (list.Track voice)) s (place + 8 + 6) (place + 8 + size) _ (omega arith) q ∙ sym q

  pub parts_fine : r ≡ Ok tt → is_fine (chunks_in s (place + 8 + 6) (place + 8 + size)) ≡ true
  parts_fine e = ap is_fine (same_parts e) ∙ answer_passed _ (sym is ∙ e)

  pub parts_passed : (z : Checked (Unit {0})) → r ≡ Ok tt
      → z ≡ check_answer (after_parts s voice (bare place 0) (found (chunks_in s (place + 8 + 6) (place + 8 + size)))) → z ≡ check_answer (parts_then s voice (bare place size))
  unfolding parts_then
  parts_passed z e h =
      bind_passed (chunk_list (is_allowed (list.Track voice)) s (place + 8 + 6) (place + 8 + size)) r z _ is e
      (h ∙ ap (λ (chunks : List Chunk). check_answer (after_parts s voice (bare place 0) chunks)) (ap found (same_parts e)) ∙ ap check_answer (parts_bare voice s place size _))

pub ruleset listed = (parts_refused, parts_passed)

-- the fixed bytes

module _ (voice : Voice) (s : List ℕ) (place size : ℕ) (r : Checked (Unit {0})) (is : r ≡ check_answer (fixed_holds voice s (bare place size))) where
  pub fixed_refused : (why : Refusal) → r ≡ Err why → Err why ≡ check_answer (track_of s voice (bare place size))
  unfolding track_of
  fixed_refused why e = then_refused _ r (Err why) _ why is e refl

  pub fixed_passed : (z : Checked (Unit {0})) → r ≡ Ok tt → z ≡ check_answer (parts_then s voice (bare place size)) → z ≡ check_answer (track_of s voice (bare place size))
  unfolding track_of parts_then after_parts after_setup
  fixed_passed z e h = then_passed _ r z _ is e h

  pub fixed_room : r ≡ Ok tt → 6 ≤ size
  unfolding fixed_holds check_answer
  fixed_room e =
      by_test (size <? 6)
      (λ h.
      let short : fixed_holds voice s (bare place size) ≡ refused 8 (place + 8) = if_true (size <? 6) _ _ h in
      let q = sym e ∙ is ∙ ap check_answer short in
      let z : ◌≡◌ {A = ℕ} 0 1 = cc in
      absurd (omega arith))
      (λ h. ltb-false size 6 h)

pub ruleset opened = (fixed_refused, fixed_passed, fixed_room)
