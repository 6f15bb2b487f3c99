-- The sequence body and the seek body of a track: what their checks answer, and that their refusals are near.
use Prim.Native.Nat.{ℕ, ◌+◌, ◌≤◌}
use mathlib.Core.Path.{◌≡◌, refl, sym, ◌∙◌, ap, subst}
use mathlib.Core.Bool.{Bool, true}
use mathlib.Core.List.{List}
use lib.ListN.{length}
use native.Mathlib.Omega.{arith}
use Rattle.model.specs.Words.{Placed, Checked, ◌>>=◌, ◌>>◌, counted_from, refused}
use Rattle.std.specs.Prelude.{Ok, Err, Option, Some, None}
use Rattle.model.specs.Bytes.{part}
use Rattle.model.specs.Item.{Item, is_fine, found, body_of, body_answer, check_answer}
use Rattle.model.specs.Seek.{Entry, seek_of}
use Rattle.model.specs.Track.{point_width, points_of, seek_in, entries_of}
use Rattle.model.specs.declared.Voice.{Voice}
use Rattle.model.specs.declared.Event.{Event}
use Rattle.model.specs.declared.WalkedBody.{WalkedBody}
use Rattle.model.specs.declared.Refusal.{Refusal}
use Rattle.model.specs.declared.FoundChunk.{FoundChunk}
use Rattle.model.proofs.Parts.{part_within}
use Rattle.tracks.specs.Stages.{bare_of, Inside, Near, moved}
use Rattle.model.proofs.Answers.{answer_passed, bind_passed, bind_refused}
use Rattle.items.proofs.Within.{body_refused_within}
use Rattle.seek.proofs.Within.{form_refused_within, points_refused_within}
use Rattle.tracks.proofs.Answers.{answer_moved, answer_near}

abbrev Items : Type 0
Items = List (Placed (Item Event))

-- the walk of a sequence body

whole_passes : (c : Checked Items) (walked : WalkedBody) → body_answer c ≡ Ok walked → Ok tt ≡ check_answer c
unfolding body_answer check_answer
whole_passes (Ok items) walked e = refl
whole_passes (Err why) walked e = let z : ◌≡◌ {A = ℕ} 0 1 = cc in absurd (omega arith)

refused_answers : (c : Checked Items) (why : Refusal) → body_answer c ≡ Err why → Err why ≡ check_answer c
unfolding body_answer check_answer
refused_answers (Ok items) why e = let z : ◌≡◌ {A = ℕ} 0 1 = cc in absurd (omega arith)
refused_answers (Err w) why e = let same : ◌≡◌ {A = Refusal} why w = cc in ap (λ (x : Refusal). Err x) same

module _ (voice : Voice) (s : List ℕ) (r : Checked WalkedBody) (is : r ≡ body_answer (body_of voice s)) where
  pub items_whole : (walked : WalkedBody) → r ≡ Ok walked → Ok tt ≡ check_answer (body_of voice s)
  items_whole walked e = whole_passes (body_of voice s) walked (sym is ∙ e)

  pub items_refused : (why : Refusal) → r ≡ Err why → Err why ≡ check_answer (body_of voice s)
  items_refused why e = refused_answers (body_of voice s) why (sym is ∙ e)

-- a sequence chunk

module _ (s : List ℕ) (place size : ℕ) (room : place + 8 + size ≤ length s) (small : length s ≤ 65536) where
  sequence_small : (bytes : List ℕ) → bytes ≡ part s (place + 8) size → length bytes ≤ 65536
  sequence_small bytes b = let short = part_within s (place + 8) size in omega (arith, ap length b)

  pub sequence_near : (voice : Voice) (bytes : List ℕ) (r : Checked (Unit {0})) → bytes ≡ part s (place + 8) size → r ≡ check_answer (body_of voice bytes) → Near r
  sequence_near voice bytes r b e =
      answer_near (body_of voice bytes) r (length bytes) e (let short = sequence_small bytes b in omega arith) (body_refused_within voice bytes)

pub sequence_checked : (voice : Voice) (s : List ℕ) (place size : ℕ) (bytes : List ℕ) (r z : Checked (Unit {0})) → bytes ≡ part s (place + 8) size
    → r ≡ check_answer (body_of voice bytes) → z ≡ moved (place + 8) r
    → z ≡ check_answer (counted_from (place + 8) (body_of voice (part s (place + 8) size)))
sequence_checked voice s place size bytes r z b e m =
    m ∙ ap (moved (place + 8)) (e ∙ ap (λ (bs : List ℕ). check_answer (body_of voice bs)) b) ∙ sym (answer_moved (place + 8) _)

pub ruleset sequences = (sequence_near, sequence_checked)

-- a seek body

answer_kept : {A : Type 0} (c : Checked (Unit {0})) (a : A) → check_answer (c >> Ok a) ≡ check_answer c
unfolding check_answer ◌>>◌
answer_kept (Ok u) a = refl
answer_kept (Err why) a = refl

pub form_fine : (phrases : Bool) (s : List ℕ) (r : Checked (Unit {0})) → r ≡ check_answer (seek_of (point_width phrases) s) → r ≡ Ok tt
    → is_fine (seek_of (point_width phrases) s) ≡ true
form_fine phrases s r is e = answer_passed _ (sym is ∙ e)

module _ (phrases : Bool) (items : List (Placed (Item Event))) (size : ℕ) (s : List ℕ) (r : Checked (Unit {0})) (is : r ≡ check_answer (seek_of (point_width phrases) s)) where
  pub form_refused : (why : Refusal) → r ≡ Err why → Err why ≡ check_answer (seek_in phrases items size s)
  unfolding seek_in
  form_refused why e = bind_refused (seek_of (point_width phrases) s) r (Err why) _ why is e refl

  pub form_points : (z : Checked (Unit {0})) → r ≡ Ok tt → z ≡ check_answer (points_of phrases items size (found (seek_of (point_width phrases) s)))
      → z ≡ check_answer (seek_in phrases items size s)
  unfolding seek_in
  form_points z e h = bind_passed (seek_of (point_width phrases) s) r z _ is e (h ∙ sym (answer_kept _ _))

pub ruleset forms = (form_refused, form_fine, form_points)

then_places : {A : Type 0} (c : Checked (Unit {0})) (a : A) (n place : ℕ) → (c >> Ok a) ≡ refused n place → c ≡ refused n place
unfolding ◌>>◌
then_places (Ok u) a n place e = let z : ◌≡◌ {A = ℕ} 0 1 = cc in absurd (omega arith)
then_places (Err why) a n place e = cc

seek_within : (phrases : Bool) (items : Items) (size : ℕ) (s : List ℕ) (n place : ℕ) → seek_in phrases items size s ≡ refused n place
    → place ≤ length s + length s + 3
unfolding seek_in ◌>>=◌ is_fine found
seek_within phrases items size s n place e = go (seek_of (point_width phrases) s) refl e
  where
    go : (c : Checked (List (Placed Entry))) → seek_of (point_width phrases) s ≡ c
        → (c >>= λ entries. points_of phrases items size entries >> Ok entries) ≡ refused n place → place ≤ length s + length s + 3
    go (Ok entries) is q =
        points_refused_within phrases items size s n place (ap is_fine is)
        (ap (points_of phrases items size) (ap found is) ∙ then_places (points_of phrases items size entries) entries n place q)
    go (Err why) is q =
        let same : ◌≡◌ {A = Refusal} why (record { number = n; place = place }) = cc in
        let there = ap (λ (w : Refusal). w.place) same in
        let r = form_refused_within (point_width phrases) s why.number why.place is in
        omega arith

module _ (s : List ℕ) (seek : Option FoundChunk) (chunk : FoundChunk) (at : seek ≡ Some chunk) where
  pub seek_near : (phrases : Bool) (items : List (Placed (Item Event))) (many : ℕ) (bytes : List ℕ) (r : Checked (Unit {0})) → Inside s seek → length s ≤ 65536
      → bytes ≡ part s (chunk.place + 8) chunk.size → r ≡ check_answer (seek_in phrases items many bytes) → Near r
  seek_near phrases items many bytes r inside small b e =
      let short = sequence_small s chunk.place chunk.size (subst (Inside s) at inside) small bytes b in
      answer_near (seek_in phrases items many bytes) r (length bytes + length bytes + 3) e (omega arith) (seek_within phrases items many bytes)

  pub seek_checked : (phrases : Bool) (items : List (Placed (Item Event))) (many : ℕ) (bytes : List ℕ) (r z : Checked (Unit {0})) → bytes ≡ part s (chunk.place + 8) chunk.size
      → r ≡ check_answer (seek_in phrases items many bytes) → z ≡ moved (chunk.place + 8) r → z ≡ check_answer (entries_of phrases items many s (bare_of seek))
  unfolding entries_of
  seek_checked phrases items many bytes r z b e m =
      m ∙ ap (moved (chunk.place + 8)) (e ∙ ap (λ (bs : List ℕ). check_answer (seek_in phrases items many bs)) b)
      ∙ sym (answer_moved (chunk.place + 8) (seek_in phrases items many (part s (chunk.place + 8) chunk.size)))
      ∙ ap (λ (f : Option FoundChunk). check_answer (entries_of phrases items many s (bare_of f))) (sym at)

pub seek_none : (phrases : Bool) (items : List (Placed (Item Event))) (many : ℕ) (s : List ℕ) (seek : Option FoundChunk) (z : Checked (Unit {0})) → seek ≡ None → z ≡ Ok tt
    → z ≡ check_answer (entries_of phrases items many s (bare_of seek))
unfolding entries_of check_answer
seek_none phrases items many s seek z p h = h ∙ ap (λ (f : Option FoundChunk). check_answer (entries_of phrases items many s (bare_of f))) (sym p)

pub ruleset seeks = (seek_near, seek_checked, seek_none)
