-- One track checked: its entries beside its items, and then all of it, from the answers that were found part by part.
use Prim.Native.Nat.{ℕ, ◌+◌, ◌*◌}
use mathlib.Core.Bool.{Bool, true, false, not, false≢true}
use mathlib.Core.List.{List, [], ◌∷◌, ◌++◌}
use mathlib.Core.Path.{◌≡◌, refl, sym, ◌∙◌, ap}
use lib.ListN.{length, length-append}
use native.Mathlib.Omega.{arith}
use Rattle.model.specs.Words.{◌and◌, ◌≡?◌, Placed, Checked, passed, ◌>>=◌, ◌>>◌, told_at, all_pass, refused}
use Rattle.model.specs.declared.Refusal.{Refusal}
use Rattle.std.specs.Prelude.{Ok, Err}
use Rattle.model.specs.Bytes.{◌!◌, part, MTR, Mtsq}
use Rattle.model.specs.ChunkBytes.{chunk_bytes}
use Rattle.model.specs.Item.{Item, is_fine, found}
use Rattle.model.specs.Seek.{Entry, Entry.start, Entry.stop, Entry.phrase, Entry.order}
use Rattle.model.specs.Points.{points_hold, is_position, letters_named, letters_hold, order_holds}
use Rattle.model.specs.Track.{point_width, fixed_fits, points_of}
use Rattle.model.specs.Plain.{bytes_of}
use Rattle.model.specs.Content.{Content, handy_phone}
use Rattle.model.specs.Writing.{items_given, items_placed}
use Rattle.model.specs.SeekBytes.{entries_given}
use Rattle.model.specs.Arrangement.{ScoreTrack, has_phrases, seek_chunk, track_bytes}
use Rattle.model.specs.Tables.{fixed_given, track_given}
use Rattle.model.specs.declared.Voice.TheVariants.{Score}
use Rattle.model.proofs.Outcomes.{bind_fine, then_fine}
use Rattle.model.proofs.Parts.{part_length}
use Rattle.model.proofs.Tests.{by_test, if_all, if_true, if_false, flag_on, flag_off}
use Rattle.writing.specs.Parts.{limited, fault_in, size_answer}
use Rattle.writing.proofs.GivenItems.{Numbered, then_numbered}
use Rattle.writing.proofs.Limits.{limited_adds}
use Rattle.entries.specs.Rows.{rows_in, seek_size, entries_in}
use Rattle.entries.specs.Places.{is_place}
use Rattle.entries.specs.Rules.{rules_hold, seek_stage, Tells}
use Rattle.entries.specs.declared.rows.Told.{Told}
use Rattle.entries.proofs.GivenEntries.{given_twelve}
use Rattle.entries.proofs.ChunkOf.{given_chunk_size}
use Rattle.entries.proofs.PlacesAre.{rules_are}
use Rattle.arranging.specs.Stages.{given_of, track_answer}
use Rattle.arranging.proofs.TrackStores.{chunk_long, head_byte}

-- a refusal of the rules has a number
all_numbered : {A : Type 0} (check : A → Checked (Unit {0})) → ((a : A) → Numbered (check a)) → (all : List A) → Numbered (all_pass check all)
unfolding all_pass
all_numbered check each [] = tt
all_numbered check each (a ∷ rest) = then_numbered (check a) _ (each a) (all_numbered check each rest)

letters_numbered : (entries : List (Placed Entry)) (at : ℕ) (letters : List ℕ) → Numbered (letters_named entries at letters)
unfolding letters_named
letters_numbered entries at [] = tt
letters_numbered entries at (letter ∷ letters) = if_all Numbered _ _ _ (λ h. letters_numbered entries (at + 1) letters) (λ h. omega arith)

entry_numbered : (entries : List (Placed Entry)) (at : ℕ) (entry : Entry) → Numbered (letters_hold entries at entry)
unfolding letters_hold
entry_numbered entries at (start value) = tt
entry_numbered entries at (stop value) = tt
entry_numbered entries at (phrase letter from to) = tt
entry_numbered entries at (order letters) = letters_numbered entries (at + 3) letters

points_numbered : (address point : ℕ → Bool) (entries : List (Placed Entry)) → Numbered (points_hold address point entries)
unfolding points_hold
points_numbered address point entries = all_numbered _ (λ entry. if_all Numbered _ _ _ (λ h. tt) (λ h. omega arith)) entries

rules_numbered : (phrases : Bool) (address : ℕ → Bool) (entries : List (Placed Entry)) → Numbered (rules_hold phrases address entries)
unfolding rules_hold order_holds
rules_numbered false address entries = points_numbered address address entries
rules_numbered true address entries =
    then_numbered _ _ (points_numbered address (is_position entries) entries)
    (all_numbered _ (λ entry. entry_numbered entries entry.place entry.what) entries)

-- THE ENTRIES beside the items
module _ (phrases : Bool) (entries items letters : List ℕ) where
  stage_numbered : Numbered (seek_stage phrases entries items letters)
  unfolding seek_stage ◌>>=◌
  stage_numbered = go (entries_given phrases letters entries) refl
    where
      go : (o : Checked (List (Placed Entry))) → entries_given phrases letters entries ≡ o → Numbered (seek_stage phrases entries items letters)
      go (Ok placed) e = rw e (then_numbered _ _ (rules_numbered phrases (is_place items) placed) tt)
      go (Err why) e = rw e (let twelve = given_twelve phrases letters entries why.number why.place e in omega arith)

  stage_given : (placed : List (Placed Entry)) → seek_stage phrases entries items letters ≡ Ok placed → entries_given phrases letters entries ≡ Ok placed
  unfolding seek_stage
  stage_given placed e =
      let b = bind_fine _ _ placed e in
      let t = then_fine _ _ placed b.2 in
      let same : b.0 ≡ placed = let q = t.1 in cc in
      b.1 ∙ ap Ok same

  -- how many bytes the chunk takes of entries that keep the rules
  stage_sized : (placed : List (Placed Entry)) → seek_stage phrases entries items letters ≡ Ok placed
      → seek_size phrases letters (rows_in entries) ≡ length (seek_chunk (point_width phrases) (entries_in placed))
  unfolding is_fine found
  stage_sized placed e =
      let given = stage_given placed e in
      sym (given_chunk_size phrases letters entries (ap is_fine given))
      ∙ ap (λ (o : Checked (List (Placed Entry))). length (seek_chunk (point_width phrases) (entries_in (found o)))) given

pub track_sum : (chunk body seek first whole : ℕ) → seek ≡ limited chunk → first ≡ limited (seek + body) → whole ≡ limited (first + 22) → whole ≡ limited (chunk + body + 22)
track_sum chunk body seek first whole a b c =
    c ∙ ap (λ (n : ℕ). limited (n + 22)) (b ∙ ap (λ (n : ℕ). limited (n + body)) a ∙ limited_adds chunk body) ∙ limited_adds (chunk + body) 22

-- ALL OF A TRACK

-- how many bytes a track takes whose items take so many, from the stage of its entries
module _ (index : ℕ) (phrases : Bool) (body : ℕ) where
  size_behind : Checked (List (Placed Entry)) → Checked ℕ
  size_behind (Ok placed) = Ok (limited (length (seek_chunk (point_width phrases) (entries_in placed)) + body + 22))
  size_behind (Err why) = refused why.number index

fixed_off : (fixed : List ℕ) → is_fine (fixed_given fixed) ≡ false → fixed_given fixed ≡ refused 8 0
unfolding fixed_given is_fine
fixed_off fixed h =
    by_test ((fixed ! 0 ≡? 0) and fixed_fits Score fixed 0)
    (λ t. absurd (false≢true (sym h ∙ ap is_fine (if_true _ _ _ t))))
    (λ t. if_false _ _ _ t)

fixed_on : (fixed : List ℕ) → is_fine (fixed_given fixed) ≡ true → fixed_given fixed ≡ passed
unfolding fixed_given is_fine
fixed_on fixed h =
    by_test ((fixed ! 0 ≡? 0) and fixed_fits Score fixed 0)
    (λ t. if_true _ _ _ t)
    (λ t. absurd (false≢true (sym (ap is_fine (if_false _ _ _ t)) ∙ h)))

items_refused : (o : Checked (List (Item Content))) (why : Refusal) → size_answer o ≡ Err why → o ≡ Err why
unfolding size_answer
items_refused (Ok list) why e = let z : ◌≡◌ {A = ℕ} 0 1 = cc in absurd (omega arith)
items_refused (Err told) why e = let same : told ≡ why = cc in rw same refl

items_fine : (o : Checked (List (Item Content))) (size : ℕ) → size_answer o ≡ Ok size
    → (list : List (Item Content)) × (o ≡ Ok list) × (size ≡ limited (length (bytes_of handy_phone list)))
unfolding size_answer
items_fine (Ok list) size e = (list, refl, cc)
items_fine (Err why) size e = let z : ◌≡◌ {A = ℕ} 0 1 = cc in absurd (omega arith)

module _ (index : ℕ) (head entries items letters source : List ℕ) where
  abbrev phrases : Bool
  phrases = head ! 2 ≡? 1

  phrased : has_phrases (part head 1 6) ≡ phrases
  unfolding has_phrases
  phrased = ap (λ (n : ℕ). n ≡? 1) (head_byte head 1 (omega arith))

  abbrev track : Checked ScoreTrack
  track = track_given (given_of head entries items letters source)

  told : (why : Refusal) → track ≡ Err why → refused why.number index ≡ track_answer (told_at index track)
  unfolding track_answer told_at
  told why e = rw e

  module _ (fixed : Bool) (fits : fixed ≡ is_fine (fixed_given (part head 1 6))) where
    pub track_fixed : not fixed ≡ true → refused 8 index ≡ track_answer (told_at index (track_given (given_of head entries items letters source)))
    unfolding track_given fixed_given ◌>>◌
    track_fixed h = told (record { number = 8; place = 0 }) (rw (off_refused (flag_off fits h)))
      where
        off_refused : is_fine (fixed_given (part head 1 6)) ≡ false → fixed_given (part head 1 6) ≡ refused 8 0
        off_refused = fixed_off (part head 1 6)

    module _ (seven : length head ≡ 7) (on : not fixed ≡ false) (answer : Checked ℕ) (is : answer ≡ size_answer (items_given Score source items)) where
      held : fixed_given (part head 1 6) ≡ passed
      held = fixed_on (part head 1 6) (flag_on fits on)

      pub track_items_refused : (why : Refusal) → answer ≡ Err why
          → refused why.number index ≡ track_answer (told_at index (track_given (given_of head entries items letters source)))
      unfolding track_given ◌>>◌ ◌>>=◌
      track_items_refused why e = told why (rw (held, items_refused (items_given Score source items) why (sym is ∙ e)))

      module _ (list : List (Item Content)) (given : items_given Score source items ≡ Ok list) (size : ℕ) (sized : size ≡ limited (length (bytes_of handy_phone list))) where
        abbrev made : List (Placed Entry) → ScoreTrack
        made placed = record { number = head ! 0; fixed = part head 1 6; entries = entries_in placed; items = list }

        opened : track ≡ (entries_given phrases letters entries >>= λ placed. (points_of phrases (items_placed list) (length (bytes_of handy_phone list)) placed >> Ok (made placed)))
        unfolding track_given ◌>>◌ ◌>>=◌
        opened = rw (held, given, phrased)

        -- how many bytes a track takes
        track_long : (placed : List (Placed Entry))
            → length (track_bytes (made placed)) ≡ length (seek_chunk (point_width phrases) (entries_in placed)) + length (bytes_of handy_phone list) + 22
        unfolding track_bytes
        track_long placed =
            let seek = seek_chunk (point_width phrases) (entries_in placed) in
            let body = chunk_bytes Mtsq (bytes_of handy_phone list) in
            let a = length-append (part head 1 6 ++ seek) body in
            let b = length-append (part head 1 6) seek in
            let six = part_length head 1 6 (omega (arith, seven)) in
            rw phrased
            (chunk_long (MTR * 256 + head ! 0) (part head 1 6 ++ seek ++ body) ∙ omega (arith, a, b, six, chunk_long Mtsq (bytes_of handy_phone list)))

        sums : (chunk : ℕ) → limited (chunk + size + 22) ≡ limited (chunk + length (bytes_of handy_phone list) + 22)
        sums chunk =
            let bytes = length (bytes_of handy_phone list) in
            let there : chunk + size + 22 ≡ limited bytes + (chunk + 22) = omega (arith, sized) in
            let back : bytes + (chunk + 22) ≡ chunk + bytes + 22 = omega arith in
            ap limited there ∙ limited_adds bytes (chunk + 22) ∙ ap limited back

        -- the answer, from what the stage of the entries came to
        behind : (stage : Checked (List (Placed Entry))) → seek_stage phrases entries items letters ≡ stage
            → size_behind index phrases size stage ≡ track_answer (told_at index track)
        unfolding seek_stage size_behind track_answer told_at ◌>>=◌ ◌>>◌
        behind stage e = go (entries_given phrases letters entries) refl
          where
            ruled : (placed : List (Placed Entry)) → entries_given phrases letters entries ≡ Ok placed → (q : Checked (Unit {0})) → rules_hold phrases (is_place items) placed ≡ q
                → size_behind index phrases size stage ≡ track_answer (told_at index track)
            ruled placed f (Err why) q = rw (← e, opened, f, ← rules_are Score source items list given phrases placed, q)
            ruled placed f (Ok u) q =
                rw (← e, opened, f, ← rules_are Score source items list given phrases placed, q)
                (ap (λ (n : ℕ). Ok n) (sums _ ∙ ap limited (sym (track_long placed))))

            go : (o : Checked (List (Placed Entry))) → entries_given phrases letters entries ≡ o → size_behind index phrases size stage ≡ track_answer (told_at index track)
            go (Err why) f = rw (← e, opened, f)
            go (Ok placed) f = ruled placed f (rules_hold phrases (is_place items) placed) refl

      module _ (size : ℕ) (sized : answer ≡ Ok size) (told_entries : Told) (tells : Tells phrases letters entries source items told_entries) where
        these : (list : List (Item Content)) × (items_given Score source items ≡ Ok list) × (size ≡ limited (length (bytes_of handy_phone list)))
        these = items_fine (items_given Score source items) size (sym is ∙ sized)

        fault_is : told_entries.fault ≡ fault_in (seek_stage phrases entries items letters)
        unfolding is_fine
        fault_is = tells.so (ap is_fine these.1)

        whole_is : (stage : Checked (List (Placed Entry))) → seek_stage phrases entries items letters ≡ stage → size_behind index phrases size stage ≡ track_answer (told_at index track)
        whole_is = behind these.0 these.1 size these.2

        pub track_entries_refused : (told_entries.fault ≡ 0 → ⊥)
            → refused told_entries.fault index ≡ track_answer (told_at index (track_given (given_of head entries items letters source)))
        unfolding fault_in size_behind
        track_entries_refused h = go (seek_stage phrases entries items letters) refl
          where
            go : (stage : Checked (List (Placed Entry))) → seek_stage phrases entries items letters ≡ stage
                → refused told_entries.fault index ≡ track_answer (told_at index (track_given (given_of head entries items letters source)))
            go (Ok placed) e = absurd (h (fault_is ∙ ap fault_in e))
            go (Err why) e = ap (λ (n : ℕ). refused n index) (fault_is ∙ ap fault_in e) ∙ whole_is (Err why) e

        pub track_sized : (whole : ℕ) → told_entries.fault ≡ 0 → whole ≡ limited (seek_size (head ! 2 ≡? 1) letters (rows_in entries) + size + 22)
            → Ok whole ≡ track_answer (told_at index (track_given (given_of head entries items letters source)))
        unfolding fault_in size_behind
        track_sized whole h sum = go (seek_stage phrases entries items letters) refl (stage_numbered phrases entries items letters)
          where
            go : (stage : Checked (List (Placed Entry))) → seek_stage phrases entries items letters ≡ stage → Numbered stage
                → Ok whole ≡ track_answer (told_at index (track_given (given_of head entries items letters source)))
            go (Err why) e k = absurd (omega (arith, fault_is ∙ ap fault_in e))
            go (Ok placed) e k =
                ap (λ (n : ℕ). Ok n) (sum ∙ ap (λ (n : ℕ). limited (n + size + 22)) (stage_sized phrases entries items letters placed e)) ∙ whole_is (Ok placed) e

pub ruleset track_checks = (track_fixed, track_items_refused, track_entries_refused, track_sized)
