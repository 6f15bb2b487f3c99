-- The table of refusals: a file is refused with a number from 1 to 14 or, for what is wrong with an item, from 20 to 23, and no other; so the
-- numbers of the operations that go on from there (16, 17, 18) say by themselves what is wrong.
use Prim.Native.Nat.{ℕ, suc, ◌+◌, ◌≤◌}
use mathlib.Core.Bool.{Bool, true, false}
use mathlib.Core.List.{List, [], ◌∷◌}
use mathlib.Core.Logic.{◌⊎◌, inl, inr}
use Rattle.std.specs.Prelude.{Option, None, Some, Ok, Err}
use mathlib.Core.Path.{◌≡◌, refl, subst}
use lib.ListN.{length, take}
use native.Mathlib.Omega.{arith}
use Rattle.model.specs.Words.{when◌then◌else◌, Checked, ◌>>=◌, ◌>>◌, passed, counted_from, each, all_pass, Step, Step.met, Step.stuck, walk_to, in_turn, Placed, refused}
use Rattle.model.specs.declared.Read as read
use Rattle.model.specs.Item.{Item, item_at, item_met, item_step, body_of, message_met, setup_step, setup_message_at, setup_of}
use Rattle.model.specs.Chunk.{Chunk, read_chunk, chunk_met, chunk_step, allowed_once, chunk_list}
use Rattle.model.specs.Seek.{Entry, Entry.start, Entry.stop, Entry.phrase, Entry.order, entry_at, followed, entry_met, entry_step, in_order, seek_of}
use Rattle.model.specs.Points.{points_hold, letters_named, letters_hold, order_holds}
use Rattle.model.specs.Track.{score_voice, pcm_voice, voice_of, fixed_holds, required, setup_holds, points_of, seek_in, entries_of, track_of}
use Rattle.model.specs.File.{frame_of, opened, top_of, contents_of, file_of}
use Rattle.model.specs.declared.Voice.{Voice}
use Rattle.model.specs.declared.Event.{Event}
use Rattle.model.specs.declared.ReadItem.{ReadItem}
use Rattle.model.specs.declared.ReadItem.TheVariants.{Timed, EndMark}
use Rattle.model.specs.declared.ReadChunk.{ReadChunk}
use Rattle.model.specs.declared.SeekEntry.{SeekEntry}
use Rattle.model.proofs.Tests.{if_all}
use Rattle.model.proofs.Walks.{refused_tells}
use Rattle.items.proofs.Ahead.{ItemAhead, item_ahead}

-- refused, if at all, with a number of reading
abbrev pub Read : ℕ → Type 0
Read number = ((1 ≤ number) × (number ≤ 14)) ⊎ ((20 ≤ number) × (number ≤ 23))

abbrev Low : {A : Type 0} → Checked A → Type 0
Low (Ok a) = Unit
Low (Err why) = Read why.number

abbrev LowStep : {A : Type 0} → Step A → Type 0
LowStep (met a next) = Unit
LowStep (stuck number place) = Read number

-- ONE CHECK AFTER THE OTHER

low_bind : {A B : Type 0} (c : Checked A) (rest : A → Checked B) → Low c → ((a : A) → Low (rest a)) → Low (c >>= rest)
unfolding ◌>>=◌
low_bind (Ok a) rest l m = m a
low_bind (Err why) rest l m = l

low_then : {A B : Type 0} (c : Checked A) (rest : Checked B) → Low c → Low rest → Low (c >> rest)
unfolding ◌>>◌
low_then (Ok a) rest l m = m
low_then (Err why) rest l m = l

low_counted : {A : Type 0} (base : ℕ) (c : Checked A) → Low c → Low (counted_from base c)
unfolding counted_from
low_counted base (Ok a) l = tt
low_counted base (Err why) l = l

low_test : {A : Type 0} (b : Bool) (number place : ℕ) (rest : Checked A) → Read number → Low rest → Low (when b then refused number place else rest)
low_test b number place rest r l = if_all Low b (refused number place) rest (λ h. r) (λ h. l)

module _ {A : Type 0} where
  low_each : {B : Type 0} (check : A → Checked B) (list : List A) → ((a : A) → Low (check a)) → Low (each check list)
  unfolding each
  low_each check [] l = tt
  low_each check (a ∷ list) l =
      low_bind (check a) _ (l a) (λ b. low_bind (each check list) _ (low_each check list l) (λ found. tt))

  low_all : (check : A → Checked (Unit {0})) (list : List A) → ((a : A) → Low (check a)) → Low (all_pass check list)
  unfolding all_pass
  low_all check [] l = tt
  low_all check (a ∷ list) l = low_then (check a) (all_pass check list) (l a) (low_all check list l)

  low_as_told : (c : Checked A) → ((number place : ℕ) → c ≡ refused number place → Read number) → Low c
  low_as_told (Ok a) told = tt
  low_as_told (Err why) told = told why.number why.place refl

low_list : {A : Type 0} (number end from : ℕ) (step : ℕ → Step A) (check : List A → A → Checked (Unit {0})) → Read number → ((n : ℕ) → LowStep (step n))
    → ((l : List A) (a : A) → Low (check l a)) → Low (in_turn check [] (walk_to number end step from))
unfolding walk_to
low_list number end from step check r s l =
    low_as_told _
    (λ n place e.
    refused_tells number end step check (λ (turns at : ℕ). Unit) (λ (m there : ℕ). Read m) (λ turns at next a before h is q. tt) (λ at h. r)
    (λ turns at m there h here is. subst LowStep is (s at))
    (λ turns at next m there a before h is q. subst Low q (l before a))
    (suc end) from [] n place tt e)

-- 11, 20 TO 23: BODIES

met_low : (at end : ℕ) (r : Checked ReadItem) → ItemAhead at end r → LowStep (item_met at r)
unfolding item_met
met_low at end (Ok (Timed value what next)) a = tt
met_low at end (Ok (EndMark next)) a = tt
met_low at end (Err why) a = inr (omega arith)

item_low : (voice : Voice) (s : List ℕ) (at : ℕ) → LowStep (item_step voice s at)
unfolding item_step
item_low voice s at = met_low at (length s) (item_at voice s at) (item_ahead voice s at)

body_low : (voice : Voice) (s : List ℕ) → Low (body_of voice s)
unfolding body_of
body_low voice s =
    low_test _ 11 0 _ (inl (omega arith))
    (low_list 11 (length s) 0 (item_step voice s) _ (inl (omega arith)) (item_low voice s) (λ before one. tt))

-- 10: SETUPS

message_low : (at : ℕ) (r : Checked (read.Read Event)) → LowStep (message_met at r)
unfolding message_met
message_low at (Ok read) = tt
message_low at (Err why) = inl (omega arith)

setup_low : (s : List ℕ) → Low (setup_of s)
unfolding setup_of setup_step
setup_low s =
    low_test _ 10 0 _ (inl (omega arith))
    (low_list 10 (length s) 0 (setup_step s) _ (inl (omega arith)) (λ at. message_low at (setup_message_at s at)) (λ before one. tt))

-- 4, 9, 6: CHUNK LISTS

chunk_low : (at : ℕ) (r : Option ReadChunk) → LowStep (chunk_met at r)
unfolding chunk_met
chunk_low at (Some read) = tt
chunk_low at None = inl (omega arith)

list_low : (allowed : ℕ → Bool) (s : List ℕ) (from end : ℕ) → Low (chunk_list allowed s from end)
unfolding chunk_list chunk_step allowed_once
list_low allowed s from end =
    low_list 4 end from (chunk_step s end) (allowed_once allowed) (inl (omega arith)) (λ at. chunk_low at (read_chunk s end at))
    (λ before one. low_test _ 9 _ _ (inl (omega arith)) (low_test _ 6 _ passed (inl (omega arith)) tt))

-- 12, 13, 14: SEEK BODIES

followed_low : (s : List ℕ) (at next : ℕ) (one : Entry) → LowStep (followed s at next one)
unfolding followed
followed_low s at next one = if_all LowStep _ _ _ (λ h. tt) (λ h. if_all LowStep _ _ _ (λ k. tt) (λ k. inl (omega arith)))

entry_low : (s : List ℕ) (at : ℕ) (r : Option (read.Read SeekEntry)) → LowStep (entry_met s at r)
unfolding entry_met
entry_low s at (Some one) = followed_low s at one.next _
entry_low s at None = inl (omega arith)

form_low : (width : ℕ) (s : List ℕ) → Low (seek_of width s)
unfolding seek_of entry_step in_order
form_low width s =
    low_test _ 12 0 _ (inl (omega arith))
    (low_list 12 (length s) 0 (entry_step width s) in_order (inl (omega arith)) (λ at. entry_low s at (entry_at width s at))
    (λ before one. low_test _ 12 _ _ (inl (omega arith)) (low_test _ 12 _ passed (inl (omega arith)) tt)))

holds_low : (address point : ℕ → Bool) (entries : List (Placed Entry)) → Low (points_hold address point entries)
unfolding points_hold
holds_low address point entries = low_all _ entries (λ one. if_all Low _ _ _ (λ h. tt) (λ h. inl (omega arith)))

named_low : (entries : List (Placed Entry)) (at : ℕ) (letters : List ℕ) → Low (letters_named entries at letters)
unfolding letters_named
named_low entries at [] = tt
named_low entries at (letter ∷ letters) = if_all Low _ _ _ (λ h. named_low entries (at + 1) letters) (λ h. inl (omega arith))

letters_low : (entries : List (Placed Entry)) (at : ℕ) (one : Entry) → Low (letters_hold entries at one)
unfolding letters_hold
letters_low entries at (start value) = tt
letters_low entries at (stop value) = tt
letters_low entries at (phrase letter from to) = tt
letters_low entries at (order letters) = named_low entries (at + 3) letters

order_low : (entries : List (Placed Entry)) → Low (order_holds entries)
unfolding order_holds
order_low entries = low_all _ entries (λ one. letters_low entries one.place one.what)

points_low : (phrases : Bool) (items : List (Placed (Item Event))) (size : ℕ) (entries : List (Placed Entry)) → Low (points_of phrases items size entries)
unfolding points_of
points_low true items size entries = low_then _ _ (holds_low _ _ entries) (order_low entries)
points_low false items size entries = holds_low _ _ entries

seek_low : (phrases : Bool) (items : List (Placed (Item Event))) (size : ℕ) (s : List ℕ) (o : Option Chunk) → Low (entries_of phrases items size s o)
unfolding entries_of seek_in
seek_low phrases items size s None = tt
seek_low phrases items size s (Some one) =
    low_counted _ _ (low_bind _ _ (form_low _ _) (λ entries. low_then _ _ (points_low phrases items size entries) tt))

-- 8 TO 14, 20 TO 23: TRACKS

required_low : (header : ℕ) (o : Option Chunk) → Low (required header o)
unfolding required
required_low header None = inl (omega arith)
required_low header (Some one) = tt

setups_low : (s : List ℕ) (o : Option Chunk) → Low (setup_holds s o)
unfolding setup_holds
setups_low s None = tt
setups_low s (Some one) = low_then _ _ (low_counted _ _ (setup_low _)) tt

fixed_low : (voice : Voice) (s : List ℕ) (one : Chunk) → Low (fixed_holds voice s one)
unfolding fixed_holds
fixed_low voice s one =
    low_test _ 8 _ _ (inl (omega arith)) (if_all Low _ _ _ (λ h. tt) (λ h. inl (omega arith)))

track_low : (s : List ℕ) (voice : Voice) (one : Chunk) → Low (track_of s voice one)
unfolding track_of
track_low s voice one =
    low_then _ _ (fixed_low voice s one)
    (low_bind _ _ (list_low _ s _ _)
    (λ parts. low_bind _ _ (required_low _ _)
    (λ sequence. low_then _ _ (if_all Low _ _ _ (λ h. tt) (λ h. inl (omega arith)))
    (low_then _ _ (setups_low s _)
    (low_bind _ _ (low_counted _ _ (body_low voice _))
    (λ items. low_bind _ _ (seek_low _ items _ s _) (λ entries. tt)))))))

-- ALL OF THEM: FILES

voice_low : (s : List ℕ) (one : Chunk) → Low (voice_of s one)
unfolding voice_of score_voice pcm_voice
voice_low s one =
    if_all Low _ _ _ (λ h. low_test _ 8 _ _ (inl (omega arith)) (if_all Low _ _ _ (λ k. tt) (λ k. tt)))
    (λ h. if_all Low _ _ _ (λ k. low_test _ 8 _ _ (inl (omega arith)) tt) (λ k. tt))

opened_low : (s : List ℕ) (one : Chunk) (voice : Option Voice) → Low (opened s one voice)
unfolding opened
opened_low s one None = tt
opened_low s one (Some voice) = low_bind _ _ (track_low s voice one) (λ track. tt)

top_low : (s : List ℕ) (one : Chunk) → Low (top_of s one)
unfolding top_of
top_low s one = low_bind _ _ (voice_low s one) (λ voice. opened_low s one voice)

frame_low : (s : List ℕ) → Low (frame_of s)
unfolding frame_of
frame_low s =
    low_then _ _ (low_test _ 2 0 passed (inl (omega arith)) tt)
    (low_then _ _ (if_all Low _ _ _ (λ h. tt) (λ h. inl (omega arith)))
    (low_bind _ _ (list_low _ s _ _)
    (λ chunks. low_then _ _ (if_all Low _ _ _ (λ h. tt) (λ h. inl (omega arith))) (low_then _ _ (if_all Low _ _ _ (λ h. tt) (λ h. inl (omega arith))) tt))))

contents_low : (s : List ℕ) → Low (contents_of s)
unfolding contents_of
contents_low s = low_bind _ _ (frame_low s) (λ chunks. low_bind _ _ (low_each (top_of s) chunks (top_low s)) (λ tops. tt))

pub file_refused : (buffer : List ℕ) (n number place : ℕ) → file_of buffer n ≡ refused number place → Read number
unfolding file_of
file_refused buffer n number place e = subst Low e (low_then _ _ (low_test _ 1 0 passed (inl (omega arith)) tt) (contents_low (take n buffer)))
