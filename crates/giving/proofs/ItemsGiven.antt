-- The items of a body, stored one after the other, two numbers each: the invariant of `fill_items`'s loop, that what is still to be stored makes
-- the whole, what each turn and the end make of it, and what is answered.
use Prim.Native.Nat.{ℕ, ◌+◌, ◌-◌, ◌*◌, ◌/◌, ◌<◌, ◌≤◌}
use mathlib.Core.Path.{◌≡◌, refl, sym, ◌∙◌, ap, ap₂, subst}
use mathlib.Core.Bool.{true, false, false≢true}
use mathlib.Core.List.{List, [], ◌∷◌}
use lib.ListN.{length, take}
use lib.Seq.{sets, length-sets}
use native.Mathlib.Omega.{arith}
use borrow.Author.Tests.{lt-ltb, le-ltb, ne_eqb}
use Rattle.model.specs.Words.{when◌then◌else◌, ◌<?◌, Placed, Checked, passed, ◌>>=◌, ◌>>◌, Step.met, refused}
use Rattle.std.specs.Prelude.{Ok, Err}
use Rattle.model.specs.Item.{Item, Item.timed, Item.end_mark, duration_of, lasting, item_at, item_step, body_of, is_fine, items_of, found, body_answer}
use Rattle.model.specs.Word.{word_of, InWord}
use Rattle.model.specs.Writing.{event_word, mark_word, item_word, items_numbers}
use Rattle.model.specs.Answer.{memory_after, track_named, items_of_track, items_answer, items_table}
use Rattle.model.specs.Track.{Track}
use Rattle.model.specs.declared.Voice.{Voice}
use Rattle.model.specs.declared.Event.{Event}
use Rattle.model.specs.declared.Event.TheVariants.{Nop, Note, Wave, Control, Exclusive}
use Rattle.model.specs.declared.ReadItem.{ReadItem}
use Rattle.model.specs.declared.ReadItem.TheVariants.{Timed, EndMark}
use Rattle.model.specs.declared.WalkedBody.{WalkedBody}
use Rattle.model.specs.declared.Bodies.{Bodies}
use Rattle.model.specs.declared.Refusal.{Refusal}
use Rattle.model.proofs.Tests.{by_test}
use Rattle.model.proofs.Walks.{Stand, stand_first, stand_never_stuck, stand_over}
use Rattle.model.proofs.Stores.{sets_append}
use Rattle.items.proofs.Ahead.{item_goes}
use Rattle.items.proofs.Addresses.{stands_ahead, timed_met, mark_met, refused_stuck, reads_to_items}
use Rattle.items.proofs.Standing.{body_stands}
use Rattle.sections.specs.Taking.{AllBytes, ItemAgrees}
use Rattle.sections.specs.declared.Taken.{Taken}
use Rattle.sections.proofs.InWords.{ItemInWord, item_in_word}
use Rattle.playing.specs.Performing.{bytes_in, Inside}
use Rattle.playing.proofs.Played.{written_front}
use Rattle.giving.specs.Giving.{Names, word_given, items_fitted}
use Rattle.giving.proofs.TrackNamed.{the_track, named_inside, named_small, not_named}

abbrev Items : Type 0
Items = List (Placed (Item Event))

-- THE WORD

event_given_lem : (event : Event) → InWord event → word_given (word_of event) false ≡ event_word event
unfolding word_given word_of event_word when◌then◌else◌
event_given_lem Nop h = refl
event_given_lem (Note channel key gate) h = let some : word_of (Note channel key gate) ≡ 0 → ⊥ = λ e. omega arith in simp ne_eqb
event_given_lem (Wave channel number gate) h = let some : word_of (Wave channel number gate) ≡ 0 → ⊥ = λ e. omega arith in simp ne_eqb
event_given_lem (Control kind channel value) h = let some : word_of (Control kind channel value) ≡ 0 → ⊥ = λ e. omega arith in simp ne_eqb
event_given_lem (Exclusive place size) h = let some : word_of (Exclusive place size) ≡ 0 → ⊥ = λ e. omega arith in simp ne_eqb

mark_given : word_given 0 true ≡ mark_word
unfolding word_given when◌then◌else◌
mark_given = refl

-- THE TABLE

numbers_many : (items : Items) → length (items_numbers items) ≡ 2 * length items
unfolding items_numbers
numbers_many [] = refl
numbers_many (item ∷ items) = omega (arith, numbers_many items)

item_first : (out : List ℕ) (next : ℕ) (item : Placed (Item Event)) (rest : Items)
    → sets (sets out next (duration_of item.what ∷ item_word item.what ∷ [])) (next + 2) (items_numbers rest) ≡ sets out next (items_numbers (item ∷ rest))
unfolding items_numbers
item_first out next item rest = sets_append out next (duration_of item.what ∷ item_word item.what ∷ []) (items_numbers rest)

pub record Giving (voice : Voice) (s : List ℕ) (l out : List ℕ) (at place : ℕ) : Type 0 where
  pub bytes : AllBytes s
  pub small : length s ≤ 65536
  pub rest : List (Placed (Item Event))
  pub stands : Stand (length s) (item_step voice s) at rest
  pub same : length out ≡ length l
  pub room : place + 2 * length rest ≤ length out
  pub whole : sets out place (items_numbers rest) ≡ sets l 0 (items_numbers (items_of voice s))

pub give_starts : (voice : Voice) (s l : List ℕ) → AllBytes s → length s ≤ 65536 → is_fine (body_of voice s) ≡ true → 2 * length (items_of voice s) ≤ length l
    → Giving voice s l l 0 0
give_starts voice s l bytes small ok room =
    record {
      bytes = bytes;
      small = small;
      rest = items_of voice s;
      stands = body_stands voice s (items_of voice s) (reads_to_items voice s ok);
      same = refl;
      room = omega arith;
      whole = refl;
    }

module _ (voice : Voice) (s l out : List ℕ) (at place : ℕ) (g : Giving voice s l out at place) where
  pub give_bytes : AllBytes s
  give_bytes = g.bytes

  pub give_kept : length out ≡ length l
  give_kept = g.same

  pub give_ends : length s ≤ at → out ≡ sets l 0 (items_numbers (items_of voice s))
  unfolding items_numbers
  give_ends past =
      let none_left = stand_over (length s) (item_step voice s) at g.rest g.stands (item_goes voice s at) past in
      ap (λ (items : Items). sets out place (items_numbers items)) (sym none_left) ∙ g.whole

  -- one item further
  record Further (what : Item Event) (after : ℕ) : Type 0 where
    more : List (Placed (Item Event))
    splits : g.rest ≡ record { place = at; what = what } ∷ more
    stand : Stand (length s) (item_step voice s) after more
    nears : length s - after < length s - at

  further : (what : Item Event) (after : ℕ) → at < length s → item_step voice s at ≡ met (record { place = at; what = what }) after → Further what after
  further what after here e =
      let first = stand_first (length s) (item_step voice s) at g.rest g.stands here _ after e in
      record { more = first.0; splits = first.1; stand = first.2; nears = omega (arith, stands_ahead voice s at _ after e) }

  -- an item that is taken as plain numbers
  record Took (taken : Taken) : Type 0 where
    what : Item Event
    on : Further what taken.next
    lasts : taken.duration ≡ duration_of what
    word : word_given taken.word taken.mark ≡ item_word what

  took : (taken : Taken) → at < length s → ItemAgrees taken (item_at voice s at) → Took taken
  unfolding ItemAgrees duration_of item_word
  took taken here agrees = go (item_at voice s at) refl agrees
    where
      go : (j : Checked ReadItem) → item_at voice s at ≡ j → ItemAgrees taken j → Took taken
      go (Ok (Timed duration event after)) e a =
          let there : InWord event = (subst ItemInWord e (item_in_word s g.bytes g.small voice at)).1 in
          let on = further (timed duration event) after here (timed_met voice s at (item_at voice s at) refl duration after event e) in
          subst Took (sym a) (record { what = timed duration event; on = on; lasts = refl; word = event_given_lem event there })
      go (Ok (EndMark after)) e a =
          let on = further end_mark after here (mark_met voice s at (item_at voice s at) refl after e) in
          subst Took (sym a) (record { what = end_mark; on = on; lasts = refl; word = mark_given })
      go (Err why) e a =
          absurd
          (stand_never_stuck (length s) (item_step voice s) at g.rest g.stands here why.number why.place
          (refused_stuck voice s at (item_at voice s at) refl why.number why.place e))

  module _ (taken : Taken) (here : at < length s) (agrees : ItemAgrees taken (item_at voice s at)) where
    one : Took taken
    one = took taken here agrees

    many : length g.rest ≡ 1 + length one.on.more
    many = omega (arith, ap length one.on.splits)

    pub give_nears : length s - taken.next < length s - at
    give_nears = one.on.nears

    pub give_room : place + 2 ≤ length out
    give_room = omega (arith, many, g.room)

    pub give_turns : (word : ℕ) (m : List ℕ) → word ≡ word_given taken.word taken.mark → m ≡ sets out place (taken.duration ∷ word ∷ [])
        → Giving voice s l m taken.next (place + 2)
    give_turns word m w e =
        let item : Placed (Item Event) = record { place = at; what = one.what } in
        let kept : length m ≡ length out = ap length e ∙ length-sets out place (taken.duration ∷ word ∷ []) in
        record {
          bytes = g.bytes;
          small = g.small;
          rest = one.on.more;
          stands = one.on.stand;
          same = kept ∙ g.same;
          room = omega (arith, many, g.room, kept);
          whole =
              ap (λ (x : List ℕ). sets x (place + 2) (items_numbers one.on.more))
              (e ∙ ap₂ (λ (d x : ℕ). sets out place (d ∷ x ∷ [])) one.lasts (w ∙ one.word))
              ∙ item_first out place item one.on.more
              ∙ ap (λ (items : Items). sets out place (items_numbers items)) (sym one.on.splits)
              ∙ g.whole;
        }

pub ruleset gives = (give_starts, give_bytes, give_kept, give_ends, give_nears, give_room, give_turns)

-- HOW MANY

count_whole : (c : Checked Items) (walked : WalkedBody) → body_answer c ≡ Ok walked → walked.count ≡ length (found c)
unfolding body_answer found
count_whole (Ok items) walked e = let same : ◌≡◌ {A = WalkedBody} (record { count = length items; duration = lasting items }) walked = cc in sym (ap (λ (w : WalkedBody). w.count) same)
count_whole (Err why) walked e = let z : ◌≡◌ {A = ℕ} 0 1 = cc in absurd (omega arith)

count_refused : (c : Checked Items) (why : Refusal) → is_fine c ≡ true → body_answer c ≡ Err why → ⊥
unfolding body_answer is_fine
count_refused (Ok items) why ok e = let z : ◌≡◌ {A = ℕ} 0 1 = cc in omega arith
count_refused (Err told) why ok e = false≢true ok

module _ (voice : Voice) (s : List ℕ) (r : Checked WalkedBody) (is : r ≡ body_answer (body_of voice s)) where
  pub counts : (walked : WalkedBody) → r ≡ Ok walked → walked.count ≡ length (items_of voice s)
  unfolding items_of
  counts walked e = count_whole (body_of voice s) walked (sym is ∙ e)

  pub never_counts : (why : Refusal) → is_fine (body_of voice s) ≡ true → r ≡ Err why → 0 ≡ length (items_of voice s)
  never_counts why ok e = absurd (count_refused (body_of voice s) why ok (sym is ∙ e))

pub ruleset counting = (counts, never_counts)

-- WHAT IS ANSWERED, from the items of a body

refused_answer : (o : Checked Items) (why : Refusal) → o ≡ Err why → Err why ≡ items_answer o
unfolding items_answer
refused_answer o why is = ap items_answer (sym is)

refused_table : (o : Checked Items) (why : Refusal) (l : List ℕ) → o ≡ Err why → l ≡ items_table l o
unfolding items_table memory_after
refused_table o why l is = ap (items_table l) (sym is)

same_answer : (one other : Checked Items) (r : Checked ℕ) → one ≡ other → r ≡ items_answer one → r ≡ items_answer other
same_answer one other r same e = e ∙ ap items_answer same

same_table : (one other : Checked Items) (l m : List ℕ) → one ≡ other → m ≡ items_table l one → m ≡ items_table l other
same_table one other l m same e = e ∙ ap (items_table l) same

fitted_not : (room : ℕ) (items : Items) → room / 2 < length items → items_fitted room items ≡ refused 15 0
unfolding items_fitted when◌then◌else◌
fitted_not room items h = simp lt-ltb

fitted_all : (room : ℕ) (items : Items) → length items ≤ room / 2 → items_fitted room items ≡ Ok items
unfolding items_fitted when◌then◌else◌
fitted_all room items h = simp le-ltb

module _ (s : List ℕ) (bodies : Bodies) (inside : Inside s bodies) (sequence : List ℕ) (cut : sequence ≡ bytes_in s bodies.sequence) where
  pub sequence_small : length sequence ≤ 65536
  sequence_small = rw cut inside.ready.small

  pub sequence_reads : is_fine (body_of bodies.voice sequence) ≡ true
  sequence_reads = rw cut inside.ready.reads

module _ (voice : Voice) (sequence other : List ℕ) (cut : sequence ≡ other) (count : ℕ) (many : count ≡ length (items_of voice sequence)) where
  total : count ≡ length (items_of voice other)
  total = many ∙ ap (λ (x : List ℕ). length (items_of voice x)) cut

  pub items_short : (room : ℕ) → room / 2 < count → refused 15 0 ≡ items_answer (items_fitted room (items_of voice other))
  items_short room h = refused_answer _ _ (fitted_not room (items_of voice other) (omega (arith, total)))

  pub items_kept : (l : List ℕ) → length l / 2 < count → l ≡ items_table l (items_fitted (length l) (items_of voice other))
  items_kept l h = refused_table _ _ l (fitted_not (length l) (items_of voice other) (omega (arith, total)))

  pub items_rows : (room : ℕ) → count ≤ room / 2 → Ok count ≡ items_answer (items_fitted room (items_of voice other))
  unfolding items_answer
  items_rows room h = ap (λ (n : ℕ). Ok n) total ∙ ap items_answer (sym (fitted_all room (items_of voice other) (omega (arith, total))))

  pub items_written : (l m : List ℕ) → count ≤ length l / 2 → m ≡ sets l 0 (items_numbers (items_of voice sequence))
      → m ≡ items_table l (items_fitted (length l) (items_of voice other))
  unfolding items_table memory_after
  items_written l m h e =
      e ∙ ap (λ (x : List ℕ). sets l 0 (items_numbers (items_of voice x))) cut
      ∙ written_front l (items_numbers (items_of voice other)) (omega (arith, total, numbers_many (items_of voice other)))
      ∙ ap (items_table l) (sym (fitted_all (length l) (items_of voice other) (omega (arith, total))))

pub ruleset items_given_lem = (sequence_small, sequence_reads, items_short, items_kept, items_rows, items_written)

-- WHAT IS ANSWERED, from the track that a row names

fitted_track : (room : ℕ) (c : Checked Track) (track : Track) → c ≡ Ok track
    → (c >>= λ given. ((when room / 2 <? length given.items then refused 15 0 else passed) >> Ok given.items)) ≡ items_fitted room track.items
unfolding items_fitted ◌>>=◌ ◌>>◌ when◌then◌else◌
fitted_track room c track e = rw e (by_test (room / 2 <? length track.items) (λ h. simp h) (λ h. simp h))

module _ (buffer : List ℕ) (n row : ℕ) (r : Checked Bodies) (told : Names (take n buffer) (track_named buffer n row) r) (room : ℕ) where
  module _ (bodies : Bodies) (e : r ≡ Ok bodies) where
    items_are : items_fitted room (items_of bodies.voice (bytes_in (take n buffer) bodies.sequence)) ≡ items_of_track buffer n row room
    unfolding items_of_track
    items_are =
        let track = the_track buffer n row r told bodies e in
        ap (items_fitted room) (sym track.2.items) ∙ sym (fitted_track room (track_named buffer n row) track.0 track.1)

    pub track_answer : (x : Checked ℕ) → x ≡ items_answer (items_fitted room (items_of bodies.voice (bytes_in (take n buffer) bodies.sequence)))
        → x ≡ items_answer (items_of_track buffer n row room)
    track_answer x = same_answer _ _ x items_are

    pub track_table : (l m : List ℕ) → m ≡ items_table l (items_fitted room (items_of bodies.voice (bytes_in (take n buffer) bodies.sequence)))
        → m ≡ items_table l (items_of_track buffer n row room)
    track_table l m = same_table _ _ l m items_are

  module _ (why : Refusal) (e : r ≡ Err why) where
    no_items : items_of_track buffer n row room ≡ Err why
    unfolding items_of_track ◌>>=◌
    no_items = rw (not_named buffer n row r told why e)

    pub no_answer : Err why ≡ items_answer (items_of_track buffer n row room)
    no_answer = refused_answer _ why no_items

    pub no_table : (l : List ℕ) → l ≡ items_table l (items_of_track buffer n row room)
    no_table l = refused_table _ why l no_items

pub ruleset tracks_given = (named_inside, named_small, track_answer, track_table, no_answer, no_table)
