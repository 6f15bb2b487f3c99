-- The walk to an address, or through the first end mark from a place on: the invariant of `walk_to`'s loop, and what each way out of it and each
-- turn makes of it.
use Prim.Native.Nat.{ℕ, ◌+◌, ◌-◌, ◌*◌, ◌<◌, ◌≤◌}
use mathlib.Core.Bool.{Bool, true, false, false≢true}
use mathlib.Core.List.{List, [], ◌∷◌, ◌++◌}
use mathlib.Core.Path.{◌≡◌, refl, sym, ◌∙◌, ap, subst}
use lib.ListN.{length}
use native.Mathlib.Nat.{zero-add}
use native.Mathlib.Decide.{dec_lt}
use native.Mathlib.Omega.{arith}
use borrow.Author.Tests.{lt-ltb, ltb-true, eq-eqb, ne_eqb, eqb-true, eqb-false}
use Rattle.model.specs.Words.{when◌then◌else◌, ◌and◌, ◌or◌, ◌<?◌, ◌≤?◌, ◌≡?◌, any, keep, through, Placed, Step.met, Step.stuck, Checked}
use Rattle.model.specs.Item.{Item, Item.timed, Item.end_mark, duration_of, is_mark, item_at, item_step, body_of, is_fine, items_of}
use Rattle.model.specs.Play.{At, with_message}
use Rattle.model.specs.Points.{is_address}
use Rattle.model.specs.Word.{is_message, word_of, InWord}
use Rattle.model.specs.declared.Voice.{Voice}
use Rattle.model.specs.declared.Event.{Event}
use Rattle.std.specs.Prelude.{Ok, Err}
use Rattle.model.specs.declared.ReadItem.{ReadItem}
use Rattle.model.specs.declared.ReadItem.TheVariants.{Timed, EndMark}
use Rattle.model.specs.declared.Reached.{Reached}
use Rattle.model.proofs.Tests.{by_test}
use Rattle.model.proofs.Picking.{any_append, through_none, through_append, through_here}
use Rattle.items.proofs.Addresses.{placed_at, stands_ahead, one_there, timed_met, mark_met, refused_stuck, none_there, passed_by_lem}
use Rattle.sections.specs.Spans.{Items, mark_from}
use Rattle.sections.specs.Reaching.{items_to, reached_of, heard_by, passed_by, Walked, Arrived}
use Rattle.sections.specs.Taking.{AllBytes, ItemAgrees}
use Rattle.sections.specs.declared.Taken.{Taken}
use Rattle.sections.proofs.InWords.{ItemInWord, item_in_word}
use Rattle.sections.proofs.Places.{stands_within}
use Rattle.sections.proofs.Taking.{word_none, word_some}
use Rattle.sections.proofs.Marks.{not_from}
use Rattle.sections.proofs.Walking.{Walking, split_later, walking_starts, walking_is, behind_next, walking_on}

-- how many messages an event is, and an item
abbrev messages_in : Event → ℕ
messages_in event = when is_message event then 1 else 0

unfoldable pub heard_in : Item Event → ℕ
heard_in (timed duration event) = messages_in event
heard_in end_mark = 0

pub heard_one : (what : Item Event) → heard_in what ≤ 1
unfolding heard_in when◌then◌else◌
heard_one (timed duration event) = by_test (is_message event) (λ t. simp t (omega arith)) (λ t. simp t (omega arith))
heard_one end_mark = omega arith

pub says : (what : Item Event) (onset : ℕ) (l : List (At Event)) → length (with_message is_message onset what l) ≡ heard_in what + length l
unfolding heard_in with_message when◌then◌else◌
says (timed duration event) onset l = by_test (is_message event) (λ t. simp t (omega arith)) (λ t. simp t (omega arith))
says end_mark onset l = sym (zero-add (length l))

-- and as its word tells
word_heard : (event : Event) → InWord event → heard_by (word_of event) ≡ messages_in event
unfolding heard_by when◌then◌else◌
word_heard event fits =
    by_test (word_of event ≡? 0)
    (λ t. simp (t, word_none event fits (eqb-true (word_of event) 0 t)))
    (λ t. simp (t, word_some event (eqb-false (word_of event) 0 t)))

-- one item further, as it is counted
module _ (r : Reached) (duration word heard next : ℕ) (told : heard ≡ heard_by word) where
  pub passed_still : duration ≡ 0
      → record { at = next; time = r.time; messages = r.messages + heard; first = r.first; past = r.past; passed = r.passed }
      ≡ passed_by r duration (heard_by word) next
  unfolding passed_by when◌then◌else◌
  passed_still none-taken = rw told (simp eq-eqb)

  pub passed_on : (duration ≡ 0 → ⊥)
      → record { at = next; time = r.time + duration; messages = r.messages + heard; first = r.at; past = r.time; passed = r.messages }
      ≡ passed_by r duration (heard_by word) next
  unfolding passed_by when◌then◌else◌
  passed_on some-taken = rw told (simp ne_eqb)

pub ruleset passing = (passed_still, passed_on)

passed_at : (r : Reached) (duration heard next : ℕ) → (passed_by r duration heard next).at ≡ next
unfolding passed_by when◌then◌else◌
passed_at r duration heard next = by_test (duration ≡? 0) (λ t. simp t) (λ t. simp t)

passed_time : (r : Reached) (duration heard next : ℕ) → (passed_by r duration heard next).time ≤ r.time + duration
unfolding passed_by when◌then◌else◌
passed_time r duration heard next = by_test (duration ≡? 0) (λ t. simp t (omega arith)) (λ t. simp t (omega arith))

module _ (voice : Voice) (s : List ℕ) where
  abbrev all : Items
  all = items_of voice s

  module _ (r : Reached) (item : Placed (Item Event)) (rest : Items) (w : Walking voice s r (item ∷ rest)) where
    on : Walking voice s (passed_by r (duration_of item.what) (heard_in item.what) w.stands.0) rest
    on = walking_on voice s r item rest w (duration_of item.what) (heard_in item.what) refl (heard_one item.what) (says item.what)

    -- an address past an item is not within it
    near_next : (address : ℕ) → r.at < address → is_address all (length s) address ≡ true → w.stands.0 ≤ address
    near_next address h is =
        let next = w.stands.0 in
        let st = w.stands.2 in
        let here = placed_at voice s r.at item next w.stands.1 in
        elim (dec_lt address next) [
          | yes q ↦ absurd (false≢true (
              sym (none_there voice s address next rest st q (stands_within voice s next rest st))
              ∙ sym (passed_by_lem item rest address (length s) (omega arith))
              ∙ w.theres address (omega arith)
              ∙ is))
          | no q ↦ omega arith
        ]

  -- an address is reached
  abbrev pub Reaches : ℕ → Type 0
  Reaches address = (r : Reached) × (rest : Items) × Walking voice s r rest × (r.at ≡ address)

  pub reach : (rest : Items) (r : Reached) → Walking voice s r rest → (address : ℕ) → r.at ≤ address
      → is_address all (length s) address ≡ true → Reaches address
  unfolding any ◌or◌
  reach [] r w address h is = (r, [], w, w.stands ∙ eqb-true (length s) address (w.theres address h ∙ is))
  reach (item ∷ rest) r w address h is =
      let next = w.stands.0 in
      elim (dec_lt r.at address) [
        | yes q ↦
            let at = passed_at r (duration_of item.what) (heard_in item.what) next in
            let near = near_next r item rest w address q is in
            reach rest (passed_by r (duration_of item.what) (heard_in item.what) next) (on r item rest w) address (omega arith) is
        | no q ↦ (r, item ∷ rest, w, omega arith)
      ]

  pub record Nearing (start marks address : ℕ) (r : Reached) : Type 0 where
    pub bytes : AllBytes s
    pub body : length s ≤ 65536
    pub rest : Items
    pub walking : Walking voice s r rest
    pub from : start ≤ r.at
    pub near : r.at ≤ address
    pub small : r.time ≤ 4294967296 * r.at
    pub clear : any (mark_from marks) (items_to r.at (items_of voice s)) ≡ false

  pub none_from : (marks at : ℕ) (items : Items) → at ≤ marks → any (mark_from marks) (items_to at items) ≡ false
  unfolding any keep ◌or◌ when◌then◌else◌
  none_from marks at [] h = refl
  none_from marks at (item ∷ items) h =
      by_test (item.place <? at)
      (λ t.
      let before : item.place < marks = omega (arith, ltb-true item.place at t) in
      simp (t, not_from marks item before) (none_from marks at items h))
      (λ t. simp t (none_from marks at items h))

  -- a walk that has reached an address
  walked_walking : is_fine (body_of voice s) ≡ true → (r : Reached) → Walked all (length s) r → (rest : Items) × Walking voice s r rest
  walked_walking fine r walked =
      let q = reach all _ (walking_starts voice s fine) r.at (omega arith) walked.address in
      let same : q.0 ≡ r = walking_is voice s q.0 q.1 q.2 ∙ ap (reached_of all (length s)) q.3 ∙ sym walked.is in
      (q.1, subst (λ (x : Reached). Walking voice s x q.1) same q.2)

  pub walked_begun : is_fine (body_of voice s) ≡ true → (r : Reached) → Walked all (length s) r → r.first ≤ r.at
  walked_begun fine r walked = (walked_walking fine r walked).1.begun

  pub near_starts : (marks address : ℕ) (r : Reached) → AllBytes s → length s ≤ 65536 → is_fine (body_of voice s) ≡ true → Walked all (length s) r
      → r.at ≤ marks → r.at ≤ address → Nearing r.at marks address r
  near_starts marks address r bytes body fine walked early h =
      let w = walked_walking fine r walked in
      record {
        bytes = bytes;
        body = body;
        rest = w.0;
        walking = w.1;
        from = omega arith;
        near = h;
        small = walked.small;
        clear = none_from marks r.at all early;
      }

  -- what a walk has reached is an address
  walking_there : (r : Reached) (rest : Items) → Walking voice s r rest → r.time ≤ 4294967296 * r.at → Walked all (length s) r
  walking_there r rest w small =
      record {
        is = walking_is voice s r rest w;
        address = sym (w.theres r.at (omega arith)) ∙ one_there voice s r.at rest w.stands;
        small = small;
      }

  module _ (start marks address : ℕ) (r : Reached) (n : Nearing start marks address r) where
    pub near_after : start ≤ r.at
    near_after = n.from

    near_ends : r.at ≡ address → Arrived all (length s) marks address r
    near_ends e =
        let none_met : any (mark_from marks) (items_to address all) ≡ false = ap (λ (n : ℕ). any (mark_from marks) (items_to n all)) (sym e) ∙ n.clear in
        record {
          walked = walking_there r n.rest n.walking n.small;
          near = n.near;
          behind = ap (λ (n : ℕ). items_to n all) e ∙ sym (through_none (mark_from marks) (items_to address all) none_met);
          whole = λ h. e;
        }

    pub near_there : address ≤ r.at → Arrived all (length s) marks address r
    near_there h = near_ends (omega (arith, n.near))

    within : r.at ≤ 65536
    within = omega (arith, stands_within voice s r.at n.rest n.walking.stands, n.body)

    module _ (before : r.at < address) (is : is_address all (length s) address ≡ true) where
      -- an item stands at the place
      abbrev First : Type 0
      First = (item : Placed (Item Event)) × (rest : Items) × Walking voice s r (item ∷ rest)

      first : First
      unfolding any ◌or◌
      first = go n.rest n.walking
        where
          go : (items : Items) → Walking voice s r items → First
          go [] w =
              let over : length s ≡ address = eqb-true (length s) address (w.theres address (omega arith) ∙ is) in
              absurd (omega (arith, w.stands))
          go (item ∷ rest) w = (item, rest, w)

      -- one item further
      record Further (what : Item Event) (z : Reached) : Type 0 where
        rest : Items
        walking : Walking voice s z rest
        near : z.at ≤ address
        small : z.time ≤ 4294967296 * z.at
        less : length s - z.at < length s - r.at
        after : r.at ≤ z.at
        behind : items_to z.at all ≡ items_to r.at all ++ (record { place = r.at; what = what } ∷ [])
        ahead : items_to address all ≡ items_to r.at all ++ (record { place = r.at; what = what } ∷ items_to address rest)

      further : (what : Item Event) (next : ℕ) (z : Reached) → item_step voice s r.at ≡ met (record { place = r.at; what = what }) next
          → duration_of what < 4294967296 → z ≡ passed_by r (duration_of what) (heard_in what) next → Further what z
      unfolding keep when◌then◌else◌
      further what next z e small q =
          let item = first.0 in
          let w = first.2 in
          let both : met item w.stands.0 ≡ met (record { place = r.at; what = what }) next = sym w.stands.1 ∙ e in
          let same : item ≡ record { place = r.at; what = what } = cc in
          let there : w.stands.0 ≡ next = cc in
          let told : item.what ≡ what = ap (λ (x : Placed (Item Event)). x.what) same in
          let moved : passed_by r (duration_of item.what) (heard_in item.what) w.stands.0 ≡ z = rw (told, there) (sym q) in
          let a = stands_ahead voice s r.at (record { place = r.at; what = what }) next e in
          let at : z.at ≡ next = ap (λ (x : Reached). x.at) q ∙ passed_at r (duration_of what) (heard_in what) next in
          let time : z.time ≤ r.time + duration_of what =
          subst (λ (x : Reached). x.time ≤ r.time + duration_of what) (sym q) (passed_time r (duration_of what) (heard_in what) next) in
          record {
            rest = first.1;
            walking = subst (λ (x : Reached). Walking voice s x first.1) moved (on r item first.1 w);
            near = omega (arith, near_next r item first.1 w address before is);
            small = omega (arith, n.small);
            less = omega arith;
            after = omega arith;
            behind =
                ap (λ (n : ℕ). items_to n all) (at ∙ sym there)
                ∙ behind_next voice s r item first.1 w (duration_of item.what) (heard_in item.what) refl (heard_one item.what) (says item.what)
                ∙ ap (λ (x : Placed (Item Event)). items_to r.at all ++ (x ∷ [])) same;
            ahead =
                split_later r.at address all (item ∷ first.1) (omega arith) w.split
                ∙ ap (λ (x : Placed (Item Event)). items_to r.at all ++ items_to address (x ∷ first.1)) same
                ∙ simp lt-ltb;
          }

      -- past an item that is no mark from the place on
      unmarked : (what : Item Event) (z : Reached) → Further what z → mark_from marks (record { place = r.at; what = what }) ≡ false
          → Nearing start marks address z × (length s - z.at < length s - r.at)
      unfolding any ◌or◌
      unmarked what z f off = (
        record {
          bytes = n.bytes;
          body = n.body;
          rest = f.rest;
          walking = f.walking;
          from = omega (arith, n.from, f.after);
          near = f.near;
          small = f.small;
          clear = ap (any (mark_from marks)) f.behind ∙ any_append (mark_from marks) (items_to r.at all) _ n.clear ∙ simp off;
        },
        f.less,
      )

      -- through one that is
      marked : (what : Item Event) (z : Reached) → Further what z → mark_from marks (record { place = r.at; what = what }) ≡ true
          → Arrived all (length s) marks address z × (start ≤ z.at)
      unfolding any ◌or◌
      marked what z f here =
          let mark : Placed (Item Event) = record { place = r.at; what = what } in
          let met_one : any (mark_from marks) (items_to address all) ≡ true =
          ap (any (mark_from marks)) f.ahead ∙ any_append (mark_from marks) (items_to r.at all) _ n.clear ∙ simp here in (
            record {
              walked = walking_there z f.rest f.walking f.small;
              near = f.near;
              behind =
                  f.behind
                  ∙ sym (ap (through (mark_from marks)) f.ahead
                  ∙ through_append (mark_from marks) (items_to r.at all) _ n.clear
                  ∙ ap (λ (l : Items). items_to r.at all ++ l) (through_here (mark_from marks) mark (items_to address f.rest) here));
              whole = λ h. absurd (false≢true (sym h ∙ met_one));
            },
            omega (arith, n.from, f.after),
          )

      -- nothing runs out before an address
      module _ (over : length s ≤ r.at) where
        never : ⊥
        never = let a = stands_ahead voice s r.at first.0 first.2.stands.0 first.2.stands.1 in omega arith

        pub near_over : Arrived all (length s) marks address r
        near_over = absurd never

      -- an item that is taken as plain numbers
      module _ (taken : Taken) (agrees : ItemAgrees taken (item_at voice s r.at)) (z : Reached)
          (q : z ≡ passed_by r taken.duration (heard_by taken.word) taken.next) where
        took : (what : Item Event) × Further what z × (is_mark what ≡ taken.mark)
        unfolding duration_of heard_in heard_by is_mark ItemAgrees when◌then◌else◌
        took = go (item_at voice s r.at) refl agrees (item_in_word s n.bytes n.body voice r.at)
          where
            go : (j : Checked ReadItem) → item_at voice s r.at ≡ j → ItemAgrees taken j → ItemInWord j → (what : Item Event) × Further what z × (is_mark what ≡ taken.mark)
            go (Ok (Timed duration event next)) e a fits = (
              timed duration event,
              further (timed duration event) next z (timed_met voice s r.at _ refl duration next event e) (omega (arith, fits.0))
                  (q ∙ ap (λ (t : Taken). passed_by r t.duration (heard_by t.word) t.next) a
                  ∙ ap (λ (heard : ℕ). passed_by r duration heard next) (word_heard event fits.1)),
              ap (λ (t : Taken). t.mark) (sym a),
            )
            go (Ok (EndMark next)) e a fits = (
              end_mark,
              further end_mark next z (mark_met voice s r.at _ refl next e) (omega arith)
                  (q ∙ ap (λ (t : Taken). passed_by r t.duration (heard_by t.word) t.next) a),
              ap (λ (t : Taken). t.mark) (sym a),
            )
            go (Err why) e a fits =
                let both : met first.0 first.2.stands.0 ≡ stuck why.number why.place = sym first.2.stands.1 ∙ refused_stuck voice s r.at _ refl why.number why.place e in
                let zero : ◌≡◌ {A = ℕ} 0 1 = cc in
                absurd (omega arith)

        mark_told : mark_from marks (record { place = r.at; what = took.0 }) ≡ (taken.mark and (marks ≤? r.at))
        unfolding mark_from
        mark_told = ap (λ (b : Bool). b and (marks ≤? r.at)) took.2

        module _ (flag : Bool) (so : flag ≡ (taken.mark and (marks ≤? r.at))) where
          goes_on : flag ≡ false → Nearing start marks address z × (length s - z.at < length s - r.at)
          goes_on off = unmarked took.0 z took.1 (mark_told ∙ sym so ∙ off)

          ends : flag ≡ true → Arrived all (length s) marks address z × (start ≤ z.at)
          ends here = marked took.0 z took.1 (mark_told ∙ sym so ∙ here)

          pub near_on : flag ≡ false → Nearing start marks address z
          near_on off = (goes_on off).0

          pub on_nears : flag ≡ false → length s - z.at < length s - r.at
          on_nears off = (goes_on off).1

          pub mark_arrives : flag ≡ true → Arrived all (length s) marks address z
          mark_arrives here = (ends here).0

          pub mark_after : flag ≡ true → start ≤ z.at
          mark_after here = (ends here).1

pub ruleset nearing =
    (near_after, near_there, near_over, near_on, on_nears, mark_arrives, mark_after)
