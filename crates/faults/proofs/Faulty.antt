-- THE ITEM that a body is refused for: the bytes before its fault's place begin an accepted body, and the bytes with the one at that place begin
-- none, or are three zeros where an item starts.
use Prim.Native.Nat.{ℕ, ◌+◌, ◌<◌, ◌≤◌}
use mathlib.Core.Bool.{true}
use mathlib.Core.List.{List, [], ◌∷◌, ◌++◌, append-nil}
use mathlib.Core.Logic.{◌⊎◌, inl, inr, ⊎_elim, ⊎_map}
use mathlib.Core.Path.{◌≡◌, sym, ◌∙◌, ap, subst}
use lib.ListN.{length, take, length-append}
use lib.Seq.{length-take-le}
use native.Mathlib.Omega.{arith}
use borrow.Author.Tests.{eqb-false}
use Rattle.model.specs.Words.{◌or◌, ◌≡?◌, refused}
use Rattle.std.specs.Prelude.{Ok}
use Rattle.model.specs.Bytes.{◌!◌}
use Rattle.model.specs.Item.{item_at, body_of, is_fine}
use Rattle.model.specs.Beginning.{Beginning, ThreeZeros}
use Rattle.model.specs.declared.Voice.{Voice}
use Rattle.model.specs.declared.ReadItem.TheVariants.{EndMark}
use Rattle.model.proofs.Tests.{by_test, first_true, second_true}
use Rattle.model.proofs.Walks.{same_number, same_place}
use Rattle.items.proofs.Ahead.{ItemAhead, item_ahead}
use Rattle.faults.proofs.Agreement.{Agree, agree_fewer, Continued, continues, each_byte}
use Rattle.faults.proofs.Exact.{Seen.ends, Wrong, Fault}
use Rattle.faults.proofs.Timed.{item_seen, timed_at}
use Rattle.faults.proofs.Items.{zeros_refused, Zeros, zeros_read, ends_read, refused_or_zeros, refused_exact}
use Rattle.faults.proofs.Reached.{Reached, reached_stays, reached_fine, ended_fine, refused_not_fine, Empty, body_told}

module _ (voice : Voice) (s : List ℕ) where
  pub record Faulty (number place : ℕ) : Type 0 where
    pub at : ℕ
    pub reached : Reached voice s at
    pub here : at < length s
    pub ahead : ItemAhead at (length s) (refused number place)
    pub fault : Fault item_seen s (λ t. timed_at voice t at) (λ t. timed_at voice t at) at (refused number place) number place

  pub faulty : (number place : ℕ) → body_of voice s ≡ refused number place → Empty voice s number place ⊎ Faulty number place
  faulty number place e =
      ⊎_map (λ h. h)
      (λ f.
      record {
        at = f.0;
        reached = f.1;
        here = f.2;
        ahead = subst (ItemAhead f.0 (length s)) f.3 (item_ahead voice s f.0);
        fault = refused_exact voice s f.0 f.2 number place f.3;
      })
      (body_told voice s number place e)

  module _ (number place : ℕ) (f : Faulty number place) where
    past : f.at ≤ place
    past = f.fault.past

    reached_in : (count : ℕ) (t : List ℕ) → f.at ≤ count → Agree count s t → Reached voice t f.at
    reached_in count t h a = reached_stays voice s t f.at (agree_fewer f.at count s t h a) f.reached

    -- the bytes before the place begin an accepted body
    pub before_begins : Beginning voice (take place s)
    before_begins =
        let m = f.fault.mended in
        let t = take place s ++ m.rest in
        let c = continues s place f.ahead.2 m.rest in
        let long : place + length m.rest ≡ length t =
        omega (arith, length-append (take place s) m.rest, length-take-le place s f.ahead.2) in
        record {
          rest = m.rest;
          bytes = each_byte m.rest m.bytes;
          accepted = ended_fine voice t f.at (reached_in place t past c.front) (ends_read voice t f.at (length t) (m.reads t c ∙ ap ends long));
        }

    module _ (w : Wrong s (λ t. timed_at voice t f.at) (refused number place) number place) where
      -- what an end mark there, in a body with the same bytes up to that place, says of them
      zeros_at : (t : List ℕ) → Agree (place + 1) s t → Zeros t f.at
          → (number ≡ 23) × (place ≡ f.at + 2) × (s ! f.at ≡ 0) × (s ! (f.at + 1) ≡ 0) × (s ! place ≡ 0)
      zeros_at t a z =
          let told : refused 23 (f.at + 2) ≡ refused number place =
          sym (zeros_refused voice t f.at (omega (arith, z.room)) z.first z.second z.third) ∙ w.stays t a in
          let last : place ≡ f.at + 2 = sym (same_place 23 (f.at + 2) number place told) in (
            sym (same_number 23 (f.at + 2) number place told),
            last,
            sym (a.same f.at (omega arith)) ∙ z.first,
            sym (a.same (f.at + 1) (omega arith)) ∙ z.second,
            sym (a.same place (omega arith)) ∙ ap (λ (k : ℕ). t ! k) last ∙ z.third,
          )

      -- one more zero
      zero_after : List ℕ
      zero_after = take (place + 1) s ++ (0x00 ∷ [])

      zero_continues : Continued s (place + 1) (0x00 ∷ []) zero_after
      unfolding zero_after
      zero_continues = continues s (place + 1) (omega (arith, w.within)) (0x00 ∷ [])

      zero_length : length zero_after ≡ place + 2
      unfolding zero_after
      zero_length = omega (arith, length-append (take (place + 1) s) (0x00 ∷ []), length-take-le (place + 1) s (omega (arith, w.within)))

      zero_refused : item_at voice zero_after f.at ≡ refused number place → Beginning voice (take (place + 1) s) → ⊥
      zero_refused e b =
          let t = take (place + 1) s ++ b.rest in
          let a : Agree (place + 1) s t = (continues s (place + 1) (omega (arith, w.within)) b.rest).front in
          go t a b.accepted (refused_or_zeros voice t f.at number place (w.stays t a))
        where
          go : (t : List ℕ) → Agree (place + 1) s t → is_fine (body_of voice t) ≡ true → (item_at voice t f.at ≡ refused number place) ⊎ Zeros t f.at → ⊥
          go t a reads (inl q) = refused_not_fine voice t f.at (reached_in (place + 1) t (omega (arith, past)) a) (omega (arith, a.room, past)) number place q reads
          go t a reads (inr z) =
              let is = zeros_at t a z in
              let c = zero_continues in
              let n = zero_length in
              let mark : item_at voice zero_after f.at ≡ (Ok (EndMark (f.at + 4))) =
              zeros_read voice zero_after f.at
              (record {
                room = omega arith;
                first = c.front.same f.at (omega arith) ∙ is.2;
                second = c.front.same (f.at + 1) (omega arith) ∙ is.3;
                third = c.front.same (f.at + 2) (omega arith) ∙ ap (λ (k : ℕ). s ! k) (sym is.1) ∙ is.4;
                fourth = c.then_byte (f.at + 3) 0 (omega arith) (omega arith);
              }) in
              let v : ◌≡◌ {A = ℕ} 0 1 = cc in
              omega arith

      module _ (z : Zeros zero_after f.at) where
        start_accepted : ((f.at ≡? 0) or is_fine (body_of voice (take f.at s))) ≡ true
        start_accepted =
            let front = take f.at s in
            let within : f.at ≤ length s = omega (arith, f.here) in
            let long : length front ≡ f.at = length-take-le f.at s within in
            let agreed : Agree f.at s front = subst (Agree f.at s) (append-nil front) (continues s f.at within []).front in
            by_test (f.at ≡? 0) (first_true _ _)
            (λ h.
            let some : 0 < length front = omega (arith, eqb-false f.at 0 h) in
            second_true _ _ h (reached_fine voice front (subst (Reached voice front) (sym long) (reached_in f.at front (omega arith) agreed)) some))

        zeros_except : (number ≡ 23) × ThreeZeros voice s place × Beginning voice (take (place + 1) s)
        unfolding zero_after
        zeros_except =
            let c = zero_continues in
            let is = zeros_at zero_after c.front z in
            let ended : f.at + 4 ≡ length zero_after = omega (arith, zero_length) in (
              is.0,
              record { start = f.at; starts = start_accepted; last = is.1; zeros = (is.2, is.3, is.4) },
              record {
                rest = 0x00 ∷ [];
                bytes = each_byte (0x00 ∷ []) (omega arith);
                accepted =
                    ended_fine voice zero_after f.at (reached_in (place + 1) zero_after (omega (arith, past)) c.front)
                    (ap item_seen (zeros_read voice zero_after f.at z) ∙ ap ends ended);
              },
            )

      -- with that byte no accepted body begins, unless they are three zeros
      pub none_begins : ((number ≡ 23) × ThreeZeros voice s place × Beginning voice (take (place + 1) s)) ⊎ (Beginning voice (take (place + 1) s) → ⊥)
      none_begins =
          ⊎_elim (λ e. inr (zero_refused e)) (λ z. inl (zeros_except z))
          (refused_or_zeros voice zero_after f.at number place (w.stays zero_after zero_continues.front))
