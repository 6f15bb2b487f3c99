-- A cursor over given items: the front, what each way out of `advance`'s loop and each turn makes of it, and the invariant of `reach`'s loop.
use Prim.Native.Nat.{ℕ, zero, suc, ◌+◌, ◌-◌, ◌*◌, ◌/◌, ◌<◌, ◌≤◌}
use mathlib.Core.List.{List}
use mathlib.Core.Bool.{Bool, true, false}
use mathlib.Core.Path.{◌≡◌, refl, sym, ◌∙◌, ap}
use mir.Syntax.{w32}
use mir.Val.{Fits}
use lib.ListN.{length, drop}
use lib.Seq.{get_or-drop, drop-drop}
use native.Mathlib.Nat.{sub-zero}
use native.Mathlib.Decide.{dec_lt}
use native.Mathlib.Omega.{arith}
use borrow.Author.Tests.{eq-eqb, ne_eqb}
use Rattle.model.specs.Words.{◌or◌, ◌≡?◌}
use Rattle.model.specs.Bytes.{◌!◌}
use Rattle.model.specs.Writing.{item_given}
use Rattle.model.specs.declared.Voice.TheVariants.{Score}
use Rattle.writing.specs.Parts.{given_size, given_bytes}
use Rattle.writing.proofs.Checking.{length_sized, checked_none, checked_next, checked_on}
use Rattle.entries.specs.declared.address.Cursor.{Cursor}
use Rattle.entries.specs.Places.{is_start, is_place, Stands, Front, Came}

-- STARTS

starts_here : (count place : ℕ) (numbers : List ℕ) (address : ℕ) → place ≡ address → is_start place count numbers address ≡ true
unfolding is_start ◌or◌
starts_here zero place numbers address e = eq-eqb place address e
starts_here (suc count) place numbers address e = rw (eq-eqb place address e) refl

starts_past : (count place : ℕ) (numbers : List ℕ) (address : ℕ) → address < place → is_start place count numbers address ≡ false
unfolding is_start ◌or◌
starts_past zero place numbers address h = ne_eqb place address (λ e. omega arith)
starts_past (suc count) place numbers address h =
    rw (ne_eqb place address (λ e. omega arith)) (starts_past count (place + given_size (numbers ! 0) (numbers ! 1)) (drop 2 numbers) address (omega arith))

module _ (numbers : List ℕ) (count index : ℕ) where
  abbrev starts : ℕ → ℕ → Bool
  starts place address = is_start place (count - index) (drop (2 * index) numbers) address

  abbrev after : ℕ → ℕ → Bool
  after place address = is_start place (count - (index + 1)) (drop (2 * (index + 1)) numbers) address

  abbrev size : ℕ
  size = given_size (numbers ! (2 * index)) (numbers ! (2 * index + 1))

  module _ (here : index < count) (place address : ℕ) where
    first_start : starts place address ≡ ((place ≡? address) or after (place + size) address)
    unfolding is_start
    first_start =
        let more : count - index ≡ suc (count - (index + 1)) = omega arith in
        let at : 2 * index + 0 ≡ 2 * index = omega arith in
        let one : drop (2 * index) numbers ! 0 ≡ numbers ! (2 * index) = get_or-drop (2 * index) numbers 0 0 ∙ ap (λ (n : ℕ). numbers ! n) at in
        let two : drop (2 * index) numbers ! 1 ≡ numbers ! (2 * index + 1) = get_or-drop (2 * index) numbers 1 0 in
        let further : 2 * index + 2 ≡ 2 * (index + 1) = omega arith in
        let on : drop 2 (drop (2 * index) numbers) ≡ drop (2 * (index + 1)) numbers = drop-drop 2 (2 * index) numbers ∙ ap (λ (n : ℕ). drop n numbers) further in
        rw (more, one, two, on)

    starts_after : place < address → starts place address ≡ after (place + size) address
    unfolding ◌or◌
    starts_after h = first_start ∙ rw (ne_eqb place address (λ e. omega arith)) refl

    starts_onward : place + size ≤ address → starts place address ≡ after (place + size) address
    starts_onward h =
        elim (dec_lt place address) [
          | yes before ↦ starts_after before
          | no before ↦
              let here : place ≡ address = omega arith in
              let there : place + size ≡ address = omega arith in
              starts_here _ place _ address here ∙ sym (starts_here _ (place + size) _ address there)
        ]

-- THE FRONT

pub cursor_first : (numbers : List ℕ) → Stands numbers (record { index = 0; place = 0 })
unfolding is_place
cursor_first numbers =
    record {
      few = omega arith;
      near = omega arith;
      onward = λ other h. ap (λ (n : ℕ). is_start 0 n numbers other) (sub-zero (length numbers / 2));
    }

pub front_none : (source numbers : List ℕ) → Front source numbers (record { index = 0; place = 0 })
front_none source numbers = record { stands = cursor_first numbers; checked = checked_none Score source numbers }

module _ (source numbers : List ℕ) (index place address : ℕ) (r : Front source numbers (record { index = index; place = place })) where
  pub front_there : address ≤ place → Came source numbers (record { index = index; place = place }) address
  front_there h = record { front = r; beyond = λ all before. absurd (omega arith) }

  pub front_over : length numbers / 2 ≤ index → Came source numbers (record { index = index; place = place }) address
  unfolding is_start
  front_over past =
      let none : 0 ≡ length numbers / 2 - index = omega arith in
      record {
        front = r;
        beyond = λ all before.
            sym (r.stands.onward address (omega arith))
            ∙ ap (λ (n : ℕ). is_start place n (drop (2 * index) numbers) address) (sym none)
            ∙ ne_eqb place address (λ e. omega arith);
      }

  module _ (here : index < length numbers / 2) (n : ℕ) (is : n ≡ length (given_bytes (item_given Score source (numbers ! (2 * index)) (numbers ! (2 * index + 1))))) where
    pub front_faulty : n ≡ 0 → Came source numbers (record { index = index; place = place }) address
    front_faulty none = record { front = r; beyond = λ all before. absurd (checked_on Score source numbers index place r.checked here n is all none) }

    pub front_goes_on : (n ≡ 0 → ⊥) → n ≤ 260 → place < address → Fits w32 address → Front source numbers (record { index = index + 1; place = place + n })
    front_goes_on some few before small =
        let next : n ≡ size numbers (length numbers / 2) index = length_sized Score source _ _ n is some in
        record {
          stands = record {
            few = omega arith;
            near = omega arith;
            onward = λ other h.
                ap (λ (n : ℕ). after numbers (length numbers / 2) index (place + n) other) next
                ∙ sym (starts_onward numbers (length numbers / 2) index here place other (omega arith))
                ∙ r.stands.onward other (omega arith);
          };
          checked = checked_next Score source numbers index place r.checked here n is some;
        }

pub ruleset fronts = (front_there, front_over)

-- FROM THE FIRST ITEM ON

pub record Reaching (numbers : List ℕ) (count address index place : ℕ) : Type 0 where
  pub near : place < 4294967556
  pub left : is_start place (count - index) (drop (2 * index) numbers) address ≡ is_place numbers address

module _ (numbers : List ℕ) (count address : ℕ) where
  pub reach_starts : count ≡ length numbers / 2 → Reaching numbers count address 0 0
  unfolding is_place
  reach_starts counted = record { near = omega arith; left = ap (λ (n : ℕ). is_start 0 n numbers address) (sub-zero count ∙ counted) }

  module _ (index place : ℕ) (r : Reaching numbers count address index place) where
    pub reach_over : count ≤ index → (place ≡? address) ≡ is_place numbers address
    unfolding is_start
    reach_over past =
        let none : 0 ≡ count - index = omega arith in ap (λ (n : ℕ). is_start place n (drop (2 * index) numbers) address) none ∙ r.left

    pub reach_there : address ≤ place → (place ≡? address) ≡ is_place numbers address
    reach_there h =
        elim (dec_lt address place) [
          | yes past ↦ ne_eqb place address (λ e. omega arith) ∙ sym (starts_past _ place _ address past)
          | no past ↦ let e : place ≡ address = omega arith in eq-eqb place address e ∙ sym (starts_here _ place _ address e)
        ]
        ∙ r.left

    pub reach_goes_on : (more : ℕ) → index < count → place < address → Fits w32 address → (more ≡ given_size (numbers ! (2 * index)) (numbers ! (2 * index + 1))) × (more ≤ 260)
        → Reaching numbers count address (index + 1) (place + more)
    reach_goes_on more here before small sized =
        let next : more ≡ size numbers count index = sized.0 in
        let few : more ≤ 260 = sized.1 in
        record {
          near = omega arith;
          left =
              ap (λ (n : ℕ). after numbers count index (place + n) address) next
              ∙ sym (starts_after numbers count index here place address before)
              ∙ r.left;
        }

pub ruleset reaching = (reach_starts, reach_over, reach_there, reach_goes_on)

-- an address where a cursor stands
pub address_met : (numbers : List ℕ) (cursor : Cursor) (address : ℕ) → Stands numbers cursor → address ≡ cursor.place → true ≡ is_place numbers address
address_met numbers cursor address s e = sym (starts_here _ cursor.place _ address (sym e)) ∙ s.onward address (omega arith)
