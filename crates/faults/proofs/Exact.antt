-- WHAT IS READ AT A PLACE IS EXACT: what ends before some byte is read no differently where other bytes follow; and what is refused is refused at
-- the first byte that cannot stand. With that byte it is refused whatever follows, and without it there are bytes that would make it readable.
-- The laws follow the shape of the definitions: a byte, if there is one, and tests of it.
use Prim.Native.Nat.{ℕ, ◌+◌, ◌<◌, ◌≤◌}
use mathlib.Core.Bool.{Bool, true, false}
use mathlib.Core.List.{List}
use mathlib.Core.Logic.{◌⊎◌, inl, inr, ⊎_map}
use mathlib.Core.Path.{◌≡◌, refl, sym, ◌∙◌, ap, subst}
use lib.ListN.{length}
use native.Mathlib.Omega.{arith}
use borrow.Author.Tests.{lt-leb, leb-true, leb-false}
use Rattle.model.specs.Words.{when◌then◌else◌, ◌≤?◌}
use Rattle.model.specs.Bytes.{◌!◌}
use Rattle.model.proofs.Tests.{by_test, if_true}
use Rattle.faults.proofs.Agreement.{Agree, agree_fewer, agree_itself, Continued, AreBytes}

-- where a thing ends, or its fault
pub data Seen : Type 0 where
  ends : ℕ → Seen
  fails : ℕ → ℕ → Seen

-- the byte at a place cannot stand
pub record Wrong {R : Type 0} (s : List ℕ) (read : List ℕ → R) (r : R) (number place : ℕ) : Type 0 where
  pub low : 21 ≤ number
  pub within : place < length s
  pub stays : (t : List ℕ) → Agree (place + 1) s t → read t ≡ r

abbrev pub Cause : {R : Type 0} → List ℕ → (List ℕ → R) → R → ℕ → ℕ → Type 0
Cause s read r number place = ((number ≡ 20) × (place ≡ length s)) ⊎ Wrong s read r number place

pub cause_as : {R Q : Type 0} (s : List ℕ) (read : List ℕ → R) (other : List ℕ → Q) (r : R) (q : Q) (number place : ℕ)
    → ((t : List ℕ) → Agree (place + 1) s t → read t ≡ r → other t ≡ q) → Cause s read r number place → Cause s other q number place
cause_as s read other r q number place alike =
    ⊎_map (λ c. c) (λ w. record { low = w.low; within = w.within; stays = λ t a. alike t a (w.stays t a) })

-- What is read is what a whole definition comes to where the first bytes of s stand.
module _ {R : Type 0} (seen : R → Seen) (s : List ℕ) (whole : List ℕ → R) where
  -- bytes that make the whole readable, in the place of those from a place on
  pub record Mended (place : ℕ) : Type 0 where
    pub rest : List ℕ
    pub bytes : AreBytes rest
    pub reads : (t : List ℕ) → Continued s place rest t → seen (whole t) ≡ ends (place + length rest)

  pub record Fault (read : List ℕ → R) (least : ℕ) (r : R) (number place : ℕ) : Type 0 where
    pub past : least ≤ place
    pub cause : Cause s read r number place
    pub mended : Mended place

  abbrev pub ExactAs : (List ℕ → R) → ℕ → R → Seen → Type 0
  ExactAs read least r (ends next) = (least < next) × ((t : List ℕ) → Agree next s t → read t ≡ r)
  ExactAs read least r (fails number place) = Fault read least r number place

  -- what is read in s is exact, and takes in the byte at the least place
  pub record Exact (read : List ℕ → R) (least : ℕ) : Type 0 where
    pub exactly : ExactAs read least (read s) (seen (read s))

  -- where it is known what is read
  pub is_exact : (read : List ℕ → R) (least : ℕ) (r : R) (o : Seen) → read s ≡ r → seen r ≡ o → ExactAs read least r o → Exact read least
  is_exact read least r o e q x =
      record { exactly = subst (λ (v : R). ExactAs read least v (seen v)) (sym e) (subst (ExactAs read least r) (sym q) x) }

  pub exact_ends : {r : R} {next : ℕ} (least : ℕ) → seen r ≡ ends next → least < next → Exact (λ t. r) least
  exact_ends {r} {next} least e h = is_exact (λ t. r) least r (ends next) refl e (h, λ t a. refl)

  pub exact_wrong : {r : R} {number place : ℕ} (least : ℕ) → seen r ≡ fails number place → Mended place
      → (least ≤ place) × (21 ≤ number) × (place < length s) → Exact (λ t. r) least
  exact_wrong {r} {number} {place} least e m h =
      is_exact (λ t. r) least r (fails number place) refl e
      (record { past = h.0; cause = inr (record { low = h.1; within = h.2; stays = λ t a. refl }); mended = m })

  -- what reads alike where so many bytes are the same
  pub exact_as : (read other : List ℕ → R) (fewer least count : ℕ) → (fewer ≤ least) × (count ≤ least + 1) × (count ≤ length s)
      → ((t : List ℕ) → Agree count s t → other t ≡ read t) → Exact read least → Exact other fewer
  exact_as read other fewer least count h alike e =
      is_exact other fewer (read s) (seen (read s)) (alike s (agree_itself count s h.2)) refl (go (seen (read s)) e.exactly)
    where
      go : (o : Seen) → ExactAs read least (read s) o → ExactAs other fewer (read s) o
      go (ends next) x = let past = x.0 in (omega arith, λ t a. alike t (agree_fewer count next s t (omega arith) a) ∙ x.1 t a)
      go (fails number place) f =
          let past = f.past in
          record {
            past = omega arith;
            cause = cause_as s read other (read s) (read s) number place (λ t a e. alike t (agree_fewer count (place + 1) s t (omega arith) a) ∙ e) f.cause;
            mended = f.mended;
          }

  -- a test
  pub exact_if : (least : ℕ) (b : Bool) (x y : List ℕ → R) → (b ≡ true → Exact x least) → (b ≡ false → Exact y least) → Exact (λ t. when b then x t else y t) least
  unfolding when◌then◌else◌
  exact_if least true x y f g = f refl
  exact_if least false x y f g = g refl

  -- a byte that is missing, and one that is there
  module _ (cut : ℕ → R) (cut-seen : (end : ℕ) → seen (cut end) ≡ fails 20 end) (least : ℕ) where
    pub exact_cut : (read : List ℕ → R) → read s ≡ cut (length s) → least ≤ length s → Mended (length s) → Exact read least
    exact_cut read e h m = is_exact read least _ _ e (cut-seen (length s)) (record { past = h; cause = inl (refl, refl); mended = m })

    pub exact_byte : (place : ℕ) (read : ℕ → List ℕ → R) → (least ≤ place) × (least ≤ length s)
        → (length s ≤ place → Mended (length s)) → (place < length s → Exact (read (s ! place)) place)
        → Exact (λ t. when length t ≤? place then cut (length t) else read (t ! place) t) least
    unfolding when◌then◌else◌
    exact_byte place read h missing there =
        let all : List ℕ → R = λ t. when length t ≤? place then cut (length t) else read (t ! place) t in
        by_test (length s ≤? place)
        (λ i. exact_cut all (if_true (length s ≤? place) _ _ i) h.1 (missing (leb-true _ _ i)))
        (λ i.
        let here = leb-false (length s) place i in
        exact_as (read (s ! place)) all least place (place + 1) (omega arith)
        (λ t a.
        let room : place < length t = omega arith in
        let byte = a.same place (omega arith) in
        simp (lt-leb, byte))
        (there here))

  pub mended_end : (place : ℕ) → place ≤ length s → Mended place → length s ≤ place → Mended (length s)
  mended_end place within m past = let e : place ≡ length s = omega arith in subst Mended e m

-- what a definition makes of what another reads, where some first bytes stand
module _ {R Q : Type 0} (seen : R → Seen) (made-seen : Q → Seen) (made : R → Q) (same : (r : R) → made-seen (made r) ≡ seen r)
    (s : List ℕ) (whole : List ℕ → R) (other : List ℕ → Q) (count : ℕ) (alike : (t : List ℕ) → Agree count s t → other t ≡ made (whole t)) where
  pub exact_made : (read : List ℕ → R) (least : ℕ) → least ≤ count → Exact seen s whole read count → Exact made-seen s other (λ t. made (read t)) least
  exact_made read least h e =
      is_exact made-seen s other (λ t. made (read t)) least (made (read s)) (seen (read s)) refl (same (read s)) (go (seen (read s)) e.exactly)
    where
      go : (o : Seen) → ExactAs seen s whole read count (read s) o → ExactAs made-seen s other (λ t. made (read t)) least (made (read s)) o
      go (ends next) x = let past = x.0 in (omega arith, λ t a. ap made (x.1 t a))
      go (fails number place) f =
          let past = f.past in
          let m = f.mended in
          record {
            past = omega arith;
            cause = cause_as s read (λ t. made (read t)) (read s) (made (read s)) number place (λ t a e. ap made e) f.cause;
            mended = record {
              rest = m.rest;
              bytes = m.bytes;
              reads = λ t c. ap made-seen (alike t (agree_fewer count place s t past c.front)) ∙ same (whole t) ∙ m.reads t c;
            };
          }

-- a part of a definition, where the first bytes lead to it
pub exact_part : {R : Type 0} (seen : R → Seen) (s : List ℕ) (whole other : List ℕ → R) (count : ℕ) → ((t : List ℕ) → Agree count s t → other t ≡ whole t)
    → (read : List ℕ → R) (least : ℕ) → least ≤ count → Exact seen s whole read count → Exact seen s other read least
exact_part seen s whole other count alike = exact_made seen seen (λ r. r) (λ r. refl) s whole other count alike
