-- A TABLE that is filled as its entries are asked for: those that are known are right.
use Prim.Native.Nat.{ℕ, ◌<◌}
use mathlib.Core.Bool.{Bool, true, false, not, false≢true}
use mathlib.Core.List.{List}
use mathlib.Core.Path.{◌≡◌, sym, ◌∙◌}
use lib.ListN.{length, get_or, set, length-set, replicate, length-replicate}
use lib.Seq.{get_or-set_same, get_or-set_other}
use native.Mathlib.Omega.{arith}
use borrow.Author.Tests.{eqb-true, eqb-false, not-false}
use Rattle.model.specs.Words.{◌≡?◌}
use Rattle.model.proofs.Tests.{by_test}
use Rattle.seek.proofs.Ordering.{none_flagged}

module _ {A : Type 0} (default : A) (Right : ℕ → A → Type 0) where
  pub record Table (values : List A) (known : List Bool) : Type 0 where
    pub wide : length values ≡ 256
    pub flagged : length known ≡ 256
    pub right : (slot : ℕ) → get_or known slot false ≡ true → Right slot (get_or values slot default)

  -- a slot is known, and so are all that were before
  pub record Known (slot : ℕ) (before : List Bool) (values : List A) (known : List Bool) : Type 0 where
    pub table : Table values known
    pub here : get_or known slot false ≡ true
    pub kept : (other : ℕ) → get_or before other false ≡ true → get_or known other false ≡ true

  pub table_starts : (value : A) → Table (replicate 256 value) (replicate 256 false)
  table_starts value =
      record {
        wide = length-replicate 256 value;
        flagged = length-replicate 256 false;
        right = λ slot h. absurd (false≢true (sym (none_flagged 256 slot) ∙ h));
      }

  module _ (slot : ℕ) (values : List A) (known : List Bool) (table : Table values known) (values' : List A) (known' : List Bool) where
    pub known_before : not (get_or known slot false) ≡ false → values' ≡ values → known' ≡ known → Known slot known values' known'
    known_before here p q = rw (p, q) (record { table = table; here = not-false (get_or known slot false) here; kept = λ other h. h })

    pub known_now : (r : A) → slot < 256 → Right slot r → values' ≡ set values slot r → known' ≡ set known slot true → Known slot known values' known'
    known_now r small is p q =
        rw (p, q) (record {
          table = record {
            wide = length-set values slot r ∙ table.wide;
            flagged = length-set known slot true ∙ table.flagged;
            right = λ other h. by_test (other ≡? slot)
                (λ t. let e = eqb-true other slot t in rw (e, get_or-set_same values slot r default (omega (arith, table.wide))) is)
                (λ t. let e = eqb-false other slot t in
                rw (get_or-set_other values slot other r default e) (table.right other (sym (get_or-set_other known slot other true false e) ∙ h)));
          };
          here = get_or-set_same known slot true false (omega (arith, table.flagged));
          kept = λ other h. by_test (other ≡? slot)
              (λ t. let e = eqb-true other slot t in rw e (get_or-set_same known slot true false (omega (arith, table.flagged))))
              (λ t. let e = eqb-false other slot t in get_or-set_other known slot other true false e ∙ h);
        })

-- what is right in one sense is in another that follows from it
pub table_weaken : {A : Type 0} (default : A) (Right Other : ℕ → A → Type 0) (values : List A) (known : List Bool)
    → ((slot : ℕ) (a : A) → Right slot a → Other slot a) → Table default Right values known → Table default Other values known
table_weaken default Right Other values known follows table =
    record { wide = table.wide; flagged = table.flagged; right = λ slot h. follows slot _ (table.right slot h) }
