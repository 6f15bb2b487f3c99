-- A refusal of a body has a place within the body.
use Prim.Native.Nat.{ℕ, suc, ◌≤◌}
use mathlib.Core.List.{List, []}
use mathlib.Core.Bool.{Bool, true, false}
use mathlib.Core.Path.{◌≡◌}
use lib.ListN.{length}
use native.Mathlib.Omega.{arith}
use Rattle.model.specs.Words.{when◌then◌else◌, ◌≡?◌, Step.stuck, walk_to, in_turn, unasked, Checked, refused}
use Rattle.std.specs.Prelude.{Ok, Err}
use Rattle.model.specs.declared.Read.{Read}
use Rattle.model.specs.Item.{item_at, item_met, item_step, body_of, setup_message_at, message_met, setup_step, setup_of}
use Rattle.model.specs.declared.Voice.{Voice}
use Rattle.model.specs.declared.Event.{Event}
use Rattle.model.specs.declared.ReadItem.{ReadItem}
use Rattle.model.specs.declared.ReadItem.TheVariants.{Timed, EndMark}
use Rattle.model.proofs.Walks.{refused_within, same_place}
use Rattle.items.proofs.Ahead.{ItemAhead, item_ahead, item_goes, message_goes}

stuck_item : (at end : ℕ) (item : Checked ReadItem) (n place : ℕ) → ItemAhead at end item → item_met at item ≡ stuck n place → place ≤ end
unfolding item_met
stuck_item at end (Ok (Timed duration event next)) n place a e = let z : ◌≡◌ {A = ℕ} 0 1 = cc in absurd (omega arith)
stuck_item at end (Ok (EndMark next)) n place a e = let z : ◌≡◌ {A = ℕ} 0 1 = cc in absurd (omega arith)
stuck_item at end (Err why) n place a e = let same : why.place ≡ place = cc in omega arith

pub body_refused_within : (voice : Voice) (s : List ℕ) (n place : ℕ) → body_of voice s ≡ refused n place → place ≤ length s
unfolding body_of when◌then◌else◌ walk_to item_step
body_refused_within voice s n place e = go (length s ≡? 0) e
  where
    go : (t : Bool) → (when t then refused 11 0 else in_turn unasked [] (walk_to 11 (length s) (item_step voice s) 0)) ≡ refused n place
        → place ≤ length s
    go true q = omega (arith, same_place _ _ _ _ q)
    go false q =
        refused_within 11 (length s) (item_step voice s) unasked (λ at h. item_goes voice s at)
        (λ at m there h is. stuck_item at (length s) (item_at voice s at) m there (item_ahead voice s at) is)
        (λ at next m there item before h is refused. let z : ◌≡◌ {A = ℕ} 0 1 = cc in absurd (omega arith))
        (suc (length s)) 0 [] n place (omega arith) q

stuck_message : (at : ℕ) (message : Checked (Read Event)) (n place : ℕ) → message_met at message ≡ stuck n place → place ≡ at
unfolding message_met
stuck_message at (Ok read) n place e = let z : ◌≡◌ {A = ℕ} 0 1 = cc in absurd (omega arith)
stuck_message at (Err why) n place e = cc

pub setup_refused_within : (s : List ℕ) (n place : ℕ) → setup_of s ≡ refused n place → place ≤ length s
unfolding setup_of when◌then◌else◌ walk_to setup_step
setup_refused_within s n place e = go (length s ≡? 0) e
  where
    go : (t : Bool) → (when t then refused 10 0 else in_turn unasked [] (walk_to 10 (length s) (setup_step s) 0)) ≡ refused n place
        → place ≤ length s
    go true q = omega (arith, same_place _ _ _ _ q)
    go false q =
        refused_within 10 (length s) (setup_step s) unasked (λ at h. message_goes s at)
        (λ at m there h is. omega (arith, stuck_message at (setup_message_at s at) m there is))
        (λ at next m there message before h is refused. let z : ◌≡◌ {A = ℕ} 0 1 = cc in absurd (omega arith))
        (suc (length s)) 0 [] n place (omega arith) q
