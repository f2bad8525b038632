-- The leader that the code keeps is whom the rules elect among the places seen so far.
use Rattle.std.proofs.Common.{◌≡◌, refl, ◌∙◌, Bool, true, false, ◌&&◌, ℕ, ◌+◌, ltb, eqb, add-one, Option, None, Some}
use mathlib.Core.Bool.{cond}
use Rattle.rules.specs.Kinds.{policy_number}
use Rattle.rules.specs.Numbers.{place_count, earliest_deadline}
use Rattle.rules.specs.declared.Place.{Place}
use Rattle.rules.specs.Table.{Table, at}
use Rattle.rules.specs.Election.{Who, nobody, place, rank, live_at, rank_at, better, elect, elected}
use Rattle.table.specs.declared.election.Lead.{Lead}
use Rattle.table.specs.Dress.{who}
use Rattle.table.specs.Leaves.{rule_of, behind, ahead}

-- the leader and its rank, as the code writes them
abbrev lead_of : (ℕ → ℕ) → Who → Option Lead
lead_of key nobody = None
lead_of key (place q) = Some (record { place = q; rank = key q })

lead_better : (live : ℕ → Bool) (key : ℕ → ℕ) (m : ℕ) (b : Bool) (w : Who)
    → cond (b && behind (key m) (lead_of key w)) (Some (record { place = m; rank = key m })) (lead_of key w) ≡ lead_of key (better b key m w)
unfolding better
lead_better live key m false w = refl
lead_better live key m true nobody = refl
lead_better live key m true (place q) = go (ltb (key m) (key q))
  where
    go : (c : Bool) → ◌≡◌ {A = Option Lead} (cond c (Some (record { place = m; rank = key m })) (Some (record { place = q; rank = key q }))) (lead_of key (cond c (place m) (place q)))
    go true = refl
    go false = refl

-- a policy that is not the earliest deadline ranks by the level
rule_ranks : (n : ℕ) (p : Place) → rank (policy_number (rule_of n)) p ≡ rank n p
rule_ranks n p = go (eqb n earliest_deadline) refl
  where
    go : (b : Bool) → eqb n earliest_deadline ≡ b → rank (policy_number (rule_of n)) p ≡ rank n p
    go true e = rw e refl
    go false e = rw e refl

-- the leader among the places below i
abbrev pub lead_below : Table → ℕ → Option Lead
lead_below t i = lead_of (rank_at t) (elect (live_at t) (rank_at t) i)

pub lead_none : (t : Table) → None ≡ lead_below t 0
unfolding elect
lead_none t = refl

pub lead_next : (t : Table) (i : ℕ) {lead r : Option Lead} → lead ≡ lead_below t i → r ≡ ahead (policy_number (rule_of t.policy)) lead i (at t i) → r ≡ lead_below t (i + 1)
unfolding elect ahead
lead_next t i e f = f ∙ rw (rule_ranks t.policy (at t i), e, add-one) (lead_better (live_at t) (rank_at t) i (live_at t i) (elect (live_at t) (rank_at t) i))

abbrev pub place_of : Option Lead → Option ℕ
place_of None = None
place_of (Some lead) = Some lead.place

lead_who : (key : ℕ → ℕ) (w : Who) → who (place_of (lead_of key w)) ≡ w
lead_who key nobody = refl
lead_who key (place q) = refl

pub lead_elected : (t : Table) (i : ℕ) {lead : Option Lead} → lead ≡ lead_below t i → i ≡ place_count → who (place_of lead) ≡ elected t
unfolding elected
lead_elected t i e f = rw (e, f) (lead_who (rank_at t) (elect (live_at t) (rank_at t) place_count))
