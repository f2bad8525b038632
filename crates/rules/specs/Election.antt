-- 01, What each call does, step 1: whose slot comes next.
use Rattle.std.specs.Prelude.{◌≡◌, ◌⊎◌, Bool, true, false, cond, ℕ, zero, suc, ◌<◌, eqb, ltb}
use Rattle.rules.specs.declared.Place.{Place}
use Rattle.rules.specs.Numbers.{place_count, idle_byte, earliest_deadline}
use Rattle.rules.specs.Table.{Table, at, is_live}

-- one place or nobody
pub data Who : Type 0 where
  nobody : Who
  place : ℕ → Who

-- as a slot record writes it
unfoldable pub number : Who → ℕ
number nobody = idle_byte
number (place p) = p

-- q ranks before p: by a smaller key, or by the lower place number where the keys are equal
abbrev pub RanksBefore : (ℕ → ℕ) → ℕ → ℕ → Type 0
RanksBefore key q p = (key q < key p) ⊎ ((key q ≡ key p) × (q < p))

-- The published rule, of the places below m. It goes to a live place before which no live place ranks; to nobody only where no place is live.
-- With the deadline as the key this is 000's rule, that no ready job has an earlier deadline than the one that runs; with the level
-- as the key it is 003's, that the most urgent active one runs (01: level 0 is the most urgent).
pub data Elected (live : ℕ → Bool) (key : ℕ → ℕ) (m : ℕ) : Who → Type 0 where
  goes_to : {p : ℕ} → p < m → live p ≡ true → ((q : ℕ) → q < m → live q ≡ true → RanksBefore key q p → ⊥) → Elected live key m (place p)
  idles : ((q : ℕ) → q < m → live q ≡ false) → Elected live key m nobody

-- what decides under the policy: the deadline (1), or the level (2)
abbrev pub rank : ℕ → Place → ℕ
rank policy p = cond (eqb policy earliest_deadline) p.deadline.0 p.level

abbrev pub live_at : Table → ℕ → Bool
live_at t p = is_live (at t p)

abbrev pub rank_at : Table → ℕ → ℕ
rank_at t p = rank t.policy (at t p)

-- w is whom the published rule names in this table
abbrev pub PublishedRule : Table → Who → Type 0
PublishedRule t w = Elected (live_at t) (rank_at t) place_count w

-- The same as a computation: of m and who was elected below m, m only where it is live and has the smaller key.
unfoldable pub better : Bool → (ℕ → ℕ) → ℕ → Who → Who
better false key m w = w
better true key m nobody = place m
better true key m (place q) = cond (ltb (key m) (key q)) (place m) (place q)

unfoldable pub elect : (ℕ → Bool) → (ℕ → ℕ) → ℕ → Who
elect live key zero = nobody
elect live key (suc m) = better (live m) key m (elect live key m)

unfoldable pub elected : Table → Who
elected t = elect (live_at t) (rank_at t) place_count
