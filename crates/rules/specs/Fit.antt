-- 01, Fit: plans, and the test by sums.
use Rattle.std.specs.Prelude.{◌≡◌, Bool, true, cond, ◌&&◌, ◌||◌, not, ℕ, zero, suc, ◌+◌, ◌-◌, ◌≤◌, ◌<◌, leb, eqb}
use Rattle.rules.specs.declared.Place.{Place}
use Rattle.rules.specs.Numbers.{place_count}
use Rattle.rules.specs.Tests.{sum, each}
use Rattle.rules.specs.Table.{Table, at, is_live}
use Rattle.rules.specs.Election.{Who, nobody, place}

-- what the fit asks of a place
pub record Job : Type 0 where
  pub live : Bool
  pub remaining : ℕ
  pub deadline : ℕ

-- A plan names, for each coming slot, one place or nobody.
abbrev pub Plan : Type 0
Plan = ℕ → Who

-- 1 where the slot is the place's
unfoldable pub is_for : Who → ℕ → ℕ
is_for nobody p = 0
is_for (place q) p = cond (eqb q p) 1 0

-- in how many of the n slots from t on the place stands
unfoldable pub slots_for : Plan → ℕ → ℕ → ℕ → ℕ
slots_for plan p t zero = 0
slots_for plan p t (suc n) = is_for (plan t) p + slots_for plan p (suc t) n

-- It serves a job if the job's place stands in at least as many slots as the job has remaining, counting slots t with now ≤ t < deadline.
abbrev pub Serves : Plan → ℕ → ℕ → ℕ → ℕ → Type 0
Serves plan now p remaining deadline = remaining ≤ slots_for plan p now (deadline - now)

-- some plan serves every live job of the places below m
unfoldable pub Fits : (ℕ → Job) → ℕ → ℕ → Type 0
Fits jobs m now = (plan : Plan) × ((p : ℕ) → p < m → (jobs p).live ≡ true → Serves plan now p (jobs p).remaining (jobs p).deadline)

-- The test by sums. What a job still needs by d:
unfoldable pub due : ℕ → Job → ℕ
due d j = cond (j.live && leb j.deadline d) j.remaining 0

-- the remaining slots of all live jobs with deadline ≤ d
unfoldable pub demand : (ℕ → Job) → ℕ → ℕ → ℕ
demand jobs m d = sum (λ p. due d (jobs p)) m

-- for each live deadline d they sum to at most d − now
unfoldable pub SumsFit : (ℕ → Job) → ℕ → ℕ → Type 0
SumsFit jobs m now = (q : ℕ) → q < m → (jobs q).live ≡ true → demand jobs m (jobs q).deadline ≤ (jobs q).deadline - now

unfoldable pub sums_fit : (ℕ → Job) → ℕ → ℕ → Bool
sums_fit jobs m now = each (λ q. not (jobs q).live || leb (demand jobs m (jobs q).deadline) ((jobs q).deadline - now)) m

-- the jobs of a table
abbrev pub job_of : Place → Job
job_of x = record { live = is_live x; remaining = x.remaining.0; deadline = x.deadline.0 }

abbrev pub jobs_of : Table → ℕ → Job
jobs_of t p = job_of (at t p)

unfoldable pub fits_by_sums : Table → Bool
fits_by_sums t = sums_fit (jobs_of t) place_count t.now.0
