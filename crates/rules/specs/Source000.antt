-- The bridge to source 000, EDF for arbitrary sequences of jobs: its own claim, that a schedulable set of jobs is never overdue where the
-- policy is applied (000, V.B.1), of any set of jobs; and of every history under policy 1.
use Rattle.std.specs.Prelude.{◌≡◌, true, false, cond, List, ◌++◌, ℕ, zero, suc, ◌+◌, ◌-◌, ◌≤◌, ◌<◌, leb, eqb}
use Rattle.rules.specs.Numbers.{place_count, earliest_deadline}
use Rattle.rules.specs.Election.{Who, nobody, place, Elected}
use Rattle.rules.specs.Fit.{Job, Fits}
use Rattle.rules.specs.Call.{Call}
use Rattle.rules.specs.History.{Happening, history, ticks, Ledger, ledger}

-- there is a way to choose which job runs in each slot so that no job misses its deadline (000, II)
abbrev pub Schedulable : (ℕ → Job) → ℕ → ℕ → Type 0
Schedulable jobs m now = Fits jobs m now

-- each live job has a slot left (000, V.A.1: a duration is strictly greater than zero)
unfoldable pub SomeLeft : (ℕ → Job) → ℕ → Type 0
SomeLeft jobs m = (p : ℕ) → p < m → (jobs p).live ≡ true → 1 ≤ (jobs p).remaining

-- a job after one of its slots: gone where that was the last
abbrev pub gone : Job
gone = record { live = false; remaining = 0; deadline = 0 }

unfoldable pub less : Job → Job
less j = cond (leb j.remaining 1) gone (record { live = j.live; remaining = j.remaining - 1; deadline = j.deadline })

-- the jobs after a slot of w
unfoldable pub spend : Who → (ℕ → Job) → ℕ → Job
spend nobody jobs q = jobs q
spend (place p) jobs q = cond (eqb q p) (less (jobs q)) (jobs q)

-- the EDF policy is applied for n slots: no ready job has an earlier deadline than the one that runs
pub data EdfPolicyFor (m : ℕ) : ℕ → (ℕ → Job) → (ℕ → Job) → Type 0 where
  for_none : {jobs : ℕ → Job} → EdfPolicyFor m zero jobs jobs
  for_one_more : {n : ℕ} {jobs later : ℕ → Job} (w : Who) → Elected (λ p. (jobs p).live) (λ p. (jobs p).deadline) m w → EdfPolicyFor m n (spend w jobs) later → EdfPolicyFor m (suc n) jobs later

-- a job missed its deadline at this instant: it is not complete, and the deadline has come
abbrev pub Overdue : Job → ℕ → Type 0
Overdue j now = (j.live ≡ true) × (j.deadline ≤ now)

-- 000: schedulable ⟹ ∀ j, ∀ t. EdfPolicyUpTo t ⟹ ¬ overdue j t
abbrev pub ASchedulableSetIsNeverOverdue : Type 0
ASchedulableSetIsNeverOverdue =
    (m now n : ℕ) (jobs later : ℕ → Job) → SomeLeft jobs m → Schedulable jobs m now → EdfPolicyFor m n jobs later → (p : ℕ) → p < m → ¬ Overdue (later p) (now + n)

-- the job that a history says is at a place
abbrev pub job_in : Ledger → Job
job_in l = record { live = l.live; remaining = l.owed; deadline = l.deadline }

-- Over our histories: at every moment the jobs taken are schedulable, for a job that would spoil that is refused with 9, and none is overdue.
abbrev pub TheJobsTakenAreSchedulable : Type 0
TheJobsTakenAreSchedulable =
    (calls : List Call) (before after : List Happening) → history earliest_deadline calls ≡ before ++ after → Schedulable (λ p. job_in (ledger earliest_deadline p before)) place_count (ticks before)

abbrev pub NoJobTakenIsEverOverdue : Type 0
NoJobTakenIsEverOverdue =
    (calls : List Call) (before after : List Happening) → history earliest_deadline calls ≡ before ++ after → (p : ℕ) → p < place_count → ¬ Overdue (job_in (ledger earliest_deadline p before)) (ticks before)
