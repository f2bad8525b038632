-- Demands 2 and 3 over every history: an accepted set-up, then any calls. Each statement is proved in proofs/Demands.antt under its name in small letters.
use Rattle.std.specs.Prelude.{◌≡◌, ◌⊎◌, ◌↔◌, true, false, cond, List, [], ◌∷◌, ◌++◌, ℕ, suc, ◌+◌, ◌≤◌, ◌<◌, eqb}
use Rattle.rules.specs.Numbers.{place_count, idle_byte, earliest_deadline, fixed_priority}
use Rattle.rules.specs.Tests.{sum}
use Rattle.rules.specs.Table.{Table, is_open, is_live, at}
use Rattle.rules.specs.Election.{Who, number, RanksBefore, Elected}
use Rattle.rules.specs.Fit.{Plan, Serves}
use Rattle.rules.specs.Sound.{Sound}
use Rattle.rules.specs.Call.{Call, Arrive, called, set_up}
use Rattle.rules.specs.History.{Arrived, Happening, Did, Gave, history, table_after, ticks, slots_naming, until, job_slots, withdrawn, undisturbed, Ledger, ledger}

-- policies 1 and 2 are set up
abbrev pub SetUp : ℕ → Type 0
SetUp policy = (set_up policy).answer ≡ 0

-- The table is sound at every moment of a history, so refusal 1 is never given in one.
abbrev pub HistoriesAreSound : Type 0
HistoriesAreSound = (policy : ℕ) (calls : List Call) (c : Call) → SetUp policy → Sound (table_after policy calls) × ¬ ((called (table_after policy calls) c).answer ≡ 1)

-- the table's clock and its figures of a place
abbrev pub figures_of : Table → ℕ → Ledger
figures_of t p = let x = at t p in record {
  clock = t.now.0;
  is_open = is_open x;
  level = x.level;
  cap = x.cap.0;
  gap = x.gap.0;
  live = is_live x;
  asked = x.budget.0;
  owed = x.remaining.0;
  deadline = x.deadline.0;
  ending = x.ending;
}

-- They are at every moment what the history itself says.
abbrev pub TheTableHoldsWhatTheHistorySays : Type 0
TheTableHoldsWhatTheHistorySays =
    (policy : ℕ) (calls : List Call) (p : ℕ) → SetUp policy → p < place_count → ledger policy p (history policy calls) ≡ figures_of (table_after policy calls) p

-- Demand 2. What decides, by the history: the deadline under policy 1, the level under policy 2.
abbrev pub rank_in : ℕ → Ledger → ℕ
rank_in policy l = cond (eqb policy earliest_deadline) l.deadline l.level

-- Every slot of a history went to the place that the published rule names at that moment.
abbrev pub EverySlotGoesWhereTheRuleSendsIt : Type 0
EverySlotGoesWhereTheRuleSendsIt =
    (policy : ℕ) (calls : List Call) (before after : List Happening) (s : ℕ) → SetUp policy → history policy calls ≡ before ++ (Gave s ∷ after) →
    (w : Who) × Elected (λ q. (ledger policy q before).live) (λ q. rank_in policy (ledger policy q before)) place_count w × (s ≡ number w)

-- No job runs past the slots it asked for, nor past its reserve's cap; no slot goes to a place where no job has arrived.
abbrev pub NoJobRunsPastItsSlots : Type 0
NoJobRunsPastItsSlots =
    (policy : ℕ) (calls : List Call) (before after : List Happening) (p b d : ℕ) → SetUp policy → history policy calls ≡ before ++ (Did (Arrived p b d) ∷ after) →
    (job_slots p after ≤ b) × (b ≤ (ledger policy p before).cap)

abbrev pub NoSlotWithoutAJob : Type 0
NoSlotWithoutAJob = (policy : ℕ) (calls : List Call) (p : ℕ) → SetUp policy → p < place_count → job_slots p (history policy calls) ≡ 0

-- No reserve starts twice within its gap, also where it was closed and opened in between.
abbrev pub NoReserveStartsTwiceWithinItsGap : Type 0
NoReserveStartsTwiceWithinItsGap =
    (policy : ℕ) (calls : List Call) (before between after : List Happening) (p b d b' d' : ℕ) → SetUp policy →
    history policy calls ≡ before ++ (Did (Arrived p b d) ∷ (between ++ (Did (Arrived p b' d') ∷ after))) → (ledger policy p before).gap ≤ ticks between

-- Slots given and slots idle, counted from the history, add up to the clock; the table's totals, idle count and clock are those.
abbrev pub SlotsAddUpToTheClock : Type 0
SlotsAddUpToTheClock =
    (policy : ℕ) (calls : List Call) (before after : List Happening) → SetUp policy → history policy calls ≡ before ++ after →
    sum (λ p. slots_naming p before) place_count + slots_naming idle_byte before ≡ ticks before

abbrev pub TotalsAreCounted : Type 0
TotalsAreCounted =
    (policy : ℕ) (calls : List Call) → SetUp policy →
    let t = table_after policy calls in
    let h = history policy calls in
    ((p : ℕ) → p < place_count → (at t p).total.0 ≡ slots_naming p h) × (t.idle.0 ≡ slots_naming idle_byte h) × (t.now.0 ≡ ticks h)

-- Demand 3, under policy 1. A job once taken has had every slot it asked for when the clock reaches its deadline, unless it was itself
-- withdrawn before: exactly that many slots of the history are its own, all of them before the deadline, whatever else was called.
abbrev pub ATakenJobIsServed : Type 0
ATakenJobIsServed =
    (calls : List Call) (before after : List Happening) (p b d : ℕ) → history earliest_deadline calls ≡ before ++ (Did (Arrived p b d) ∷ after) →
    d ≤ ticks after → withdrawn p (until d after) ≡ false → (job_slots p (until d after) ≡ b) × (job_slots p after ≡ b)

-- ... and it ends as spent, with the slot that is its b-th; no job ends late.
abbrev pub ATakenJobEndsSpent : Type 0
ATakenJobEndsSpent =
    (calls : List Call) (before after : List Happening) (p b d : ℕ) → history earliest_deadline calls ≡ before ++ (Did (Arrived p b d) ∷ after) →
    d ≤ ticks after → withdrawn p (until d after) ≡ false →
    (its : List Happening) × (later : List Happening) × (until d after ≡ its ++ (Gave p ∷ later)) × (suc (job_slots p its) ≡ b)
    × ((ledger earliest_deadline p (before ++ (Did (Arrived p b d) ∷ (its ++ (Gave p ∷ []))))).ending ≡ 2)

abbrev pub NoJobEndsLateByDeadline : Type 0
NoJobEndsLateByDeadline = (calls : List Call) (p : ℕ) → p < place_count → ¬ ((at (table_after earliest_deadline calls) p).ending ≡ 3)

-- some plan of the coming slots serves the new job and every job that the history says is live
abbrev pub SomePlanServesAll : List Happening → ℕ → ℕ → ℕ → Type 0
SomePlanServesAll h p b d =
    (plan : Plan)
    × Serves plan (ticks h) p b (ticks h + d)
    × ((q : ℕ) → q < place_count → (ledger earliest_deadline q h).live ≡ true → Serves plan (ticks h) q (ledger earliest_deadline q h).owed (ledger earliest_deadline q h).deadline)

-- A job that passes the earlier checks is turned away as not fitting exactly when no plan could serve it and all the jobs now waiting.
abbrev pub TurnedAwayExactlyWhenNoPlanServesAll : Type 0
TurnedAwayExactlyWhenNoPlanServesAll =
    (calls : List Call) (p b d : ℕ) →
    let answer = (called (table_after earliest_deadline calls) (Arrive p b d)).answer in
    (answer ≡ 0) ⊎ (answer ≡ 9) → (answer ≡ 9) ↔ (¬ SomePlanServesAll (history earliest_deadline calls) p b d)

-- Policy 2. A job ends with 1 exactly when it was withdrawn, with 2 exactly when it had its b slots by its deadline, with 3 exactly when
-- the clock reached its deadline first; else it is live. (Until a new arrival at p, or a close of p, hides how it ended.)
abbrev pub HowAJobEnds : Type 0
HowAJobEnds =
    (calls : List Call) (before after : List Happening) (p b d : ℕ) → history fixed_priority calls ≡ before ++ (Did (Arrived p b d) ∷ after) → undisturbed p after ≡ true →
    let x = at (table_after fixed_priority calls) p in
    ((x.ending ≡ 1) ↔ (withdrawn p after ≡ true))
    × ((x.ending ≡ 2) ↔ (job_slots p (until d after) ≡ b))
    × ((x.ending ≡ 3) ↔ ((withdrawn p (until d after) ≡ false) × (d ≤ ticks after) × (job_slots p (until d after) < b)))
    × ((x.ending ≡ 0) ↔ (x.live ≡ 1))

-- no job that the history says is live outranks p
abbrev pub NoneOutranks : List Happening → ℕ → Type 0
NoneOutranks h p = (q : ℕ) → q < place_count → (ledger fixed_priority q h).live ≡ true → ¬ RanksBefore (λ r. (ledger fixed_priority r h).level) q p

-- A job with b ≤ D that no live job outranks from its arrival to its deadline, and that is not withdrawn, has its b slots by its deadline.
abbrev pub AnUnoutrankedJobIsServed : Type 0
AnUnoutrankedJobIsServed =
    (calls : List Call) (before after : List Happening) (p b d : ℕ) → history fixed_priority calls ≡ before ++ (Did (Arrived p b d) ∷ after) →
    b ≤ d → d ≤ ticks after → withdrawn p (until d after) ≡ false →
    ((since later : List Happening) (s : ℕ) → until d after ≡ since ++ (Gave s ∷ later) → NoneOutranks (before ++ (Did (Arrived p b d) ∷ since)) p) →
    job_slots p (until d after) ≡ b
