-- 01, The table: which tables are sound, clause by clause; and the same as a test.
use Rattle.std.specs.Prelude.{◌≡◌, ◌⊎◌, Bool, cond, ◌&&◌, ◌||◌, List, [], ◌∷◌, ℕ, ◌+◌, ◌-◌, ◌≤◌, ◌<◌, leb, ltb, eqb, length}
use Rattle.rules.specs.declared.Place.{Place}
use Rattle.rules.specs.Numbers.{place_count, last_tick, longest_span, last_level, late, earliest_deadline, fixed_priority}
use Rattle.rules.specs.Tests.{every, sum, each}
use Rattle.rules.specs.Table.{Table, at}
use Rattle.rules.specs.Fit.{SumsFit, jobs_of, fits_by_sums}

-- a closed place is zero in everything but its total
pub record ClosedIsZero (p : Place) : Type 0 where
  pub opened : p.opened ≡ 0
  pub level : p.level ≡ 0
  pub cap : p.cap.0 ≡ 0
  pub gap : p.gap.0 ≡ 0
  pub next : p.next.0 ≡ 0
  pub live : p.live ≡ 0
  pub budget : p.budget.0 ≡ 0
  pub remaining : p.remaining.0 ≡ 0
  pub deadline : p.deadline.0 ≡ 0
  pub ending : p.ending ≡ 0

-- an open place has level ≤ 7, 1 ≤ C ≤ T ≤ 1,000,000, next ≤ now + T, ending 0 to 3
pub record OpenInBounds (now : ℕ) (p : Place) : Type 0 where
  pub opened : p.opened ≡ 1
  pub level : p.level ≤ last_level
  pub some_cap : 1 ≤ p.cap.0
  pub cap_in_gap : p.cap.0 ≤ p.gap.0
  pub gap : p.gap.0 ≤ longest_span
  pub next : p.next.0 ≤ now + p.gap.0
  pub ending : p.ending ≤ late

-- a live job has ending 0, 1 ≤ remaining ≤ b ≤ C, b − remaining ≤ total, now < deadline ≤ 4,000,000,000, deadline ≤ now + 1,000,000
pub record LiveInBounds (now : ℕ) (p : Place) : Type 0 where
  pub live : p.live ≡ 1
  pub ending : p.ending ≡ 0
  pub some_left : 1 ≤ p.remaining.0
  pub left_in_budget : p.remaining.0 ≤ p.budget.0
  pub budget_in_cap : p.budget.0 ≤ p.cap.0
  pub given_in_total : p.budget.0 - p.remaining.0 ≤ p.total.0
  pub ahead : now < p.deadline.0
  pub on_the_clock : p.deadline.0 ≤ last_tick
  pub near : p.deadline.0 ≤ now + longest_span

-- no live job: b, remaining and deadline are 0
pub record NoJobIsZero (p : Place) : Type 0 where
  pub live : p.live ≡ 0
  pub budget : p.budget.0 ≡ 0
  pub remaining : p.remaining.0 ≡ 0
  pub deadline : p.deadline.0 ≡ 0

-- a live job is on an open place
pub data SoundPlace (now : ℕ) (p : Place) : Type 0 where
  closed : ClosedIsZero p → SoundPlace now p
  resting : OpenInBounds now p → NoJobIsZero p → SoundPlace now p
  busy : OpenInBounds now p → LiveInBounds now p → SoundPlace now p

abbrev pub totals : Table → ℕ
totals t = sum (λ p. (at t p).total.0) place_count

-- policy is 1 or 2; now ≤ 4,000,000,000; the sixteen totals plus idle equal now; each place is sound;
-- under policy 1, for each live deadline d: the remaining slots of all live jobs with deadline ≤ d sum to at most d − now
pub record Sound (t : Table) : Type 0 where
  pub size : length t.places ≡ place_count
  pub policy : (t.policy ≡ earliest_deadline) ⊎ (t.policy ≡ fixed_priority)
  pub clock : t.now.0 ≤ last_tick
  pub adds_up : totals t + t.idle.0 ≡ t.now.0
  pub places : (p : ℕ) → p < place_count → SoundPlace t.now.0 (at t p)
  pub fit : t.policy ≡ earliest_deadline → SumsFit (jobs_of t) place_count t.now.0

-- The same as a test, clause for clause.
abbrev pub closed_clauses : Place → List Bool
closed_clauses p = eqb p.opened 0 ∷ eqb p.level 0 ∷ eqb p.cap.0 0 ∷ eqb p.gap.0 0 ∷ eqb p.next.0 0 ∷ eqb p.live 0 ∷ eqb p.budget.0 0 ∷ eqb p.remaining.0 0 ∷ eqb p.deadline.0 0 ∷ eqb p.ending 0 ∷ []

abbrev pub closed_is_zero : Place → Bool
closed_is_zero p = every (closed_clauses p)

abbrev pub open_clauses : ℕ → Place → List Bool
open_clauses now p = eqb p.opened 1 ∷ leb p.level last_level ∷ leb 1 p.cap.0 ∷ leb p.cap.0 p.gap.0 ∷ leb p.gap.0 longest_span ∷ leb p.next.0 (now + p.gap.0) ∷ leb p.ending late ∷ []

abbrev pub open_in_bounds : ℕ → Place → Bool
open_in_bounds now p = every (open_clauses now p)

abbrev pub live_clauses : ℕ → Place → List Bool
live_clauses now p = eqb p.live 1 ∷ eqb p.ending 0 ∷ leb 1 p.remaining.0 ∷ leb p.remaining.0 p.budget.0 ∷ leb p.budget.0 p.cap.0 ∷ leb (p.budget.0 - p.remaining.0) p.total.0 ∷ ltb now p.deadline.0 ∷ leb p.deadline.0 last_tick ∷ leb p.deadline.0 (now + longest_span) ∷ []

abbrev pub live_in_bounds : ℕ → Place → Bool
live_in_bounds now p = every (live_clauses now p)

abbrev pub no_job_clauses : Place → List Bool
no_job_clauses p = eqb p.live 0 ∷ eqb p.budget.0 0 ∷ eqb p.remaining.0 0 ∷ eqb p.deadline.0 0 ∷ []

abbrev pub no_job_is_zero : Place → Bool
no_job_is_zero p = every (no_job_clauses p)

unfoldable pub sound_place : ℕ → Place → Bool
sound_place now p = cond (eqb p.opened 0) (closed_is_zero p) (open_in_bounds now p && cond (eqb p.live 0) (no_job_is_zero p) (live_in_bounds now p))

abbrev pub known_policy : ℕ → Bool
known_policy policy = eqb policy earliest_deadline || eqb policy fixed_priority

abbrev pub totals_add_up : Table → Bool
totals_add_up t = eqb (totals t + t.idle.0) t.now.0

abbrev pub sound_places : Table → Bool
sound_places t = each (λ p. sound_place t.now.0 (at t p)) place_count

abbrev pub sound_clauses : Table → List Bool
sound_clauses t = eqb (length t.places) place_count ∷ known_policy t.policy ∷ leb t.now.0 last_tick ∷ totals_add_up t ∷ sound_places t ∷ (eqb t.policy fixed_priority || fits_by_sums t) ∷ []

unfoldable pub sound : Table → Bool
sound t = every (sound_clauses t)
