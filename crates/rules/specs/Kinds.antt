-- The number of each kind of policy, refusal and ending, as a table holds it and a program in C is told it.
use Rattle.std.specs.Prelude.{◌≡◌, ℕ, Result, Ok, Err}
use Rattle.rules.specs.declared.Policy.{Policy}
use Rattle.rules.specs.declared.Policy.TheVariants.{EarliestDeadline, FixedPriority}
use Rattle.rules.specs.declared.Refusal.{Refusal}
use Rattle.rules.specs.declared.Refusal.TheVariants.{NotSound, NoPlace, AlreadyOpen, NotOpen, BadFigures, JobLive, TooEarly, BeyondClock, NoFit, NoJob, NoRoom, NoPolicy}
use Rattle.rules.specs.declared.Ending.{Ending}
use Rattle.rules.specs.declared.Ending.TheVariants.{Left, Spent, Late}
use Rattle.rules.specs.Numbers.{earliest_deadline, fixed_priority, left, spent, late}

abbrev pub policy_number : Policy → ℕ
policy_number EarliestDeadline = earliest_deadline
policy_number FixedPriority = fixed_priority

abbrev pub ending_number : Ending → ℕ
ending_number Left = left
ending_number Spent = spent
ending_number Late = late

-- the numbers that `checks` of Call.antt gives; they stand in both, there beside what each is given for, and the clauses of a call tie them
abbrev pub refusal_number : Refusal → ℕ
refusal_number NotSound = 1
refusal_number NoPlace = 2
refusal_number AlreadyOpen = 3
refusal_number NotOpen = 4
refusal_number BadFigures = 5
refusal_number JobLive = 6
refusal_number TooEarly = 7
refusal_number BeyondClock = 8
refusal_number NoFit = 9
refusal_number NoJob = 10
refusal_number NoRoom = 11
refusal_number NoPolicy = 12

-- what a call answers, as a number: 0 where it is done
abbrev pub outcome_number : {A : Type 0} → Result A Refusal → ℕ
outcome_number (Ok a) = 0
outcome_number (Err e) = refusal_number e

-- the policy of this number, and where there is none the refusal that says so
abbrev pub Names : ℕ → Result Policy Refusal → Type 0
Names n (Ok p) = policy_number p ≡ n
Names n (Err e) = (e ≡ NoPolicy) × ((p : Policy) → policy_number p ≡ n → ⊥)
