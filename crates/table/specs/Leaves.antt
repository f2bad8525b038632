-- What the functions below the calls give, where the rules have no name of their own for it.
use Rattle.std.specs.Prelude.{◌≡◌, Bool, true, cond, ◌&&◌, ◌||◌, not, map, ℕ, ◌+◌, ◌-◌, ◌<◌, leb, ltb, eqb, Option, None, Some}
use Rattle.time.specs.declared.Span.{Span}
use Rattle.time.specs.Kinds.{instant, span}
use Rattle.rules.specs.declared.Place.{Place}
use Rattle.rules.specs.declared.Policy.{Policy}
use Rattle.rules.specs.declared.Policy.TheVariants.{EarliestDeadline, FixedPriority}
use Rattle.rules.specs.Kinds.{policy_number}
use Rattle.rules.specs.Numbers.{place_count, last_tick, earliest_deadline}
use Rattle.rules.specs.Table.{Table as Ruled, is_live, at}
use Rattle.rules.specs.Election.{Who, rank}
use Rattle.rules.specs.Fit.{demand, jobs_of, fits_by_sums}
use Rattle.rules.specs.Slot.{serve, idle_more, unless_late}
use Rattle.table.specs.declared.Table.{Table}
use Rattle.table.specs.Dress.{ruled}
use Rattle.table.specs.declared.election.Lead.{Lead}

-- what is left of a span without so many ticks; none where it is shorter
abbrev pub IsLeft : Span → ℕ → Option Span → Type 0
IsLeft s n None = s.0 < n
IsLeft s n (Some r) = r.0 + n ≡ s.0

-- the clause of the fit at one place's deadline
abbrev pub fits_at : Ruled → Place → Bool
fits_at t q = not (is_live q) || leb (demand (jobs_of t) place_count q.deadline.0) (q.deadline.0 - t.now.0)

-- the jobs do not fit, and the policy asks that they do
abbrev pub overfull : Ruled → Bool
overfull t = eqb t.policy earliest_deadline && not (fits_by_sums t)

-- the number of a policy, and of none
abbrev pub policy_or_none : Option Policy → ℕ
policy_or_none None = 0
policy_or_none (Some p) = policy_number p

-- the policy by which the slots go
abbrev pub rule_of : ℕ → Policy
rule_of policy = cond (eqb policy earliest_deadline) EarliestDeadline FixedPriority

-- nobody leads, or somebody of a larger rank
abbrev pub behind : ℕ → Option Lead → Bool
behind rank None = true
behind rank (Some lead) = ltb rank lead.rank

-- of the leader so far and place i: i only where it is live and nobody leads, or it has the smaller rank
unfoldable pub ahead : ℕ → Option Lead → ℕ → Place → Option Lead
ahead policy lead i p = cond (is_live p && behind (rank policy p) lead) (Some (record { place = i; rank = rank policy p })) lead

-- steps 2 and 3 of a slot
unfoldable pub after_serving : Who → Table → Table
after_serving w t = record { policy = t.policy; now = instant (t.now.0 + 1); idle = span (t.idle.0 + idle_more w); places = serve w t.places }

-- no count is at its end, and the place served is there
abbrev pub RoomToServe : Table → Option ℕ → Type 0
RoomToServe t None = (t.now.0 < last_tick) × (t.idle.0 < last_tick)
RoomToServe t (Some p) = (t.now.0 < last_tick) × ((p < place_count) × ((at (ruled t) p).total.0 < last_tick))

-- step 4 of a slot
unfoldable pub late_table : Table → Table
late_table t = record { policy = t.policy; now = t.now; idle = t.idle; places = map (unless_late t.policy t.now.0) t.places }
