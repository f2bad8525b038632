-- 01, What each call does, and When the box says no.
use Rattle.std.specs.Prelude.{ℕ, ◌+◌, Bool, cond, ◌&&◌, not, List, [], ◌∷◌, ◌++◌, leb, ltb, eqb, length, take, drop}
use Rattle.time.specs.Kinds.{instant, span}
use Rattle.rules.specs.declared.Place.{Place}
use Rattle.rules.specs.Numbers.{place_count, last_tick, longest_span, last_level, most_slots, idle_byte, left, earliest_deadline}
use Rattle.rules.specs.Tests.{some}
use Rattle.rules.specs.Table.{Table, closed_place, fresh_table, zero_table, is_open, is_live, at, put}
use Rattle.rules.specs.Election.{number, elected}
use Rattle.rules.specs.Fit.{fits_by_sums}
use Rattle.rules.specs.Sound.{sound, known_policy}
use Rattle.rules.specs.Slot.{ended, slot, slots, named}

-- a call on a table; `Elect` asks whose slot comes next, and changes nothing
pub data Call : Type 0 where
  Open : (place level cap gap : ℕ) → Call
  Close : (place : ℕ) → Call
  Arrive : (place budget away : ℕ) → Call
  Depart : (place : ℕ) → Call
  Elect : Call
  Slot : Call
  Advance : (n : ℕ) (bytes : List ℕ) (start : ℕ) → Call

-- What the paper's numbers stand for.
-- 1 the table is not sound
abbrev pub not_sound : Table → Bool
not_sound t = not (sound t)

-- 2 place ≥ 16
abbrev pub no_place : ℕ → Bool
no_place p = leb place_count p

-- 3 place already open
abbrev pub already_open : Table → ℕ → Bool
already_open t p = is_open (at t p)

-- 4 place not open
abbrev pub not_open : Table → ℕ → Bool
not_open t p = not (is_open (at t p))

-- 5 bad figures: level > 7, C = 0, C > T, T > 1,000,000
abbrev pub bad_reserve : ℕ → ℕ → ℕ → Bool
bad_reserve level cap gap = some (ltb last_level level ∷ eqb cap 0 ∷ ltb gap cap ∷ ltb longest_span gap ∷ [])

-- 5 bad figures: b = 0, b > C, D = 0, D > 1,000,000
abbrev pub bad_job : Place → ℕ → ℕ → Bool
bad_job x b d = some (eqb b 0 ∷ ltb x.cap.0 b ∷ eqb d 0 ∷ ltb longest_span d ∷ [])

-- 5 bad figures: n > 4,096
abbrev pub bad_count : ℕ → Bool
bad_count n = ltb most_slots n

-- 6 a job is live here
abbrev pub job_live : Table → ℕ → Bool
job_live t p = is_live (at t p)

-- 7 now < next
abbrev pub too_early : Table → ℕ → Bool
too_early t p = ltb t.now.0 (at t p).next.0

-- 8 now + D, or now + n, is beyond 4,000,000,000
abbrev pub beyond_clock : Table → ℕ → Bool
beyond_clock t n = ltb last_tick (t.now.0 + n)

-- Arrive: the job becomes live: remaining b, deadline now + D, ending 0; next becomes now + T
abbrev pub with_job : ℕ → Place → ℕ → ℕ → Place
with_job now x b d = record { opened = x.opened; level = x.level; cap = x.cap; gap = x.gap; next = instant (now + x.gap.0); live = 1; budget = span b; remaining = span b; deadline = instant (now + d); ending = 0; total = x.total }

abbrev pub arrived : Table → ℕ → ℕ → ℕ → Table
arrived t p b d = put t p (with_job t.now.0 (at t p) b d)

-- 9 would not fit (policy 1 only), by sums; Promises.antt says it by plans
abbrev pub no_fit : Table → ℕ → ℕ → ℕ → Bool
no_fit t p b d = eqb t.policy earliest_deadline && not (fits_by_sums (arrived t p b d))

-- 10 no job is live here
abbrev pub no_job : Table → ℕ → Bool
no_job t p = not (is_live (at t p))

-- 11 start > record length, or fewer than n bytes from the start on
abbrev pub no_room : ℕ → List ℕ → ℕ → Bool
no_room n bytes start = ltb (length bytes) (start + n)

-- 12 policy is neither 1 nor 2
abbrev pub no_policy : ℕ → Bool
no_policy policy = not (known_policy policy)

-- the first that applies counts; 0 where none does
unfoldable pub judge : List (Bool × ℕ) → ℕ
judge [] = 0
judge (c ∷ cs) = cond c.0 c.1 (judge cs)

-- each call's refusals, in the order of the paper
unfoldable pub checks : Table → Call → List (Bool × ℕ)
checks t (Open p level cap gap) = (not_sound t, 1) ∷ (no_place p, 2) ∷ (already_open t p, 3) ∷ (bad_reserve level cap gap, 5) ∷ []
checks t (Close p) = (not_sound t, 1) ∷ (no_place p, 2) ∷ (not_open t p, 4) ∷ (job_live t p, 6) ∷ (too_early t p, 7) ∷ []
checks t (Arrive p b d) = (not_sound t, 1) ∷ (no_place p, 2) ∷ (not_open t p, 4) ∷ (bad_job (at t p) b d, 5) ∷ (job_live t p, 6) ∷ (too_early t p, 7) ∷ (beyond_clock t d, 8) ∷ (no_fit t p b d, 9) ∷ []
checks t (Depart p) = (not_sound t, 1) ∷ (no_place p, 2) ∷ (not_open t p, 4) ∷ (no_job t p, 10) ∷ []
checks t Elect = (not_sound t, 1) ∷ []
checks t Slot = (not_sound t, 1) ∷ (beyond_clock t 1, 8) ∷ []
checks t (Advance n bytes start) = (not_sound t, 1) ∷ (bad_count n, 5) ∷ (beyond_clock t n, 8) ∷ (no_room n bytes start, 11) ∷ []

unfoldable pub refusal : Table → Call → ℕ
refusal t c = judge (checks t c)

-- Open: the place becomes open with these figures; next 0, no job, ending 0
abbrev pub opened : ℕ → ℕ → ℕ → Place → Place
opened level cap gap x = record { opened = 1; level = level; cap = span cap; gap = span gap; next = instant 0; live = 0; budget = span 0; remaining = span 0; deadline = instant 0; ending = 0; total = x.total }

-- what a call that is not refused makes of the table
unfoldable pub effect : Table → Call → Table
effect t (Open p level cap gap) = put t p (opened level cap gap (at t p))
effect t (Close p) = put t p (closed_place (at t p).total)
effect t (Arrive p b d) = arrived t p b d
effect t (Depart p) = put t p (ended left (at t p))
effect t Elect = t
effect t Slot = slot t
effect t (Advance n bytes start) = slots n t

-- the place that it answers, where it answers one
unfoldable pub named_by : Table → Call → ℕ
named_by t (Open p level cap gap) = idle_byte
named_by t (Close p) = idle_byte
named_by t (Arrive p b d) = idle_byte
named_by t (Depart p) = idle_byte
named_by t Elect = number (elected t)
named_by t Slot = number (elected t)
named_by t (Advance n bytes start) = idle_byte

-- the record that the call was lent, and what it makes of it: the slots into the piece that begins at the start given; no other byte changes
unfoldable pub lent : Call → List ℕ
lent (Open p level cap gap) = []
lent (Close p) = []
lent (Arrive p b d) = []
lent (Depart p) = []
lent Elect = []
lent Slot = []
lent (Advance n bytes start) = bytes

unfoldable pub written : Table → Call → List ℕ
written t (Open p level cap gap) = []
written t (Close p) = []
written t (Arrive p b d) = []
written t (Depart p) = []
written t Elect = []
written t Slot = []
written t (Advance n bytes start) = take start bytes ++ (named n t ++ drop n (drop start bytes))

-- what a call answers and hands back: the number; the table; the place named, 255 for nobody; the record
pub record Result : Type 0 where
  pub answer : ℕ
  pub table : Table
  pub place : ℕ
  pub bytes : List ℕ

abbrev pub done : Table → Call → Result
done t c = record { answer = 0; table = effect t c; place = named_by t c; bytes = written t c }

-- the table comes back as it was given, and the record keeps every byte
abbrev pub refused : ℕ → Table → Call → Result
refused k t c = record { answer = k; table = t; place = idle_byte; bytes = lent c }

unfoldable pub called : Table → Call → Result
called t c = let k = refusal t c in cond (eqb k 0) (done t c) (refused k t c)

-- Set up: clock 0, idle 0, all places closed, all totals 0; refused with 12, it returns a table of zeros
unfoldable pub set_up : ℕ → Result
set_up policy = record { answer = cond (no_policy policy) 12 0; table = cond (no_policy policy) zero_table (fresh_table policy); place = idle_byte; bytes = [] }
