-- What is promised of every table and every call. Each statement is proved in proofs/Promises.antt under its name in small letters.
use Rattle.std.specs.Prelude.{◌≡◌, ◌⊎◌, ◌↔◌, true, List, [], ◌∷◌, ◌++◌, ℕ, zero, suc, ◌+◌, ◌≤◌, ◌<◌, length, take, drop, replicate}
use Rattle.rules.specs.declared.Place.{Place}
use Rattle.rules.specs.Numbers.{place_count, last_tick, longest_span, last_level, most_slots, earliest_deadline, fixed_priority}
use Rattle.rules.specs.Table.{Table, zero_table, at}
use Rattle.rules.specs.Election.{Who, number, PublishedRule}
use Rattle.rules.specs.Fit.{Plan, Serves, Fits, jobs_of, fits_by_sums}
use Rattle.rules.specs.Sound.{Sound, sound}
use Rattle.rules.specs.Call.{Call, Open, Close, Arrive, Depart, Elect, Slot, Advance, lent, called, set_up}

-- 01, When the box says no, in the paper's words.
abbrev pub BadReserve : ℕ → ℕ → ℕ → Type 0
BadReserve level cap gap = (((last_level < level) ⊎ (cap ≡ 0)) ⊎ (gap < cap)) ⊎ (longest_span < gap)

abbrev pub BadJob : Place → ℕ → ℕ → Type 0
BadJob x b d = (((b ≡ 0) ⊎ (x.cap.0 < b)) ⊎ (d ≡ 0)) ⊎ (longest_span < d)

-- some plan of the coming slots serves the new job and every live one
abbrev pub SomePlanServes : Table → ℕ → ℕ → ℕ → Type 0
SomePlanServes t p b d =
    (plan : Plan)
    × Serves plan t.now.0 p b (t.now.0 + d)
    × ((q : ℕ) → q < place_count → (at t q).live ≡ 1 → Serves plan t.now.0 q (at t q).remaining.0 (at t q).deadline.0)

-- each call's refusals in the order of the paper: the number, and when it is given
abbrev pub Refusals : Table → Call → List (ℕ × Type 0)
Refusals t (Open p level cap gap) = (1, ¬ Sound t) ∷ (2, place_count ≤ p) ∷ (3, (at t p).opened ≡ 1) ∷ (5, BadReserve level cap gap) ∷ []
Refusals t (Close p) = (1, ¬ Sound t) ∷ (2, place_count ≤ p) ∷ (4, ¬ ((at t p).opened ≡ 1)) ∷ (6, (at t p).live ≡ 1) ∷ (7, t.now.0 < (at t p).next.0) ∷ []
Refusals t (Arrive p b d) =
    (1, ¬ Sound t) ∷ (2, place_count ≤ p) ∷ (4, ¬ ((at t p).opened ≡ 1)) ∷ (5, BadJob (at t p) b d) ∷ (6, (at t p).live ≡ 1)
    ∷ (7, t.now.0 < (at t p).next.0) ∷ (8, last_tick < t.now.0 + d) ∷ (9, (t.policy ≡ earliest_deadline) × ¬ SomePlanServes t p b d) ∷ []
Refusals t (Depart p) = (1, ¬ Sound t) ∷ (2, place_count ≤ p) ∷ (4, ¬ ((at t p).opened ≡ 1)) ∷ (10, ¬ ((at t p).live ≡ 1)) ∷ []
Refusals t Elect = (1, ¬ Sound t) ∷ []
Refusals t Slot = (1, ¬ Sound t) ∷ (8, last_tick < t.now.0 + 1) ∷ []
Refusals t (Advance n bytes start) = (1, ¬ Sound t) ∷ (5, most_slots < n) ∷ (8, last_tick < t.now.0 + n) ∷ (11, (length bytes < start) ⊎ (length (drop start bytes) < n)) ∷ []

-- k is the number of the first that applies, or 0 where none does
abbrev pub FirstIs : ℕ → List (ℕ × Type 0) → Type 0
FirstIs k [] = k ≡ 0
FirstIs k (r ∷ rs) = (r.1 × (k ≡ r.0)) ⊎ (¬ r.1 × FirstIs k rs)

-- Demand 1: each refusal is given exactly when the paper says; of every table, sound or not.
abbrev pub EachRefusalExactlyWhenThePaperSays : Type 0
EachRefusalExactlyWhenThePaperSays = (t : Table) (c : Call) (k : ℕ) → ((called t c).answer ≡ k) ↔ FirstIs k (Refusals t c)

abbrev pub SetUpRefusesOnlyOtherPolicies : Type 0
SetUpRefusesOnlyOtherPolicies =
    (policy k : ℕ) → ((set_up policy).answer ≡ k) ↔ FirstIs k ((12, ¬ ((policy ≡ earliest_deadline) ⊎ (policy ≡ fixed_priority))) ∷ [])

-- Demand 1: a refused call changes neither the table nor the slot record.
abbrev pub RefusedCallChangesNothing : Type 0
RefusedCallChangesNothing = (t : Table) (c : Call) → ¬ ((called t c).answer ≡ 0) → ((called t c).table ≡ t) × ((called t c).bytes ≡ lent c)

abbrev pub RefusedSetUpGivesZeros : Type 0
RefusedSetUpGivesZeros = (policy : ℕ) → ¬ ((set_up policy).answer ≡ 0) → ((set_up policy).table ≡ zero_table) × ¬ Sound zero_table

-- The test of soundness decides the paper's clauses; set-up gives a sound table, and every call hands one back where it was given one.
abbrev pub SoundIsDecided : Type 0
SoundIsDecided = (t : Table) → (sound t ≡ true) ↔ Sound t

abbrev pub SetUpGivesSound : Type 0
SetUpGivesSound = (policy : ℕ) → (set_up policy).answer ≡ 0 → Sound (set_up policy).table

abbrev pub SoundIsKept : Type 0
SoundIsKept = (t : Table) (c : Call) → Sound t → Sound (called t c).table

-- Demand 2: the election names whom the published rule names, and the rule names nobody else.
abbrev pub ElectionFollowsThePublishedRule : Type 0
ElectionFollowsThePublishedRule =
    (t : Table) → Sound t → (w : Who) × PublishedRule t w × ((v : Who) → PublishedRule t v → v ≡ w) × ((called t Elect).place ≡ number w)

-- ... and a slot goes there.
abbrev pub SlotGoesWhereElected : Type 0
SlotGoesWhereElected = (t : Table) → (called t Slot).answer ≡ 0 → (called t Slot).place ≡ (called t Elect).place

-- Demand 3: the test by sums is equal to the sentence on plans, on every sound table.
abbrev pub SumsFitExactlyWhenAPlanServesAll : Type 0
SumsFitExactlyWhenAPlanServesAll = (t : Table) → Sound t → (fits_by_sums t ≡ true) ↔ Fits (jobs_of t) place_count t.now.0

-- n slot calls, one after the other: their answers, the places that they named, the table in the end
pub record Run : Type 0 where
  pub answers : List ℕ
  pub places : List ℕ
  pub table : Table

unfoldable pub slot_calls : ℕ → Table → Run
slot_calls zero t = record { answers = []; places = []; table = t }
slot_calls (suc n) t = let r = called t Slot in let s = slot_calls n r.table in record { answers = r.answer ∷ s.answers; places = r.place ∷ s.places; table = s.table }

-- Advance is the same as n single slots: all are done, the table is theirs, and the n bytes from the start on are the places they named.
abbrev pub AdvanceIsSingleSlots : Type 0
AdvanceIsSingleSlots =
    (t : Table) (n : ℕ) (bytes : List ℕ) (start : ℕ) →
    let a = called t (Advance n bytes start) in
    let s = slot_calls n t in
    a.answer ≡ 0 → (s.answers ≡ replicate n 0) × (a.table ≡ s.table) × (a.bytes ≡ take start bytes ++ (s.places ++ drop (start + n) bytes))

-- Advance a and then b from where it ended is advance a + b.
abbrev pub AdvancesJoin : Type 0
AdvancesJoin =
    (t : Table) (a b : ℕ) (bytes : List ℕ) (start : ℕ) →
    let u = called t (Advance a bytes start) in
    let whole = called t (Advance (a + b) bytes start) in
    whole.answer ≡ 0 → (u.answer ≡ 0) × (called u.table (Advance b u.bytes (start + a)) ≡ whole)
