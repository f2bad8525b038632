-- The demands of specs/Demands.antt, each under its name in small letters.
use Rattle.std.proofs.Common.{get_or-set_same, ◌≡◌, sym, ap, ap₂, ◌∙◌, subst, inl, inr, ⊎_elim, ◌↔◌, Bool, true, false, List, [], ◌∷◌, ◌++◌, append_assoc, ℕ, ◌+◌, ◌≤◌, ◌<◌, arith, eq-eqb, eqb-true}
use Rattle.rules.specs.declared.Place.{Place}
use Rattle.rules.specs.Numbers.{place_count, idle_byte}
use Rattle.rules.specs.Table.{Table, zero_place, at}
use Rattle.rules.specs.Election.{Who, RanksBefore, Elected, goes_to, idles, live_at, rank_at, elected}
use Rattle.rules.specs.Fit.{Serves}
use Rattle.rules.specs.Sound.{Sound}
use Rattle.rules.specs.Call.{Call, Arrive, with_job, refusal, effect}
use Rattle.rules.specs.History.{Arrived, Happening, Did, Gave, history, table_after, ticks, slots_naming, until, job_slots, withdrawn, reserve, ledger}
use Rattle.rules.specs.Promises.{SomePlanServes, Refusals, FirstIs}
use Rattle.rules.specs.Demands.{SetUp, HistoriesAreSound, figures_of, TheTableHoldsWhatTheHistorySays, rank_in, EverySlotGoesWhereTheRuleSendsIt, NoJobRunsPastItsSlots, NoSlotWithoutAJob, NoReserveStartsTwiceWithinItsGap, SlotsAddUpToTheClock, TotalsAreCounted, ATakenJobIsServed, ATakenJobEndsSpent, NoJobEndsLateByDeadline, SomePlanServesAll, TurnedAwayExactlyWhenNoPlanServesAll, HowAJobEnds, AnUnoutrankedJobIsServed}
use Rattle.rules.proofs.Sums.{sum_ext}
use Rattle.rules.proofs.Answers.{answer_is}
use Rattle.rules.proofs.Passed.{passed}
use Rattle.rules.proofs.Kept.{elected_ok, live_bounds}
use Rattle.rules.proofs.Promises.{each_refusal_exactly_when_the_paper_says, fresh_at}
use Rattle.rules.proofs.Refused.{sound_not_one}
use Rattle.rules.proofs.Histories.{call_of, AllAllowed, after, after_join, allowed_join, allowed_split, next_sound, after_sound, after_policy, after_clock, deed_clock, next_policy}
use Rattle.rules.proofs.Ledgers.{ledger_in_time}
use Rattle.rules.proofs.Starts.{one_ok, two_ok, start, start_is, start_sound, ledger_is, parts, now_is, table_is, table_sound}
use Rattle.rules.proofs.Jobs.{off_row, job_bounded, until_fewer, until_allowed, HadAll, job_served, Fate, job_fate, unoutranked_served}
use Rattle.rules.proofs.Counts.{total_counted, idle_counted}
use Rattle.rules.proofs.Gaps.{row_waits, arrives_after, arrival_waits}

pub histories_are_sound : HistoriesAreSound
histories_are_sound policy calls c ok =
    let s = table_sound policy ok calls in
    (s, λ e. sound_not_one (table_after policy calls) c s (sym (answer_is (table_after policy calls) c) ∙ e))

pub the_table_holds_what_the_history_says : TheTableHoldsWhatTheHistorySays
the_table_holds_what_the_history_says policy calls p ok l =
    ledger_is policy ok (history policy calls) p l (table_is policy ok calls).0 ∙ ap (λ t. figures_of t p) (table_is policy ok calls).1

-- the published rule reads live and key at the places alone
elected_same : (live live' : ℕ → Bool) (key key' : ℕ → ℕ) (m : ℕ) (w : Who) → ((q : ℕ) → q < m → live q ≡ live' q) → ((q : ℕ) → q < m → key q ≡ key' q) → Elected live key m w → Elected live' key' m w
elected_same live live' key key' m w a b r = grind (arith, goes_to, idles)

pub every_slot_goes_where_the_rule_sends_it : EverySlotGoesWhereTheRuleSendsIt
every_slot_goes_where_the_rule_sends_it policy calls before rest s ok e =
    let a = parts policy ok calls before (Gave s ∷ rest) e in
    let t = after (start policy) before in
    let is : (q : ℕ) → q < place_count → figures_of t q ≡ ledger policy q before = λ q l. sym (ledger_is policy ok before q l a.0) in
    let same : t.policy ≡ policy = after_policy before (start policy) ∙ ap (λ u. u.policy) (start_is policy ok) in (
      elected t,
      elected_same (live_at t) _ (rank_at t) _ place_count (elected t) (λ q l. ap (λ k. k.live) (is q l)) (λ q l. ap₂ (λ n k. rank_in n k) same (is q l)) (elected_ok t),
      a.1.0.1,
    )

-- an accepted arrival: the table where it stands, the table with the new job, and what follows
abbrev there : ℕ → List Happening → Table
there policy before = after (start policy) before

abbrev with_it : ℕ → List Happening → ℕ → ℕ → ℕ → Table
with_it policy before p b d = effect (there policy before) (call_of (Arrived p b d))

record Taken (policy : ℕ) (before rest : List Happening) (p b d : ℕ) : Type 0 where
  before_allowed : AllAllowed (start policy) before
  accepted : refusal (there policy before) (call_of (Arrived p b d)) ≡ 0
  rest_allowed : AllAllowed (with_it policy before p b d) rest
  inside : p < place_count
  sound_there : Sound (there policy before)
  sound_with : Sound (with_it policy before p b d)
  policy_is : (with_it policy before p b d).policy ≡ policy
  job : at (with_it policy before p b d) p ≡ with_job (there policy before).now.0 (at (there policy before) p) b d
  deadline : (at (with_it policy before p b d) p).deadline.0 ≡ (with_it policy before p b d).now.0 + d
  in_cap : b ≤ (at (there policy before) p).cap.0

taken : (policy : ℕ) → SetUp policy → (calls : List Call) (before rest : List Happening) (p b d : ℕ) → history policy calls ≡ before ++ (Did (Arrived p b d) ∷ rest) → Taken policy before rest p b d
unfolding call_of effect
taken policy ok calls before rest p b d e =
    let a = parts policy ok calls before (Did (Arrived p b d) ∷ rest) e in
    let t = there policy before in
    let s = after_sound before (start policy) (start_sound policy ok) a.0 in
    let c = (passed t (Arrive p b d) a.1.0).1 in
    let j = get_or-set_same t.places p (with_job t.now.0 (at t p) b d) zero_place (omega (arith, s.size)) in
    let clock = deed_clock t (Arrived p b d) in
    record {
      before_allowed = a.0;
      accepted = a.1.0;
      rest_allowed = a.1.1;
      inside = c.0;
      sound_there = s;
      sound_with = next_sound t (Did (Arrived p b d)) s a.1.0;
      policy_is = next_policy t (Did (Arrived p b d)) ∙ after_policy before (start policy) ∙ ap (λ u. u.policy) (start_is policy ok);
      job = j;
      deadline = ap (λ x. x.deadline.0) j ∙ ap (λ n. n + d) (sym clock);
      in_cap = c.2.1;
    }

pub no_job_runs_past_its_slots : NoJobRunsPastItsSlots
no_job_runs_past_its_slots policy calls before rest p b d ok e =
    let j = taken policy ok calls before rest p b d e in (
      subst (λ x. job_slots p rest ≤ x.remaining.0) j.job (job_bounded rest (with_it policy before p b d) p j.sound_with j.inside j.rest_allowed (ap (λ x. x.live) j.job)),
      subst (λ k. b ≤ k.cap) (sym (ledger_is policy ok before p j.inside j.before_allowed)) j.in_cap,
    )

pub no_slot_without_a_job : NoSlotWithoutAJob
no_slot_without_a_job policy calls p ok l =
    off_row (history policy calls) (start policy) p (start_sound policy ok) l (table_is policy ok calls).0 (ap (λ x. x.live) (ap (λ t. at t p) (start_is policy ok) ∙ fresh_at policy p l))

pub no_reserve_starts_twice_within_its_gap : NoReserveStartsTwiceWithinItsGap
no_reserve_starts_twice_within_its_gap policy calls before between rest p b d b' d' ok e =
    let j = taken policy ok calls before (between ++ (Did (Arrived p b' d') ∷ rest)) p b d e in
    let t = there policy before in
    let u = with_it policy before p b d in
    let a = allowed_split between (Did (Arrived p b' d') ∷ rest) u j.rest_allowed in
    let w = row_waits between u p (t.now.0 + (at t p).gap.0) j.sound_with j.inside a.0 (arrival_waits t p b d j.sound_there j.accepted) in
    omega (arith, ap (λ k. k.gap) (ledger_is policy ok before p j.inside j.before_allowed), arrives_after (after u between) p (t.now.0 + (at t p).gap.0) b' d' a.1.0 w, after_clock between u, deed_clock t (Arrived p b d))

-- the totals and the idle count of an allowed row
counted : (policy : ℕ) (ok : SetUp policy) (hs : List Happening) → AllAllowed (start policy) hs → (p : ℕ) → p < place_count → (at (after (start policy) hs) p).total.0 ≡ slots_naming p hs
counted policy ok hs a p l =
    omega (arith, total_counted hs (start policy) p (start_sound policy ok) l a, ap (λ x. x.total.0) (ap (λ t. at t p) (start_is policy ok) ∙ fresh_at policy p l))

idle_is : (policy : ℕ) (ok : SetUp policy) (hs : List Happening) → AllAllowed (start policy) hs → (after (start policy) hs).idle.0 ≡ slots_naming idle_byte hs
idle_is policy ok hs a = omega (arith, idle_counted hs (start policy) a, ap (λ t. t.idle.0) (start_is policy ok))

pub slots_add_up_to_the_clock : SlotsAddUpToTheClock
slots_add_up_to_the_clock policy calls before rest ok e =
    let a = (parts policy ok calls before rest e).0 in
    let s = after_sound before (start policy) (start_sound policy ok) a in
    omega (arith, s.adds_up, sum_ext (λ p. (at (after (start policy) before) p).total.0) (λ p. slots_naming p before) place_count (counted policy ok before a), idle_is policy ok before a, now_is policy ok before)

pub totals_are_counted : TotalsAreCounted
totals_are_counted policy calls ok =
    let h = table_is policy ok calls in
    subst (λ t. ((p : ℕ) → p < place_count → (at t p).total.0 ≡ slots_naming p (history policy calls)) × (t.idle.0 ≡ slots_naming idle_byte (history policy calls)) × (t.now.0 ≡ ticks (history policy calls))) h.1
    (counted policy ok (history policy calls) h.0, idle_is policy ok (history policy calls) h.0, now_is policy ok (history policy calls))

had_all : (calls : List Call) (before rest : List Happening) (p b d : ℕ) → history 1 calls ≡ before ++ (Did (Arrived p b d) ∷ rest) → d ≤ ticks rest → withdrawn p (until d rest) ≡ false → HadAll (with_it 1 before p b d) p d rest
had_all calls before rest p b d e h w =
    let j = taken 1 one_ok calls before rest p b d e in
    job_served rest (with_it 1 before p b d) p d j.sound_with j.policy_is j.inside j.rest_allowed (ap (λ x. x.live) j.job) j.deadline h w

pub a_taken_job_is_served : ATakenJobIsServed
a_taken_job_is_served calls before rest p b d e h w =
    let j = taken 1 one_ok calls before rest p b d e in
    let all : job_slots p (until d rest) ≡ b = (had_all calls before rest p b d e h w).all ∙ ap (λ x. x.remaining.0) j.job in
    (all, omega (arith, (no_job_runs_past_its_slots 1 calls before rest p b d one_ok e).0, until_fewer d p rest))

pub a_taken_job_ends_spent : ATakenJobEndsSpent
a_taken_job_ends_spent calls before rest p b d e h w =
    let j = taken 1 one_ok calls before rest p b d e in
    let u = with_it 1 before p b d in
    let f = had_all calls before rest p b d e h w in
    let mine = f.its ++ (Gave p ∷ []) in
    let whole = subst (AllAllowed u) (f.split ∙ sym (append_assoc f.its (Gave p ∷ []) f.later)) (until_allowed d rest u j.rest_allowed) in
    let row = before ++ (Did (Arrived p b d) ∷ mine) in
    let allowed : AllAllowed (start 1) row = allowed_join before (Did (Arrived p b d) ∷ mine) (start 1) j.before_allowed (j.accepted, (allowed_split mine f.later u whole).0) in (
      f.its,
      f.later,
      f.split,
      f.last_one ∙ ap (λ x. x.remaining.0) j.job,
      ap (λ k. k.ending) (ledger_is 1 one_ok row p j.inside allowed) ∙ ap (λ t. (at t p).ending) (after_join before (Did (Arrived p b d) ∷ mine) (start 1)) ∙ f.ends,
    )

pub no_job_ends_late_by_deadline : NoJobEndsLateByDeadline
no_job_ends_late_by_deadline calls p l e =
    ledger_in_time (history 1 calls) p (reserve 0 false 0 0 0) (λ z. omega arith) (ap (λ k. k.ending) (the_table_holds_what_the_history_says 1 calls p one_ok l) ∙ e)

-- the plans for the table are the plans for what the history says
plan_same : (calls : List Call) (p b d : ℕ) → SomePlanServes (table_after 1 calls) p b d ↔ SomePlanServesAll (history 1 calls) p b d
plan_same calls p b d = (
  (λ f. (f.0, rw (← clock) f.1, λ q l v. subst (λ k. Serves f.0 (ticks h) q k.owed k.deadline) (sym (is q l)) (rw (← clock) (f.2 q l (eqb-true _ 1 (sym (ap (λ k. k.live) (is q l)) ∙ v)))))),
  (λ f. (f.0, rw clock f.1, λ q l v. rw clock (subst (λ k. Serves f.0 (ticks h) q k.owed k.deadline) (is q l) (f.2 q l (ap (λ k. k.live) (is q l) ∙ eq-eqb _ 1 v))))),
)
  where
    h : List Happening
    h = history 1 calls

    clock : (table_after 1 calls).now.0 ≡ ticks h
    clock = (totals_are_counted 1 calls one_ok).2

    is : (q : ℕ) → q < place_count → ledger 1 q h ≡ figures_of (table_after 1 calls) q
    is q l = the_table_holds_what_the_history_says 1 calls q one_ok l

-- the last refusal of an arrival, and none
row_nine : (t : Table) (p b d : ℕ) → FirstIs 9 (Refusals t (Arrive p b d)) → ¬ SomePlanServes t p b d
row_nine t p b d f = grind arith

row_none : (t : Table) (p b d : ℕ) → FirstIs 0 (Refusals t (Arrive p b d)) → ¬ ((t.policy ≡ 1) × ¬ SomePlanServes t p b d)
row_none t p b d f = grind arith

pub turned_away_exactly_when_no_plan_serves_all : TurnedAwayExactlyWhenNoPlanServesAll
turned_away_exactly_when_no_plan_serves_all calls p b d choice =
    let t = table_after 1 calls in
    let same = plan_same calls p b d in
    let policy_one : t.policy ≡ 1 = ap (λ u. u.policy) (sym (table_is 1 one_ok calls).1) ∙ after_policy (history 1 calls) (start 1) ∙ ap (λ u. u.policy) (start_is 1 one_ok) in
    let says = each_refusal_exactly_when_the_paper_says t (Arrive p b d) in (
      (λ e f. row_nine t p b d ((says 9).0 e) (same.1 f)),
      (λ n. ⊎_elim (λ e. absurd (row_none t p b d ((says 0).0 e) (policy_one, λ f. n (same.0 f)))) (λ e. e) choice),
    )

-- how the job of p ended, as the table says it in the end
abbrev Ends : ℕ → ℕ → ℕ → List Happening → Place → Type 0
Ends p b d rest x =
    ((x.ending ≡ 1) ↔ (withdrawn p rest ≡ true))
    × ((x.ending ≡ 2) ↔ (job_slots p (until d rest) ≡ b))
    × ((x.ending ≡ 3) ↔ ((withdrawn p (until d rest) ≡ false) × (d ≤ ticks rest) × (job_slots p (until d rest) < b)))
    × ((x.ending ≡ 0) ↔ (x.live ≡ 1))

-- the four fates exclude one another
fate_ends : (t : Table) (p b d : ℕ) (rest : List Happening) → (at t p).remaining.0 ≡ b → ((at (after t rest) p).live ≡ 1 → (at (after t rest) p).ending ≡ 0) → Fate t p d rest → Ends p b d rest (at (after t rest) p)
fate_ends t p b d rest owed zero_live f = grind arith

pub how_a_job_ends : HowAJobEnds
how_a_job_ends calls before rest p b d e u =
    let j = taken 2 two_ok calls before rest p b d e in
    let t = with_it 2 before p b d in
    let end_is : after t rest ≡ table_after 2 calls = sym (after_join before (Did (Arrived p b d) ∷ rest) (start 2)) ∙ ap (after (start 2)) (sym e) ∙ (table_is 2 two_ok calls).1 in
    let s = after_sound rest t j.sound_with j.rest_allowed in
    subst (λ v. Ends p b d rest (at v p)) end_is
    (fate_ends t p b d rest (ap (λ x. x.remaining.0) j.job) (λ v. (live_bounds (s.places p j.inside) v).1.ending)
    (job_fate rest t p d j.sound_with j.inside j.rest_allowed u (ap (λ x. x.live) j.job) j.deadline))

pub an_unoutranked_job_is_served : AnUnoutrankedJobIsServed
an_unoutranked_job_is_served calls before rest p b d e few reach w none =
    let j = taken 2 two_ok calls before rest p b d e in
    let t = with_it 2 before p b d in
    let owed = ap (λ x. x.remaining.0) j.job in
    (unoutranked_served rest t p d j.sound_with j.policy_is j.inside j.rest_allowed (ap (λ x. x.live) j.job) j.deadline reach (omega arith) w (in_table j)).all ∙ owed
  where
    in_table : Taken 2 before rest p b d → (since later : List Happening) (m : ℕ) → until d rest ≡ since ++ (Gave m ∷ later) → (q : ℕ) → q < place_count → (at (after (with_it 2 before p b d) since) q).live ≡ 1 → ¬ RanksBefore (λ r. (at (after (with_it 2 before p b d) since) r).level) q p
    in_table j since later m f q l v r =
        let t = with_it 2 before p b d in
        let row = before ++ (Did (Arrived p b d) ∷ since) in
        let since_allowed = (allowed_split since (Gave m ∷ later) t (subst (AllAllowed t) f (until_allowed d rest t j.rest_allowed))).0 in
        let allowed = allowed_join before (Did (Arrived p b d) ∷ since) (start 2) j.before_allowed (j.accepted, since_allowed) in
        let is : (k : ℕ) → k < place_count → ledger 2 k row ≡ figures_of (after t since) k = λ k i. ledger_is 2 two_ok row k i allowed ∙ ap (λ u. figures_of u k) (after_join before (Did (Arrived p b d) ∷ since) (start 2)) in
        let level_q = ap (λ k. k.level) (is q l) in
        let level_p = ap (λ k. k.level) (is p j.inside) in
        none since later m f q l (ap (λ k. k.live) (is q l) ∙ eq-eqb _ 1 v) (⊎_elim (λ g. inl (omega arith)) (λ g. inr (omega (arith, g.0), g.1)) r)
