-- A slot hands back a sound table where it was given one: each place stays sound, one total or idle grows with the clock, and under
-- policy 1 the sums are kept.
use Rattle.std.proofs.Common.{Bool, ◌≡◌, refl, sym, ap, ◌∙◌, subst, ◌⊎◌, ℕ, zero, suc, ◌+◌, ◌≤◌, ◌<◌, arith, length, eq-eqb, eqb-true}
use Rattle.std.proofs.Math.Decide.{dec_le}
use Rattle.std.proofs.lemmas.Bool.Decides.{nat_tests}
use Rattle.rules.specs.declared.Place.{Place}
use Rattle.rules.specs.Numbers.{place_count, last_tick}
use Rattle.rules.specs.Tests.{sum}
use Rattle.rules.specs.Table.{Table, at}
use Rattle.rules.specs.Election.{Who, nobody, place, Elected, goes_to, live_at, rank_at, elected}
use Rattle.rules.specs.Fit.{is_for, due, demand, SumsFit, jobs_of}
use Rattle.rules.specs.Sound.{OpenInBounds, LiveInBounds, SoundPlace, closed, resting, busy, totals, Sound}
use Rattle.rules.specs.Slot.{served, unless_late, idle_more, slot, slots}
use Rattle.rules.specs.Source000.{less, spend, SomeLeft}
use Rattle.rules.proofs.Sums.{sum_ext, sum_add, sum_zero, term_le}
use Rattle.rules.proofs.Elections.{elect_ok}
use Rattle.rules.proofs.Fits.{SumsAlways, for_it, for_one}
use Rattle.rules.proofs.Spending.{some_kept, spent_by, earliest, earliest_keeps, sums_always}
use Rattle.rules.proofs.Stores.{gave, slot_at, slot_keeps}

pub elected_ok : (t : Table) → Elected (live_at t) (rank_at t) place_count (elected t)
unfolding elected
elected_ok t = elect_ok (live_at t) (rank_at t) place_count

-- who is elected is live
pub elected_live : (t : Table) (p : ℕ) → elected t ≡ place p → (at t p).live ≡ 1
elected_live t p i = grind (arith, nat_tests, elected_ok t)

-- a live place of a sound table
pub live_bounds : {now : ℕ} {x : Place} → SoundPlace now x → x.live ≡ 1 → OpenInBounds now x × LiveInBounds now x
live_bounds s v = grind arith

-- z is what a slot of w makes of place q; under policy 1 no live job is left with its deadline at the new clock
place_kept : (policy now : ℕ) (x z : Place) (w : Who) (q : ℕ) → (policy ≡ 1) ⊎ (policy ≡ 2) → (policy ≡ 1 → z.live ≡ 1 → now + 1 < z.deadline.0) → SoundPlace now x → (w ≡ place q → x.live ≡ 1) → z ≡ unless_late policy (now + 1) (gave w q x) → SoundPlace (now + 1) z
unfolding unless_late gave served
place_kept policy now x z w q known first s v e = grind (arith, nat_tests, closed, resting, busy)

-- what a slot adds to a total
pub total_at : (t : Table) (q : ℕ) → q < length t.places → (at (slot t) q).total.0 ≡ (at t q).total.0 + is_for (elected t) q
unfolding unless_late gave served is_for
total_at t q h = grind (arith, nat_tests, slot_at t q h)

-- a slot is one place's or idle
one_slot : (live : ℕ → Bool) (key : ℕ → ℕ) (m : ℕ) (w : Who) → Elected live key m w → sum (is_for w) m + idle_more w ≡ 1
unfolding idle_more
one_slot live key m nobody r = omega (arith, sum_zero (is_for nobody) m (λ p l. unfold is_for in refl))
one_slot live key m (place p) (goes_to l v f) = omega (arith, for_one (place p) m, term_le (is_for (place p)) m p l, for_it p)

-- a total or idle grows by one
adds_kept : (t : Table) → length t.places ≡ place_count → totals (slot t) + (slot t).idle.0 ≡ suc (totals t + t.idle.0)
adds_kept t h = omega (
  arith,
  sum_ext (λ q. (at (slot t) q).total.0) (λ q. (at t q).total.0 + is_for (elected t) q) place_count (λ q l. total_at t q (omega arith)),
  sum_add (λ q. (at t q).total.0) (is_for (elected t)) place_count,
  one_slot (live_at t) (rank_at t) place_count (elected t) (elected_ok t),
  (slot_keeps t).idle,
)

-- under policy 1 the jobs after a slot are those of the theory of plans
elected_earliest : (t : Table) → t.policy ≡ 1 → elected t ≡ earliest (jobs_of t) place_count
unfolding elected earliest
elected_earliest t e = rw e

pub slot_jobs : (t : Table) → length t.places ≡ place_count → t.policy ≡ 1 → (q : ℕ) → q < place_count → jobs_of (slot t) q ≡ spend (earliest (jobs_of t) place_count) (jobs_of t) q
unfolding unless_late gave served spend less
slot_jobs t h e q l = rw (← elected_earliest t e) (grind (arith, nat_tests, slot_at t q (omega arith)))

pub some_left : (t : Table) → Sound t → SomeLeft (jobs_of t) place_count
unfolding SomeLeft
some_left t s p l v = (live_bounds (s.places p l) (eqb-true (at t p).live 1 v)).1.some_left

pub slot_sound : (t : Table) → t.now.0 < last_tick → Sound t → Sound (slot t)
unfolding SumsFit SumsAlways SomeLeft demand
slot_sound t h s = record {
  size = (slot_keeps t).size ∙ s.size;
  policy = rw (slot_keeps t).policy s.policy;
  clock = omega (arith, (slot_keeps t).clock);
  adds_up = omega (arith, adds_kept t s.size, s.adds_up, (slot_keeps t).clock);
  places = λ q l. subst (λ n. SoundPlace n (at (slot t) q)) (sym (slot_keeps t).clock) (place_kept t.policy t.now.0 (at t q) _ (elected t) q s.policy (λ e v. first e q l v) (s.places q l) (elected_live t q) (slot_at t q (omega (arith, s.size))));
  fit = λ e. λ q l v. omega (arith, (slot_keeps t).clock, sums (sym (slot_keeps t).policy ∙ e) (at (slot t) q).deadline.0);
}
  where
    same : t.policy ≡ 1 → (q : ℕ) → q < place_count → jobs_of (slot t) q ≡ spend (earliest (jobs_of t) place_count) (jobs_of t) q
    same e = slot_jobs t s.size e

    sums : t.policy ≡ 1 → SumsAlways (jobs_of (slot t)) place_count (t.now.0 + 1)
    sums e = λ d. omega (
      arith,
      sum_ext (λ q. due d (jobs_of (slot t) q)) (λ q. due d (spend (earliest (jobs_of t) place_count) (jobs_of t) q)) place_count (λ q l. ap (due d) (same e q l)),
      earliest_keeps (jobs_of t) place_count t.now.0 (some_left t s) (sums_always (jobs_of t) place_count t.now.0 (s.fit e)) d,
    )

    first : t.policy ≡ 1 → (q : ℕ) → q < place_count → (at (slot t) q).live ≡ 1 → t.now.0 + 1 < (at (slot t) q).deadline.0
    first e q l v = elim (dec_le (at (slot t) q).deadline.0 (t.now.0 + 1)) [
      | yes g ↦
          let live = eq-eqb (at (slot t) q).live 1 v in
          absurd (omega (arith, spent_by (jobs_of (slot t)) place_count (t.now.0 + 1) (sums e) q l live g, ap (λ j. j.remaining) (same e q l), some_kept (jobs_of t) place_count (earliest (jobs_of t) place_count) (some_left t s) q l (sym (ap (λ j. j.live) (same e q l)) ∙ live)))
      | no g ↦ omega arith
    ]

pub slots_sound : (n : ℕ) (t : Table) → t.now.0 + n ≤ last_tick → Sound t → Sound (slots n t)
unfolding slots
slots_sound zero t h s = s
slots_sound (suc n) t h s = slots_sound n (slot t) (omega (arith, (slot_keeps t).clock)) (slot_sound t (omega arith) s)

pub slots_clock : (n : ℕ) (t : Table) → (slots n t).now.0 ≡ t.now.0 + n
unfolding slots
slots_clock zero t = omega arith
slots_clock (suc n) t = omega (arith, slots_clock n (slot t), (slot_keeps t).clock)

pub slots_policy : (n : ℕ) (t : Table) → (slots n t).policy ≡ t.policy
unfolding slots
slots_policy zero t = refl
slots_policy (suc n) t = slots_policy n (slot t) ∙ (slot_keeps t).policy
