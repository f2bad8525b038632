-- What is due by an instant, and why a plan that serves all keeps the sums small: what it gives by d is at most the slots before d.
use Rattle.std.proofs.Common.{◌≡◌, refl, sym, ap, subst, ◌≢◌, true, false, ℕ, zero, suc, ◌-◌, ◌≤◌, ◌<◌, arith, le_trans, le-leb, eq-eqb, ne_eqb}
use Rattle.std.proofs.Math.Decide.{ℕ_discrete}
use Rattle.std.proofs.lemmas.Bool.Decides.{nat_tests}
use Rattle.rules.specs.Tests.{sum}
use Rattle.rules.specs.Election.{Who, nobody, place}
use Rattle.rules.specs.Fit.{Job, Plan, is_for, slots_for, Fits, due, demand}
use Rattle.rules.proofs.Sums.{sum_mono, sum_add, sum_zero}

-- for each instant, and not for each live deadline alone
unfoldable pub SumsAlways : (ℕ → Job) → ℕ → ℕ → Type 0
SumsAlways jobs m now = (d : ℕ) → demand jobs m d ≤ d - now

pub due_in : (d : ℕ) (j : Job) → j.live ≡ true → j.deadline ≤ d → due d j ≡ j.remaining
unfolding due
due_in d j l h = rw (l, le-leb j.deadline d h)

pub due_gone : (d : ℕ) (j : Job) → j.live ≡ false → due d j ≡ 0
unfolding due
due_gone d j l = rw l

pub data Due (d : ℕ) (j : Job) : Type 0 where
  in_time : j.live ≡ true → j.deadline ≤ d → due d j ≡ j.remaining → Due d j
  not_yet : due d j ≡ 0 → Due d j

pub due_view : (d : ℕ) (j : Job) → Due d j
unfolding due
due_view d j = grind (arith, nat_tests, in_time, not_yet)

pub for_it : (p : ℕ) → is_for (place p) p ≡ 1
unfolding is_for
for_it p = rw (eq-eqb p p refl)

pub for_other : (q p : ℕ) → q ≢ p → is_for (place q) p ≡ 0
unfolding is_for
for_other q p n = rw (ne_eqb q p n)

-- a slot is at most one place's
pub for_one : (w : Who) (m : ℕ) → sum (λ p. is_for w p) m ≤ 1
unfolding sum is_for
for_one nobody m = omega (arith, sum_zero (λ p. 0) m (λ p l. refl))
for_one (place q) zero = omega arith
for_one (place q) (suc m) = elim (ℕ_discrete q m) [
  | yes e ↦ omega (arith, subst (λ k. is_for (place k) m ≡ 1) (sym e) (for_it m), sum_zero (λ p. is_for (place q) p) m (λ p l. for_other q p (omega arith)))
  | no n ↦ omega (arith, for_other q m n, for_one (place q) m)
]

slots_mono : (plan : Plan) (p t n k : ℕ) → n ≤ k → slots_for plan p t n ≤ slots_for plan p t k
unfolding slots_for
slots_mono plan p t zero k h = omega arith
slots_mono plan p t (suc n) zero h = absurd (omega arith)
slots_mono plan p t (suc n) (suc k) h = omega (arith, slots_mono plan p (suc t) n k (omega arith))

-- plans that agree from t on give the same
pub slots_ext : (f g : Plan) (p t n : ℕ) → ((s : ℕ) → t ≤ s → f s ≡ g s) → slots_for f p t n ≡ slots_for g p t n
unfolding slots_for
slots_ext f g p t zero h = refl
slots_ext f g p t (suc n) h = omega (arith, ap (λ x. is_for x p) (h t (omega arith)), slots_ext f g p (suc t) n (λ s l. h s (omega arith)))

slots_total : (plan : Plan) (m t n : ℕ) → sum (λ p. slots_for plan p t n) m ≤ n
unfolding slots_for
slots_total plan m t zero = omega (arith, sum_zero (λ p. 0) m (λ p l. refl))
slots_total plan m t (suc n) = omega (arith, sum_add (λ p. is_for (plan t) p) (λ p. slots_for plan p (suc t) n) m, for_one (plan t) m, slots_total plan m (suc t) n)

pub necessary : (jobs : ℕ → Job) (m now : ℕ) → Fits jobs m now → SumsAlways jobs m now
unfolding Fits SumsAlways demand
necessary jobs m now f d =
    le_trans (sum_mono (λ p. due d (jobs p)) (λ p. slots_for f.0 p now (d - now)) m each_served) (slots_total f.0 m now (d - now))
  where
    each_served : (p : ℕ) → p < m → due d (jobs p) ≤ slots_for f.0 p now (d - now)
    each_served p l = elim (due_view d (jobs p)) [
      | in_time e h q ↦ omega (arith, f.1 p l e, slots_mono f.0 p now ((jobs p).deadline - now) (d - now) (omega arith))
      | not_yet q ↦ omega arith
    ]
