-- A slot of the earliest deadline keeps the sums small, so the slots that it gives are a plan that serves all: the test by sums suffices.
use Rattle.std.proofs.Common.{◌≡◌, refl, ap, ap₂, subst, ◌⊎◌, inl, inr, ◌≢◌, ◌↔◌, Bool, true, false, cond, ◌&&◌, ℕ, zero, suc, ◌+◌, ◌-◌, ◌≤◌, ◌<◌, arith, eqb, eqb-true, eq-eqb, ne_eqb}
use Rattle.std.proofs.lemmas.Bool.{and_parts}
use Rattle.std.proofs.lemmas.Bool.Decides.{nat_tests}
use Rattle.std.proofs.Math.Decide.{dec_le}
use Rattle.rules.specs.Tests.{sum}
use Rattle.rules.specs.Election.{Who, nobody, place, Elected, goes_to, idles, elect}
use Rattle.rules.specs.Fit.{Job, Plan, is_for, slots_for, Fits, due, demand, SumsFit}
use Rattle.rules.specs.Source000.{less, spend, SomeLeft}
use Rattle.rules.proofs.Sums.{sum_ext, sum_zero, sum_fall, term_le, find}
use Rattle.rules.proofs.Elections.{least, elect_ok}
use Rattle.rules.proofs.Fits.{SumsAlways, due_in, due_gone, in_time, not_yet, due_view, slots_ext, necessary}

spend_other : (jobs : ℕ → Job) (p q : ℕ) → q ≢ p → spend (place p) jobs q ≡ jobs q
unfolding spend
spend_other jobs p q n = rw (ne_eqb q p n)

-- after a slot of p one less is due of its job, and no job with a deadline as late as p's is due before that
due_given : (d : ℕ) (jobs : ℕ → Job) (p : ℕ) → (jobs p).live ≡ true → 1 ≤ (jobs p).remaining → (jobs p).deadline ≤ d → suc (due d (spend (place p) jobs p)) ≡ due d (jobs p)
unfolding due spend less
due_given d jobs p l r h = grind (arith, nat_tests)

due_early : (d : ℕ) (jobs : ℕ → Job) (p q : ℕ) → ((jobs q).live ≡ true → (jobs p).deadline ≤ (jobs q).deadline) → d < (jobs p).deadline → due d (spend (place p) jobs q) ≡ 0
unfolding due spend less
due_early d jobs p q f h = grind (arith, nat_tests)

-- the sums are kept by one slot of the earliest deadline
pub sums_kept : (jobs : ℕ → Job) (m now : ℕ) (w : Who) → Elected (λ p. (jobs p).live) (λ p. (jobs p).deadline) m w → SomeLeft jobs m → SumsAlways jobs m now → SumsAlways (spend w jobs) m (suc now)
unfolding SumsAlways demand SomeLeft
sums_kept jobs m now nobody (idles h) some s d =
    omega (arith, sum_zero (λ p. due d (spend nobody jobs p)) m (λ p l. unfold spend in due_gone d (jobs p) (h p l)))
sums_kept jobs m now (place p) (goes_to l v first) some s d = elim (dec_le (jobs p).deadline d) [
  | yes h ↦ omega (
    arith,
    s d,
    sum_fall (λ q. due d (jobs q)) (λ q. due d (spend (place p) jobs q)) m p l (due_given d jobs p v (some p l v) h) (λ q k n. ap (due d) (spend_other jobs p q n)),
  )
  | no h ↦ omega (arith, sum_zero (λ q. due d (spend (place p) jobs q)) m (λ q k. due_early d jobs p q (least _ _ m p (goes_to l v first) q k) (omega arith)))
]

pub some_kept : (jobs : ℕ → Job) (m : ℕ) (w : Who) → SomeLeft jobs m → SomeLeft (spend w jobs) m
unfolding SomeLeft spend less
some_kept jobs m w some p l v = grind (arith, nat_tests)

-- each live deadline is at most d
unfoldable Within : (ℕ → Job) → ℕ → ℕ → Type 0
Within jobs m d = (p : ℕ) → p < m → (jobs p).live ≡ true → (jobs p).deadline ≤ d

within_kept : (jobs : ℕ → Job) (m d : ℕ) (w : Who) → Within jobs m d → Within (spend w jobs) m d
unfolding Within spend less
within_kept jobs m d w b p l v = grind (arith, nat_tests)

-- a job whose deadline has come has nothing left
pub spent_by : (jobs : ℕ → Job) (m now : ℕ) → SumsAlways jobs m now → (p : ℕ) → p < m → (jobs p).live ≡ true → (jobs p).deadline ≤ now → (jobs p).remaining ≡ 0
unfolding SumsAlways demand
spent_by jobs m now s p l v h =
    omega (arith, s (jobs p).deadline, term_le (λ q. due (jobs p).deadline (jobs q)) m p l, due_in (jobs p).deadline (jobs p) v (omega arith))

-- w in the slot `now`, and the plan after
unfoldable first : ℕ → Who → Plan → Plan
first now w plan t = cond (eqb t now) w (plan t)

slots_first : (now p n : ℕ) (w : Who) (plan : Plan) → slots_for (first now w plan) p now (suc n) ≡ is_for w p + slots_for plan p (suc now) n
unfolding slots_for
slots_first now p n w plan = ap₂ (λ a b. a + b) (ap (λ y. is_for y p) (unfold first in rw (eq-eqb now now refl)))
    (slots_ext (first now w plan) plan p (suc now) n (λ s l. unfold first in rw (ne_eqb s now (omega arith))))

-- what serves a job after the slot, and the slot, serve it before
served_before : (jobs : ℕ → Job) (w : Who) (p : ℕ) (g : ℕ → ℕ) → (jobs p).live ≡ true → ((spend w jobs p).live ≡ true → (spend w jobs p).remaining ≤ g (spend w jobs p).deadline) → (jobs p).remaining ≤ is_for w p + g (jobs p).deadline
unfolding spend less is_for
served_before jobs w p g v f = grind (arith, nat_tests)

-- a plan for after the slot, with the slot in front, is a plan for before it
fits_before : (jobs : ℕ → Job) (m now : ℕ) (w : Who) → SumsAlways jobs m now → Fits (spend w jobs) m (suc now) → Fits jobs m now
unfolding Fits
fits_before jobs m now w s f = (first now w f.0, serve)
  where
    later : (p : ℕ) → now < (jobs p).deadline → slots_for (first now w f.0) p now ((jobs p).deadline - now) ≡ is_for w p + slots_for f.0 p (suc now) ((jobs p).deadline - suc now)
    later p h = subst (λ k. slots_for (first now w f.0) p now k ≡ is_for w p + slots_for f.0 p (suc now) ((jobs p).deadline - suc now))
        (omega arith) (slots_first now p ((jobs p).deadline - suc now) w f.0)

    serve : (p : ℕ) → p < m → (jobs p).live ≡ true → (jobs p).remaining ≤ slots_for (first now w f.0) p now ((jobs p).deadline - now)
    serve p l v = elim (dec_le (jobs p).deadline now) [
      | yes h ↦ omega (arith, spent_by jobs m now s p l v h)
      | no h ↦ omega (arith, later p (omega arith), served_before jobs w p (λ d. slots_for f.0 p (suc now) (d - suc now)) v (f.1 p l))
    ]

unfoldable pub earliest : (ℕ → Job) → ℕ → Who
earliest jobs m = elect (λ p. (jobs p).live) (λ p. (jobs p).deadline) m

pub earliest_keeps : (jobs : ℕ → Job) (m now : ℕ) → SomeLeft jobs m → SumsAlways jobs m now → SumsAlways (spend (earliest jobs m) jobs) m (suc now)
unfolding earliest
earliest_keeps jobs m now some s = sums_kept jobs m now (earliest jobs m) (elect_ok (λ p. (jobs p).live) (λ p. (jobs p).deadline) m) some s

-- n slots reach every deadline
enough : (n : ℕ) (jobs : ℕ → Job) (m now : ℕ) → Within jobs m (now + n) → SomeLeft jobs m → SumsAlways jobs m now → Fits jobs m now
unfolding Within
enough zero jobs m now b some s = unfold Fits in ((λ t. nobody), λ p l v. omega (arith, spent_by jobs m now s p l v (omega (arith, b p l v))))
enough (suc n) jobs m now b some s =
    let w = earliest jobs m in
    fits_before jobs m now w s
    (enough n (spend w jobs) m (suc now) (subst (Within (spend w jobs) m) (omega arith) (within_kept jobs m (now + suc n) w b)) (some_kept jobs m w some) (earliest_keeps jobs m now some s))

sufficient : (jobs : ℕ → Job) (m now : ℕ) → SomeLeft jobs m → SumsAlways jobs m now → Fits jobs m now
sufficient jobs m now some s = enough (sum (λ p. (jobs p).deadline) m) jobs m now (unfold Within in λ p l v. omega (arith, term_le (λ q. (jobs q).deadline) m p l)) some s

-- a job that does not end at d + 1 is due then as much as at d
due_same : (d : ℕ) (j : Job) → (j.live && eqb j.deadline (suc d)) ≡ false → due (suc d) j ≡ due d j
unfolding due
due_same d j n = grind (arith, nat_tests)

-- the live deadlines are enough to test: between two of them nothing more is due
pub sums_always : (jobs : ℕ → Job) (m now : ℕ) → SumsFit jobs m now → SumsAlways jobs m now
unfolding SumsFit SumsAlways demand
sums_always jobs m now s zero = omega (
  arith,
  sum_zero (λ p. due 0 (jobs p)) m (λ p l. elim (due_view 0 (jobs p)) [
    | in_time a b c ↦ omega (arith, s p l a, term_le (λ q. due (jobs p).deadline (jobs q)) m p l, due_in (jobs p).deadline (jobs p) a (omega arith))
    | not_yet c ↦ c
  ]),
)
sums_always jobs m now s (suc d) = go (find ends_then m) (sums_always jobs m now s d)
  where
    ends_then : ℕ → Bool
    ends_then q = (jobs q).live && eqb (jobs q).deadline (suc d)

    go : ((p : ℕ) × (p < m) × (ends_then p ≡ true)) ⊎ ((p : ℕ) → p < m → ends_then p ≡ false) → demand jobs m d ≤ d - now → demand jobs m (suc d) ≤ suc d - now
    go (inl r) ih =
        let h = and_parts (jobs r.0).live _ r.2 in
        subst (λ k. demand jobs m k ≤ k - now) (eqb-true (jobs r.0).deadline (suc d) h.1) (s r.0 r.1 h.0)
    go (inr r) ih = omega (arith, sum_ext (λ p. due (suc d) (jobs p)) (λ p. due d (jobs p)) m (λ p l. due_same d (jobs p) (r p l)))

-- the claim of the paper: the test by sums is equal to the sentence on plans
pub fits_iff : (jobs : ℕ → Job) (m now : ℕ) → SomeLeft jobs m → Fits jobs m now ↔ SumsFit jobs m now
fits_iff jobs m now some =
    ((λ f. unfold SumsFit SumsAlways in λ q l v. necessary jobs m now f (jobs q).deadline), (λ s. sufficient jobs m now some (sums_always jobs m now s)))
