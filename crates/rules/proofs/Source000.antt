-- The claims of specs/Source000.antt, each under its name in small letters: the policy keeps the sums small, so a live deadline is ahead.
use Rattle.std.proofs.Common.{◌≡◌, sym, ap, ◌∙◌, subst, true, List, ◌++◌, ℕ, zero, suc, ◌+◌, ◌-◌, ◌≤◌, ◌<◌, arith, eqb-true}
use Rattle.rules.specs.Numbers.{place_count}
use Rattle.rules.specs.Table.{at}
use Rattle.rules.specs.Fit.{Job, slots_for, Fits, jobs_of}
use Rattle.rules.specs.Sound.{Sound}
use Rattle.rules.specs.Call.{Call}
use Rattle.rules.specs.History.{Happening, history, ticks, ledger}
use Rattle.rules.specs.Source000.{SomeLeft, spend, EdfPolicyFor, for_none, for_one_more, ASchedulableSetIsNeverOverdue, job_in, TheJobsTakenAreSchedulable, NoJobTakenIsEverOverdue}
use Rattle.rules.proofs.Fits.{SumsAlways, necessary}
use Rattle.rules.proofs.Spending.{sums_kept, some_kept, spent_by, fits_iff}
use Rattle.rules.proofs.Kept.{some_left, live_bounds}
use Rattle.rules.proofs.Histories.{AllAllowed, after, after_sound, after_policy}
use Rattle.rules.proofs.Starts.{start, start_is, start_sound, ledger_is, parts, now_is, one_ok}

never_overdue : (m n now : ℕ) (jobs later : ℕ → Job) → SomeLeft jobs m → SumsAlways jobs m now → EdfPolicyFor m n jobs later → SomeLeft later m × SumsAlways later m (now + n)
never_overdue m zero now jobs later some s for_none = (some, subst (SumsAlways jobs m) (omega arith) s)
never_overdue m (suc n) now jobs later some s (for_one_more w r f) =
    let k = never_overdue m n (suc now) (spend w jobs) later (some_kept jobs m w some) (sums_kept jobs m now w r some s) f in
    (k.0, subst (SumsAlways later m) (omega arith) k.1)

pub a_schedulable_set_is_never_overdue : ASchedulableSetIsNeverOverdue
unfolding SomeLeft
a_schedulable_set_is_never_overdue m now n jobs later some f e p l o =
    let k = never_overdue m n now jobs later some (necessary jobs m now f) e in
    omega (arith, spent_by later m (now + n) k.1 p l o.0 o.1, k.0 p l o.0)

-- the table after a part of a history is sound, and its jobs are those of the ledgers
module _ (calls : List Call) (before rest : List Happening) (e : history 1 calls ≡ before ++ rest) where
  allowed : AllAllowed (start 1) before
  allowed = (parts 1 one_ok calls before rest e).0

  sound_then : Sound (after (start 1) before)
  sound_then = after_sound before (start 1) (start_sound 1 one_ok) allowed

  policy_then : (after (start 1) before).policy ≡ 1
  policy_then = after_policy before (start 1) ∙ ap (λ t. t.policy) (start_is 1 one_ok)

  job_then : (p : ℕ) → p < place_count → jobs_of (after (start 1) before) p ≡ job_in (ledger 1 p before)
  job_then p l = ap job_in (sym (ledger_is 1 one_ok before p l allowed))

pub the_jobs_taken_are_schedulable : TheJobsTakenAreSchedulable
unfolding Fits
the_jobs_taken_are_schedulable calls before rest e =
    let t = after (start 1) before in
    let s = sound_then calls before rest e in
    let f = (fits_iff (jobs_of t) place_count t.now.0 (some_left t s)).1 (s.fit (policy_then calls before rest e)) in (
      f.0,
      λ p l v. subst (λ j. j.live ≡ true → j.remaining ≤ slots_for f.0 p (ticks before) (j.deadline - ticks before)) (job_then calls before rest e p l)
          (rw (← now_is 1 one_ok before) (f.1 p l)) v,
    )

pub no_job_taken_is_ever_overdue : NoJobTakenIsEverOverdue
no_job_taken_is_ever_overdue calls before rest e p l o =
    let t = after (start 1) before in
    let s = sound_then calls before rest e in
    let j = job_then calls before rest e p l in
    omega (arith, (live_bounds (s.places p l) (eqb-true (at t p).live 1 (ap (λ k. k.live) j ∙ o.0))).1.ahead, ap (λ k. k.deadline) j, o.1, now_is 1 one_ok before)
