-- The computed election obeys the published rule, and the rule names one place alone: of two live places one ranks before the other.
use Rattle.std.proofs.Common.{◌≡◌, true, Bool, ℕ, zero, suc, ◌≤◌, ◌<◌, arith}
use Rattle.std.proofs.lemmas.Bool.Decides.{nat_tests}
use Rattle.rules.specs.Election.{Who, place, Elected, goes_to, idles, better, elect}

pub least : (live : ℕ → Bool) (key : ℕ → ℕ) (m p : ℕ) → Elected live key m (place p) → (q : ℕ) → q < m → live q ≡ true → key p ≤ key q
least live key m p (goes_to l v first) q k w = grind arith

elected_next : (live : ℕ → Bool) (key : ℕ → ℕ) (m : ℕ) (w : Who) → Elected live key m w → Elected live key (suc m) (better (live m) key m w)
unfolding better
elected_next live key m w r = grind (arith, nat_tests, goes_to, idles)

pub elect_ok : (live : ℕ → Bool) (key : ℕ → ℕ) (m : ℕ) → Elected live key m (elect live key m)
unfolding elect
elect_ok live key zero = idles (λ q l. absurd (omega arith))
elect_ok live key (suc m) = elected_next live key m (elect live key m) (elect_ok live key m)

pub elected_unique : (live : ℕ → Bool) (key : ℕ → ℕ) (m : ℕ) (v w : Who) → Elected live key m v → Elected live key m w → v ≡ w
elected_unique live key m v w r s = grind arith
