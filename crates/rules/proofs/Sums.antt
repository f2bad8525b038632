-- Laws of sums and tests over the places below a bound.
use Rattle.std.proofs.Common.{◌≡◌, refl, ap, ◌∙◌, ◌⊎◌, inl, inr, ◌≢◌, Bool, true, false, ℕ, zero, suc, ◌+◌, ◌≤◌, ◌<◌, arith}
use Rattle.std.proofs.lemmas.Bool.{and_parts, cases_Bool}
use Rattle.std.proofs.Math.Decide.{ℕ_discrete}
use Rattle.rules.specs.Tests.{sum, each}

pub sum_mono : (f g : ℕ → ℕ) (m : ℕ) → ((p : ℕ) → p < m → f p ≤ g p) → sum f m ≤ sum g m
unfolding sum
sum_mono f g zero h = omega arith
sum_mono f g (suc m) h = omega (arith, h m (omega arith), sum_mono f g m (λ p l. h p (omega arith)))

pub sum_ext : (f g : ℕ → ℕ) (m : ℕ) → ((p : ℕ) → p < m → f p ≡ g p) → sum f m ≡ sum g m
unfolding sum
sum_ext f g zero h = refl
sum_ext f g (suc m) h = omega (arith, h m (omega arith), sum_ext f g m (λ p l. h p (omega arith)))

pub sum_add : (f g : ℕ → ℕ) (m : ℕ) → sum (λ p. f p + g p) m ≡ sum f m + sum g m
unfolding sum
sum_add f g zero = refl
sum_add f g (suc m) = omega (arith, sum_add f g m)

pub sum_zero : (f : ℕ → ℕ) (m : ℕ) → ((p : ℕ) → p < m → f p ≡ 0) → sum f m ≡ 0
unfolding sum
sum_zero f zero h = refl
sum_zero f (suc m) h = omega (arith, h m (omega arith), sum_zero f m (λ p l. h p (omega arith)))

-- one term is at most the sum
pub term_le : (f : ℕ → ℕ) (m p : ℕ) → p < m → f p ≤ sum f m
unfolding sum
term_le f zero p h = omega arith
term_le f (suc m) p h = elim (ℕ_discrete p m) [ yes e ↦ omega (arith, ap f e) | no n ↦ omega (arith, term_le f m p (omega arith)) ]

-- the sum after one term fell by one and the others stayed
pub sum_fall : (f g : ℕ → ℕ) (m p : ℕ) → p < m → suc (g p) ≡ f p → ((q : ℕ) → q < m → q ≢ p → g q ≡ f q) → suc (sum g m) ≡ sum f m
unfolding sum
sum_fall f g zero p h e o = omega arith
sum_fall f g (suc m) p h e o = elim (ℕ_discrete p m) [
  | yes i ↦ omega (arith, ap f i, ap g i, sum_ext g f m (λ q l. o q (omega arith) (omega arith)))
  | no n ↦ omega (arith, o m (omega arith) (omega arith), sum_fall f g m p (omega arith) e (λ q l. o q (omega arith)))
]

pub each_true : (b : ℕ → Bool) (m : ℕ) → each b m ≡ true → (p : ℕ) → p < m → b p ≡ true
unfolding each
each_true b zero e p l = absurd (omega arith)
each_true b (suc m) e p l =
    let h = and_parts (each b m) (b m) e in
    elim (ℕ_discrete p m) [ yes i ↦ ap b i ∙ h.1 | no n ↦ each_true b m h.0 p (omega arith) ]

pub each_all : (b : ℕ → Bool) (m : ℕ) → ((p : ℕ) → p < m → b p ≡ true) → each b m ≡ true
unfolding each
each_all b zero h = refl
each_all b (suc m) h = rw (each_all b m (λ p l. h p (omega arith))) (h m (omega arith))

-- a place below m where the test holds, or none
pub find : (b : ℕ → Bool) (m : ℕ) → ((p : ℕ) × (p < m) × (b p ≡ true)) ⊎ ((p : ℕ) → p < m → b p ≡ false)
find b zero = inr (λ p h. absurd (omega arith))
find b (suc m) = elim (find b m) [
  | inl r ↦ inl (r.0, omega arith, r.2)
  | inr r ↦ elim (cases_Bool (b m)) [ inl e ↦ inl (m, omega arith, e) | inr e ↦ inr (λ p h. grind arith) ]
]
