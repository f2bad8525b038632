-- The test of soundness says what the clauses say, and nothing else.
use Rattle.std.proofs.Common.{◌≡◌, ◌⊎◌, ◌↔◌, true, ℕ, arith, tests, leb-true}
use Rattle.std.proofs.lemmas.Bool.{and_parts}
use Rattle.std.proofs.lemmas.Bool.Decides.{nat_tests}
use Rattle.rules.specs.declared.Place.{Place}
use Rattle.rules.specs.Numbers.{place_count}
use Rattle.rules.specs.Table.{Table, at}
use Rattle.rules.specs.Fit.{Job, SumsFit, sums_fit, jobs_of, fits_by_sums}
use Rattle.rules.specs.Sound.{SoundPlace, closed, resting, busy, Sound, sound_place, known_policy, sound}
use Rattle.rules.proofs.Sums.{each_true, each_all}

place_holds : (now : ℕ) (p : Place) → sound_place now p ≡ true → SoundPlace now p
unfolding sound_place
place_holds now p s = grind (arith, and_parts, tests, closed, resting, busy)

holds_place : (now : ℕ) (p : Place) → SoundPlace now p → sound_place now p ≡ true
unfolding sound_place
holds_place now p s = grind (arith, nat_tests)

-- the test by sums is the clause of the sums
pub sums_iff : (jobs : ℕ → Job) (m now : ℕ) → (sums_fit jobs m now ≡ true) ↔ SumsFit jobs m now
unfolding sums_fit SumsFit
sums_iff jobs m now = ((λ e q l v. leb-true _ _ (rw v at (each_true _ m e q l))), (λ s. each_all _ m (λ q l. grind (arith, nat_tests, s q l))))

pub sound_holds : (t : Table) → sound t ≡ true → Sound t
unfolding sound
sound_holds t s = record {
  size = grind (arith, nat_tests);
  policy = grind (arith, nat_tests);
  clock = grind (arith, nat_tests);
  adds_up = grind (arith, nat_tests);
  places = λ p l. place_holds t.now.0 (at t p) (each_true (λ q. sound_place t.now.0 (at t q)) place_count (grind (arith, nat_tests)) p l);
  fit = λ e. (sums_iff (jobs_of t) place_count t.now.0).0 (unfold fits_by_sums in grind (arith, nat_tests));
}

pub known_policy_lem : (policy : ℕ) → (policy ≡ 1) ⊎ (policy ≡ 2) → known_policy policy ≡ true
known_policy_lem policy e = grind (arith, nat_tests)

pub holds_sound : (t : Table) → Sound t → sound t ≡ true
unfolding sound fits_by_sums
holds_sound t s = grind (arith, nat_tests, each_all _ place_count (λ p l. holds_place t.now.0 (at t p) (s.places p l)), sums_iff (jobs_of t) place_count t.now.0)
