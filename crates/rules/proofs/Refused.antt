-- Each refusal is given exactly when the paper says: row by row the test of a check decides the paper's words. For row 9 the rows
-- before it give a sound table with the new job in it, where the test by sums is equal to the sentence on plans.
use Rattle.std.proofs.Common.{Decides, ◌≡◌, refl, sym, inl, inr, ⊎_elim, ◌↔◌, Bool, true, false, cond, not, ◌&&◌, eqb, List, [], ◌∷◌, ◌++◌, ℕ, ◌+◌, ◌≤◌, ◌<◌, arith, length-drop, leb-true, le-leb, leb-false, eqb-true, eq-eqb}
use Rattle.std.proofs.lemmas.Bool.{eqb-false, not-false}
use Rattle.std.proofs.lemmas.Bool.Decides.{nat_tests, not_from_Decides, Decides-not, Decides-and, Decides-eqb, Decides-ltb}
use Rattle.rules.specs.Numbers.{place_count, last_tick, most_slots}
use Rattle.rules.specs.Table.{Table, at}
use Rattle.rules.specs.Fit.{Fits, jobs_of, fits_by_sums}
use Rattle.rules.specs.Sound.{Sound, sound}
use Rattle.rules.specs.Call.{Call, Open, Close, Arrive, Depart, Elect, Slot, Advance, with_job, no_place, not_open, arrived, judge, checks, refusal}
use Rattle.rules.specs.Source000.{SomeLeft}
use Rattle.rules.specs.Promises.{SomePlanServes, Refusals, FirstIs}
use Rattle.rules.proofs.Spending.{fits_iff}
use Rattle.rules.proofs.Facts.{sound_holds, holds_sound, sums_iff}
use Rattle.rules.proofs.Stores.{Put, there, other, put_view}
use Rattle.rules.proofs.Kept.{some_left}

-- row by row the tests decide the words, each where the rows before it do not apply
pub data Rows : List (Bool × ℕ) → List (ℕ × Type 0) → Type 1 where
  end : Rows [] []
  row : {b : Bool} {n : ℕ} {P : Type 0} {cs : List (Bool × ℕ)} {rs : List (ℕ × Type 0)} → Decides b P → (b ≡ false → Rows cs rs) → Rows ((b, n) ∷ cs) ((n, P) ∷ rs)

pub first_row : {cs : List (Bool × ℕ)} {rs : List (ℕ × Type 0)} → Rows cs rs → (k : ℕ) → (judge cs ≡ k) ↔ FirstIs k rs
unfolding judge
first_row end k = (sym, sym)
first_row (row {b} {n} {P} {cs} {rs} r next) k = go b refl (λ e. first_row (next e) k)
  where
    go : (c : Bool) → b ≡ c → (b ≡ false → (judge cs ≡ k) ↔ FirstIs k rs) → (cond c n (judge cs) ≡ k) ↔ FirstIs k ((n, P) ∷ rs)
    go true e ih = ((λ f. inl (r.0 e, sym f)), ⊎_elim (λ h. sym h.1) (λ h. absurd (h.0 (r.0 e))))
    go false e ih = ((λ f. inr (not_from_Decides b r e, (ih e).0 f)), ⊎_elim (λ h. absurd (not_from_Decides b r e h.0)) (λ h. (ih e).1 h.1))

-- 9, where the rows before it do not apply
module _ (t : Table) (p b d : ℕ) (s : Sound t) (inside : p < place_count) (off : ¬ ((at t p).live ≡ 1)) (some : 1 ≤ b) where
  with_new : (q : ℕ) → Put t p (with_job t.now.0 (at t p) b d) q
  with_new q = put_view t p (with_job t.now.0 (at t p) b d) q (omega (arith, s.size))

  new_some_left : SomeLeft (jobs_of (arrived t p b d)) place_count
  unfolding SomeLeft
  new_some_left q l v = elim (with_new q) [ there i g ↦ rw g some | other n g ↦ rw g (unfold SomeLeft in some_left t s q l (rw g at v)) ]

  plan_fits : SomePlanServes t p b d → Fits (jobs_of (arrived t p b d)) place_count t.now.0
  unfolding Fits
  plan_fits f = (f.0, λ q l v. elim (with_new q) [ there i g ↦ rw (g, i) f.1 | other n g ↦ rw g (f.2 q l (eqb-true (at t q).live 1 (rw g at v))) ])

  fits_plan : Fits (jobs_of (arrived t p b d)) place_count t.now.0 → SomePlanServes t p b d
  unfolding Fits
  fits_plan f = (
    f.0,
    elim (with_new p) [ there i g ↦ rw g at (f.1 p inside (rw g refl)) | other n g ↦ absurd (n refl) ],
    λ q l v. elim (with_new q) [ there i g ↦ absurd (off (rw i at v)) | other n g ↦ rw g at (f.1 q l (rw g (eq-eqb (at t q).live 1 v))) ],
  )

  fit_decides : Decides (fits_by_sums (arrived t p b d)) (SomePlanServes t p b d)
  unfolding fits_by_sums
  fit_decides =
      let sums = sums_iff (jobs_of (arrived t p b d)) place_count t.now.0 in
      let plans = fits_iff (jobs_of (arrived t p b d)) place_count t.now.0 new_some_left in
      ((λ e. fits_plan (plans.1 (sums.0 e))), (λ f. sums.1 (plans.0 (plan_fits f))))

module _ (t : Table) where
  unsound : Decides (not (sound t)) (¬ Sound t)
  unsound = Decides-not _ (sound_holds t, holds_sound t)

  no_such : (p : ℕ) → Decides (no_place p) (place_count ≤ p)
  no_such p = (leb-true place_count p, le-leb place_count p)

  shut : (p : ℕ) → Decides (not_open t p) (¬ ((at t p).opened ≡ 1))
  shut p = Decides-not _ (Decides-eqb _ 1)

  pub rows : (c : Call) → Rows (checks t c) (Refusals t c)
  unfolding checks
  rows (Open p level cap gap) = row unsound λ e1. row (no_such p) λ e2. row (Decides-eqb _ 1) λ e3. row (grind (arith, nat_tests)) λ e5. end
  rows (Close p) = row unsound λ e1. row (no_such p) λ e2. row (shut p) λ e4. row (Decides-eqb _ 1) λ e6. row (Decides-ltb t.now.0 _) λ e7. end
  rows (Arrive p b d) =
      row unsound λ e1. row (no_such p) λ e2. row (shut p) λ e4. row (grind (arith, nat_tests)) λ e5.
      row (Decides-eqb _ 1) λ e6. row (Decides-ltb t.now.0 _) λ e7. row (Decides-ltb last_tick (t.now.0 + d)) λ e8.
      row (Decides-and _ _ (Decides-eqb t.policy 1) (Decides-not _ (fit_decides t p b d (sound_holds t (not-false _ e1)) (leb-false place_count p e2) (eqb-false _ 1 e6) (grind (arith, nat_tests))))) λ e9. end
  rows (Depart p) = row unsound λ e1. row (no_such p) λ e2. row (shut p) λ e4. row (Decides-not _ (Decides-eqb _ 1)) λ e10. end
  rows Elect = row unsound λ e1. end
  rows Slot = row unsound λ e1. row (Decides-ltb last_tick (t.now.0 + 1)) λ e8. end
  rows (Advance n bytes start) =
      row unsound λ e1. row (Decides-ltb most_slots n) λ e5. row (Decides-ltb last_tick (t.now.0 + n)) λ e8. row (grind (arith, nat_tests, length-drop {A = ℕ})) λ e11. end

-- a number that a list of refusals lacks is not given by it
abbrev pub lacks : ℕ → List (ℕ × Type 0) → Bool
lacks k [] = true
lacks k (r ∷ rs) = not (eqb r.0 k) && lacks k rs

not_first : (k : ℕ) (rs : List (ℕ × Type 0)) → lacks k rs ≡ true → ¬ (k ≡ 0) → ¬ FirstIs k rs
not_first k [] a z f = z f
not_first k (r ∷ rs) a z f = grind (arith, nat_tests, not_first k rs)

-- what is not given by the rows before is given by the last one
pub last_row : (k : ℕ) (rs : List (ℕ × Type 0)) (last : ℕ × Type 0) → lacks k rs ≡ true → FirstIs k (rs ++ (last ∷ [])) → FirstIs k (last ∷ [])
last_row k [] last a f = f
last_row k (r ∷ rs) last a f = grind (arith, nat_tests, last_row k rs last)

-- refusal 1 is never given to a sound table
pub sound_not_one : (t : Table) (c : Call) → Sound t → ¬ (refusal t c ≡ 1)
unfolding refusal checks judge
sound_not_one t c s e = grind (arith, holds_sound t s)
