-- Every call hands back a sound table where it was given one: it stores a sound place with the same total, or it gives slots.
use Rattle.std.proofs.Common.{◌≡◌, refl, ap, ◌∙◌, ℕ, ◌+◌, ◌≤◌, ◌<◌, arith, le_trans, length-set, ne_eqb}
use Rattle.std.proofs.Math.Decide.{ℕ_discrete}
use Rattle.rules.specs.declared.Place.{Place}
use Rattle.rules.specs.Numbers.{place_count, last_tick, longest_span}
use Rattle.rules.specs.Table.{Table, closed_place, at, put}
use Rattle.rules.specs.Fit.{demand, SumsFit, jobs_of, fits_by_sums}
use Rattle.rules.specs.Sound.{SoundPlace, closed, resting, busy, Sound}
use Rattle.rules.specs.Slot.{ended}
use Rattle.rules.specs.Call.{Call, Open, Close, Arrive, Depart, Elect, Slot, Advance, with_job, arrived, opened, refusal, effect, called}
use Rattle.rules.proofs.Sums.{sum_mono, sum_ext}
use Rattle.rules.proofs.Fits.{SumsAlways, due_gone}
use Rattle.rules.proofs.Spending.{sums_always}
use Rattle.rules.proofs.Facts.{sums_iff}
use Rattle.rules.proofs.Answers.{called_done, called_refused}
use Rattle.rules.proofs.Passed.{Clear, passed}
use Rattle.rules.proofs.Stores.{Put, there, other, put_view}
use Rattle.rules.proofs.Kept.{live_bounds, slot_sound, slots_sound}

-- a store of a sound place with the same total
put_sound : (t : Table) (p : ℕ) (x : Place) → p < place_count → SoundPlace t.now.0 x → x.total.0 ≡ (at t p).total.0 → (t.policy ≡ 1 → SumsFit (jobs_of (put t p x)) place_count t.now.0) → Sound t → Sound (put t p x)
put_sound t p x l z e f s = record {
  size = length-set t.places p x ∙ s.size;
  policy = s.policy;
  clock = s.clock;
  adds_up = ap (λ n. n + t.idle.0) (sum_ext _ _ place_count (λ q m. elim (view q) [ there i g ↦ rw (g, i) e | other n g ↦ rw g refl ])) ∙ s.adds_up;
  places = λ q m. elim (view q) [ there i g ↦ rw g z | other n g ↦ rw g (s.places q m) ];
  fit = f;
}
  where
    view : (q : ℕ) → Put t p x q
    view q = put_view t p x q (omega (arith, s.size))

-- with no job at p less is due
off_fit : (t : Table) (p : ℕ) (x : Place) → p < place_count → x.live ≡ 0 → Sound t → t.policy ≡ 1 → SumsFit (jobs_of (put t p x)) place_count t.now.0
unfolding SumsFit SumsAlways demand
off_fit t p x l off s e q m v =
    let d = (at (put t p x) q).deadline.0 in
    le_trans (sum_mono _ _ place_count (λ r k. elim (put_view t p x r (omega (arith, s.size))) [
      | there i g ↦ omega (arith, due_gone d (jobs_of (put t p x) r) (rw g (ne_eqb x.live 1 (omega arith))))
      | other n g ↦ rw g (omega arith)
    ])) (sums_always (jobs_of t) place_count t.now.0 (s.fit e) d)

put_off : (t : Table) (p : ℕ) (x : Place) → p < place_count → x.live ≡ 0 → SoundPlace t.now.0 x → x.total.0 ≡ (at t p).total.0 → Sound t → Sound (put t p x)
put_off t p x l off z e s = put_sound t p x l z e (off_fit t p x l off s) s

job_sound : (now b d : ℕ) (x : Place) → x.opened ≡ 1 → 1 ≤ b → b ≤ x.cap.0 → 1 ≤ d → d ≤ longest_span → now + d ≤ last_tick → SoundPlace now x → SoundPlace now (with_job now x b d)
job_sound now b d x o b1 bc d1 dm far s = grind (arith, busy)

effect_sound : (t : Table) (c : Call) → Sound t → Clear t c → Sound (effect t c)
unfolding effect
effect_sound t (Open p level cap gap) s ok = put_off t p (opened level cap gap (at t p)) ok.0 refl (resting (omega arith) (omega arith)) refl s
effect_sound t (Close p) s ok = put_off t p (closed_place (at t p).total) ok.0 refl (closed (omega arith)) refl s
effect_sound t (Arrive p b d) s ok =
    put_sound t p (with_job t.now.0 (at t p) b d) ok.0
    (job_sound t.now.0 b d (at t p) ok.1 ok.2.0 ok.2.1 ok.3.0 ok.3.1 ok.6 (s.places p ok.0))
    refl (λ e. (sums_iff (jobs_of (arrived t p b d)) place_count t.now.0).0 (unfold fits_by_sums in ok.7 e)) s
effect_sound t (Depart p) s ok =
    let o = live_bounds (s.places p ok.0) ok.2 in
    put_off t p (ended 1 (at t p)) ok.0 refl (resting (omega arith) (omega arith)) refl s
effect_sound t Elect s ok = s
effect_sound t Slot s ok = slot_sound t ok s
effect_sound t (Advance n bytes start) s ok = slots_sound n t ok.1 s

pub call_sound : (t : Table) (c : Call) → Sound t → Sound (called t c).table
call_sound t c s = elim (ℕ_discrete (refusal t c) 0) [
  | yes e ↦ rw (called_done t c e) (effect_sound t c s (passed t c e).1)
  | no n ↦ rw (called_refused t c (refusal t c) refl n) s
]
