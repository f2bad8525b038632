-- The promises of specs/Promises.antt, each under its name in small letters.
use Rattle.std.proofs.Common.{◌≡◌, refl, sym, ap, ◌∙◌, ◌⊎◌, List, ◌++◌, append_assoc, ℕ, ◌+◌, ◌≤◌, ◌<◌, arith, length, take, drop, length-append, length-take, length-drop, drop-drop, take_at, drop_at, eqb-true, le-ltb}
use Rattle.std.proofs.lemmas.List.{length-replicate, get_or-replicate}
use Rattle.std.proofs.lemmas.Bool.Decides.{nat_tests}
use Rattle.rules.specs.Numbers.{place_count, last_tick, most_slots}
use Rattle.rules.specs.Table.{Table, zero_place, fresh_table, at}
use Rattle.rules.specs.Election.{elected}
use Rattle.rules.specs.Fit.{SumsFit, jobs_of, fits_by_sums}
use Rattle.rules.specs.Sound.{Sound, closed}
use Rattle.rules.specs.Slot.{slots, named}
use Rattle.rules.specs.Call.{Elect, Slot, Advance, judge, checks, refusal, effect, named_by, written, done, called, set_up}
use Rattle.rules.specs.Promises.{EachRefusalExactlyWhenThePaperSays, SetUpRefusesOnlyOtherPolicies, RefusedCallChangesNothing, RefusedSetUpGivesZeros, SoundIsDecided, SetUpGivesSound, SoundIsKept, ElectionFollowsThePublishedRule, SlotGoesWhereElected, SumsFitExactlyWhenAPlanServesAll, AdvanceIsSingleSlots, AdvancesJoin}
use Rattle.rules.proofs.Sums.{sum_zero}
use Rattle.rules.proofs.Elections.{elected_unique}
use Rattle.rules.proofs.Spending.{fits_iff}
use Rattle.rules.proofs.Facts.{sound_holds, holds_sound, sums_iff}
use Rattle.rules.proofs.Answers.{called_done, called_refused, answer_is}
use Rattle.rules.proofs.Passed.{passed}
use Rattle.rules.proofs.Kept.{elected_ok, some_left, slots_sound, slots_clock}
use Rattle.rules.proofs.KeptByCalls.{call_sound}
use Rattle.rules.proofs.Refused.{rows, first_row}
use Rattle.rules.proofs.Runs.{slots_join, named_join, named_length, calls_are_slots}

pub each_refusal_exactly_when_the_paper_says : EachRefusalExactlyWhenThePaperSays
unfolding refusal
each_refusal_exactly_when_the_paper_says t c k = rw answer_is (first_row (rows t c) k)

pub set_up_refuses_only_other_policies : SetUpRefusesOnlyOtherPolicies
unfolding set_up
set_up_refuses_only_other_policies policy k = grind (arith, nat_tests)

pub refused_call_changes_nothing : RefusedCallChangesNothing
refused_call_changes_nothing t c n =
    let e = called_refused t c (refusal t c) refl (λ z. n (answer_is t c ∙ z)) in
    (ap (λ r. r.table) e, ap (λ r. r.bytes) e)

pub refused_set_up_gives_zeros : RefusedSetUpGivesZeros
unfolding set_up
refused_set_up_gives_zeros policy n = (grind (arith, nat_tests), λ s. grind arith)

pub sound_is_decided : SoundIsDecided
sound_is_decided t = (sound_holds t, holds_sound t)

-- a fresh table is sound
pub fresh_at : (policy p : ℕ) → p < place_count → at (fresh_table policy) p ≡ zero_place
fresh_at policy p l = get_or-replicate place_count p zero_place zero_place l

fresh_sound : (policy : ℕ) → (policy ≡ 1) ⊎ (policy ≡ 2) → Sound (fresh_table policy)
fresh_sound policy known = record {
  size = length-replicate place_count zero_place;
  policy = known;
  clock = omega arith;
  adds_up = omega (arith, sum_zero (λ p. (at (fresh_table policy) p).total.0) place_count (λ p l. ap (λ x. x.total.0) (fresh_at policy p l)));
  places = λ p l. closed (rw (fresh_at policy p l) (omega arith));
  fit = λ e. unfold SumsFit in λ p l v. absurd (omega (arith, eqb-true (at (fresh_table policy) p).live 1 v, ap (λ x. x.live) (fresh_at policy p l)));
}

pub set_up_done : (policy : ℕ) → (set_up policy).answer ≡ 0 → ((policy ≡ 1) ⊎ (policy ≡ 2)) × ((set_up policy).table ≡ fresh_table policy)
unfolding set_up
set_up_done policy e = grind (arith, nat_tests)

pub set_up_gives_sound : SetUpGivesSound
set_up_gives_sound policy e = let d = set_up_done policy e in rw d.1 (fresh_sound policy d.0)

pub sound_is_kept : SoundIsKept
sound_is_kept = call_sound

pub election_follows_the_published_rule : ElectionFollowsThePublishedRule
election_follows_the_published_rule t s = (
  elected t,
  elected_ok t,
  (λ v r. elected_unique _ _ place_count v (elected t) r (elected_ok t)),
  ap (λ r. r.place) (called_done t Elect (unfold refusal checks judge in rw (holds_sound t s))) ∙ unfold named_by in refl,
)

pub slot_goes_where_elected : SlotGoesWhereElected
unfolding refusal checks judge named_by
slot_goes_where_elected t e =
    let k = sym (answer_is t Slot) ∙ e in
    ap (λ r. r.place) (called_done t Slot k) ∙ sym (ap (λ r. r.place) (called_done t Elect (rw (passed t Slot k).0)))

pub sums_fit_exactly_when_a_plan_serves_all : SumsFitExactlyWhenAPlanServesAll
unfolding fits_by_sums
sums_fit_exactly_when_a_plan_serves_all t s =
    let sums = sums_iff (jobs_of t) place_count t.now.0 in
    let plans = fits_iff (jobs_of t) place_count t.now.0 (some_left t s) in
    ((λ e. plans.1 (sums.0 e)), (λ f. sums.1 (plans.0 f)))

pub advance_is_single_slots : AdvanceIsSingleSlots
unfolding effect written
advance_is_single_slots t n bytes start e =
    let k = sym (answer_is t (Advance n bytes start)) ∙ e in
    let c = passed t (Advance n bytes start) k in
    rw (called_done t (Advance n bytes start) k, calls_are_slots n t (sound_holds t c.0) c.1.1)
    (refl, refl, ap (λ l. take start bytes ++ (named n t ++ l)) (drop-drop n start bytes))

-- a piece of b bytes written behind one of a
written_join : (bytes xs ys : List ℕ) (start a b : ℕ) → length xs ≡ a → start + a ≤ length bytes →
    let once = take start bytes ++ (xs ++ drop a (drop start bytes)) in
    take (start + a) once ++ (ys ++ drop b (drop (start + a) once)) ≡ take start bytes ++ ((xs ++ ys) ++ drop (a + b) (drop start bytes))
written_join bytes xs ys start a b e h =
    let rest = drop a (drop start bytes) in
    let head = take start bytes ++ xs in
    let long : length head ≡ start + a = simp (length-append, length-take) (omega arith) in
    rw (← append_assoc (take start bytes) xs rest, take_at head rest (start + a) long, drop_at head rest (start + a) long, drop-drop b a (drop start bytes))
    (simp append_assoc)

advance_done : (t : Table) (n : ℕ) (bytes : List ℕ) (start : ℕ) → Sound t → n ≤ most_slots → t.now.0 + n ≤ last_tick → start + n ≤ length bytes → called t (Advance n bytes start) ≡ done t (Advance n bytes start)
unfolding refusal checks judge
advance_done t n bytes start s few early room = called_done t (Advance n bytes start)
    (rw (holds_sound t s, le-ltb most_slots n few, le-ltb last_tick (t.now.0 + n) early, le-ltb (length bytes) (start + n) room))

pub advances_join : AdvancesJoin
unfolding effect written named_by
advances_join t a b bytes start e =
    let k = sym (answer_is t (Advance (a + b) bytes start)) ∙ e in
    let c = passed t (Advance (a + b) bytes start) k in
    let s = sound_holds t c.0 in
    let once = take start bytes ++ (named a t ++ drop a (drop start bytes)) in
    let second = advance_done (slots a t) b once (start + a) (slots_sound a t (omega arith) s) (omega arith) (omega (arith, slots_clock a t))
    (simp (length-append, length-take, length-drop, named_length) (omega arith)) in
    rw (called_done t (Advance (a + b) bytes start) k, advance_done t a bytes start s (omega arith) (omega arith) (omega arith)) (
      refl,
      second ∙ rw (slots_join a b t, named_join a b t)
          (ap (λ l. record { answer = 0; table = slots b (slots a t); place = 255; bytes = l }) (written_join bytes (named a t) (named b (slots a t)) start a b (named_length a t) (omega arith))),
    )
