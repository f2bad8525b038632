-- A history is a row of happenings, each of which the rules allow at the table where it stands; what is shown of one is shown of all.
use Rattle.std.proofs.Common.{◌≡◌, refl, ap, ◌∙◌, subst, List, [], ◌∷◌, ◌++◌, map, ℕ, zero, suc, ◌+◌, ◌≤◌, ◌<◌, arith, length, take, drop, length-take, take_at, drop_at, ne_eqb}
use Rattle.std.proofs.Math.Decide.{ℕ_discrete}
use Rattle.rules.specs.Numbers.{last_tick}
use Rattle.rules.specs.Table.{Table}
use Rattle.rules.specs.Election.{number, elected}
use Rattle.rules.specs.Sound.{Sound}
use Rattle.rules.specs.Slot.{slot, slots, named}
use Rattle.rules.specs.Call.{Call, Open, Close, Arrive, Depart, Elect, Slot, Advance, refusal, effect, named_by, written, done, refused, called}
use Rattle.rules.specs.History.{Deed, Opened, Closed, Arrived, Departed, Happening, Did, Gave, did, happened, history_from, table_from, ticks}
use Rattle.rules.proofs.Answers.{called_done, called_refused}
use Rattle.rules.proofs.Passed.{passed}
use Rattle.rules.proofs.Stores.{slot_keeps}
use Rattle.rules.proofs.Kept.{slot_sound}
use Rattle.rules.proofs.KeptByCalls.{call_sound}
use Rattle.rules.proofs.Runs.{named_length}

unfoldable pub call_of : Deed → Call
call_of (Opened p level cap gap) = Open p level cap gap
call_of (Closed p) = Close p
call_of (Arrived p b d) = Arrive p b d
call_of (Departed p) = Depart p

abbrev pub Allowed : Table → Happening → Type 0
Allowed t (Did x) = refusal t (call_of x) ≡ 0
Allowed t (Gave s) = (t.now.0 < last_tick) × (s ≡ number (elected t))

abbrev pub next : Table → Happening → Table
next t (Did x) = effect t (call_of x)
next t (Gave s) = slot t

abbrev pub AllAllowed : Table → List Happening → Type 0
AllAllowed t [] = Unit {0}
AllAllowed t (h ∷ hs) = Allowed t h × AllAllowed (next t h) hs

abbrev pub after : Table → List Happening → Table
after t [] = t
after t (h ∷ hs) = after (next t h) hs

pub after_join : (xs ys : List Happening) (t : Table) → after t (xs ++ ys) ≡ after (after t xs) ys
after_join [] ys t = refl
after_join (h ∷ xs) ys t = after_join xs ys (next t h)

pub allowed_join : (xs ys : List Happening) (t : Table) → AllAllowed t xs → AllAllowed (after t xs) ys → AllAllowed t (xs ++ ys)
allowed_join [] ys t a b = b
allowed_join (h ∷ xs) ys t a b = (a.0, allowed_join xs ys (next t h) a.1 b)

pub allowed_split : (xs ys : List Happening) (t : Table) → AllAllowed t (xs ++ ys) → AllAllowed t xs × AllAllowed (after t xs) ys
allowed_split [] ys t a = (tt, a)
allowed_split (h ∷ xs) ys t a = let r = allowed_split xs ys (next t h) a.1 in ((a.0, r.0), r.1)

-- what a row keeps
pub deed_sound : (t : Table) (x : Deed) → Sound t → refusal t (call_of x) ≡ 0 → Sound (effect t (call_of x))
deed_sound t x s e = subst Sound (ap (λ r. r.table) (called_done t (call_of x) e)) (call_sound t (call_of x) s)

pub next_sound : (t : Table) (h : Happening) → Sound t → Allowed t h → Sound (next t h)
next_sound t (Did x) s a = deed_sound t x s a
next_sound t (Gave n) s a = slot_sound t a.0 s

pub after_sound : (hs : List Happening) (t : Table) → Sound t → AllAllowed t hs → Sound (after t hs)
after_sound [] t s a = s
after_sound (h ∷ hs) t s a = after_sound hs (next t h) (next_sound t h s a.0) a.1

pub deed_keeps : (t : Table) (x : Deed) → let u = effect t (call_of x) in (u.policy ≡ t.policy) × (u.now.0 ≡ t.now.0) × (u.idle.0 ≡ t.idle.0)
unfolding effect call_of
deed_keeps t x = grind arith

pub next_policy : (t : Table) (h : Happening) → (next t h).policy ≡ t.policy
next_policy t (Did x) = (deed_keeps t x).0
next_policy t (Gave n) = (slot_keeps t).policy

pub after_policy : (hs : List Happening) (t : Table) → (after t hs).policy ≡ t.policy
after_policy [] t = refl
after_policy (h ∷ hs) t = after_policy hs (next t h) ∙ next_policy t h

pub deed_clock : (t : Table) (x : Deed) → (effect t (call_of x)).now.0 ≡ t.now.0
deed_clock t x = (deed_keeps t x).1

pub after_clock : (hs : List Happening) (t : Table) → (after t hs).now.0 ≡ t.now.0 + ticks hs
unfolding ticks
after_clock [] t = omega arith
after_clock (Did x ∷ hs) t = omega (arith, after_clock hs (effect t (call_of x)), deed_clock t x)
after_clock (Gave s ∷ hs) t = omega (arith, after_clock hs (slot t), (slot_keeps t).clock)

-- n slots are allowed while the clock lasts
slots_allowed : (n : ℕ) (t : Table) → t.now.0 + n ≤ last_tick → AllAllowed t (map Gave (named n t)) × (after t (map Gave (named n t)) ≡ slots n t)
unfolding named slots
slots_allowed zero t h = (tt, refl)
slots_allowed (suc n) t h = let r = slots_allowed n (slot t) (omega (arith, (slot_keeps t).clock)) in (((omega arith, refl), r.0), r.1)

-- the bytes that an advance wrote are the slots that it gave
piece : (bytes xs rest : List ℕ) (start n : ℕ) → start ≤ length bytes → length xs ≡ n → take n (drop start (take start bytes ++ (xs ++ rest))) ≡ xs
piece bytes xs rest start n h e =
    ap (take n) (drop_at (take start bytes) (xs ++ rest) start (simp length-take (omega arith))) ∙ take_at xs rest n e

-- what happens is what the call did, where it is done, and nothing, where it is refused
happens_if_done : (t : Table) (c : Call) → AllAllowed t (did c (done t c)) × (after t (did c (done t c)) ≡ (done t c).table) → AllAllowed t (happened c (done t c)) × (after t (happened c (done t c)) ≡ (done t c).table)
unfolding happened
happens_if_done t c h = h

happens_if_refused : (t : Table) (c : Call) → (refusal t c ≡ 0 → ⊥) → let r = refused (refusal t c) t c in AllAllowed t (happened c r) × (after t (happened c r) ≡ r.table)
unfolding happened
happens_if_refused t c n = rw (ne_eqb (refusal t c) 0 n) (tt, refl)

-- what a call makes happen is allowed, and leads to the table that it hands back
call_allowed : (t : Table) (c : Call) → Sound t → AllAllowed t (happened c (called t c)) × (after t (happened c (called t c)) ≡ (called t c).table)
call_allowed t c s = elim (ℕ_discrete (refusal t c) 0) [
  | yes e ↦ rw (called_done t c e) (happens_if_done t c (is_done c e))
  | no n ↦ rw (called_refused t c (refusal t c) refl n) (happens_if_refused t c n)
]
  where
    is_done : (c : Call) → refusal t c ≡ 0 → AllAllowed t (did c (done t c)) × (after t (did c (done t c)) ≡ (done t c).table)
    is_done (Open p level cap gap) e = unfold did call_of in ((e, tt), refl)
    is_done (Close p) e = unfold did call_of in ((e, tt), refl)
    is_done (Arrive p b d) e = unfold did call_of in ((e, tt), refl)
    is_done (Depart p) e = unfold did call_of in ((e, tt), refl)
    is_done Elect e = unfold did effect in (tt, refl)
    is_done Slot e = unfold did effect named_by in ((((passed t Slot e).1, refl), tt), refl)
    is_done (Advance n bytes start) e = unfold did effect written in
        let c = (passed t (Advance n bytes start) e).1 in
        rw (piece bytes (named n t) (drop n (drop start bytes)) start n (omega arith) (named_length n t)) (slots_allowed n t c.1)

pub history_allowed : (cs : List Call) (t : Table) → Sound t → AllAllowed t (history_from t cs) × (after t (history_from t cs) ≡ table_from t cs)
unfolding history_from table_from
history_allowed [] t s = (tt, refl)
history_allowed (c ∷ cs) t s =
    let r = call_allowed t c s in
    let q = history_allowed cs (called t c).table (call_sound t c s) in
    let h = happened c (called t c) in
    (allowed_join h _ t r.0 (rw r.1 q.0), after_join h _ t ∙ ap (λ u. after u (history_from (called t c).table cs)) r.1 ∙ q.1)
