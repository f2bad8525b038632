-- The ledger of a history is what the table holds: each happening changes both alike.
use Rattle.std.proofs.Common.{get_or-set_same, get_or-set_other, ◌≡◌, ◌≢◌, refl, sym, ap, ap₂, ◌∙◌, List, [], ◌∷◌, ℕ, ◌+◌, ◌<◌, true, false, arith, eqb, length}
use Rattle.std.proofs.lemmas.Bool.Decides.{nat_tests}
use Rattle.rules.specs.declared.Place.{Place}
use Rattle.rules.specs.Numbers.{place_count}
use Rattle.rules.specs.Table.{Table, is_open, is_live, at}
use Rattle.rules.specs.Election.{Who, place, number, elected}
use Rattle.rules.specs.Sound.{Sound}
use Rattle.rules.specs.Slot.{served, unless_late}
use Rattle.rules.specs.Call.{Open, Close, Arrive, Depart, refusal, effect}
use Rattle.rules.specs.History.{Deed, Opened, Closed, Arrived, Departed, Happening, Did, Gave, Ledger, place_of, entered, ticked, unless_overdue, noted, ledger_from}
use Rattle.rules.specs.Demands.{figures_of}
use Rattle.rules.proofs.Passed.{passed}
use Rattle.rules.proofs.Stores.{gave, slot_at, slot_keeps}
use Rattle.rules.proofs.Histories.{call_of, Allowed, next, AllAllowed, after, next_sound, next_policy}

-- the figures of a place at this clock
abbrev pub shown : ℕ → Place → Ledger
shown now x = record { clock = now; is_open = is_open x; level = x.level; cap = x.cap.0; gap = x.gap.0; live = is_live x; asked = x.budget.0; owed = x.remaining.0; deadline = x.deadline.0; ending = x.ending }

-- an accepted call names a place of the table
pub deed_inside : (t : Table) (x : Deed) → refusal t (call_of x) ≡ 0 → place_of x < place_count
unfolding call_of place_of
deed_inside t (Opened p level cap gap) e = (passed t (Open p level cap gap) e).1.0
deed_inside t (Closed p) e = (passed t (Close p) e).1.0
deed_inside t (Arrived p b d) e = (passed t (Arrive p b d) e).1.0
deed_inside t (Departed p) e = (passed t (Depart p) e).1.0

-- it changes the ledger as it changes the table
deed_shown : (t : Table) (p : ℕ) (x : Deed) → p < length t.places → noted t.policy p (figures_of t p) (Did x) ≡ figures_of (effect t (call_of x)) p
unfolding noted entered effect call_of place_of
deed_shown t p x h = grind (arith, nat_tests, get_or-set_same, get_or-set_other)

-- and leaves every other place as it was
pub deed_other : (t : Table) (x : Deed) (p : ℕ) → place_of x ≢ p → at (effect t (call_of x)) p ≡ at t p
unfolding effect call_of place_of
deed_other t x p n = grind (arith, get_or-set_other)

-- the slot names p exactly where p is elected
pub names_it : (w : Who) (p : ℕ) → w ≡ place p → eqb (number w) p ≡ true
unfolding number
names_it w p e = grind (arith, nat_tests)

pub names_other : (w : Who) (p : ℕ) → p < place_count → w ≢ place p → eqb (number w) p ≡ false
unfolding number
names_other w p l n = grind (arith, nat_tests)

-- steps 2 and 3 of a slot, and step 4
gave_shown : (t : Table) (p : ℕ) → p < place_count → shown (t.now.0 + 1) (gave (elected t) p (at t p)) ≡ ticked (figures_of t p) (eqb (number (elected t)) p)
unfolding gave ticked number served
gave_shown t p l = grind (arith, nat_tests)

overdue_shown : (policy now : ℕ) (x : Place) → unless_overdue policy (shown now x) ≡ shown now (unless_late policy now x)
unfolding unless_overdue unless_late
overdue_shown policy now x = grind (arith, nat_tests)

-- a happening changes the ledger as it changes the table
pub noted_shown : (t : Table) (p : ℕ) (h : Happening) → Sound t → p < place_count → Allowed t h → noted t.policy p (figures_of t p) h ≡ figures_of (next t h) p
noted_shown t p (Did x) s l a = deed_shown t p x (omega (arith, s.size))
noted_shown t p (Gave n) s l a = unfold noted in
    ap (λ k. unless_overdue t.policy (ticked (figures_of t p) (eqb k p))) a.1
    ∙ ap (unless_overdue t.policy) (sym (gave_shown t p l))
    ∙ overdue_shown t.policy (t.now.0 + 1) (gave (elected t) p (at t p))
    ∙ ap₂ shown (sym (slot_keeps t).clock) (sym (slot_at t p (omega (arith, s.size))))

pub ledger_shown : (hs : List Happening) (t : Table) (p : ℕ) → Sound t → p < place_count → AllAllowed t hs → ledger_from t.policy p (figures_of t p) hs ≡ figures_of (after t hs) p
unfolding ledger_from
ledger_shown [] t p s l a = refl
ledger_shown (h ∷ hs) t p s l a =
    ap (λ k. ledger_from t.policy p k hs) (noted_shown t p h s l a.0)
    ∙ ap (λ k. ledger_from k p (figures_of (next t h) p) hs) (sym (next_policy t h))
    ∙ ledger_shown hs (next t h) p (next_sound t h s a.0) l a.1

-- under policy 1 no ledger says late
deed_in_time : (l : Ledger) (x : Deed) → ¬ ((entered l x).ending ≡ 3)
unfolding entered
deed_in_time l x e = grind (arith, nat_tests)

noted_in_time : (p : ℕ) (l : Ledger) (h : Happening) → ¬ (l.ending ≡ 3) → ¬ ((noted 1 p l h).ending ≡ 3)
unfolding noted unless_overdue ticked entered
noted_in_time p l h n e = grind (arith, nat_tests)

pub ledger_in_time : (hs : List Happening) (p : ℕ) (l : Ledger) → ¬ (l.ending ≡ 3) → ¬ ((ledger_from 1 p l hs).ending ≡ 3)
unfolding ledger_from
ledger_in_time [] p l n = n
ledger_in_time (h ∷ hs) p l n = ledger_in_time hs p (noted 1 p l h) (noted_in_time p l h n)
