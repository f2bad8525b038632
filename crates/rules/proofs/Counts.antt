-- Totals and idle are counted from the slots: each slot adds one to the place that it names, or to idle.
use Rattle.std.proofs.Common.{get_or-set_same, get_or-set_other, ◌≡◌, List, [], ◌∷◌, ℕ, ◌+◌, ◌<◌, arith, length}
use Rattle.std.proofs.lemmas.Bool.Decides.{nat_tests}
use Rattle.rules.specs.Numbers.{place_count, idle_byte}
use Rattle.rules.specs.Table.{Table, at}
use Rattle.rules.specs.Election.{number, elected}
use Rattle.rules.specs.Sound.{Sound}
use Rattle.rules.specs.Slot.{served, unless_late, idle_more, slot}
use Rattle.rules.specs.Call.{effect}
use Rattle.rules.specs.History.{Deed, Happening, Did, Gave, place_of, is_its, slots_naming}
use Rattle.rules.proofs.Stores.{gave, slot_at, slot_keeps}
use Rattle.rules.proofs.Kept.{elected_ok, slot_sound}
use Rattle.rules.proofs.Histories.{deed_keeps, call_of, AllAllowed, after, deed_sound}
use Rattle.rules.proofs.Ledgers.{deed_inside}

deed_total : (t : Table) (x : Deed) (p : ℕ) → place_of x < length t.places → (at (effect t (call_of x)) p).total.0 ≡ (at t p).total.0
unfolding call_of effect place_of
deed_total t x p h = grind (arith, get_or-set_other, get_or-set_same)

slot_total : (t : Table) (p : ℕ) → Sound t → p < place_count → (at (slot t) p).total.0 ≡ (at t p).total.0 + is_its (number (elected t)) p
unfolding unless_late gave served number
slot_total t p s l = grind (arith, nat_tests, slot_at t p (omega (arith, s.size)))

pub total_counted : (hs : List Happening) (t : Table) (p : ℕ) → Sound t → p < place_count → AllAllowed t hs → (at (after t hs) p).total.0 ≡ (at t p).total.0 + slots_naming p hs
unfolding slots_naming
total_counted [] t p s l a = omega arith
total_counted (Did x ∷ hs) t p s l a =
    omega (arith, total_counted hs (effect t (call_of x)) p (deed_sound t x s a.0) l a.1, deed_total t x p (omega (arith, s.size, deed_inside t x a.0)))
total_counted (Gave n ∷ hs) t p s l a =
    rw a.0.1 (omega (arith, total_counted hs (slot t) p (slot_sound t a.0.0 s) l a.1, slot_total t p s l))

slot_idle : (t : Table) → (slot t).idle.0 ≡ t.idle.0 + is_its (number (elected t)) idle_byte
unfolding idle_more number
slot_idle t = grind (arith, nat_tests, (slot_keeps t).idle, elected_ok t)

pub idle_counted : (hs : List Happening) (t : Table) → AllAllowed t hs → (after t hs).idle.0 ≡ t.idle.0 + slots_naming idle_byte hs
unfolding slots_naming
idle_counted [] t a = omega arith
idle_counted (Did x ∷ hs) t a = omega (arith, idle_counted hs (effect t (call_of x)) a.1, (deed_keeps t x).2)
idle_counted (Gave n ∷ hs) t a = rw a.0.1 (omega (arith, idle_counted hs (slot t) a.1, slot_idle t))
