-- The gap is kept: from an arrival on, next stands at the end of the gap until the clock is there; only then may the place be closed.
use Rattle.std.proofs.Common.{get_or-set_same, get_or-set_other, ◌≡◌, ◌⊎◌, List, [], ◌∷◌, ℕ, ◌+◌, ◌≤◌, ◌<◌, arith, length}
use Rattle.std.proofs.lemmas.Bool.Decides.{nat_tests}
use Rattle.rules.specs.Numbers.{place_count}
use Rattle.rules.specs.Table.{Table, at}
use Rattle.rules.specs.Sound.{Sound}
use Rattle.rules.specs.Slot.{served, unless_late, slot}
use Rattle.rules.specs.Call.{judge, checks, refusal, effect}
use Rattle.rules.specs.History.{Deed, Arrived, Happening, Did, Gave}
use Rattle.rules.proofs.Passed.{passed}
use Rattle.rules.proofs.Stores.{gave, slot_at, slot_keeps}
use Rattle.rules.proofs.Kept.{slot_sound}
use Rattle.rules.proofs.Histories.{call_of, AllAllowed, after, deed_sound}

-- the gap ends at e: it is over, or next still says so on an open place
abbrev pub Waits : Table → ℕ → ℕ → Type 0
Waits t p e = (e ≤ t.now.0) ⊎ (((at t p).next.0 ≡ e) × ((at t p).opened ≡ 1))

deed_waits : (t : Table) (p e : ℕ) (x : Deed) → Sound t → refusal t (call_of x) ≡ 0 → Waits t p e → Waits (effect t (call_of x)) p e
unfolding call_of effect
deed_waits t p e x s a w = grind (arith, nat_tests, get_or-set_same, get_or-set_other, s.size, passed t (call_of x) a)

slot_waits : (t : Table) (p e : ℕ) → p < length t.places → Waits t p e → Waits (slot t) p e
unfolding unless_late gave served
slot_waits t p e h w = grind (arith, nat_tests, slot_at t p h, (slot_keeps t).clock)

pub row_waits : (hs : List Happening) (t : Table) (p e : ℕ) → Sound t → p < place_count → AllAllowed t hs → Waits t p e → Waits (after t hs) p e
row_waits [] t p e s l a w = w
row_waits (Did x ∷ hs) t p e s l a w =
    row_waits hs (effect t (call_of x)) p e (deed_sound t x s a.0) l a.1 (deed_waits t p e x s a.0 w)
row_waits (Gave n ∷ hs) t p e s l a w = row_waits hs (slot t) p e (slot_sound t a.0.0 s) l a.1 (slot_waits t p e (omega (arith, s.size)) w)

-- an arrival waits for it
pub arrives_after : (t : Table) (p e b d : ℕ) → refusal t (call_of (Arrived p b d)) ≡ 0 → Waits t p e → e ≤ t.now.0
unfolding call_of refusal checks judge
arrives_after t p e b d a w = grind (arith, nat_tests)

-- an arrival starts the wait
pub arrival_waits : (t : Table) (p b d : ℕ) → Sound t → refusal t (call_of (Arrived p b d)) ≡ 0 → Waits (effect t (call_of (Arrived p b d))) p (t.now.0 + (at t p).gap.0)
unfolding call_of refusal checks judge effect
arrival_waits t p b d s a = grind (arith, nat_tests, get_or-set_same, s.size)
