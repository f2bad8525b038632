-- n slots in a row: split in two, and as n slot calls.
use Rattle.std.proofs.Common.{◌≡◌, refl, ap, ◌∷◌, ◌++◌, ℕ, zero, suc, ◌+◌, ◌≤◌, ◌<◌, arith, zero-add, suc-add, length, replicate, le-ltb}
use Rattle.rules.specs.Numbers.{last_tick}
use Rattle.rules.specs.Table.{Table}
use Rattle.rules.specs.Election.{number, elected}
use Rattle.rules.specs.Sound.{Sound}
use Rattle.rules.specs.Slot.{slot, slots, named}
use Rattle.rules.specs.Call.{Slot, judge, checks, refusal, effect, named_by, done, called}
use Rattle.rules.specs.Promises.{Run, slot_calls}
use Rattle.rules.proofs.Facts.{holds_sound}
use Rattle.rules.proofs.Answers.{called_done}
use Rattle.rules.proofs.Stores.{slot_keeps}
use Rattle.rules.proofs.Kept.{slot_sound}

pub slots_join : (a b : ℕ) (t : Table) → slots (a + b) t ≡ slots b (slots a t)
unfolding slots
slots_join zero b t = rw zero-add
slots_join (suc a) b t = rw suc-add (slots_join a b (slot t))

pub named_join : (a b : ℕ) (t : Table) → named (a + b) t ≡ named a t ++ named b (slots a t)
unfolding slots named
named_join zero b t = rw zero-add
named_join (suc a) b t = rw suc-add (ap (λ l. number (elected t) ∷ l) (named_join a b (slot t)))

pub named_length : (n : ℕ) (t : Table) → length (named n t) ≡ n
unfolding named
named_length zero t = refl
named_length (suc n) t = ap suc (named_length n (slot t))

-- a slot of a sound table before the end of the clock is done
slot_done : (t : Table) → Sound t → t.now.0 < last_tick → called t Slot ≡ done t Slot
slot_done t s h = called_done t Slot (unfold refusal checks judge in rw (holds_sound t s, le-ltb last_tick (t.now.0 + 1) (omega arith)))

pub calls_are_slots : (n : ℕ) (t : Table) → Sound t → t.now.0 + n ≤ last_tick → slot_calls n t ≡ record { answers = replicate n 0; places = named n t; table = slots n t }
unfolding slot_calls slots named effect named_by
calls_are_slots zero t s h = refl
calls_are_slots (suc n) t s h =
    rw (slot_done t s (omega arith))
    (ap (λ (r : Run). record { answers = 0 ∷ r.answers; places = number (elected t) ∷ r.places; table = r.table })
    (calls_are_slots n (slot t) (slot_sound t (omega arith) s) (omega (arith, (slot_keeps t).clock))))
