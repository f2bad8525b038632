-- One slot, and n of them into a record, as the code gives them.
use Rattle.std.proofs.Common.{◌≡◌, refl, true, List, ◌++◌, append_assoc, ℕ, ◌+◌, ◌≤◌, ◌<◌, length, set, drop, drop-cons, arith, add-one, Option, None, Some}
use Rattle.std.proofs.lemmas.List.{set_at}
use Rattle.rules.specs.Numbers.{place_count, last_tick}
use Rattle.rules.specs.Table.{Table, at}
use Rattle.rules.specs.Election.{number, goes_to, elected}
use Rattle.rules.specs.Sound.{sound}
use Rattle.rules.specs.Slot.{slot, slots, named}
use Rattle.rules.proofs.Facts.{sound_holds, holds_sound}
use Rattle.rules.proofs.Sums.{term_le}
use Rattle.rules.proofs.Kept.{elected_ok, slots_sound, slots_clock}
use Rattle.rules.proofs.Runs.{slots_join, named_join, named_length}
use Rattle.table.specs.declared.Table.{Table as Dressed}
use Rattle.table.specs.Dress.{ruled, dressed, who}
use Rattle.table.specs.Leaves.{RoomToServe}

-- in a sound table before the end of the clock no count is at its end
pub serve_room : (t : Dressed) (e : Option ℕ) → sound (ruled t) ≡ true → t.now.0 < last_tick → who e ≡ elected (ruled t) → RoomToServe t e
serve_room t None s h k = grind (arith, sound_holds (ruled t) s)
serve_room t (Some p) s h k = let r = rw (← k) at (elected_ok (ruled t)) in elim r [ goes_to l v first ↦ grind (arith, sound_holds (ruled t) s, term_le (λ q. (at (ruled t) q).total.0) place_count p l) ]

-- a place's number is a byte
pub number_byte : (t : Table) → number (elected t) < 256
unfolding number
number_byte t = grind (arith, elected_ok t)

-- after k slots of n the table is sound, and before the end of the clock
pub run_sound : (t : Table) (n k : ℕ) {u : Dressed} → sound t ≡ true → t.now.0 + n ≤ last_tick → k < n → u ≡ dressed (slots k t) → (sound (ruled u) ≡ true) × (u.now.0 < last_tick)
run_sound t n k e h l f = grind (arith, holds_sound (slots k t), slots_sound k t, sound_holds t e, slots_clock k t)

-- one slot more, and its name
pub run_slot : (t : Table) (k : ℕ) {u v : Dressed} → u ≡ dressed (slots k t) → v ≡ dressed (slot (ruled u)) → v ≡ dressed (slots (k + 1) t)
unfolding slots
run_slot t k e f = rw (f, e, slots_join) refl

pub bytes_next : (t : Table) (k b : ℕ) {bytes : List ℕ} (old : List ℕ) → k < length old → bytes ≡ named k t ++ drop k old → b ≡ number (elected (slots k t)) → set bytes k b ≡ named (k + 1) t ++ drop (k + 1) old
unfolding named
bytes_next t k b old h e f = rw (e, f, named_join, add-one, drop-cons old k 0, append_assoc) (set_at _ _ _ _ k (named_length k t))
