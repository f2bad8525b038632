-- What the code asks of each place in turn is what the rules ask of a table.
use Rattle.std.proofs.Common.{◌≡◌, true, ◌&&◌, not, ℕ, ◌+◌, ◌≤◌, ◌<◌, length, leb, eq-eqb, arith}
use Rattle.std.proofs.lemmas.Bool.Decides.{nat_tests}
use Rattle.std.specs.List.{list_all}
use Rattle.time.specs.Kinds.{largest}
use Rattle.rules.specs.Numbers.{place_count, last_tick}
use Rattle.rules.specs.Table.{Table, at, zero_place}
use Rattle.rules.specs.Fit.{fits_by_sums, sums_fit}
use Rattle.rules.specs.Sound.{sound_place, known_policy, totals_add_up, sound}
use Rattle.rules.proofs.Facts.{sound_holds}
use Rattle.table.specs.Leaves.{fits_at, overfull}
use Rattle.table.proofs.Loops.{all_each}

pub fits_each : (t : Table) → length t.places ≡ place_count → list_all (fits_at t) t.places ≡ fits_by_sums t
unfolding fits_by_sums sums_fit
fits_each t e = all_each (fits_at t) zero_place t.places place_count e

-- the clauses in the order in which the code asks for them
pub sound_in_turn : (t : Table) → length t.places ≡ place_count
    → sound t ≡ ((((known_policy t.policy && leb t.now.0 last_tick) && totals_add_up t) && list_all (sound_place t.now.0) t.places) && not (overfull t))
unfolding sound
sound_in_turn t e = rw (eq-eqb (length t.places) place_count e, all_each (sound_place t.now.0) zero_place t.places place_count e) (grind (arith, nat_tests))

-- a sound table has room for a job that ends on the clock: its gap is short
pub job_room : (t : Table) (place away : ℕ) → sound t ≡ true → place < place_count → t.now.0 + away ≤ last_tick → (t.now.0 + (at t place).gap.0 ≤ largest) × (t.now.0 + away ≤ largest)
job_room t place away e h k = let s = (sound_holds t e).places place h in grind (arith, sound_holds t e)
