-- What a call has passed where it is not refused.
use Rattle.std.proofs.Common.{◌≡◌, ◌≢◌, true, ◌+◌, ◌≤◌, ◌<◌, length, arith, tests}
use Rattle.std.proofs.lemmas.Bool.{or_parts, not-false, eqb-false}
use Rattle.rules.specs.Numbers.{place_count, last_tick, longest_span, last_level, most_slots}
use Rattle.rules.specs.Table.{Table, at}
use Rattle.rules.specs.Fit.{fits_by_sums}
use Rattle.rules.specs.Sound.{sound}
use Rattle.rules.specs.Call.{Call, Open, Close, Arrive, Depart, Elect, Slot, Advance, arrived, judge, checks, refusal}

-- what a call that is not refused has passed, in numbers
abbrev pub Clear : Table → Call → Type 0
Clear t (Open p level cap gap) = (p < place_count) × ((at t p).opened ≢ 1) × (level ≤ last_level) × (1 ≤ cap) × (cap ≤ gap) × (gap ≤ longest_span)
Clear t (Close p) = (p < place_count) × ((at t p).opened ≡ 1) × ((at t p).live ≢ 1) × ((at t p).next.0 ≤ t.now.0)
Clear t (Arrive p b d) =
    (p < place_count) × ((at t p).opened ≡ 1) × ((1 ≤ b) × (b ≤ (at t p).cap.0)) × ((1 ≤ d) × (d ≤ longest_span))
    × ((at t p).live ≢ 1) × ((at t p).next.0 ≤ t.now.0) × (t.now.0 + d ≤ last_tick) × (t.policy ≡ 1 → fits_by_sums (arrived t p b d) ≡ true)
Clear t (Depart p) = (p < place_count) × ((at t p).opened ≡ 1) × ((at t p).live ≡ 1)
Clear t Elect = Unit {0}
Clear t Slot = t.now.0 < last_tick
Clear t (Advance n bytes start) = (n ≤ most_slots) × (t.now.0 + n ≤ last_tick) × (start + n ≤ length bytes)

pub passed : (t : Table) (c : Call) → refusal t c ≡ 0 → (sound t ≡ true) × Clear t c
unfolding refusal checks judge
passed t c e = grind (arith, tests, or_parts, not-false, eqb-false)
