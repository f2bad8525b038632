-- The marked places: how many there are, and which stands where.
use Rattle.std.proofs.Common.{◌≡◌, refl, ℕ, zero, suc, ◌+◌, ◌<◌, [], ◌∷◌, ◌++◌, length, get_or, ap, arith}
use Rattle.std.proofs.lemmas.Grind.{common_steps}
use Rattle.rules.specs.Table.{zero_place}
use Rattle.board.specs.Layout.{marked_place, marked_places}

pub marks_length : (m : ℕ) → length (marked_places m) ≡ m
unfolding marked_places
marks_length zero = refl
marks_length (suc m) = grind (arith, common_steps, marks_length m)

pub marks_at : (m i : ℕ) → i < m → get_or (marked_places m) i zero_place ≡ marked_place i
unfolding marked_places
marks_at zero i h = absurd (omega arith)
marks_at (suc m) i h = grind (arith, common_steps, marks_length m, marks_at m i)

pub marks_next : (i : ℕ) → marked_places (i + 1) ≡ marked_places i ++ (marked_place i ∷ [])
unfolding marked_places
marks_next i = let e : i + 1 ≡ suc i = omega arith in ap marked_places e
