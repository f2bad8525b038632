-- Tests in a row, and sums and tests over the places below a bound.
use Rattle.std.specs.Prelude.{ℕ, zero, suc, ◌+◌, Bool, true, false, ◌&&◌, ◌||◌, List, [], ◌∷◌}

abbrev pub every_after : Bool → List Bool → Bool
every_after a [] = a
every_after a (b ∷ bs) = every_after (a && b) bs

-- each of these tests holds: a && b && c
abbrev pub every : List Bool → Bool
every bs = every_after true bs

abbrev pub some_after : Bool → List Bool → Bool
some_after a [] = a
some_after a (b ∷ bs) = some_after (a || b) bs

-- one of these tests holds: a || b || c
abbrev pub some : List Bool → Bool
some bs = some_after false bs

-- the sum of f p over the places p below m
unfoldable pub sum : (ℕ → ℕ) → ℕ → ℕ
sum f zero = 0
sum f (suc m) = f m + sum f m

-- the test holds at each place below m
unfoldable pub each : (ℕ → Bool) → ℕ → Bool
each b zero = true
each b (suc m) = each b m && b m
