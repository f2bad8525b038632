-- The soundness test as a number.
use Rattle.std.specs.Prelude.{◌≡◌, cond, ℕ}
use Rattle.rules.specs.Sound.{sound}
use Rattle.table.specs.declared.Table.{Table}
use Rattle.table.specs.Dress.{ruled}

-- 1 of a sound table, 0 of any other
abbrev pub SoundNumber : Table → ℕ → Type 0
SoundNumber t r = r ≡ cond (sound (ruled t)) 1 0
