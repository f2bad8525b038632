-- The rules in their first dress, by value: the structs of the code as the rules see them, and the words of what each public function gives.
use Rattle.std.specs.Prelude.{◌≡◌, Bool, cond, eqb, ℕ, Option, None, Some, Result, Ok, Err}
use Rattle.rules.specs.declared.Refusal.{Refusal}
use Rattle.rules.specs.Kinds.{outcome_number}
use Rattle.rules.specs.Table.{Table as Ruled}
use Rattle.rules.specs.Election.{Who, nobody, place, elected}
use Rattle.rules.specs.Sound.{sound}
use Rattle.rules.specs.Call.{Call, Result as RuledResult, refusal}
use Rattle.table.specs.declared.Table.{Table}

-- the table as the rules see it, and back
abbrev pub ruled : Table → Ruled
ruled t = record { policy = t.policy; now = t.now; idle = t.idle; places = t.places }

abbrev pub dressed : Ruled → Table
dressed t = record { policy = t.policy; now = t.now; idle = t.idle; places = t.places }

-- a place or nobody, as the rules see it
abbrev pub who : Option ℕ → Who
who None = nobody
who (Some p) = place p

-- whose slot an outcome names: nobody's where the call is refused
abbrev pub whose : Result (Option ℕ) Refusal → Who
whose (Ok p) = who p
whose (Err e) = nobody

-- whom the rules name in their answer to a call that elects
abbrev pub named_in : Ruled → Call → Who
named_in t c = cond (eqb (refusal t c) 0) (elected t) nobody

-- an outcome and the table handed back are the rules' result
abbrev pub Answers : {A : Type 0} → RuledResult → Result A Refusal → Table → Type 0
Answers r outcome u = (outcome_number outcome ≡ r.answer) × (ruled u ≡ r.table)

-- what the soundness test gives
abbrev pub SoundGives : Table → Bool → Type 0
SoundGives t r = r ≡ sound (ruled t)
