-- The rules' results as they cross to C: the structs of numbers, and what each exported call gives.
use Rattle.std.specs.Prelude.{◌≡◌, List, ℕ, Option, Result}
use Rattle.time.specs.declared.Span.{Span}
use Rattle.rules.specs.declared.Refusal.{Refusal}
use Rattle.rules.specs.Kinds.{outcome_number}
use Rattle.rules.specs.Election.{number}
use Rattle.rules.specs.Call.{Open, Close, Arrive, Depart, Elect, Slot, Advance, Result as RuledResult, called, set_up}
use Rattle.table.specs.declared.Table.{Table}
use Rattle.table.specs.declared.Answer.{Answer as Tabled}
use Rattle.table.specs.Dress.{ruled, dressed, whose}
use Rattle.board.specs.declared.crossing.Answer.{Answer}
use Rattle.board.specs.declared.crossing.Choice.{Choice}
use Rattle.board.specs.declared.crossing.Turn.{Turn}

-- what the crate table gives, as numbers
abbrev pub IsAnswer : Tabled Unit → Answer → Type 0
IsAnswer a r = (r.number ≡ outcome_number a.outcome) × (r.table ≡ a.table)

abbrev pub IsChoice : Result (Option ℕ) Refusal → Choice → Type 0
IsChoice o r = (r.number ≡ outcome_number o) × (r.place ≡ number (whose o))

abbrev pub IsTurn : Tabled (Option ℕ) → Turn → Type 0
IsTurn a r = (r.number ≡ outcome_number a.outcome) × ((r.place ≡ number (whose a.outcome)) × (r.table ≡ a.table))

-- the rules' result as it crosses
abbrev pub answered : RuledResult → Answer
answered r = record { number = r.answer; table = dressed r.table }

abbrev pub choice : RuledResult → Choice
choice r = record { number = r.answer; place = r.place }

abbrev pub turn : RuledResult → Turn
turn r = record { number = r.answer; place = r.place; table = dressed r.table }

-- What each exported call gives.
abbrev pub SetUpGives : ℕ → Answer → Type 0
SetUpGives policy r = r ≡ answered (set_up policy)

abbrev pub OpenGives : Table → ℕ → ℕ → Span → Span → Answer → Type 0
OpenGives t place level cap gap r = r ≡ answered (called (ruled t) (Open place level cap.0 gap.0))

abbrev pub CloseGives : Table → ℕ → Answer → Type 0
CloseGives t place r = r ≡ answered (called (ruled t) (Close place))

abbrev pub ArriveGives : Table → ℕ → Span → Span → Answer → Type 0
ArriveGives t place budget away r = r ≡ answered (called (ruled t) (Arrive place budget.0 away.0))

abbrev pub DepartGives : Table → ℕ → Answer → Type 0
DepartGives t place r = r ≡ answered (called (ruled t) (Depart place))

abbrev pub ElectionGives : Table → Choice → Type 0
ElectionGives t r = r ≡ choice (called (ruled t) Elect)

abbrev pub SlotGives : Table → Turn → Type 0
SlotGives t r = r ≡ turn (called (ruled t) Slot)

-- of the record that was lent, and of what it holds in the end
abbrev pub AdvanceGives : Table → Span → List ℕ → ℕ → Answer → List ℕ → Type 0
AdvanceGives t n bytes start r end = let c = called (ruled t) (Advance n.0 bytes start) in (r ≡ answered c) × (end ≡ c.bytes)
