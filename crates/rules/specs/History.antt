-- Histories, as the demands speak of them: one accepted set-up, then any calls with any numbers, in any order, accepted or refused.
use Rattle.std.specs.Prelude.{Bool, true, false, cond, ◌&&◌, ◌||◌, List, [], ◌∷◌, ◌++◌, map, ℕ, zero, suc, ◌+◌, ◌-◌, leb, eqb, take, drop}
use Rattle.rules.specs.Numbers.{left, spent, late, fixed_priority}
use Rattle.rules.specs.Table.{Table}
use Rattle.rules.specs.Call.{Call, Open, Close, Arrive, Depart, Elect, Slot, Advance, Result, called, set_up}

-- an accepted call for a place
pub data Deed : Type 0 where
  Opened : (place level cap gap : ℕ) → Deed
  Closed : (place : ℕ) → Deed
  Arrived : (place budget away : ℕ) → Deed
  Departed : (place : ℕ) → Deed

-- what the board saw happen: an accepted call for a place, or a slot that named a place, or 255 for nobody
pub data Happening : Type 0 where
  Did : Deed → Happening
  Gave : (named : ℕ) → Happening

unfoldable pub did : Call → Result → List Happening
did (Open p level cap gap) r = Did (Opened p level cap gap) ∷ []
did (Close p) r = Did (Closed p) ∷ []
did (Arrive p b d) r = Did (Arrived p b d) ∷ []
did (Depart p) r = Did (Departed p) ∷ []
did Elect r = []
did Slot r = Gave r.place ∷ []
did (Advance n bytes start) r = map Gave (take n (drop start r.bytes))

-- from a call's answer and record alone; a refused call is nothing that happened
unfoldable pub happened : Call → Result → List Happening
happened c r = cond (eqb r.answer 0) (did c r) []

unfoldable pub history_from : Table → List Call → List Happening
history_from t [] = []
history_from t (c ∷ cs) = happened c (called t c) ++ history_from (called t c).table cs

unfoldable pub table_from : Table → List Call → Table
table_from t [] = t
table_from t (c ∷ cs) = table_from (called t c).table cs

-- what happened after the set-up, and the table in the end
abbrev pub history : ℕ → List Call → List Happening
history policy calls = history_from (set_up policy).table calls

abbrev pub table_after : ℕ → List Call → Table
table_after policy calls = table_from (set_up policy).table calls

-- Counting along what happened. 1 where the slot named is the place's:
abbrev pub is_its : ℕ → ℕ → ℕ
is_its s p = cond (eqb s p) 1 0

-- the clock: how many slots there were
unfoldable pub ticks : List Happening → ℕ
ticks [] = 0
ticks (Did x ∷ hs) = ticks hs
ticks (Gave s ∷ hs) = suc (ticks hs)

-- the slots that named p, or, with 255, nobody
unfoldable pub slots_naming : ℕ → List Happening → ℕ
slots_naming p [] = 0
slots_naming p (Did x ∷ hs) = slots_naming p hs
slots_naming p (Gave s ∷ hs) = is_its s p + slots_naming p hs

-- what happened until n ticks had passed
unfoldable pub until : ℕ → List Happening → List Happening
until zero hs = []
until (suc n) [] = []
until (suc n) (Did x ∷ hs) = Did x ∷ until (suc n) hs
until (suc n) (Gave s ∷ hs) = Gave s ∷ until n hs

unfoldable pub arrives_at : ℕ → Deed → Bool
arrives_at p (Opened q level cap gap) = false
arrives_at p (Closed q) = false
arrives_at p (Arrived q b d) = eqb q p
arrives_at p (Departed q) = false

unfoldable pub departs_from : ℕ → Deed → Bool
departs_from p (Opened q level cap gap) = false
departs_from p (Closed q) = false
departs_from p (Arrived q b d) = false
departs_from p (Departed q) = eqb q p

-- the slots of p's present job: those that name p until p's next arrival
unfoldable pub job_slots : ℕ → List Happening → ℕ
job_slots p [] = 0
job_slots p (Did x ∷ hs) = cond (arrives_at p x) 0 (job_slots p hs)
job_slots p (Gave s ∷ hs) = is_its s p + job_slots p hs

-- whether p's present job was withdrawn: a departure from p before p's next arrival
unfoldable pub withdrawn : ℕ → List Happening → Bool
withdrawn p [] = false
withdrawn p (Did x ∷ hs) = cond (arrives_at p x) false (cond (departs_from p x) true (withdrawn p hs))
withdrawn p (Gave s ∷ hs) = withdrawn p hs

unfoldable pub closes : ℕ → Deed → Bool
closes p (Opened q level cap gap) = false
closes p (Closed q) = eqb q p
closes p (Arrived q b d) = false
closes p (Departed q) = false

-- whether nothing hides how p's present job ended: no arrival at p, and no close of p
unfoldable pub undisturbed : ℕ → List Happening → Bool
undisturbed p [] = true
undisturbed p (Did x ∷ hs) = cond (arrives_at p x || closes p x) false (undisturbed p hs)
undisturbed p (Gave s ∷ hs) = undisturbed p hs

-- What the history itself says of a place: its reserve, by the last accepted open; its job, by the last accepted arrival and the slots since.
pub record Ledger : Type 0 where
  pub clock : ℕ
  pub is_open : Bool
  pub level : ℕ
  pub cap : ℕ
  pub gap : ℕ
  pub live : Bool
  pub asked : ℕ
  pub owed : ℕ
  pub deadline : ℕ
  pub ending : ℕ

abbrev pub reserve : ℕ → Bool → ℕ → ℕ → ℕ → Ledger
reserve clock is_open level cap gap = record { clock = clock; is_open = is_open; level = level; cap = cap; gap = gap; live = false; asked = 0; owed = 0; deadline = 0; ending = 0 }

abbrev pub with_owed : Ledger → ℕ → ℕ → Ledger
with_owed l clock owed = record { clock = clock; is_open = l.is_open; level = l.level; cap = l.cap; gap = l.gap; live = l.live; asked = l.asked; owed = owed; deadline = l.deadline; ending = l.ending }

abbrev pub job_over : ℕ → Ledger → Ledger
job_over ending l = record { clock = l.clock; is_open = l.is_open; level = l.level; cap = l.cap; gap = l.gap; live = false; asked = 0; owed = 0; deadline = 0; ending = ending }

unfoldable pub place_of : Deed → ℕ
place_of (Opened p level cap gap) = p
place_of (Closed p) = p
place_of (Arrived p b d) = p
place_of (Departed p) = p

-- an accepted call for this place
unfoldable pub entered : Ledger → Deed → Ledger
entered l (Opened p level cap gap) = reserve l.clock true level cap gap
entered l (Closed p) = reserve l.clock false 0 0 0
entered l (Arrived p b d) = record { clock = l.clock; is_open = l.is_open; level = l.level; cap = l.cap; gap = l.gap; live = true; asked = b; owed = b; deadline = l.clock + d; ending = 0 }
entered l (Departed p) = job_over left l

-- a slot: one less is owed where it names the place, and the job that is owed nothing more is over
unfoldable pub ticked : Ledger → Bool → Ledger
ticked l false = with_owed l (l.clock + 1) l.owed
ticked l true = cond (eqb (l.owed - 1) 0) (job_over spent (with_owed l (l.clock + 1) 0)) (with_owed l (l.clock + 1) (l.owed - 1))

-- under policy 2 a job is over at its deadline
unfoldable pub unless_overdue : ℕ → Ledger → Ledger
unless_overdue policy l = cond (eqb policy fixed_priority && l.live && leb l.deadline l.clock) (job_over late l) l

unfoldable pub noted : ℕ → ℕ → Ledger → Happening → Ledger
noted policy p l (Did x) = cond (eqb (place_of x) p) (entered l x) l
noted policy p l (Gave s) = unless_overdue policy (ticked l (eqb s p))

unfoldable pub ledger_from : ℕ → ℕ → Ledger → List Happening → Ledger
ledger_from policy p l [] = l
ledger_from policy p l (h ∷ hs) = ledger_from policy p (noted policy p l h) hs

abbrev pub ledger : ℕ → ℕ → List Happening → Ledger
ledger policy p hs = ledger_from policy p (reserve 0 false 0 0 0) hs
