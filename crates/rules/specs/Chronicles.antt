-- Histories in which the premises of the demands hold and say something hard, computed; so no demand is empty.
use Rattle.std.specs.Prelude.{◌≡◌, true, false, List, [], ◌∷◌, ◌++◌, map, ℕ, replicate}
use Rattle.rules.specs.Table.{Table, at}
use Rattle.rules.specs.Call.{Call, Open, Close, Arrive, Depart, Slot, Advance, called, set_up}
use Rattle.rules.specs.History.{Opened, Closed, Arrived, Departed, Happening, Did, Gave, history, table_after, ticks, slots_naming, until, job_slots, withdrawn, undisturbed, ledger}
use Rattle.rules.specs.Demands.{NoneOutranks}

unfoldable pub answers_from : Table → List Call → List ℕ
answers_from t [] = []
answers_from t (c ∷ cs) = (called t c).answer ∷ answers_from (called t c).table cs

-- calls, what they answer, and what happens: before an arrival, the arrival, and after it
pub record Chronicle : Type 0 where
  pub policy : ℕ
  pub calls : List Call
  pub answers : List ℕ
  pub before : List Happening
  pub arrival : Happening
  pub after : List Happening

abbrev pub Told : Type 0
Told = List ℕ × List Happening

unfoldable pub told : Chronicle → Told
told c = (answers_from (set_up c.policy).table c.calls, history c.policy c.calls)

unfoldable pub expected : Chronicle → Told
expected c = (c.answers, c.before ++ (c.arrival ∷ c.after))

abbrev pub slots_into : ℕ → Call
slots_into n = Advance n (replicate n 9) 0

-- Demand 3. The job (2, 9) of place 0 has a rival with the same deadline at place 1, one that is refused at place 2 and one that is taken
-- there with an earlier deadline; the first rival departs; place 0 has its two slots, and a second job there is taken before the first one's deadline.
abbrev pub among_rivals : Chronicle
among_rivals = record {
  policy = 1;
  calls =
      Open 0 0 2 4 ∷ Open 1 0 4 20 ∷ Open 2 0 2 5 ∷ Arrive 1 3 9 ∷ Arrive 0 2 9 ∷ Arrive 2 2 1 ∷ Arrive 2 1 3 ∷ slots_into 2 ∷ Depart 1 ∷ Slot ∷ Slot ∷ Arrive 0 1 8 ∷ slots_into 5 ∷ [];
  answers = 0 ∷ 0 ∷ 0 ∷ 0 ∷ 0 ∷ 9 ∷ 0 ∷ 0 ∷ 0 ∷ 0 ∷ 0 ∷ 0 ∷ 0 ∷ [];
  before = Did (Opened 0 0 2 4) ∷ Did (Opened 1 0 4 20) ∷ Did (Opened 2 0 2 5) ∷ Did (Arrived 1 3 9) ∷ [];
  arrival = Did (Arrived 0 2 9);
  after =
      Did (Arrived 2 1 3) ∷ Gave 2 ∷ Gave 0 ∷ Did (Departed 1) ∷ Gave 0 ∷ Gave 255 ∷ Did (Arrived 0 1 8) ∷ Gave 0 ∷ Gave 255 ∷ Gave 255 ∷ Gave 255 ∷ Gave 255 ∷ [];
}

-- Demand 2. A gap of three is kept over a close and an open: inside it both an arrival and a close are refused with 7.
abbrev pub over_a_close_and_open : Chronicle
over_a_close_and_open = record {
  policy = 1;
  calls = Open 0 0 1 3 ∷ Arrive 0 1 5 ∷ Slot ∷ Close 0 ∷ Arrive 0 1 5 ∷ slots_into 2 ∷ Close 0 ∷ Open 0 0 1 3 ∷ Arrive 0 1 1 ∷ [];
  answers = 0 ∷ 0 ∷ 0 ∷ 7 ∷ 7 ∷ 0 ∷ 0 ∷ 0 ∷ 0 ∷ [];
  before = Did (Opened 0 0 1 3) ∷ [];
  arrival = Did (Arrived 0 1 5);
  after = Gave 0 ∷ Gave 255 ∷ Gave 255 ∷ Did (Closed 0) ∷ Did (Opened 0 0 1 3) ∷ Did (Arrived 0 1 1) ∷ [];
}

-- Policy 2. Place 0 is outranked until its deadline, and is late after one slot of three.
abbrev pub outranked : Chronicle
outranked = record {
  policy = 2;
  calls = Open 0 5 3 10 ∷ Open 1 2 4 20 ∷ Arrive 0 3 5 ∷ Arrive 1 4 5 ∷ slots_into 5 ∷ [];
  answers = 0 ∷ 0 ∷ 0 ∷ 0 ∷ 0 ∷ [];
  before = Did (Opened 0 5 3 10) ∷ Did (Opened 1 2 4 20) ∷ [];
  arrival = Did (Arrived 0 3 5);
  after = Did (Arrived 1 4 5) ∷ Gave 1 ∷ Gave 1 ∷ Gave 1 ∷ Gave 1 ∷ Gave 0 ∷ [];
}

-- A job is withdrawn after one slot of two, and another is taken in its place when the gap is over.
abbrev pub withdrawn_and_replaced : Chronicle
withdrawn_and_replaced = record {
  policy = 2;
  calls = Open 0 0 2 3 ∷ Arrive 0 2 9 ∷ Slot ∷ Depart 0 ∷ slots_into 2 ∷ Arrive 0 2 4 ∷ [];
  answers = 0 ∷ 0 ∷ 0 ∷ 0 ∷ 0 ∷ 0 ∷ [];
  before = Did (Opened 0 0 2 3) ∷ [];
  arrival = Did (Arrived 0 2 9);
  after = Gave 0 ∷ Did (Departed 0) ∷ Gave 255 ∷ Gave 255 ∷ Did (Arrived 0 2 4) ∷ [];
}

-- Policy 2. Place 1 outranks the job that waits at place 0, and has its two slots at once.
abbrev pub outranking : Chronicle
outranking = record {
  policy = 2;
  calls = Open 0 5 3 10 ∷ Open 1 2 4 20 ∷ Arrive 0 3 9 ∷ Arrive 1 2 3 ∷ slots_into 3 ∷ [];
  answers = 0 ∷ 0 ∷ 0 ∷ 0 ∷ 0 ∷ [];
  before = Did (Opened 0 5 3 10) ∷ Did (Opened 1 2 4 20) ∷ Did (Arrived 0 3 9) ∷ [];
  arrival = Did (Arrived 1 2 3);
  after = Gave 1 ∷ Gave 1 ∷ Gave 0 ∷ [];
}

-- each chronicle is a history of the rules
abbrev pub chronicles : List Chronicle
chronicles = among_rivals ∷ over_a_close_and_open ∷ outranked ∷ withdrawn_and_replaced ∷ outranking ∷ []

abbrev pub ChroniclesHappen : Type 0
ChroniclesHappen = map told chronicles ≡ map expected chronicles

-- `ATakenJobIsServed`: its premises hold, and place 0 has three slots by the deadline, of which two are the job's.
pub record TheTakenJobIsServed : Type 0 where
  pub reached : ticks among_rivals.after ≡ 9
  pub stayed : withdrawn 0 (until 9 among_rivals.after) ≡ false
  pub its_slots : job_slots 0 (until 9 among_rivals.after) ≡ 2
  pub the_place's : slots_naming 0 (until 9 among_rivals.after) ≡ 3

-- `TurnedAwayExactlyWhenNoPlanServesAll`: after what came before the refused rival, it is turned away with 9, and a smaller one is taken.
pub record TheRivalIsTurnedAway : Type 0 where
  pub refused : (called (table_after 1 (Open 0 0 2 4 ∷ Open 1 0 4 20 ∷ Open 2 0 2 5 ∷ Arrive 1 3 9 ∷ Arrive 0 2 9 ∷ [])) (Arrive 2 2 1)).answer ≡ 9
  pub taken : (called (table_after 1 (Open 0 0 2 4 ∷ Open 1 0 4 20 ∷ Open 2 0 2 5 ∷ Arrive 1 3 9 ∷ Arrive 0 2 9 ∷ [])) (Arrive 2 1 1)).answer ≡ 0

-- `NoReserveStartsTwiceWithinItsGap`: the second start comes at the very end of the gap.
pub record TheGapIsKept : Type 0 where
  pub gap : (ledger 1 0 over_a_close_and_open.before).gap ≡ 3
  pub between : over_a_close_and_open.after ≡ (Gave 0 ∷ Gave 255 ∷ Gave 255 ∷ Did (Closed 0) ∷ Did (Opened 0 0 1 3) ∷ []) ++ (Did (Arrived 0 1 1) ∷ [])
  pub apart : ticks (Gave 0 ∷ Gave 255 ∷ Gave 255 ∷ Did (Closed 0) ∷ Did (Opened 0 0 1 3) ∷ []) ≡ 3

-- `HowAJobEnds`: one late, one withdrawn.
pub record TheOutrankedJobIsLate : Type 0 where
  pub calm : undisturbed 0 outranked.after ≡ true
  pub reached : ticks outranked.after ≡ 5
  pub its_slots : job_slots 0 (until 5 outranked.after) ≡ 1
  pub ends : (at (table_after 2 outranked.calls) 0).ending ≡ 3

pub record TheWithdrawnJobLeaves : Type 0 where
  pub left : withdrawn 0 withdrawn_and_replaced.after ≡ true
  pub its_slots : job_slots 0 withdrawn_and_replaced.after ≡ 1

-- `AnUnoutrankedJobIsServed`: a rival is live all the while, and nobody outranks the job in any of the slots until its deadline.
pub record TheUnoutrankedJobIsServed : Type 0 where
  pub stayed : withdrawn 1 (until 3 outranking.after) ≡ false
  pub none : (since later : List Happening) (s : ℕ) → until 3 outranking.after ≡ since ++ (Gave s ∷ later) → NoneOutranks (outranking.before ++ (outranking.arrival ∷ since)) 1
  pub rival : (ledger 2 0 outranking.before).live ≡ true
  pub its_slots : job_slots 1 (until 3 outranking.after) ≡ 2
